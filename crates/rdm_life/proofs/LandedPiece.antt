-- A piece that comes for a matched message lands in the receive that takes it.
use Rattle.std.proofs.Common.{◌≡◌, ℕ, ◌+◌, true, false, cond, ◌||◌, eq-eqb, List, [], ◌∷◌, ◌++◌, map, drop, Option, Some, None, refl, inl, inr, sym, ◌∙◌, ap, subst}
use Rattle.std.proofs.Math.Path.{fun_ext}
use Rattle.std.specs.Prelude.{◌==◌, if◌then◌else◌, find, nat_lt, is_some, option_map, unwrap_or}
use Rattle.std.specs.List.{list_any}
use Rattle.std.proofs.lemmas.Bool.{eqb-true}
use Rattle.std.proofs.lemmas.List.{append-nil}
use Rattle.rdm_lists.specs.Lists.{Member, or_else}
use Rattle.rdm_lists.proofs.Same.{map_same}
use Rattle.rdm_num.specs.Pieces.{Piece, byte_in}
use Rattle.rdm_match.specs.Matcher.{Pair, is_recv}
use Rattle.rdm_model.specs.Beginnings.{Own}
use Rattle.rdm_model.specs.Completions.{poll_count}
use Rattle.rdm_model.specs.Deeds.{Deed}
use Rattle.rdm_model.specs.Grants.{first_part, granted_bytes}
use Rattle.rdm_model.specs.Matches.{Receive, receives, received_by}
use Rattle.rdm_model.specs.Parts.{carried_by}
use Rattle.rdm_model.specs.Replies.{handshake_by}
use Rattle.rdm_law.proofs.Lives.Lives.{LifeLocal}
use Rattle.rdm_life.specs.Kept.{Kept, LiveReceive, Matched, change_where, is_receive}
use Rattle.rdm_life.specs.Keeps.{told, own_pairs, own_live_receives, own_progress, is_out, byte_came, region_byte, pair_of, matched_of, byte_of_pair, kept_receive, KeepsReceives, KeepsOwed}
use Rattle.rdm_life.specs.Landing.{laid_over, with_piece, land}
use Rattle.rdm_life.specs.Handling.{byte_by}
use Rattle.rdm_life.specs.Memory.{is_place_of}
use Rattle.rdm_life.proofs.Completing.{own_completions, map_twice}
use Rattle.rdm_life.proofs.EarlyWords.{came_after}
use Rattle.rdm_life.proofs.Made.{made}
use Rattle.rdm_life.proofs.Meets.{left_alone}
use Rattle.rdm_life.proofs.Owing.{BringsNone}
use Rattle.rdm_life.proofs.Pairs.{pairs_added}
use Rattle.rdm_life.proofs.Stays.{built, matched_same, head_stays}
use Rattle.rdm_life.proofs.TakenBy.{pair_is, pair_found, live_of}
use Rattle.rdm_life.proofs.TakenRead.{AllTakenRead}
use Rattle.rdm_life.proofs.Settling.{IsLanding, Touches, Landed, out_with, landed_receive, landed_message}
use Rattle.rdm_life.proofs.SettledReceives.{settled_receives}
use Rattle.rdm_life.proofs.SettledOwed.{settled_owed}
use Rattle.rdm_life.proofs.Apart.{own_ended}

-- a deed brings a piece of the message of a live pair, of which no place came before, and nothing else
pub record Brings (own : Own) (d : Deed) (log : List Deed) (p : Pair) (x : Piece) : Type 0 where
  pub member : Member p (own_pairs own log)
  pub going : own_ended own log p.recv.id.0 ≡ false
  pub carries : carried_by (own_pairs own log) p.message.life p.message.no.0 d ≡ Some x
  pub fresh : (place b : ℕ) → byte_in x place ≡ Some b → byte_came own log p.message.life p.message.no.0 place ≡ None
  pub first_is : first_part (d ∷ log) p.message.life p.message.no.0 ≡ first_part log p.message.life p.message.no.0
  pub others : (q : Pair) → Member q (own_pairs own log) → (q ≡ p → ⊥) → BringsNone own d log q
  pub makes_none : made own d log ≡ []
  pub accepts_none : received_by (receives log) log d ≡ []

-- ---- the receive

-- a byte that came with a piece, where none was there
piece_byte : (was new : Option ℕ) (other : ℕ) → ((b : ℕ) → new ≡ Some b → was ≡ None) → unwrap_or new (unwrap_or was other) ≡ unwrap_or (or_else was new) other
unfolding or_else
piece_byte None None other h = refl
piece_byte None (Some b) other h = refl
piece_byte (Some a) None other h = refl
piece_byte (Some a) (Some b) other h = (let wrong : Some a ≡ None = h b refl in cc)

-- something is in one or the other
some_either : (was new : Option ℕ) → (is_some was || is_some new) ≡ is_some (or_else was new)
unfolding or_else
some_either None new = refl
some_either (Some a) new = refl

-- a piece laid over a range
piece_part : (len : ℕ) (piece was now region : ℕ → Option ℕ) → ((k : ℕ) → now k ≡ or_else (was k) (piece k)) → ((k b : ℕ) → piece k ≡ Some b → was k ≡ None)
    → laid_over len piece (λ k. if nat_lt k len then unwrap_or (was k) (unwrap_or (region k) 0) else 0) ≡ (λ k. if nat_lt k len then unwrap_or (now k) (unwrap_or (region k) 0) else 0)
unfolding laid_over
piece_part len piece was now region more fresh =
    fun_ext (λ k.
    let bytes : unwrap_or (piece k) (unwrap_or (was k) (unwrap_or (region k) 0)) ≡ unwrap_or (now k) (unwrap_or (region k) 0) =
    piece_byte (was k) (piece k) (unwrap_or (region k) 0) (fresh k) ∙ ap (λ (o : Option ℕ). unwrap_or o (unwrap_or (region k) 0)) (sym (more k)) in
    elim (nat_lt k len) as (λ b. cond b (unwrap_or (piece k) (cond b (unwrap_or (was k) (unwrap_or (region k) 0)) 0)) (cond b (unwrap_or (was k) (unwrap_or (region k) 0)) 0)
    ≡ cond b (unwrap_or (now k) (unwrap_or (region k) 0)) 0) [ true ↦ bytes | false ↦ refl ])

-- the byte at each place with the piece
piece_came : (own : Own) (d : Deed) (log : List Deed) (p : Pair) (x : Piece) (place : ℕ) → Brings own d log p x
    → byte_came own (d ∷ log) p.message.life p.message.no.0 place ≡ or_else (byte_came own log p.message.life p.message.no.0 place) (byte_in x place)
unfolding byte_by
piece_came own d log p x place b =
    came_after own d log p.message.life p.message.no.0 place
    ∙ ap (λ (o : Option Piece). or_else (byte_came own log p.message.life p.message.no.0 place) (byte_by o place)) b.carries

-- a receive with its message, before and after the piece
takes_piece : (own : Own) (d : Deed) (log : List Deed) (r : Receive) (p : Pair) (x : Piece) → Brings own d log p x
    → with_piece x (built r (Some (matched_of own log p)) (λ k. byte_came own log p.message.life p.message.no.0 k) (λ k. region_byte own log r.req.region.0 (r.req.at + k)))
    ≡ built r (Some (landed_message own d log p)) (λ k. byte_came own (d ∷ log) p.message.life p.message.no.0 k) (λ k. region_byte own log r.req.region.0 (r.req.at + k))
takes_piece own d log r p x b =
    let life = p.message.life in
    let n = p.message.no.0 in
    let granted = granted_bytes own.limits (told own log).head log p in
    let now : ℕ → Option ℕ = λ k. byte_came own (d ∷ log) life n k in
    let was : ℕ → Option ℕ = λ k. byte_came own log life n k in
    let region : ℕ → Option ℕ = λ k. region_byte own log r.req.region.0 (r.req.at + k) in
    let P : (ℕ → ℕ) → Matched → LiveReceive = λ part m. record { receive = r; part = part; matched = Some m } in
    let old : Matched = record (matched_of own log p) { came = λ place. is_some (was place) || is_some (byte_in x place) } in
    ap (λ (part : ℕ → ℕ). P part old) (piece_part r.req.len (byte_in x) was now region (λ k. piece_came own d log p x k b) b.fresh)
    ∙ ap (P (λ k. if nat_lt k r.req.len then unwrap_or (now k) (unwrap_or (region k) 0) else 0))
    (matched_same p ((told own log).head life n) ((told own (d ∷ log)).head life n) (λ place. is_some (was place) || is_some (byte_in x place)) (λ place. is_some (now place))
    (first_part log life n + granted) (first_part (d ∷ log) life n + granted)
    (head_stays own d log p b.member) (λ place. some_either (was place) (byte_in x place) ∙ ap is_some (sym (piece_came own d log p x place b)))
    (ap (λ (k : ℕ). k + granted) (sym b.first_is)))

-- no pair more
pairs_same : (own : Own) (d : Deed) (log : List Deed) → made own d log ≡ [] → own_pairs own (d ∷ log) ≡ own_pairs own log
pairs_same own d log none = pairs_added own d log ∙ ap (λ (ps : List Pair). own_pairs own log ++ ps) none ∙ append-nil (own_pairs own log)

-- a receive for which nothing came is as it was
pub quiet_one : (own : Own) (d : Deed) (log : List Deed) (r : Receive) → made own d log ≡ [] → ((q : Pair) → Member q (own_pairs own log) → q.recv.id.0 ≡ r.number → BringsNone own d log q)
    → kept_receive own log r ≡ landed_receive own d log r
unfolding kept_receive byte_of_pair
quiet_one own d log r none quiet =
    let region : ℕ → Option ℕ = λ k. region_byte own log r.req.region.0 (r.req.at + k) in
    let same : pair_of own (d ∷ log) r ≡ pair_of own log r = ap (λ (ps : List Pair). find (λ (q : Pair). is_recv r.number q.recv) ps) (pairs_same own d log none) in
    left_alone own d log r (pair_of own log r) (λ q f. (let g = pair_found own log r q f in (g.0, quiet q g.0 g.1)))
    ∙ ap (λ (o : Option Pair). built r (option_map (landed_message own d log) o) (λ k. byte_of_pair own (d ∷ log) o k) region) (sym same)

-- each receive that is out has what landed in it
lands_one : (own : Own) (d : Deed) (log : List Deed) (r : Receive) (p : Pair) (x : Piece) → Brings own d log p x
    → cond (r.number == p.recv.id.0) (with_piece x (kept_receive own log r)) (kept_receive own log r) ≡ landed_receive own d log r
unfolding kept_receive byte_of_pair
lands_one own d log r p x b =
    let region : ℕ → Option ℕ = λ k. region_byte own log r.req.region.0 (r.req.at + k) in
    (elim (r.number == p.recv.id.0) as (λ t. (r.number == p.recv.id.0) ≡ t → cond t (with_piece x (kept_receive own log r)) (kept_receive own log r) ≡ landed_receive own d log r) [
      | true ↦ λ e.
          let is = pair_is own log r p b.member (eqb-true r.number p.recv.id.0 e) in
          let same : pair_of own (d ∷ log) r ≡ pair_of own log r = ap (λ (ps : List Pair). find (λ (q : Pair). is_recv r.number q.recv) ps) (pairs_same own d log b.makes_none) in
          ap (λ (o : Option Pair). with_piece x (built r (option_map (matched_of own log) o) (λ k. byte_of_pair own log o k) region)) is
          ∙ takes_piece own d log r p x b
          ∙ ap (λ (o : Option Pair). built r (option_map (landed_message own d log) o) (λ k. byte_of_pair own (d ∷ log) o k) region) (sym (same ∙ is))
      | false ↦ λ e.
          quiet_one own d log r b.makes_none (λ q m g. b.others q m (λ is. (let t = eq-eqb r.number p.recv.id.0 (sym g ∙ ap (λ (y : Pair). y.recv.id.0) is) in cc)))
    ])
    refl

-- ---- what landed

-- what is kept with a piece in the receive of that number
abbrev with_landed : (number : ℕ) → Piece → Kept → Kept
with_landed number x w = record w { receives = change_where (is_receive number) (with_piece x) w.receives }

-- no receive more is out
pub out_same : (own : Own) (d : Deed) (log : List Deed) → received_by (receives log) log d ≡ [] → out_with own d log ≡ own_live_receives own log
out_same own d log none = ap (λ (rs : List Receive). own_live_receives own log ++ rs) none ∙ append-nil (own_live_receives own log)

-- places out by the receives that are out
pub home_landed : (own : Own) (d : Deed) (log : List Deed) (v : Kept) (region place : ℕ) → received_by (receives log) log d ≡ [] → KeepsReceives own log v
    → v.home region place ≡ cond (list_any (λ (r : Receive). is_place_of r.req region place) (out_with own d log)) None (region_byte own log region place)
unfolding is_out
home_landed own d log v region place none k =
    k.home_is region place ∙ ap (λ (rs : List Receive). cond (list_any (λ (r : Receive). is_place_of r.req region place) rs) None (region_byte own log region place)) (sym (out_same own d log none))

-- what is kept of receives and memory then
piece_landed : (own : Own) (d : Deed) (log : List Deed) (v w : Kept) (p : Pair) (x : Piece) → Brings own d log p x → KeepsReceives own log v
    → w.own ≡ own → w.home ≡ v.home → w.receives ≡ v.receives → Landed own d log (with_landed p.recv.id.0 x w)
unfolding change_where kept_receive
piece_landed own d log v w p x b k own_is home rs =
    let n = p.recv.id.0 in
    let f : LiveReceive → LiveReceive = λ r. cond (is_receive n r) (with_piece x r) r in
    record {
      own_is = own_is;
      home_is = λ region place. ap (λ (h : ℕ → ℕ → Option ℕ). h region place) home ∙ home_landed own d log v region place b.accepts_none k;
      receives_are =
          ap (map f) (rs ∙ k.receives_are) ∙ map_twice f (kept_receive own log) (own_live_receives own log)
          ∙ map_same (λ (r : Receive). f (kept_receive own log r)) (landed_receive own d log) (own_live_receives own log) (λ r m. lands_one own d log r p x b)
          ∙ ap (map (landed_receive own d log)) (sym (out_same own d log b.accepts_none));
    }

-- the deed brings something of that pair alone
piece_touches : (own : Own) (d : Deed) (log : List Deed) (p : Pair) (x : Piece) → Brings own d log p x → Touches own d log false (p ∷ [])
piece_touches own d log p x b =
    let l = live_of own log p b.member b.going in
    record {
      are_out = λ q m. elim m [
        | inl is ↦ (l.recv, subst (λ (rs : List Receive). Member l.recv rs) (sym (out_same own d log b.accepts_none)) l.live, l.number_is ∙ ap (λ (y : Pair). y.recv.id.0) is)
        | inr never ↦ elim never [ ]
      ];
      others_quiet = λ q m out. b.others q m (λ is. out (inl (sym is)));
      which = inr (refl, b.makes_none, (p, refl, b.member));
    }

-- what is kept once it landed, windows opened and the receive filled or not
pub piece_kept : (own : Own) (d : Deed) (log : List Deed) (v w : Kept) (p : Pair) (x : Piece) → LifeLocal own (d ∷ log) → AllTakenRead (d ∷ log) → IsLanding d → Brings own d log p x → KeepsReceives own log v
    → w.own ≡ own → w.home ≡ v.home → w.receives ≡ v.receives → w.owed ≡ (own_progress own log).replies ++ handshake_by own log d
    → w.completions ≡ drop (poll_count log) (own_completions own log)
    → KeepsReceives own (d ∷ log) (land p.recv.id.0 x w) × KeepsOwed own (d ∷ log) (land p.recv.id.0 x w)
unfolding land
piece_kept own d log v w p x local fit i b k own_is home rs owed done =
    let t = piece_touches own d log p x b in
    let l = piece_landed own d log v w p x b k own_is home rs in
    (settled_receives own d log false (p ∷ []) (with_landed p.recv.id.0 x w) local fit i t l, settled_owed own d log false (p ∷ []) (with_landed p.recv.id.0 x w) local i t l owed done)
