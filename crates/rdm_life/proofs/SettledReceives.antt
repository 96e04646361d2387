-- Live receives and regions after a deed that makes pairs or brings bytes: those of which all came end, and the others have their next window.
use Rattle.std.proofs.Common.{◌≡◌, ℕ, ◌+◌, ◌<◌, Bool, true, false, cond, not, List, ◌∷◌, map, Option, Some, None, refl, arith, inl, inr, sym, ◌∙◌, ap, subst}
use Rattle.std.specs.Prelude.{filter, option_map}
use Rattle.std.specs.List.{list_any}
use Rattle.std.proofs.lemmas.Bool.{false_from_ne_true, not-true}
use Rattle.rdm_lists.specs.Lists.{Member}
use Rattle.rdm_lists.proofs.Members.{member-append_cases, member-filter}
use Rattle.rdm_lists.proofs.Same.{map_same}
use Rattle.rdm_match.specs.Matcher.{Pair}
use Rattle.rdm_model.specs.Beginnings.{Own}
use Rattle.rdm_model.specs.Deeds.{Deed}
use Rattle.rdm_model.specs.Grants.{granted_bytes, with_window as with_bytes}
use Rattle.rdm_model.specs.Matches.{Receive}
use Rattle.rdm_law.proofs.Lives.Lives.{LifeLocal}
use Rattle.rdm_life.specs.Kept.{Kept, LiveReceive, Matched, change_where}
use Rattle.rdm_life.specs.Keeps.{own_pairs, is_out, region_byte, pair_of, matched_of, byte_of_pair, kept_receive, KeepsReceives}
use Rattle.rdm_life.specs.Landing.{next_window, with_window, is_one_of, is_filled_one, settle}
use Rattle.rdm_life.specs.Memory.{is_place_of, with_back}
use Rattle.rdm_life.proofs.Back.{leave_home}
use Rattle.rdm_life.proofs.Completing.{map_twice}
use Rattle.rdm_life.proofs.LiveLeft.{filter_made}
use Rattle.rdm_life.proofs.Made.{made}
use Rattle.rdm_life.proofs.NoWindows.{no_windows}
use Rattle.rdm_life.proofs.Owing.{BringsNone, still_closed}
use Rattle.rdm_life.proofs.Pairs.{pairs_added}
use Rattle.rdm_life.proofs.ReceivesInsert.{place_in}
use Rattle.rdm_life.proofs.SettledBytes.{out_apart, settled_outside, settled_inside}
use Rattle.rdm_life.proofs.SettledEnds.{fills, pair_with, has_pair, has_number, live_settled}
use Rattle.rdm_life.proofs.SettledOwed.{window_now}
use Rattle.rdm_life.proofs.Settling.{IsLanding, Touches, Landed, out_with, landed_message, landed_receive, numbers_of}
use Rattle.rdm_life.proofs.Stays.{built_same}
use Rattle.rdm_life.proofs.TakenBy.{pair_found}
use Rattle.rdm_life.proofs.TakenRead.{AllTakenRead}
use Rattle.rdm_life.proofs.Windows.{newer_granted}

-- ---- the message of a receive

-- the message of a pair with another grant
abbrev granted_so : Own → Deed → List Deed → Pair → ℕ → Matched
granted_so own d log p granted = record (matched_of own (d ∷ log) p) { granted = granted }

-- with its next window, the message of a pair is as it is kept
window_opens : (own : Own) (d : Deed) (log : List Deed) (p : Pair) → Member p (own_pairs own (d ∷ log))
    → granted_so own d log p ((landed_message own d log p).granted + next_window own (landed_message own d log p)) ≡ matched_of own (d ∷ log) p
unfolding granted_bytes with_bytes
window_opens own d log p m =
    let more = window_now own d log p m in
    let same = newer_granted own d log p in
    ap (granted_so own d log p) (omega arith)

-- without, where nothing of it came
window_stays : (own : Own) (d : Deed) (log : List Deed) (p : Pair) → LifeLocal own (d ∷ log) → Member p (own_pairs own log) → BringsNone own d log p
    → landed_message own d log p ≡ matched_of own (d ∷ log) p
unfolding granted_bytes with_bytes
window_stays own d log p local m none =
    let closed = still_closed own d log p (no_windows own log local.0) m none in
    let same = newer_granted own d log p in
    ap (granted_so own d log p) (omega arith)

-- a pair of a receive that has none of the numbers was there, and nothing of it came
other_quiet : (own : Own) (d : Deed) (log : List Deed) (is_new : Bool) (ps : List Pair) (r : Receive) (p : Pair) → Touches own d log is_new ps
    → is_one_of (numbers_of ps) (landed_receive own d log r) ≡ false → pair_of own (d ∷ log) r ≡ Some p → Member p (own_pairs own log) × BringsNone own d log p
other_quiet own d log is_new ps r p t none is =
    let f = pair_found own (d ∷ log) r p is in
    let lacks : Member p ps → ⊥ = λ m. (let wrong : true ≡ false = sym (has_number own d log ps r (pair_with own d log is_new ps r p t m (sym f.1))) ∙ none in cc) in
    let old : Member p (own_pairs own log) =
    elim (member-append_cases p (own_pairs own log) (made own d log) (subst (λ (qs : List Pair). Member p qs) (pairs_added own d log) f.0)) [
      | inl a ↦ a
      | inr a ↦ elim t.which [
        | inl new ↦ absurd (lacks (subst (λ (qs : List Pair). Member p qs) (sym new.1) a))
        | inr one ↦ elim (subst (λ (qs : List Pair). Member p qs) one.1 a) [ ]
      ]
    ] in
    (old, t.others_quiet p old lacks)

-- so its message is as it is kept
message_stays : (own : Own) (d : Deed) (log : List Deed) (o : Option Pair) → LifeLocal own (d ∷ log) → ((p : Pair) → o ≡ Some p → Member p (own_pairs own log) × BringsNone own d log p)
    → option_map (landed_message own d log) o ≡ option_map (matched_of own (d ∷ log)) o
message_stays own d log None local quiet = refl
message_stays own d log (Some p) local quiet = (let q = quiet p refl in ap Some (window_stays own d log p local q.0 q.1))

-- ---- what is kept of a receive

-- one that is not filled has its range as it was
range_stays : (own : Own) (d : Deed) (log : List Deed) (is_new : Bool) (ps : List Pair) (r : Receive) (k : ℕ) → LifeLocal own (d ∷ log) → IsLanding d → Touches own d log is_new ps
    → Member r (out_with own d log) → fills own d log ps r ≡ false → k < r.req.len
    → region_byte own log r.req.region.0 (r.req.at + k) ≡ region_byte own (d ∷ log) r.req.region.0 (r.req.at + k)
range_stays own d log is_new ps r k local i t m stays low =
    sym (settled_outside own d log is_new ps r.req.region.0 (r.req.at + k) local i t
    (λ q n filled. false_from_ne_true (is_place_of q.req r.req.region.0 (r.req.at + k)) (λ h.
    let same = out_apart own d log local q r r.req.region.0 (r.req.at + k) n m h (place_in r.req k low) in
    let wrong : fills own d log ps r ≡ true = subst (λ (x : Receive). fills own d log ps x ≡ true) same filled in
    cc)))

-- with its next window, if it has one of the numbers, it is as it is kept
settled_stays : (own : Own) (d : Deed) (log : List Deed) (is_new : Bool) (ps : List Pair) (r : Receive) → LifeLocal own (d ∷ log) → IsLanding d → Touches own d log is_new ps
    → Member r (out_with own d log) → fills own d log ps r ≡ false
    → cond (is_one_of (numbers_of ps) (landed_receive own d log r)) (with_window own (landed_receive own d log r)) (landed_receive own d log r) ≡ kept_receive own (d ∷ log) r
unfolding with_window kept_receive
settled_stays own d log is_new ps r local i t m stays =
    let land = landed_receive own d log r in
    let o = pair_of own (d ∷ log) r in
    let byte : ℕ → Option ℕ = λ k. byte_of_pair own (d ∷ log) o k in
    let was : ℕ → Option ℕ = λ k. region_byte own log r.req.region.0 (r.req.at + k) in
    let now : ℕ → Option ℕ = λ k. region_byte own (d ∷ log) r.req.region.0 (r.req.at + k) in
    let range : (k : ℕ) → k < r.req.len → was k ≡ now k = λ k low. range_stays own d log is_new ps r k local i t m stays low in
    let next : Matched → Matched = λ x. record x { granted = x.granted + next_window own x } in
    elim (has_pair own d log is_new ps r t) [
      | inl q ↦
          ap (λ (b : Bool). cond b (with_window own land) land) (has_number own d log ps r q)
          ∙ built_same r (option_map next (option_map (landed_message own d log) o)) (option_map (matched_of own (d ∷ log)) o) byte byte was now
          (ap (λ (x : Option Pair). option_map next (option_map (landed_message own d log) x)) q.pair_is
          ∙ ap Some (window_opens own d log q.pair q.paired)
          ∙ ap (option_map (matched_of own (d ∷ log))) (sym q.pair_is))
          (λ k low. refl) range
      | inr none ↦
          ap (λ (b : Bool). cond b (with_window own land) land) none
          ∙ built_same r (option_map (landed_message own d log) o) (option_map (matched_of own (d ∷ log)) o) byte byte was now
          (message_stays own d log o local (λ p is. other_quiet own d log is_new ps r p t none is)) (λ k low. refl) range
    ]

-- ---- all

-- what is kept of receives and regions after a deed that makes pairs or brings bytes
pub settled_receives : (own : Own) (d : Deed) (log : List Deed) (is_new : Bool) (ps : List Pair) (u : Kept) → LifeLocal own (d ∷ log) → AllTakenRead (d ∷ log) → IsLanding d
    → Touches own d log is_new ps → Landed own d log u → KeepsReceives own (d ∷ log) (settle is_new (numbers_of ps) u)
unfolding settle change_where is_out
settled_receives own d log is_new ps u local fit i t l =
    let out = out_with own d log in
    let land = landed_receive own d log in
    let numbers = numbers_of ps in
    let gone : Receive → Bool = fills own d log ps in
    let left = live_settled own d log is_new ps local i t in
    let opens : Own → LiveReceive → LiveReceive = λ o x. cond (is_one_of numbers x) (with_window o x) x in
    record {
      home_is = λ region place.
          ap (λ (rs : List LiveReceive). with_back (filter (is_filled_one numbers) rs) u.home region place) l.receives_are
          ∙ ap (λ (rs : List LiveReceive). with_back rs u.home region place) (filter_made land (is_filled_one numbers) out)
          ∙ leave_home land gone out (region_byte own log) (region_byte own (d ∷ log)) u.home region place
          (λ q r m n h k. out_apart own d log local q r region place m n h k) (λ r. refl) (l.home_is region place)
          (λ r m filled h. settled_inside own d log is_new ps region place r local fit i t m filled h)
          (λ h. settled_outside own d log is_new ps region place local i t h)
          ∙ ap (λ (rs : List Receive). cond (list_any (λ (r : Receive). is_place_of r.req region place) rs) None (region_byte own (d ∷ log) region place)) (sym left);
      receives_are =
          ap (λ (o : Own). map (opens o) (filter (λ (r : LiveReceive). not (is_filled_one numbers r)) u.receives)) l.own_is
          ∙ ap (λ (rs : List LiveReceive). map (opens own) (filter (λ (r : LiveReceive). not (is_filled_one numbers r)) rs)) l.receives_are
          ∙ ap (map (opens own)) (filter_made land (λ (r : LiveReceive). not (is_filled_one numbers r)) out)
          ∙ map_twice (opens own) land (filter (λ (r : Receive). not (gone r)) out)
          ∙ map_same (λ (r : Receive). opens own (land r)) (kept_receive own (d ∷ log)) (filter (λ (r : Receive). not (gone r)) out)
          (λ r m. (
          let f = member-filter (λ (x : Receive). not (gone x)) r out m in
          settled_stays own d log is_new ps r local i t f.0 (not-true (gone r) f.1)))
          ∙ ap (map (kept_receive own (d ∷ log))) (sym left);
    }
