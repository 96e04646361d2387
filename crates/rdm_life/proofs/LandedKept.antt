-- What is kept of receives, of what is owed and of completions after a datagram that brings more of a message: granted bytes, read bytes,
-- or a packet of a message that was heard of.
use Rattle.std.proofs.Common.{◌≡◌, ℕ, ◌<◌, Bool, true, false, cond, not, ◌&&◌, List, [], ◌∷◌, ◌++◌, map, length, drop, Option, Some, None, refl, inl, sym, ◌∙◌, ap, subst}
use Rattle.std.specs.Prelude.{filter, find, nat_lt, is_some, option_map}
use Rattle.std.proofs.lemmas.Bool.{and_parts, or_parts}
use Rattle.std.proofs.lemmas.List.{append-nil}
use Rattle.rdm_lists.specs.Lists.{Member, or_else}
use Rattle.rdm_lists.proofs.Filters.{filter_nothing, filter_all}
use Rattle.rdm_lists.proofs.Same.{map_same}
use Rattle.rdm_num.specs.Pieces.{Piece}
use Rattle.rdm_num.specs.declared.numbers.Life.{Life}
use Rattle.rdm_num.specs.declared.numbers.MsgNo.{MsgNo}
use Rattle.rdm_hdr.specs.declared.Opt.{Opt}
use Rattle.rdm_pkt.specs.declared.Form.{Form}
use Rattle.rdm_pkt.specs.declared.Packet.TheVariants.{Rtm, CtsData}
use Rattle.rdm_pkt.specs.Heads.{head_of, piece_of}
use Rattle.rdm_match.specs.Matcher.{Pair}
use Rattle.rdm_num.specs.declared.completion.Completion.{Completion}
use Rattle.rdm_model.specs.Beginnings.{Own}
use Rattle.rdm_model.specs.ClassFacts.{class_facts, came_in_part}
use Rattle.rdm_model.specs.Classes.{repeats, is_overlap}
use Rattle.rdm_model.specs.Completions.{poll_count, is_matched}
use Rattle.rdm_model.specs.Currents.{is_forgotten}
use Rattle.rdm_model.specs.Deeds.{Deed, Took, Item, Spelled, Gives}
use Rattle.rdm_model.specs.Heard.{is_heard}
use Rattle.rdm_model.specs.Matches.{receives, received_by}
use Rattle.rdm_model.specs.Parts.{carried_pieces, has_landed}
use Rattle.rdm_model.specs.Receives.{is_filled}
use Rattle.rdm_model.specs.Replies.{Reply, handshake_by}
use Rattle.rdm_law.proofs.Classes.Classed.{taken_parts}
use Rattle.rdm_law.proofs.Ends.Live.{live_unless}
use Rattle.rdm_law.proofs.Lives.Lives.{life_scene, LifeStep, LifeLocal}
use Rattle.rdm_law.proofs.Lives.Replaced.{not_forgotten}
use Rattle.rdm_life.specs.Kept.{Kept, LiveReceive, EarlyMessage, change_where}
use Rattle.rdm_life.specs.Keeps.{told, own_pairs, own_live_receives, own_progress, early_message, kept_receive, Keeps, KeepsReceives, KeepsOwed}
use Rattle.rdm_life.specs.Memory.{byte_back, with_back}
use Rattle.rdm_life.specs.Lives.{greet, with_source}
use Rattle.rdm_life.specs.Landing.{is_one_of, is_filled_one, with_window, settle, land}
use Rattle.rdm_life.specs.Receiving.{enter, hear, with_early}
use Rattle.rdm_life.specs.Handling.{opened_by, with_more, is_message, receive_of, land_found, add, after_rtm, after_item, after}
use Rattle.rdm_life.proofs.CameFacts.{all_came}
use Rattle.rdm_life.proofs.Completing.{own_completions}
use Rattle.rdm_life.proofs.TakenRead.{FormHasBytes, AllTakenRead, item_has_bytes}
use Rattle.rdm_life.proofs.Made.{made}
use Rattle.rdm_life.proofs.MatchingOpened.{met_by}
use Rattle.rdm_life.proofs.MatchingSteps.{met_same}
use Rattle.rdm_life.proofs.MessageFacts.{named}
use Rattle.rdm_life.proofs.MessageStands.{early_none, early_some}
use Rattle.rdm_life.proofs.OwedIdle.{took_greets}
use Rattle.rdm_life.proofs.Owing.{BringsNone}
use Rattle.rdm_life.proofs.ReceivesQuiet.{greeting_leaves}
use Rattle.rdm_life.proofs.TakenBy.{false_unless, live_of, receive_of_is, pair_of_message, live_takes}
use Rattle.rdm_life.proofs.Settling.{IsLanding, Touches, Landed, landed_receive}
use Rattle.rdm_life.proofs.SettledReceives.{settled_receives}
use Rattle.rdm_life.proofs.SettledOwed.{settled_owed}
use Rattle.rdm_life.proofs.LandedPiece.{Brings, out_same, home_landed, quiet_one, piece_kept}
use Rattle.rdm_life.proofs.LandedBytes.{data_brings, gives_brings}
use Rattle.rdm_life.proofs.LandedMore.{segment_piece, more_made, unmatched_quiet, segment_brings}
use Rattle.rdm_life.proofs.Tests.{and_none}
use Rattle.rdm_life.proofs.Apart.{own_ended}

-- such a datagram
abbrev pub IsMore : List Deed → Life → Item → Type 0
IsMore log from (Spelled (Rtm number tag confirm opt form)) = is_heard log from number.0 ≡ true
IsMore log from (Spelled (CtsData recv offset connid bytes)) = Unit {0}
IsMore log from (Gives g) = Unit {0}
IsMore log from _ = ⊥

-- what is kept of receives and memory, of what goes out and of what is polled
abbrev pub KeepsBoth : Own → List Deed → Kept → Type 0
KeepsBoth own log v = KeepsReceives own log v × KeepsOwed own log v

-- ---- where nothing lands

-- nothing settles where nothing landed
settle_none : (u : Kept) → settle true [] u ≡ u
unfolding settle change_where with_back byte_back or_else is_filled_one is_one_of
settle_none u =
    let rs = u.receives in
    let none : filter (is_filled_one []) rs ≡ [] = filter_nothing (is_filled_one []) rs (λ r m. refl) in
    let all : filter (λ (r : LiveReceive). not (is_filled_one [] r)) rs ≡ rs = filter_all (λ (r : LiveReceive). not (is_filled_one [] r)) rs (λ r m. refl) in
    let P : List LiveReceive → List LiveReceive → Kept = λ back left.
    record u {
      home = with_back back u.home;
      receives = map (λ (r : LiveReceive). cond (is_one_of [] r) (with_window u.own r) r) left;
      owed = u.owed ++ [];
      completions = u.completions ++ [];
    } in
    ap (λ (xs : List LiveReceive). P xs (filter (λ (r : LiveReceive). not (is_filled_one [] r)) rs)) none
    ∙ ap (P []) all
    ∙ ap (λ (xs : List LiveReceive). record u { receives = xs; owed = u.owed ++ []; completions = u.completions ++ [] }) (map_itself rs)
    ∙ ap (λ (xs : List Reply). record u { owed = xs; completions = u.completions ++ [] }) (append-nil u.owed)
    ∙ ap (λ (xs : List Completion). record u { completions = xs }) (append-nil u.completions)
  where
    map_itself : (xs : List LiveReceive) → map (λ (r : LiveReceive). r) xs ≡ xs
    map_itself [] = refl
    map_itself (x ∷ xs) = ap (λ (ys : List LiveReceive). x ∷ ys) (map_itself xs)

-- what is kept where no pair gets anything
nothing_kept : (own : Own) (d : Deed) (log : List Deed) (v w : Kept) → LifeLocal own (d ∷ log) → AllTakenRead (d ∷ log) → IsLanding d → made own d log ≡ [] → received_by (receives log) log d ≡ []
    → ((q : Pair) → Member q (own_pairs own log) → BringsNone own d log q) → KeepsReceives own log v
    → w.own ≡ own → w.home ≡ v.home → w.receives ≡ v.receives → w.owed ≡ (own_progress own log).replies ++ handshake_by own log d
    → w.completions ≡ drop (poll_count log) (own_completions own log) → KeepsBoth own (d ∷ log) w
nothing_kept own d log v w local fit i none unposted quiet k own_is home rs owed done =
    let t : Touches own d log true [] = record { are_out = λ q m. elim m [ ]; others_quiet = λ q m out. quiet q m; which = inl (refl, sym none) } in
    let l : Landed own d log w = record {
      own_is = own_is;
      home_is = λ region place. ap (λ (h : ℕ → ℕ → Option ℕ). h region place) home ∙ home_landed own d log v region place unposted k;
      receives_are =
          rs ∙ k.receives_are
          ∙ map_same (kept_receive own log) (landed_receive own d log) (own_live_receives own log) (λ r m. quiet_one own d log r none (λ q n e. quiet q n))
          ∙ ap (map (landed_receive own d log)) (sym (out_same own d log unposted));
    } in
    subst (KeepsBoth own (d ∷ log)) (settle_none w)
    (settled_receives own d log true [] w local fit i t l, settled_owed own d log true [] w local i t l owed done)

-- ---- a datagram that is taken

-- what it makes of what is kept before it does what it says: its life is met and greeted
record Met (own : Own) (log : List Deed) (v : Kept) (from : Life) (item : Item) (w : Kept) : Type 0 where
  own_is : w.own ≡ own
  home_is : w.home ≡ v.home
  receives_are : w.receives ≡ v.receives
  owed_is : w.owed ≡ (own_progress own log).replies ++ handshake_by own log (Took from item)
  completions_are : w.completions ≡ drop (poll_count log) (own_completions own log)

met : (own : Own) (log : List Deed) (v : Kept) (from : Life) (item : Item) → LifeLocal own (Took from item ∷ log) → Keeps own log v → Met own log v from item (met_by from v)
unfolding greet with_source
met own log v from item local k =
    let l = greeting_leaves from v in
    record {
      own_is = k.lives.own_is;
      home_is = l.0;
      receives_are = l.1;
      owed_is =
          ap (λ (rs : List Reply). v.owed ++ rs) (took_greets own log v from item k.lives local)
          ∙ ap (λ (rs : List Reply). rs ++ handshake_by own log (Took from item)) k.owed.owed_is;
      completions_are = k.owed.completions_are;
    }

-- a piece for a live pair
piece_lands : (own : Own) (log : List Deed) (v w : Kept) (from : Life) (item : Item) (p : Pair) (x : Piece) → LifeLocal own (Took from item ∷ log) → AllTakenRead (Took from item ∷ log) → IsLanding (Took from item)
    → Brings own (Took from item) log p x → KeepsReceives own log v → Met own log v from item w → KeepsBoth own (Took from item ∷ log) (land p.recv.id.0 x w)
piece_lands own log v w from item p x local fit i b k m = piece_kept own (Took from item) log v w p x local fit i b k m.own_is m.home_is m.receives_are m.owed_is m.completions_are

-- ---- a packet of a message that was heard of

-- a receive that ended with a message has all of it, so that nothing of it is missing
done_whole : (own : Own) (ports : ℕ) (port_log log : List Deed) (p : Pair) (offset len : ℕ) → LifeLocal own log → Member p (own_pairs own log) → is_forgotten log p.message.life ≡ false
    → own_ended own log p.recv.id.0 ≡ true → 0 < len → came_in_part (life_scene ports own port_log log) p.message.life p.message.no.0 offset len ≡ false → ⊥
unfolding is_filled has_landed came_in_part
done_whole own ports port_log log p offset len local m kept ended some new =
    (elim (is_filled own.limits.first (told own log).head log p) as (λ b. is_filled own.limits.first (told own log).head log p ≡ b → ⊥) [
      | true ↦ λ filled.
          let landed = (and_parts _ _ filled).1 in
          let all = all_came (carried_pieces own.limits.first (told own log).head log p.message.life p.message.no.0) ((told own log).head p.message.life p.message.no.0).length offset len landed some in
          (let wrong : not false ≡ false = ap not (sym all) ∙ new in cc)
      | false ↦ λ unfilled. (let going = live_unless own log p local m unfilled kept in let wrong : true ≡ false = sym ended ∙ going in cc)
    ])
    refl

-- it lands, or is kept with the early message
rtm_kept : (own : Own) (from : Life) (number : MsgNo) (tag : Option ℕ) (confirm : Bool) (opt : Opt) (form : Form) (log : List Deed) (v w : Kept) → is_heard log from number.0 ≡ true → FormHasBytes form
    → LifeLocal own (Took from (Spelled (Rtm number tag confirm opt form)) ∷ log) → AllTakenRead (Took from (Spelled (Rtm number tag confirm opt form)) ∷ log) → Keeps own log v → Met own log v from (Spelled (Rtm number tag confirm opt form)) w
    → ((n : ℕ) → w.early from n ≡ v.early from n) → KeepsBoth own (Took from (Spelled (Rtm number tag confirm opt form)) ∷ log) (add from number.0 (piece_of form) w)
unfolding add with_early land_found received_by is_overlap kept_receive
rtm_kept own from number tag confirm opt form log v w heard some local fit k m early =
    let item : Item = Spelled (Rtm number tag confirm opt form) in
    let d : Deed = Took from item in
    let n = number.0 in
    let step : LifeStep own log d = local.1 in
    let s = life_scene step.0 own step.1 log in
    let taken = taken_parts s from own.life.connid item step.2 in
    let kept = not_forgotten own log from local.0 taken.from_current in
    let fresh = or_parts (nat_lt n own.limits.first) (is_heard log from n && repeats (class_facts s) from n form) taken.new in
    let new : repeats (class_facts s) from n form ≡ false = sym (ap (λ (b : Bool). b && repeats (class_facts s) from n form) heard) ∙ fresh.1 in
    let x = segment_piece own step.0 step.1 log from n form some new in
    let was : w.early from n ≡ early_message own log from n = early n ∙ k.matching.early_is from kept n in
    let Goal : Option EarlyMessage → Option LiveReceive → Option Piece → Type 0 = λ e r q.
    KeepsBoth own (d ∷ log) (cond (is_some e) (with_early from n (with_more (piece_of form)) w) (land_found r q w)) in
    (elim (is_matched (own_pairs own log) (named from n)) as (λ b. is_matched (own_pairs own log) (named from n) ≡ b → Goal (w.early from n) (receive_of w from n) (piece_of form)) [
      | false ↦ λ unmatched.
          let e = early_some own log from n heard unmatched in
          subst (λ (o : Option EarlyMessage). Goal o (receive_of w from n) (piece_of form)) (sym (was ∙ e.1))
          (nothing_kept own d log v (with_early from n (with_more (piece_of form)) w) local fit tt (more_made own log from number tag confirm opt form heard) refl
          (unmatched_quiet own log from number tag confirm opt form unmatched) k.receives m.own_is m.home_is m.receives_are m.owed_is m.completions_are)
      | true ↦ λ matched.
          let p = pair_of_message own log from n matched in
          let none : (is_heard log from n && not (is_matched (own_pairs own log) (named from n))) ≡ false = ap (λ (b : Bool). is_heard log from n && not b) matched ∙ and_none (is_heard log from n) in
          let at : (P : Life → ℕ → Type 0) → P from n → P p.0.message.life p.0.message.no.0 =
          λ P h. subst (λ (l : Life). P l p.0.message.no.0) (sym p.2) (subst (λ (j : ℕ). P from j) (sym p.3) h) in
          let going : own_ended own log p.0.recv.id.0 ≡ false = false_unless (own_ended own log p.0.recv.id.0) (λ ended.
          done_whole own step.0 step.1 log p.0 x.0.offset (length x.0.bytes) local.0 p.1 (ap (is_forgotten log) p.2 ∙ kept) ended x.4
          (at (λ l j. came_in_part s l j x.0.offset (length x.0.bytes) ≡ false) x.5)) in
          let l = live_of own log p.0 p.1 going in
          let found : receive_of w from n ≡ Some (kept_receive own log l.recv) =
          ap (λ (rs : List LiveReceive). find (λ (r : LiveReceive). is_message from n r.matched) rs) m.receives_are
          ∙ receive_of_is own log v from n k.receives ∙ ap (option_map (kept_receive own log)) (live_takes own log from n p.0 p.1 p.2 p.3 l) in
          let b = segment_brings own log from number tag confirm opt form p.0 x.0 heard x.1 x.2 x.3 p.1 p.2 p.3 going in
          subst (λ (o : Option EarlyMessage). Goal o (receive_of w from n) (piece_of form)) (sym (was ∙ early_none own log from n none))
          (subst (λ (o : Option LiveReceive). Goal None o (piece_of form)) (sym found)
          (subst (λ (o : Option Piece). Goal None (Some (kept_receive own log l.recv)) o) (sym x.1)
          (subst (λ (j : ℕ). KeepsBoth own (d ∷ log) (land j x.0 w)) (sym l.number_is) (piece_lands own log v w from item p.0 x.0 local fit tt b k.receives m))))
    ])
    refl

-- ---- all of them

-- what is kept after a datagram that brings more of a message
pub landed_kept : (own : Own) (from : Life) (item : Item) (log : List Deed) (v : Kept) → IsMore log from item → LifeLocal own (Took from item ∷ log) → AllTakenRead (Took from item ∷ log) → Keeps own log v
    → KeepsBoth own (Took from item ∷ log) (after (Took from item) v)
unfolding after after_item after_rtm
landed_kept own from (Spelled (CtsData recv offset connid bytes)) log v more local fit k =
    let item : Item = Spelled (CtsData recv offset connid bytes) in
    let x : Piece = record { offset = offset; bytes = bytes } in
    let b = data_brings own log from recv offset connid bytes local in
    subst (λ (n : ℕ). KeepsBoth own (Took from item ∷ log) (land n x (met_by from v))) b.2
    (piece_lands own log v (met_by from v) from item b.0 x local fit tt b.1 k.receives (met own log v from item local k))
landed_kept own from (Gives g) log v more local fit k =
    let x : Piece = record { offset = g.at; bytes = g.bytes } in
    let b = gives_brings own log from g local in
    subst (λ (n : ℕ). KeepsBoth own (Took from (Gives g) ∷ log) (land n x (met_by from v))) b.2
    (piece_lands own log v (met_by from v) from (Gives g) b.0 x local fit tt b.1 k.receives (met own log v from (Gives g) local k))
landed_kept own from (Spelled (Rtm number tag confirm opt form)) log v more local fit k =
    let item : Item = Spelled (Rtm number tag confirm opt form) in
    let d : Deed = Took from item in
    let step : LifeStep own log d = local.1 in
    let taken = taken_parts (life_scene step.0 own step.1 log) from own.life.connid item step.2 in
    let kept = not_forgotten own log from local.0 taken.from_current in
    let same = met_same from v in
    let w = met_by from v in
    let known : (w.peers from).heard number.0 ≡ true = same.heard from number.0 ∙ k.matching.heard_is from kept number.0 ∙ more in
    subst (λ (b : Bool). KeepsBoth own (d ∷ log) (cond b (add from number.0 (piece_of form) w) (enter from (hear from number.0 (opened_by (head_of tag confirm opt form) form) w)))) (sym known)
    (rtm_kept own from number tag confirm opt form log v w more (item_has_bytes item fit.1) local fit k (met own log v from item local k) (same.early from))
landed_kept own from _ log v more local fit k = absurd more
