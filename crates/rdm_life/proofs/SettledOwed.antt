-- What deeds that make pairs or bring bytes make owed, and complete: what is kept of it is what the definitions say.
use Rattle.std.proofs.Common.{◌≡◌, ℕ, ◌+◌, Bool, cond, ◌&&◌, not, List, [], ◌∷◌, ◌++◌, map, drop, Option, Some, refl, sym, ◌∙◌, ap}
use Rattle.std.specs.Prelude.{flat_map, option_map}
use Rattle.std.proofs.lemmas.List.{append-nil, append_assoc}
use Rattle.std.proofs.lemmas.List.Folds.{flat_map-map}
use Rattle.rdm_lists.specs.Lists.{Member}
use Rattle.rdm_lists.proofs.Same.{flat_map_same}
use Rattle.rdm_num.specs.Pieces.{covers}
use Rattle.rdm_num.specs.declared.numbers.MsgNo.{MsgNo}
use Rattle.rdm_num.specs.declared.numbers.OpId.{OpId}
use Rattle.rdm_num.specs.declared.head.Head.{Head}
use Rattle.rdm_pkt.specs.declared.Packet.TheVariants.{Rtm, CtsData}
use Rattle.rdm_match.specs.Matcher.{Pair, is_pair}
use Rattle.rdm_model.specs.declared.job.Instr.TheVariants.{Recv}
use Rattle.rdm_model.specs.Beginnings.{Own}
use Rattle.rdm_model.specs.Completions.{poll_count}
use Rattle.rdm_model.specs.Currents.{forgotten_by}
use Rattle.rdm_model.specs.Deeds.{Deed, Did, Took, Item, Spelled, Asks, Gives}
use Rattle.rdm_model.specs.Grants.{first_part, granted_bytes, window_of, window}
use Rattle.rdm_model.specs.Matches.{pairs}
use Rattle.rdm_model.specs.Parts.{carried_pieces}
use Rattle.rdm_model.specs.Replies.{Reply, reply, asks_for, grant_for, end_for, pair_items, pair_replies, handshake_by, given_by, replies_by, without_forgotten}
use Rattle.rdm_model.proofs.Matches.{member_is_pair}
use Rattle.rdm_law.proofs.Lives.Lives.{LifeLocal}
use Rattle.rdm_law.proofs.Replies.Queue.{popped, pushed_replies}
use Rattle.rdm_life.specs.Kept.{Kept, receive_numbered}
use Rattle.rdm_life.specs.Keeps.{told, own_pairs, own_sends, own_progress, KeepsOwed}
use Rattle.rdm_life.specs.Landing.{has_all, next_window, items_of, replies_of, replies_by as receive_replies, settle}
use Rattle.rdm_life.proofs.Completing.{own_completions}
use Rattle.rdm_life.proofs.NoWindows.{no_windows}
use Rattle.rdm_life.proofs.Owing.{owed_by, quiet_pair, pairs_then}
use Rattle.rdm_life.proofs.SendWords.{none_forgotten}
use Rattle.rdm_life.proofs.SettledDone.{settled_done}
use Rattle.rdm_life.proofs.SettledPairs.{Touched, touched, landed_found, all_is, only_touched}
use Rattle.rdm_life.proofs.Settling.{IsLanding, Touches, Landed, landed_message, landed_receive, numbers_of}
use Rattle.rdm_life.proofs.Windows.{newer_granted}

-- ---- what one pair makes owed

-- the next window of a message is the one that the deed opens
pub window_now : (own : Own) (d : Deed) (log : List Deed) (p : Pair) → Member p (own_pairs own (d ∷ log))
    → next_window own (landed_message own d log p) ≡ window own.limits (told own (d ∷ log)).head (d ∷ log) p (granted_bytes own.limits (told own (d ∷ log)).head log p)
unfolding next_window window covers
window_now own d log p m =
    let heads = (told own (d ∷ log)).head in
    let source = p.message.life in
    let n = p.message.no.0 in
    let head = heads source n in
    let ps = carried_pieces own.limits.first heads (d ∷ log) source n in
    let first : ℕ = first_part (d ∷ log) source n in
    let g = granted_bytes own.limits heads log p in
    ap (λ (k : ℕ). cond (covers ps (first + k)) (window_of own.limits head head.shape (first + k)) 0) (newer_granted own d log p)
    ∙ ap (λ (b : Bool). cond (b && covers ps (first + g)) (window_of own.limits head head.shape (first + g)) 0) (sym (member_is_pair (own_pairs own (d ∷ log)) p m))

-- what a message of that head makes owed, by what is so
abbrev items_by : Own → Head → OpId → MsgNo → (is_new : Bool) → (size : ℕ) → (all : Bool) → List Item
items_by own head recv number is_new size all =
    cond is_new (map Asks (asks_for head.shape recv)) [] ++ grant_for own head.shape recv size ++ cond all (end_for own head.shape head.confirm number recv) []

-- what is kept makes owed what the pair does
items_are : (own : Own) (d : Deed) (log : List Deed) (is_new : Bool) (p : Pair) (t : Touched own d log is_new p)
    → items_of own is_new (record { 0 = t.recv.number }) (landed_message own d log p) ≡ pair_items own (told own (d ∷ log)).head d log p
unfolding items_of pair_items
items_are own d log is_new p t =
    let heads = (told own (d ∷ log)).head in
    let head = heads p.message.life p.message.no.0 in
    let number = p.message.no in
    let m = landed_message own d log p in
    let recv : OpId = record { 0 = p.recv.id.0 } in
    let new = t.new_is ∙ ap (λ (ps : List Pair). not (is_pair ps p.recv.id.0 p.message.life p.message.no.0)) (pairs_then own d log) in
    let size = window own.limits heads (d ∷ log) p (granted_bytes own.limits heads log p) in
    ap (λ (k : ℕ). items_by own head (record { 0 = k }) number is_new (next_window own m) (has_all m)) t.number_is
    ∙ ap (λ (b : Bool). items_by own head recv number b (next_window own m) (has_all m)) new
    ∙ ap (λ (k : ℕ). items_by own head recv number (not (is_pair (pairs own.limits.first heads log) p.recv.id.0 p.message.life p.message.no.0)) k (has_all m)) (window_now own d log p t.paired)
    ∙ ap (λ (b : Bool). items_by own head recv number (not (is_pair (pairs own.limits.first heads log) p.recv.id.0 p.message.life p.message.no.0)) size b) (sym (all_is own d log is_new p t))

-- so do the replies
receive_owes : (own : Own) (d : Deed) (log : List Deed) (is_new : Bool) (p : Pair) (t : Touched own d log is_new p)
    → receive_replies own is_new (Some (landed_receive own d log t.recv)) ≡ pair_replies own (told own (d ∷ log)).head d log p
unfolding receive_replies replies_of pair_replies
receive_owes own d log is_new p t =
    ap (λ (o : Option Pair). replies_of own is_new (record { 0 = t.recv.number }) (option_map (landed_message own d log) o)) t.pair_is
    ∙ ap (map (reply p.message.life)) (items_are own d log is_new p t)

-- ---- what the deed makes owed

-- a deed that makes pairs or brings bytes forgets nobody, pushes nothing and answers no ask
landing_words : (own : Own) (d : Deed) (log : List Deed) (rs : List Reply) → IsLanding d → (without_forgotten log d (popped d rs) ≡ rs) × (given_by (own_sends own log) d ≡ [])
unfolding popped given_by without_forgotten forgotten_by
landing_words own (Did (Recv req)) log rs i = (none_forgotten rs, refl)
landing_words own (Took from (Spelled (Rtm number tag confirm opt form))) log rs i = (none_forgotten rs, refl)
landing_words own (Took from (Spelled (CtsData recv offset connid bytes))) log rs i = (none_forgotten rs, refl)
landing_words own (Took from (Gives g)) log rs i = (none_forgotten rs, refl)
landing_words own _ log rs i = absurd i

-- what is owed after it
owed_landing : (own : Own) (d : Deed) (log : List Deed) → IsLanding d
    → (own_progress own (d ∷ log)).replies
    ≡ ((own_progress own log).replies ++ handshake_by own log d) ++ flat_map (pair_replies own (told own (d ∷ log)).head d log) (own_pairs own (d ∷ log))
unfolding replies_by
owed_landing own d log i =
    let was = (own_progress own log).replies in
    let heads = (told own (d ∷ log)).head in
    let words = landing_words own d log was i in
    let new = flat_map (pair_replies own heads d log) (own_pairs own (d ∷ log)) in
    owed_by own d log
    ∙ ap (λ (rs : List Reply). without_forgotten log d rs ++ replies_by own heads (own_sends own log) d log) (pushed_replies own (told own log) log d (own_progress own log))
    ∙ ap (λ (rs : List Reply). rs ++ replies_by own heads (own_sends own log) d log) words.0
    ∙ ap (λ (rs : List Reply). was ++ ((handshake_by own log d ++ new) ++ rs)) words.1
    ∙ ap (λ (rs : List Reply). was ++ rs) (append-nil (handshake_by own log d ++ new))
    ∙ sym (append_assoc was (handshake_by own log d) new)

-- what is kept of receives makes owed what pairs do
owed_settled : (own : Own) (d : Deed) (log : List Deed) (is_new : Bool) (ps : List Pair) (u : Kept) → LifeLocal own (d ∷ log) → Touches own d log is_new ps → Landed own d log u
    → flat_map (λ (number : ℕ). receive_replies u.own is_new (receive_numbered u number)) (numbers_of ps)
    ≡ flat_map (pair_replies own (told own (d ∷ log)).head d log) (own_pairs own (d ∷ log))
owed_settled own d log is_new ps u local t l =
    let heads = (told own (d ∷ log)).head in
    flat_map-map (λ (number : ℕ). receive_replies u.own is_new (receive_numbered u number)) (λ (p : Pair). p.recv.id.0) ps
    ∙ flat_map_same (λ (p : Pair). receive_replies u.own is_new (receive_numbered u p.recv.id.0)) (pair_replies own heads d log) ps
    (λ p m.
    let q = touched own d log is_new ps p t m in
    ap (receive_replies u.own is_new) (landed_found own d log u q.recv p.recv.id.0 l q.out q.number_is)
    ∙ ap (λ (o : Own). receive_replies o is_new (Some (landed_receive own d log q.recv))) l.own_is
    ∙ receive_owes own d log is_new p q)
    ∙ sym (only_touched own d log is_new ps (pair_replies own heads d log) t (λ p m none. quiet_pair own d log p (no_windows own log local.0) m none))

-- ---- both

-- what goes out and what is polled after a deed that makes pairs or brings bytes
pub settled_owed : (own : Own) (d : Deed) (log : List Deed) (is_new : Bool) (ps : List Pair) (u : Kept) → LifeLocal own (d ∷ log) → IsLanding d
    → Touches own d log is_new ps → Landed own d log u → u.owed ≡ (own_progress own log).replies ++ handshake_by own log d
    → u.completions ≡ drop (poll_count log) (own_completions own log) → KeepsOwed own (d ∷ log) (settle is_new (numbers_of ps) u)
unfolding settle
settled_owed own d log is_new ps u local i t l owed done =
    let before = (own_progress own log).replies ++ handshake_by own log d in
    record {
      owed_is =
          ap (λ (rs : List Reply). rs ++ flat_map (λ (number : ℕ). receive_replies u.own is_new (receive_numbered u number)) (numbers_of ps)) owed
          ∙ ap (λ (rs : List Reply). before ++ rs) (owed_settled own d log is_new ps u local t l)
          ∙ sym (owed_landing own d log i);
      completions_are = settled_done own d log is_new ps u local i t l done;
    }
