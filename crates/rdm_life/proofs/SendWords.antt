-- What is kept of a send, by what was pushed of it, granted, asked for and is owed; and what a deed makes of these.
use Rattle.std.proofs.Common.{◌≡◌, ℕ, ◌+◌, min, max, Bool, true, false, cond, not, List, [], ◌∷◌, ◌++◌, length, None, refl, arith, inl, inr, sym, ◌∙◌, ap}
use Rattle.std.specs.Prelude.{◌||◌, ◌&&◌, filter, flat_map, option_map, slice_get}
use Rattle.std.specs.List.{list_any}
use Rattle.std.proofs.lemmas.Bool.{and_right, or_parts}
use Rattle.std.proofs.lemmas.List.{append-nil, length-append}
use Rattle.std.proofs.lemmas.List.Elements.{filter-append}
use Rattle.rdm_lists.specs.Lists.{Member}
use Rattle.rdm_lists.proofs.Filters.{filter_all, filter_nothing}
use Rattle.rdm_lists.proofs.Members.{member-flat_map, member-map}
use Rattle.rdm_num.specs.Lives.{same_life}
use Rattle.rdm_num.specs.Pieces.{piece_bytes}
use Rattle.rdm_pkt.specs.declared.Packet.{Packet}
use Rattle.rdm_pkt.specs.Openings.{openings}
use Rattle.rdm_wire.specs.declared.ReadAsk.{ReadAsk}
use Rattle.rdm_match.specs.Matcher.{Pair}
use Rattle.rdm_model.specs.Beginnings.{Own, Heads}
use Rattle.rdm_model.specs.ClassFacts.{is_number}
use Rattle.rdm_model.specs.Currents.{forgotten_by, is_forgotten}
use Rattle.rdm_model.specs.Deeds.{Deed, Pushed}
use Rattle.rdm_model.specs.Dues.{Progress, pieces_in, after_push, after_deed, is_read, is_complete, is_over, is_pushed, ends_send, confirms}
use Rattle.rdm_model.specs.Grants.{Grant, grants, grants_by, grant_bytes}
use Rattle.rdm_model.specs.Matches.{pairs}
use Rattle.rdm_model.specs.Reads.{asks_of, asked_by}
use Rattle.rdm_model.specs.Replies.{Reply, reply, handshake_by, pair_items, pair_replies, given_by, replies_by, without_lives, without_forgotten}
use Rattle.rdm_model.specs.Sends.{Sent, sends}
use Rattle.rdm_model.proofs.Grows.{agree_grows}
use Rattle.rdm_model.proofs.Pushes.{pushed_step}
use Rattle.rdm_model.proofs.SameDues.{progress_same}
use Rattle.rdm_model.proofs.SameRegions.{sends_same}
use Rattle.rdm_law.proofs.Replies.Owed.{shake_from}
use Rattle.rdm_law.proofs.Replies.Queue.{popped, pushed_replies}
use Rattle.rdm_life.specs.Kept.{LiveSend}
use Rattle.rdm_life.specs.Keeps.{told, own_sends, own_progress, kept_send}
use Rattle.rdm_life.specs.Sending.{opening_bytes, is_asked}
use Rattle.rdm_life.proofs.OwnSends.{own_packets, own_over, own_progress_step}
use Rattle.rdm_life.proofs.Tests.{or_none}

-- the reply gives bytes of the send
unfoldable pub answers : Sent → Reply → Bool
answers s r = same_life r.to s.to && is_number s.number r.gives

-- how many of the replies do
unfoldable pub answer_count : Sent → List Reply → ℕ
answer_count s rs = length (filter (answers s) rs)

-- a send by what was pushed of it, granted, asked for and is owed
abbrev pub kept_by : Own → Sent → List Packet → List Grant → List ReadAsk → (owes : ℕ) → LiveSend
kept_by own s packets gs asks owes =
    record {
      sent = s;
      opened = min (length packets) (length (openings own.limits s.message s.kind));
      done = max (opening_bytes own s) (piece_bytes (pieces_in packets));
      allowed = opening_bytes own s + grant_bytes gs;
      granted_by = option_map (λ (g : Grant). g.recv) (slice_get gs 0);
      was_asked = λ place. list_any (λ (a : ReadAsk). is_asked a place) asks;
      owes = owes;
    }

-- what is kept of a send
pub kept_is : (own : Own) (log : List Deed) (s : Sent)
    → kept_send own log s
    ≡ kept_by own s (own_packets own log s.number) (grants log s.to s.number) (asks_of log s.to s.number) (answer_count s (own_progress own log).replies)
unfolding kept_send answers answer_count
kept_is own log s = refl

-- of two lists of replies
pub count-append : (s : Sent) (rs qs : List Reply) → answer_count s (rs ++ qs) ≡ answer_count s rs + answer_count s qs
unfolding answer_count
count-append s rs qs = ap length (filter-append (answers s) rs qs) ∙ length-append (filter (answers s) rs) (filter (answers s) qs)

-- replies that give no bytes
pub count_none : (s : Sent) (rs : List Reply) → ((r : Reply) → Member r rs → r.gives ≡ None) → answer_count s rs ≡ 0
unfolding answer_count answers is_number
count_none s rs h = ap length (filter_nothing (answers s) rs (λ r m. and_right (same_life r.to s.to) (is_number s.number r.gives) (ap (is_number s.number) (h r m))))

-- the replies of a pair give no bytes
pair_gives : (own : Own) (heads : Heads) (d : Deed) (before : List Deed) (ps : List Pair) (r : Reply) → Member r (flat_map (pair_replies own heads d before) ps) → r.gives ≡ None
unfolding pair_replies
pair_gives own heads d before ps r h =
    let f = member-flat_map (pair_replies own heads d before) r ps h in
    let m = member-map (reply f.0.message.life) r (pair_items own heads d before f.0) f.2 in
    sym (ap (λ (x : Reply). x.gives) m.2)

-- of what a deed makes owed only the answers to asks give bytes
new_count : (own : Own) (heads : Heads) (sents : List Sent) (d : Deed) (before : List Deed) (s : Sent)
    → answer_count s (replies_by own heads sents d before) ≡ answer_count s (given_by sents d)
unfolding replies_by
new_count own heads sents d before s =
    let shakes = handshake_by own before d in
    let of_pairs = flat_map (pair_replies own heads d before) (pairs own.limits.first heads (d ∷ before)) in
    let a = count-append s (shakes ++ of_pairs) (given_by sents d) in
    let b = count-append s shakes of_pairs in
    let c = count_none s shakes (λ r m. (shake_from own before d r m).gives_is) in
    let e = count_none s of_pairs (λ r m. pair_gives own heads d before (pairs own.limits.first heads (d ∷ before)) r m) in
    omega arith

-- the answers that a send owes after a deed
pub owes_step : (own : Own) (d : Deed) (log : List Deed) (s : Sent)
    → answer_count s (own_progress own (d ∷ log)).replies
    ≡ answer_count s (without_forgotten log d (popped d (own_progress own log).replies)) + answer_count s (given_by (own_sends own log) d)
unfolding after_deed
owes_step own d log s =
    let now = told own (d ∷ log) in
    let p = own_progress own log in
    let q = after_push own (told own log) log d p in
    let same : own_sends own log ≡ sends own now log = sends_same own (told own log) now log (agree_grows own.limits.first d log) in
    ap (λ (x : Progress). answer_count s x.replies) (own_progress_step own d log)
    ∙ count-append s (without_forgotten log d q.replies) (replies_by own now.head (sends own now log) d log)
    ∙ ap (λ (rs : List Reply). answer_count s (without_forgotten log d rs) + answer_count s (replies_by own now.head (sends own now log) d log)) (pushed_replies own (told own log) log d p)
    ∙ ap (λ (n : ℕ). answer_count s (without_forgotten log d (popped d p.replies)) + n)
    (new_count own now.head (sends own now log) d log s ∙ ap (λ (xs : List Sent). answer_count s (given_by xs d)) (sym same))

-- what is kept of a send after a deed
pub kept_next : (own : Own) (d : Deed) (log : List Deed) (s : Sent)
    → kept_send own (d ∷ log) s
    ≡ kept_by own s (own_packets own (d ∷ log) s.number) (grants log s.to s.number ++ grants_by s.to s.number d) (asks_of log s.to s.number ++ asked_by s.to s.number d)
    (answer_count s (without_forgotten log d (popped d (own_progress own log).replies)) + answer_count s (given_by (own_sends own log) d))
unfolding grants asks_of
kept_next own d log s =
    kept_is own (d ∷ log) s
    ∙ ap (λ (n : ℕ). kept_by own s (own_packets own (d ∷ log) s.number) (grants log s.to s.number ++ grants_by s.to s.number d) (asks_of log s.to s.number ++ asked_by s.to s.number d) n)
    (owes_step own d log s)

-- a deed that pushes nothing leaves what was pushed
pub packets_still : (own : Own) (d : Deed) (log : List Deed) (n : ℕ) → (d ≡ Pushed → ⊥) → own_packets own (d ∷ log) n ≡ own_packets own log n
packets_still own d log n not' =
    let now = told own (d ∷ log) in
    elim (pushed_step own now d log n) [
      | inl a ↦ a ∙ ap (λ (p : Progress). p.packets n) (sym (progress_same own (told own log) now log (agree_grows own.limits.first d log)))
      | inr a ↦ absurd (not' a.0.by)
    ]

-- a send by the same is the same
pub kept_by_same : (own : Own) (s : Sent) (ps qs : List Packet) (gs hs : List Grant) (as' bs : List ReadAsk) (n m : ℕ) → ps ≡ qs → gs ≡ hs → as' ≡ bs → n ≡ m
    → kept_by own s ps gs as' n ≡ kept_by own s qs hs bs m
kept_by_same own s ps qs gs hs as' bs n m a b c d =
    ap (λ (x : List Packet). kept_by own s x gs as' n) a ∙ ap (λ (x : List Grant). kept_by own s qs x as' n) b
    ∙ ap (λ (x : List ReadAsk). kept_by own s qs hs x n) c ∙ ap (λ (x : ℕ). kept_by own s qs hs bs x) d

-- a send is kept as it was by a deed that adds nothing
pub kept_still : (own : Own) (d : Deed) (log : List Deed) (s : Sent) → (d ≡ Pushed → ⊥) → grants_by s.to s.number d ≡ [] → asked_by s.to s.number d ≡ []
    → answer_count s (without_forgotten log d (popped d (own_progress own log).replies)) + answer_count s (given_by (own_sends own log) d) ≡ answer_count s (own_progress own log).replies
    → kept_send own (d ∷ log) s ≡ kept_send own log s
kept_still own d log s not' no_grant no_ask owes =
    let gs = grants log s.to s.number in
    let asks = asks_of log s.to s.number in
    kept_next own d log s
    ∙ kept_by_same own s (own_packets own (d ∷ log) s.number) (own_packets own log s.number) (gs ++ grants_by s.to s.number d) gs (asks ++ asked_by s.to s.number d) asks _ _
    (packets_still own d log s.number not')
    (ap (λ (x : List Grant). gs ++ x) no_grant ∙ append-nil gs)
    (ap (λ (x : List ReadAsk). asks ++ x) no_ask ∙ append-nil asks)
    owes
    ∙ sym (kept_is own log s)

-- no life is forgotten
pub none_forgotten : (rs : List Reply) → without_lives [] rs ≡ rs
unfolding without_lives
none_forgotten rs = filter_all (λ (r : Reply). not (list_any (same_life r.to) [])) rs (λ r m. refl)

-- by tests of lives, ends and receipts before and now
over_bools : (r c e ended k confirmed pushed : Bool) → cond r ended (cond c confirmed pushed) ≡ false
    → cond r (e || ended) (cond c (k || confirmed) pushed) ≡ cond r e (cond c k false)
over_bools true c e ended k confirmed pushed h = rw h (or_none e)
over_bools false true e ended k confirmed pushed h = rw h (or_none k)
over_bools false false e ended k confirmed pushed h = h

-- whether a deed that pushes nothing ends a send: it forgets its life, or takes its end or its receipt
unfoldable pub ends_by : List Deed → Deed → Sent → Bool
ends_by log d s =
    list_any (same_life s.to) (forgotten_by log d) || cond (is_read s.kind) (ends_send s.to s.number d) (cond s.message.confirm (confirms s.to s.message.no.0 d) false)

-- a send that was not over is over so
pub over_deed : (d : Deed) (log : List Deed) (ps : List Packet) (s : Sent) → is_over log ps s ≡ false → is_over (d ∷ log) ps s ≡ ends_by log d s
unfolding is_over is_forgotten is_complete ends_by
over_deed d log ps s h =
    let was = or_parts (is_forgotten log s.to) (is_complete log ps s) h in
    let f = was.0 in
    let same = over_bools (is_read s.kind) s.message.confirm (ends_send s.to s.number d) (list_any (ends_send s.to s.number) log) (confirms s.to s.message.no.0 d)
    (list_any (confirms s.to s.message.no.0) log) (is_pushed s ps) was.1 in
    rw (f, same) refl

-- so it is after a deed that pushes nothing
pub over_now : (own : Own) (d : Deed) (log : List Deed) (s : Sent) → (d ≡ Pushed → ⊥) → own_over own log s ≡ false → own_over own (d ∷ log) s ≡ ends_by log d s
over_now own d log s not' h =
    ap (λ (ps : List Packet). is_over (d ∷ log) ps s) (packets_still own d log s.number not') ∙ over_deed d log (own_packets own log s.number) s h
