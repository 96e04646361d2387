-- What did nothing changes nothing.
use Rattle.std.proofs.Common.{◌≡◌, ℕ, Bool, true, false, not, ◌&&◌, ◌||◌, List, [], ◌∷◌, refl, ap, ◌∙◌, sym, subst, inl, inr, arith}
use Rattle.std.specs.Prelude.{◌==◌}
use Rattle.std.specs.List.{list_any}
use Rattle.std.proofs.lemmas.List.{append-nil}
use Rattle.std.proofs.lemmas.Bool.{not-true}
use Rattle.rdm_lists.specs.Lists.{Member, or_else}
use Rattle.rdm_num.specs.Pieces.{Piece, covers}
use Rattle.rdm_num.specs.declared.numbers.Life.{Life}
use Rattle.rdm_match.specs.Matcher.{Pair, run, is_pair}
use Rattle.rdm_pkt.specs.declared.Packet.{Packet}
use Rattle.rdm_model.specs.Deeds.{Deed, Nothing, deed_count}
use Rattle.rdm_model.specs.Beginnings.{Own, Messages, Heads}
use Rattle.rdm_model.specs.Currents.{current, last_inserted, first_seen, is_forgotten, inserted_by, seen_by, forgotten_by}
use Rattle.rdm_model.specs.Heard.{heard_head, head_by}
use Rattle.rdm_model.specs.Matches.{receives, with_received, received_by, events_by, matching, pairs}
use Rattle.rdm_model.specs.Parts.{carried_by, carried_pieces, has_landed}
use Rattle.rdm_model.specs.Receives.{RecvEnd, is_filled, filled_by, recv_ends, with_recv_ends, recv_ends_by, withdrawn_by}
use Rattle.rdm_model.specs.Regions.{regions, after_ends, region_by}
use Rattle.rdm_model.specs.Sends.{Sent, known_by, known_word, sends, with_sent, sent_by}
use Rattle.rdm_model.specs.Dues.{Progress, progress, after_deed, after_push, is_complete, is_over, ends_send, confirms, live_of}
use Rattle.rdm_model.specs.Completions.{completions, completions_by, recv_completions, ended_sends, poll_count, polls_by}
use Rattle.rdm_law.specs.Clauses.{StandsAs}
use Rattle.rdm_lists.proofs.Options.{or_else-none}
use Rattle.rdm_lists.proofs.Same.{filter_same}
use Rattle.rdm_lists.proofs.Filters.{filter_nothing}
use Rattle.rdm_lists.proofs.Members.{member-filter}

-- an element passes a test that some element is to pass
any_member : {A : Type 0} (t : A → Bool) (xs : List A) (x : A) → Member x xs → t x ≡ true → list_any t xs ≡ true
any_member t [] x m e = elim m [ ]
any_member t (y ∷ ys) x (inl i) e = subst (λ z. (t z || list_any t ys) ≡ true) (sym i) (rw e refl)
any_member t (y ∷ ys) x (inr m) e = let r = any_member t ys x m e in elim (t y) as (λ b. (b || list_any t ys) ≡ true) [ true ↦ refl | false ↦ r ]

or_right : (b : Bool) → (b || false) ≡ b
or_right true = refl
or_right false = refl

pub and_not : (b : Bool) → (b && not b) ≡ false
and_not true = refl
and_not false = refl

-- the bytes that came
pub carried_still : (first : ℕ) (heads : Heads) (log : List Deed) (life : Life) (n : ℕ) → carried_pieces first heads (Nothing ∷ log) life n ≡ carried_pieces first heads log life n
unfolding carried_pieces carried_by
carried_still first heads log life n = append-nil (carried_pieces first heads log life n)

-- the matcher
pub matching_still : (first : ℕ) (heads : Heads) (log : List Deed) → matching first heads (Nothing ∷ log) ≡ matching first heads log
unfolding matching events_by run
matching_still first heads log = refl

-- a pair is filled as it was
pub filled_still : (first : ℕ) (heads : Heads) (log : List Deed) (p : Pair) → is_filled first heads (Nothing ∷ log) p ≡ is_filled first heads log p
unfolding is_filled has_landed matching events_by run
filled_still first heads log p =
    ap (λ (ps : List Piece). is_pair (pairs first heads log) p.recv.id.0 p.message.life p.message.no.0 && covers ps (heads p.message.life p.message.no.0).length)
    (carried_still first heads log p.message.life p.message.no.0)

-- no pair is filled
none_filled : (first : ℕ) (heads : Heads) (log : List Deed) → filled_by first heads Nothing log ≡ []
unfolding filled_by
none_filled first heads log =
    filter_nothing (λ p. is_filled first heads (Nothing ∷ log) p && not (is_filled first heads log p)) (pairs first heads (Nothing ∷ log))
    (λ p m. ap (λ b. b && not (is_filled first heads log p)) (filled_still first heads log p) ∙ and_not (is_filled first heads log p))

-- no receive ends
none_ends : (first : ℕ) (heads : Heads) (log : List Deed) (ends : List RecvEnd) → recv_ends_by first heads Nothing log ends ≡ []
unfolding recv_ends_by withdrawn_by forgotten_by
none_ends first heads log ends = rw (none_filled first heads log) refl

ends_still : (first : ℕ) (heads : Heads) (log : List Deed) → recv_ends first heads (Nothing ∷ log) ≡ recv_ends first heads log
unfolding recv_ends with_recv_ends
ends_still first heads log = rw (none_ends first heads log (recv_ends first heads log)) (append-nil (recv_ends first heads log))

receives_still : (log : List Deed) → receives (Nothing ∷ log) ≡ receives log
unfolding receives with_received received_by
receives_still log = append-nil (receives log)

regions_still : (first : ℕ) (ms : Messages) (log : List Deed) → regions first ms (Nothing ∷ log) ≡ regions first ms log
unfolding regions after_ends region_by
regions_still first ms log = rw (none_ends first ms.head log (recv_ends first ms.head log)) (append-nil (regions first ms log))

pub sends_still : (own : Own) (ms : Messages) (log : List Deed) → sends own ms (Nothing ∷ log) ≡ sends own ms log
unfolding sends with_sent sent_by
sends_still own ms log = append-nil (sends own ms log)

forgotten_still : (log : List Deed) (life : Life) → is_forgotten (Nothing ∷ log) life ≡ is_forgotten log life
unfolding is_forgotten forgotten_by
forgotten_still log life = or_right (is_forgotten log life)

-- a send is over where it was
pub over_still : (log : List Deed) (pushed : List Packet) (s : Sent) → is_over (Nothing ∷ log) pushed s ≡ is_over log pushed s
unfolding is_over is_complete ends_send confirms
over_still log pushed s = rw (forgotten_still log s.to) refl

-- the same sends are live
live_still : (log : List Deed) (p q : Progress) (sents : List Sent) → ((n : ℕ) → q.packets n ≡ p.packets n) → live_of (Nothing ∷ log) q sents ≡ live_of log p sents
unfolding live_of
live_still log p q sents e =
    filter_same (λ (s : Sent). not (is_over (Nothing ∷ log) (q.packets s.number) s)) (λ (s : Sent). not (is_over log (p.packets s.number) s)) sents
    (λ s. ap not (over_still log (q.packets s.number) s ∙ ap (λ ps. is_over log ps s) (e s.number)))

-- the packets that were pushed
pushed_still : (own : Own) (ms : Messages) (log : List Deed) (p : Progress) (n : ℕ) → (after_deed own ms log Nothing (after_push own ms log Nothing p)).packets n ≡ p.packets n
unfolding after_deed after_push
pushed_still own ms log p n = refl

-- no send ends
none_over : (own : Own) (ms : Messages) (log : List Deed) (p : Progress) → ended_sends own ms Nothing log p ≡ []
unfolding ended_sends live_of
none_over own ms log p =
    let after : Progress = after_deed own ms log Nothing (after_push own ms log Nothing p) in
    filter_nothing (λ (s : Sent). is_over (Nothing ∷ log) (after.packets s.number) s) (live_of log p (sends own ms log))
    (λ s m. ap (λ ps. is_over (Nothing ∷ log) ps s) (pushed_still own ms log p s.number) ∙ over_still log (p.packets s.number) s
    ∙ not-true (is_over log (p.packets s.number) s) (member-filter (λ (s : Sent). not (is_over log (p.packets s.number) s)) s (sends own ms log) m).1)

-- nothing completes
completions_still : (own : Own) (ms : Messages) (log : List Deed) → completions own ms (Nothing ∷ log) ≡ completions own ms log
unfolding completions completions_by recv_completions
completions_still own ms log =
    rw (none_ends own.limits.first ms.head log (recv_ends own.limits.first ms.head log), none_over own ms log (progress own ms log)) (append-nil (completions own ms log))

-- a life after what did nothing
pub nothing_stands : (own : Own) (ms : Messages) (log : List Deed) → StandsAs own ms (Nothing ∷ log) log
unfolding current last_inserted first_seen inserted_by seen_by or_else known_word known_by heard_head head_by progress poll_count deed_count polls_by
nothing_stands own ms log = record {
  currents = λ port. ap (or_else (last_inserted log port)) (or_else-none (first_seen log port));
  forgotten = forgotten_still log;
  known = λ life. or_else-none (known_word log life);
  heard = λ life n. or_else-none (heard_head log life n);
  receives_are = receives_still log;
  matching_is = matching_still own.limits.first ms.head log;
  carried = carried_still own.limits.first ms.head log;
  ends = ends_still own.limits.first ms.head log;
  regions_are = regions_still own.limits.first ms log;
  sends_are = sends_still own ms log;
  pushed = pushed_still own ms log (progress own ms log);
  completions_are = completions_still own ms log;
  polled = omega arith;
}

-- a life as it is
pub stands_same : (own : Own) (ms : Messages) (log : List Deed) → StandsAs own ms log log
stands_same own ms log = record {
  currents = λ port. refl;
  forgotten = λ life. refl;
  known = λ life. refl;
  heard = λ life n. refl;
  receives_are = refl;
  matching_is = refl;
  carried = λ life n. refl;
  ends = refl;
  regions_are = refl;
  sends_are = refl;
  pushed = λ send. refl;
  completions_are = refl;
  polled = refl;
}
