-- A receive with a message of which a range is missing doesn't end by a deed that spares the range.
use Rattle.std.proofs.Common.{◌≡◌, ◌+◌, ◌<◌, ◌≤◌, Bool, true, false, List, [], ◌∷◌, ◌++◌, map, Option, Some, None, ◌⊎◌, arith, inl, inr, sym, ◌∙◌, ap, subst, eqb-true}
use Rattle.std.specs.Prelude.{◌==◌, flat_map, is_some}
use Rattle.std.proofs.lemmas.Bool.{and_parts}
use Rattle.rdm_lists.specs.Lists.{Member}
use Rattle.rdm_lists.proofs.Below.{each_below_at}
use Rattle.rdm_lists.proofs.Members.{member-append_cases, member-append_left, member-map, member-flat_map, list_any_member, member_list_any}
use Rattle.rdm_num.specs.Pieces.{byte_at, covers}
use Rattle.rdm_num.specs.declared.numbers.Life.{Life}
use Rattle.rdm_num.specs.declared.head.Head.{Head}
use Rattle.rdm_match.specs.Matcher.{Pair, is_pair}
use Rattle.rdm_model.specs.declared.job.Instr.TheVariants.{Insert, Cancel}
use Rattle.rdm_model.specs.Beginnings.{Own}
use Rattle.rdm_model.specs.Currents.{current, other_life, forgotten_by}
use Rattle.rdm_model.specs.Deeds.{Deed, Did}
use Rattle.rdm_model.specs.Matches.{Receive, receives, with_received, received_by, pairs}
use Rattle.rdm_model.specs.Parts.{carried_pieces, has_landed}
use Rattle.rdm_model.specs.Receives.{RecvEnd, Filled, ended_recv, has_ended, is_filled, filled_by, withdrawn_by, gone_with, recv_ends_by, concerns as is_concerned}
use Rattle.rdm_law.proofs.Ends.Ends.{withdrawn_from, filled_from, gone_from}
use Rattle.rdm_law.proofs.Lives.Lives.{LifeLocal, LifeStep}
use Rattle.rdm_law.proofs.Matching.Numbered.{matching_numbered}
use Rattle.rdm_law.proofs.Matching.Received.{receive_once}
use Rattle.rdm_life.specs.Kept.{Kept, LiveReceive, Matched}
use Rattle.rdm_life.specs.Keeps.{told, own_pairs, own_live_receives, kept_receive, KeepsReceives, Keeps}
use Rattle.rdm_life.specs.Forgetting.{concerns}
use Rattle.rdm_life.specs.Lending.{Loan, IsMissing, Spares}
use Rattle.rdm_life.proofs.Apart.{live_is, is_live}
use Rattle.rdm_life.proofs.CompletedGone.{concerns_is, most_one}
use Rattle.rdm_life.proofs.EndSteps.{own_ends, new_ends, ends_step}
use Rattle.rdm_life.proofs.LoanPairs.{LentOf}
use Rattle.rdm_life.proofs.LoanPlaces.{still_missing}
use Rattle.rdm_life.proofs.Made.{made}
use Rattle.rdm_life.proofs.Owing.{pairs_then}
use Rattle.rdm_life.proofs.Pairs.{pairs_added}
use Rattle.rdm_life.proofs.ReceivesCancel.{cancel_unmatched}
use Rattle.rdm_life.proofs.Stays.{head_stays}
use Rattle.rdm_life.proofs.TakenBy.{false_unless}

-- its pair is one of those after the deed
pub paired_still : (own : Own) (d : Deed) (log : List Deed) (v : Kept) (l : Loan) (m : IsMissing v l) (a : LentOf own log v l m) → Member a.pair (own_pairs own (d ∷ log))
paired_still own d log v l m a =
    subst (λ (ps : List Pair). Member a.pair ps) (sym (pairs_added own d log)) (member-append_left a.pair (own_pairs own log) (made own d log) a.paired)

-- the range lies in the message as it is told after the deed
pub within_still : (own : Own) (d : Deed) (log : List Deed) (v : Kept) (l : Loan) (m : IsMissing v l) (a : LentOf own log v l m)
    → l.offset + l.len ≤ ((told own (d ∷ log)).head a.pair.message.life a.pair.message.no.0).length
within_still own d log v l m a =
    subst (λ (h : Head). l.offset + l.len ≤ h.length) (head_stays own d log a.pair a.paired)
    (subst (λ (x : Matched). l.offset + l.len ≤ x.head.length) a.message_is m.within)

-- ---- how it could end

-- the whole message doesn't come
not_whole : (own : Own) (d : Deed) (log : List Deed) (v : Kept) (l : Loan) (m : IsMissing v l) (a : LentOf own log v l m) → KeepsReceives own log v → Spares v d l
    → is_filled own.limits.first (told own (d ∷ log)).head (d ∷ log) a.pair ≡ true → ⊥
unfolding is_filled has_landed covers
not_whole own d log v l m a k spares filled =
    let heads = (told own (d ∷ log)).head in
    let life = a.pair.message.life in
    let n = a.pair.message.no.0 in
    let pieces = carried_pieces own.limits.first heads (d ∷ log) life n in
    let landed = (and_parts (is_pair (own_pairs own (d ∷ log)) a.pair.recv.id.0 life n) (covers pieces (heads life n).length) filled).1 in
    let some : 0 < l.len = m.some_place in
    let within = within_still own d log v l m a in
    let there : is_some (byte_at pieces l.offset) ≡ true = each_below_at (λ place. is_some (byte_at pieces place)) (heads life n).length l.offset landed (omega arith) in
    let gone : is_some (byte_at pieces l.offset) ≡ false = still_missing own d log v l m a l.offset k spares (omega arith) (omega arith) in
    let wrong : true ≡ false = sym there ∙ gone in
    cc

-- it is not filled
not_filled : (own : Own) (d : Deed) (log : List Deed) (v : Kept) (l : Loan) (m : IsMissing v l) (a : LentOf own log v l m) (q : Pair) → KeepsReceives own log v → Spares v d l
    → Member q (filled_by own.limits.first (told own (d ∷ log)).head d log) → q.recv.id.0 ≡ a.of.recv.number → ⊥
not_filled own d log v l m a q k spares is number =
    let f = filled_from own.limits.first (told own (d ∷ log)).head d log q is in
    let same : q ≡ a.pair = (matching_numbered own.limits.first (told own (d ∷ log)).head (d ∷ log)).once q a.pair f.0 (paired_still own d log v l m a) (number ∙ a.of.number_is) in
    not_whole own d log v l m a k spares (subst (λ (x : Pair). is_filled own.limits.first (told own (d ∷ log)).head (d ∷ log) x ≡ true) same f.1)

-- nor taken back
not_withdrawn : (own : Own) (d : Deed) (log : List Deed) (v : Kept) (l : Loan) (m : IsMissing v l) (a : LentOf own log v l m) (e : RecvEnd) → LifeLocal own (d ∷ log)
    → Member e (withdrawn_by d) → ended_recv e ≡ a.of.recv.number → ⊥
unfolding ended_recv
not_withdrawn own d log v l m a e local is number =
    let w = withdrawn_from d e is in
    let step : LifeStep own log (Did (Cancel w.0)) = subst (LifeStep own log) w.1 local.1 in
    let same : a.of.recv.number ≡ w.0.0 = sym number ∙ ap ended_recv w.2 in
    let none = cancel_unmatched own w.0 log a.of.recv step same in
    let wrong : Some a.pair ≡ None = sym a.of.pair_is ∙ none in
    cc

-- a life that is forgotten is the only one
forgets : (own : Own) (log : List Deed) (r : Receive) (old : Life) (lives : List Life) → ((lives ≡ []) ⊎ ((x : Life) × (lives ≡ x ∷ []))) → Member old lives
    → concerns lives (kept_receive own log r) ≡ false → is_concerned (own_pairs own log) old r ≡ false
forgets own log r old lives (inl none) is apart = absurd (subst (λ (ls : List Life). Member old ls) none is)
forgets own log r old lives (inr one) is apart =
    elim (subst (λ (ls : List Life). Member old ls) one.1 is) [
      | inl same ↦
          let other : concerns (old ∷ []) (kept_receive own log r) ≡ false =
          subst (λ (x : Life). concerns (x ∷ []) (kept_receive own log r) ≡ false) same (subst (λ (ls : List Life). concerns ls (kept_receive own log r) ≡ false) one.1 apart) in
          sym (concerns_is own log old r) ∙ other
      | inr never ↦ elim never [ ]
    ]

-- a life that the deed forgets is none that it concerns
unconcerned : (own : Own) (d : Deed) (log : List Deed) (v : Kept) (l : Loan) (m : IsMissing v l) (a : LentOf own log v l m) (old : Life) → Keeps own log v → Spares v d l
    → Member old (forgotten_by log d) → is_concerned (own_pairs own log) old a.of.recv ≡ false
unfolding forgotten_by
unconcerned own (Did (Insert life)) log v l m a old k spares is =
    let apart : concerns (other_life life (current log life.port.0)) (kept_receive own log a.of.recv) ≡ false =
    subst (λ (o : Option Life). concerns (other_life life o) (kept_receive own log a.of.recv) ≡ false) (k.lives.current_is life.port.0)
    (subst (λ (x : LiveReceive). concerns (other_life life (v.current life.port.0)) x ≡ false) a.receive_is (spares m.receive m.found)) in
    forgets own log a.of.recv old (other_life life (current log life.port.0)) (most_one life (current log life.port.0)) is apart
unconcerned own _ log v l m a old k spares is = elim is [ ]

-- so it doesn't go with one
not_gone : (own : Own) (d : Deed) (log : List Deed) (v : Kept) (l : Loan) (m : IsMissing v l) (a : LentOf own log v l m) (old : Life) (e : RecvEnd) → Keeps own log v → Spares v d l
    → Member old (forgotten_by log d) → Member e (gone_with own.limits.first (told own (d ∷ log)).head log (own_ends own log) old) → ended_recv e ≡ a.of.recv.number → ⊥
unfolding ended_recv
not_gone own d log v l m a old e k spares forgot is number =
    let g = gone_from own.limits.first (told own (d ∷ log)).head log (own_ends own log) old e is in
    let same : g.0 ≡ a.of.recv = receive_once log g.0 a.of.recv g.1 (live_is own log a.of.recv a.of.live).0 (sym (ap ended_recv g.3) ∙ number) in
    let concerned : is_concerned (own_pairs own log) old a.of.recv ≡ true =
    subst (λ (ps : List Pair). is_concerned ps old a.of.recv ≡ true) (sym (pairs_then own d log))
    (subst (λ (x : Receive). is_concerned (pairs own.limits.first (told own (d ∷ log)).head log) old x ≡ true) same g.2) in
    let apart = unconcerned own d log v l m a old k spares forgot in
    let wrong : true ≡ false = sym concerned ∙ apart in
    cc

-- no end of the deed is its
no_end : (own : Own) (d : Deed) (log : List Deed) (v : Kept) (l : Loan) (m : IsMissing v l) (a : LentOf own log v l m) (e : RecvEnd) → LifeLocal own (d ∷ log) → Keeps own log v → Spares v d l
    → Member e (new_ends own d log) → ended_recv e ≡ a.of.recv.number → ⊥
unfolding recv_ends_by ended_recv
no_end own d log v l m a e local k spares is number =
    let first = own.limits.first in
    let heads = (told own (d ∷ log)).head in
    let filled = map Filled (filled_by first heads d log) in
    let gone = gone_with first heads log (own_ends own log) in
    elim (member-append_cases e (filled ++ withdrawn_by d) (flat_map gone (forgotten_by log d)) is) [
      | inl x ↦ elim (member-append_cases e filled (withdrawn_by d) x) [
        | inl y ↦ (let q = member-map Filled e (filled_by first heads d log) y in not_filled own d log v l m a q.0 k.receives spares q.1 (ap ended_recv q.2 ∙ number))
        | inr y ↦ not_withdrawn own d log v l m a e local y number
      ]
      | inr x ↦ (let g = member-flat_map gone e (forgotten_by log d) x in not_gone own d log v l m a g.0 e k spares g.1 g.2 number)
    ]

-- ---- so it is live after the deed
pub live_still : (own : Own) (d : Deed) (log : List Deed) (v : Kept) (l : Loan) (m : IsMissing v l) (a : LentOf own log v l m) → LifeLocal own (d ∷ log) → Keeps own log v → Spares v d l
    → Member a.of.recv (own_live_receives own (d ∷ log))
unfolding receives with_received has_ended
live_still own d log v l m a local k spares =
    let was = live_is own log a.of.recv a.of.live in
    let n = a.of.recv.number in
    let named : RecvEnd → Bool = λ e. ended_recv e == n in
    is_live own (d ∷ log) a.of.recv (member-append_left a.of.recv (receives log) (received_by (receives log) log d) was.0)
    (false_unless (has_ended (own_ends own (d ∷ log)) n) (λ h.
    let e = list_any_member named (own_ends own (d ∷ log)) h in
    let number = eqb-true (ended_recv e.0) n e.2 in
    elim (member-append_cases e.0 (own_ends own log) (new_ends own d log) (subst (λ (es : List RecvEnd). Member e.0 es) (ends_step own d log) e.1)) [
      | inl old ↦ (let ended = member_list_any named e.0 (own_ends own log) old e.2 in let wrong : true ≡ false = sym ended ∙ was.1 in cc)
      | inr new ↦ no_end own d log v l m a e.0 local k spares new number
    ]))
