-- What an insert that takes the place of a life completes: the receives that concern that one and the sends to it are gone.
use Rattle.std.proofs.Common.{◌≡◌, ℕ, Bool, true, false, cond, ◌&&◌, not, List, [], ◌∷◌, ◌++◌, map, Option, Some, None, ◌⊎◌, refl, inl, inr, sym, ◌∙◌, ap, subst}
use Rattle.std.specs.Prelude.{◌==◌, ◌||◌, filter, find, flat_map, option_map, is_some}
use Rattle.std.specs.List.{list_any}
use Rattle.std.proofs.lemmas.Bool.{eqb-true, eq-eqb, and_from}
use Rattle.std.proofs.lemmas.List.{append-nil}
use Rattle.rdm_lists.specs.Lists.{Member}
use Rattle.rdm_num.specs.Lives.{same_life, is_life}
use Rattle.rdm_num.specs.declared.numbers.Life.{Life}
use Rattle.rdm_num.specs.declared.completion.Completion.{Completion}
use Rattle.rdm_num.specs.declared.completion.Completion.TheVariants.{Send, Recv}
use Rattle.rdm_num.specs.declared.completion.Outcome.TheVariants.{Gone as GoneOutcome}
use Rattle.rdm_match.specs.Matcher.{Pair, is_recv}
use Rattle.rdm_model.specs.declared.job.Instr.TheVariants.{Insert}
use Rattle.rdm_model.specs.Deeds.{Deed, Did}
use Rattle.rdm_model.specs.Beginnings.{Own, Messages}
use Rattle.rdm_model.specs.Currents.{current, other_life, forgotten_by, is_forgotten}
use Rattle.rdm_model.specs.Matches.{Receive, receives, with_received, received_by}
use Rattle.rdm_model.specs.Receives.{Gone, ended_recv, has_ended, concerns as is_concerned, gone_with, withdrawn_by, recv_ends_by, live_receives, receive_numbered}
use Rattle.rdm_model.specs.Sends.{Sent}
use Rattle.rdm_model.specs.Dues.{is_read, ends_send, confirms}
use Rattle.rdm_model.specs.Completions.{outcome, recv_completion, recv_completions, send_completion, polls_by}
use Rattle.rdm_law.proofs.Lives.Lives.{LifeLocal}
use Rattle.rdm_law.proofs.Matching.Numbered.{matching_numbered}
use Rattle.rdm_law.proofs.Matching.Received.{receive_once}
use Rattle.rdm_life.specs.Kept.{Kept, LiveSend, LiveReceive, Matched}
use Rattle.rdm_life.specs.Keeps.{told, own_pairs, own_live_receives, pair_of, matched_of, kept_send, kept_receive, Keeps, KeepsReceives, KeepsSends}
use Rattle.rdm_life.specs.Forgetting.{is_among, names_one, is_of_one, concerns, gone_completions, forget}
use Rattle.rdm_life.specs.Lives.{after_insert, greet}
use Rattle.rdm_life.proofs.OwnSends.{own_live, own_over}
use Rattle.rdm_life.proofs.SendLists.{filter_kept}
use Rattle.rdm_life.proofs.SendWords.{ends_by, over_now}
use Rattle.rdm_life.proofs.Owing.{pairs_then}
use Rattle.rdm_life.proofs.Idle.{idle_fills}
use Rattle.rdm_life.proofs.Completing.{own_completions, new_over, completed, unpolled, live_still, live_known, neither, map_twice}
use Rattle.rdm_life.proofs.CompletedIdle.{KeepsDone}
use Rattle.rdm_lists.proofs.Filters.{filter_nothing, filter_both, list_any_none}
use Rattle.rdm_lists.proofs.Members.{find_member, member_find, member-filter, member_list_any}
use Rattle.rdm_lists.proofs.Options.{some_of}
use Rattle.rdm_lists.proofs.Same.{filter_same, filter_where, map_same}
use Rattle.rdm_life.proofs.Tests.{or_none}
use Rattle.rdm_life.proofs.EndSteps.{own_ends, new_ends}

-- ---- receives

-- the completion of a receive that is gone
abbrev gone_of : Receive → Completion
gone_of r = Recv (record { 0 = r.number }) GoneOutcome

-- the same of what is kept
abbrev kept_gone : LiveReceive → Completion
kept_gone r = Recv (record { 0 = r.receive.number }) GoneOutcome

-- an accepted receive is found by its number
pub numbered_so : (log : List Deed) (r : Receive) → Member r (receives log) → receive_numbered (receives log) r.number ≡ Some r
unfolding receive_numbered
numbered_so log r m =
    let t : Receive → Bool = λ x. x.number == r.number in
    let f = some_of (find t (receives log)) (member_find t r (receives log) m (eq-eqb r.number r.number refl)) in
    let g = find_member t f.0 (receives log) f.1 in
    f.1 ∙ ap Some (receive_once log f.0 r g.0 m (eqb-true f.0.number r.number g.1))

-- the completions of receives that are gone
gone_received : (ms : Messages) (rs xs : List Receive) → ((x : Receive) → Member x xs → receive_numbered rs x.number ≡ Some x)
    → recv_completions ms rs (map (λ (r : Receive). Gone r.number) xs) ≡ map gone_of xs
unfolding recv_completions recv_completion outcome ended_recv
gone_received ms rs [] h = refl
gone_received ms rs (x ∷ xs) h =
    let e = h x (inl refl) in
    let rest = gone_received ms rs xs (λ y m. h y (inr m)) in
    rw (e, rest) refl

-- a life that is named
names_is : (o : Option Life) (old : Life) → names_one (old ∷ []) o ≡ is_life o old
unfolding names_one is_among is_life
names_is None old = refl
names_is (Some l) old = or_none (same_life l old)

-- a pair of that receive
number_of : (k : ℕ) (x : Pair) → is_recv k x.recv ≡ true → x.recv.id.0 ≡ k
unfolding is_recv
number_of k x e = eqb-true x.recv.id.0 k e

-- the message of the pair of a receive, where the receive has one pair at most
of_is : (own : Own) (log : List Deed) (n : ℕ) (old : Life) (o : Option Pair) → find (λ (p : Pair). is_recv n p.recv) (own_pairs own log) ≡ o
    → is_of_one (old ∷ []) (option_map (matched_of own log) o) ≡ list_any (λ (p : Pair). is_recv n p.recv && same_life p.message.life old) (own_pairs own log)
unfolding is_of_one is_among
of_is own log n old None f =
    let ps = own_pairs own log in
    sym (list_any_none (λ (p : Pair). is_recv n p.recv && same_life p.message.life old) ps
    (λ p m. (elim (is_recv n p.recv) as (λ b. is_recv n p.recv ≡ b → (b && same_life p.message.life old) ≡ false) [
      | false ↦ λ e. refl
      | true ↦ λ e. (
          let a = member_find (λ (x : Pair). is_recv n x.recv) p ps m e in
          let b : is_some (find (λ (x : Pair). is_recv n x.recv) ps) ≡ false = ap (λ (o : Option Pair). is_some o) f in
          cc)
    ]) refl))
of_is own log n old (Some p) f =
    let ps = own_pairs own log in
    let t : Pair → Bool = λ q. is_recv n q.recv && same_life q.message.life old in
    let found = find_member (λ (x : Pair). is_recv n x.recv) p ps f in
    or_none (same_life p.message.life old)
    ∙ (elim (same_life p.message.life old) as (λ b. same_life p.message.life old ≡ b → b ≡ list_any t ps) [
      | true ↦ λ e. sym (member_list_any t p ps found.0 (and_from (is_recv n p.recv) (same_life p.message.life old) found.1 e))
      | false ↦ λ e. sym (list_any_none t ps (λ q m. (elim (is_recv n q.recv) as (λ b. is_recv n q.recv ≡ b → (b && same_life q.message.life old) ≡ false) [
        | false ↦ λ k. refl
        | true ↦ λ k.
            let one : p ≡ q = (matching_numbered own.limits.first (told own log).head log).once p q found.0 m (number_of n p found.1 ∙ sym (number_of n q k)) in
            subst (λ (x : Pair). same_life x.message.life old ≡ false) one e
      ]) refl))
    ]) refl

-- a kept receive concerns a life where the receive does
pub concerns_is : (own : Own) (log : List Deed) (old : Life) (r : Receive) → concerns (old ∷ []) (kept_receive own log r) ≡ is_concerned (own_pairs own log) old r
unfolding concerns is_concerned kept_receive
concerns_is own log old r =
    let a = names_is r.posted.from old in
    let b = of_is own log r.number old (pair_of own log r) refl in
    rw (a, b) refl

-- and nobody concerns none
names_none : (o : Option Life) → names_one [] o ≡ false
unfolding names_one is_among
names_none None = refl
names_none (Some l) = refl

of_none : (o : Option Matched) → is_of_one [] o ≡ false
unfolding is_of_one is_among
of_none None = refl
of_none (Some m) = refl

pub none_concerned : (r : LiveReceive) → concerns [] r ≡ false
unfolding concerns
none_concerned r = let a = names_none r.receive.posted.from in let b = of_none r.matched in rw (a, b) refl

-- tests in either order
pub both_ways : (a b : Bool) → (a && b) ≡ (b && a)
both_ways true true = refl
both_ways true false = refl
both_ways false true = refl
both_ways false false = refl

-- the receives that go with a life, and what they complete
gone_one : (own : Own) (log : List Deed) (v : Kept) (d : Deed) (old : Life) → receives (d ∷ log) ≡ receives log → KeepsReceives own log v
    → map kept_gone (filter (concerns (old ∷ [])) v.receives)
    ≡ recv_completions (told own (d ∷ log)) (receives (d ∷ log)) (flat_map (gone_with own.limits.first (told own (d ∷ log)).head log (own_ends own log)) (old ∷ []))
unfolding gone_with live_receives recv_completions has_ended receives kept_receive
gone_one own log v d old same k =
    let now = told own (d ∷ log) in
    let live : Receive → Bool = λ r. not (has_ended (own_ends own log) r.number) in
    let test : Receive → Bool = λ r. is_concerned (own_pairs own log) old r in
    let gone = filter (λ (r : Receive). test r && live r) (receives log) in
    let found : (x : Receive) → Member x gone → receive_numbered (receives (d ∷ log)) x.number ≡ Some x = λ x m.
    ap (λ (rs : List Receive). receive_numbered rs x.number) same ∙ numbered_so log x (member-filter (λ (r : Receive). test r && live r) x (receives log) m).0 in
    ap (λ (rs : List LiveReceive). map kept_gone (filter (concerns (old ∷ [])) rs)) k.receives_are
    ∙ ap (map kept_gone) (filter_kept (concerns (old ∷ [])) (kept_receive own log) (kept_receive own log) test (own_live_receives own log) (λ x m. concerns_is own log old x) (λ x m e. refl))
    ∙ map_twice kept_gone (kept_receive own log) (filter test (own_live_receives own log))
    ∙ ap (map gone_of) (sym (filter_both live test (receives log)) ∙ filter_same (λ r. live r && test r) (λ r. test r && live r) (receives log) (λ r. both_ways (live r) (test r)))
    ∙ sym (gone_received now (receives (d ∷ log)) gone found)
    ∙ ap (λ (ps : List Pair). recv_completions now (receives (d ∷ log)) (map (λ (r : Receive). Gone r.number) (filter (λ (r : Receive). is_concerned ps old r && live r) (receives log)))) (pairs_then own d log)
    ∙ ap (recv_completions now (receives (d ∷ log))) (sym (append-nil (gone_with own.limits.first now.head log (own_ends own log) old)))

-- where no life is forgotten
gone_nobody : (own : Own) (log : List Deed) (v : Kept) (d : Deed)
    → map kept_gone (filter (concerns []) v.receives)
    ≡ recv_completions (told own (d ∷ log)) (receives (d ∷ log)) (flat_map (gone_with own.limits.first (told own (d ∷ log)).head log (own_ends own log)) [])
unfolding recv_completions
gone_nobody own log v d = ap (map kept_gone) (filter_nothing (concerns []) v.receives (λ r m. none_concerned r))

-- one life at most is another one
pub most_one : (life : Life) (o : Option Life) → (other_life life o ≡ []) ⊎ ((old : Life) × (other_life life o ≡ old ∷ []))
unfolding other_life
most_one life None = inl refl
most_one life (Some old) =
    elim (same_life old life) as (λ b. (cond b [] (old ∷ []) ≡ []) ⊎ ((x : Life) × (cond b [] (old ∷ []) ≡ x ∷ []))) [
      | true ↦ inl refl
      | false ↦ inr (old, refl)
    ]

-- so it is of the lives that an insert forgets
gone_lives : (own : Own) (log : List Deed) (v : Kept) (d : Deed) (life : Life) (o : Option Life) → receives (d ∷ log) ≡ receives log → KeepsReceives own log v
    → map kept_gone (filter (concerns (other_life life o)) v.receives)
    ≡ recv_completions (told own (d ∷ log)) (receives (d ∷ log)) (flat_map (gone_with own.limits.first (told own (d ∷ log)).head log (own_ends own log)) (other_life life o))
gone_lives own log v d life o same k =
    let P : List Life → Type 0 = λ ls. map kept_gone (filter (concerns ls) v.receives)
    ≡ recv_completions (told own (d ∷ log)) (receives (d ∷ log)) (flat_map (gone_with own.limits.first (told own (d ∷ log)).head log (own_ends own log)) ls) in
    elim (most_one life o) [
      | inl e ↦ subst P (sym e) (gone_nobody own log v d)
      | inr e ↦ subst P (sym e.1) (gone_one own log v d e.0 same k)
    ]

-- the receives that an insert ends
pub insert_ends : (own : Own) (log : List Deed) (life : Life)
    → new_ends own (Did (Insert life)) log ≡ flat_map (gone_with own.limits.first (told own (Did (Insert life) ∷ log)).head log (own_ends own log)) (other_life life (current log life.port.0))
unfolding recv_ends_by withdrawn_by forgotten_by
insert_ends own log life =
    let n = idle_fills own.limits.first (told own (Did (Insert life) ∷ log)).head (Did (Insert life)) log tt in
    rw n refl

-- an insert accepts no receive
pub insert_receives : (log : List Deed) (life : Life) → receives (Did (Insert life) ∷ log) ≡ receives log
unfolding receives with_received received_by
insert_receives log life = append-nil (receives log)

-- ---- sends

-- the completion of a kept send that is gone
abbrev kept_lost : LiveSend → Completion
kept_lost s = Send (record { 0 = s.sent.number }) true

-- the sends to the lives that an insert forgets are over by it
insert_over : (own : Own) (log : List Deed) (life : Life) (s : Sent) → Member s (own_live own log)
    → own_over own (Did (Insert life) ∷ log) s ≡ is_among (other_life life (current log life.port.0)) s.to
unfolding ends_by ends_send confirms forgotten_by is_among
insert_over own log life s m =
    let n = neither (is_read s.kind) s.message.confirm in
    let lost = list_any (same_life s.to) (other_life life (current log life.port.0)) in
    over_now own (Did (Insert life)) log s (λ e. cc) (live_still own log s m) ∙ ap (λ b. lost || b) n ∙ or_none lost

-- and they are gone
lost_sends : (own : Own) (log : List Deed) (v : Kept) (life : Life) → KeepsSends own log v
    → map kept_lost (filter (λ (s : LiveSend). is_among (other_life life (current log life.port.0)) s.sent.to) v.sends)
    ≡ map (send_completion (Did (Insert life) ∷ log)) (new_over own (Did (Insert life)) log)
unfolding kept_send send_completion is_forgotten forgotten_by is_among
lost_sends own log v life k =
    let d : Deed = Did (Insert life) in
    let lives = other_life life (current log life.port.0) in
    let live = own_live own log in
    let test : LiveSend → Bool = λ s. is_among lives s.sent.to in
    let q : Sent → Bool = λ s. is_among lives s.to in
    ap (λ (ss : List LiveSend). map kept_lost (filter test ss)) k.sends_are
    ∙ ap (map kept_lost) (filter_kept test (kept_send own log) (kept_send own log) q live (λ x m. refl) (λ x m e. refl))
    ∙ map_twice kept_lost (kept_send own log) (filter q live)
    ∙ map_same (λ (s : Sent). Send (record { 0 = s.number }) true) (send_completion (d ∷ log)) (filter q live)
    (λ s m. (
    let f = member-filter q s live m in
    let known = live_known own log s f.0 in
    let lost : list_any (same_life s.to) (other_life life (current log life.port.0)) ≡ true = f.1 in
    rw (known, lost) refl))
    ∙ ap (map (send_completion (d ∷ log))) (sym (filter_where (own_over own (d ∷ log)) q live (λ s m. insert_over own log life s m)))

-- ---- what is completed after an insert
pub done_insert : (own : Own) (log : List Deed) (v : Kept) (life : Life) → LifeLocal own (Did (Insert life) ∷ log) → Keeps own log v
    → KeepsDone own (Did (Insert life)) log (after_insert life v).completions
unfolding after_insert greet forget gone_completions polls_by
done_insert own log v life local k =
    let d : Deed = Did (Insert life) in
    let lives = other_life life (current log life.port.0) in
    let rs = map kept_gone (filter (concerns lives) v.receives) in
    let ss = map kept_lost (filter (λ (s : LiveSend). is_among lives s.sent.to) v.sends) in
    let more : own_completions own (d ∷ log) ≡ own_completions own log ++ (rs ++ ss) =
    completed own d log
    ∙ ap (λ (xs : List Completion). own_completions own log ++ (xs ++ map (send_completion (d ∷ log)) (new_over own d log)))
    (ap (recv_completions (told own (d ∷ log)) (receives (d ∷ log))) (insert_ends own log life)
    ∙ sym (gone_lives own log v d life (current log life.port.0) (insert_receives log life) k.receives))
    ∙ ap (λ (xs : List Completion). own_completions own log ++ (rs ++ xs)) (sym (lost_sends own log v life k.sends)) in
    ap (λ (o : Option Life). v.completions ++ (map kept_gone (filter (concerns (other_life life o)) v.receives)
    ++ map kept_lost (filter (λ (s : LiveSend). is_among (other_life life o) s.sent.to) v.sends))) (k.lives.current_is life.port.0)
    ∙ unpolled own d log v.completions (rs ++ ss) local.0 refl k.owed.completions_are more
