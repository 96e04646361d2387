-- A send that is not over is found by its number.
use Rattle.std.proofs.Common.{◌≡◌, ℕ, Bool, true, false, not, List, Some, sym, ◌∙◌, ap}
use Rattle.std.specs.Prelude.{◌&&◌, ◌==◌, nat_eq, find}
use Rattle.std.proofs.lemmas.Bool.{and_parts, and_from, eqb-true, eq-eqb}
use Rattle.rdm_lists.specs.Lists.{Member}
use Rattle.rdm_num.specs.Lives.{same_life}
use Rattle.rdm_num.specs.declared.numbers.Life.{Life}
use Rattle.rdm_model.specs.Deeds.{Deed}
use Rattle.rdm_model.specs.Beginnings.{Own, Messages}
use Rattle.rdm_model.specs.Scenes.{Scene}
use Rattle.rdm_model.specs.Sends.{Sent, sends}
use Rattle.rdm_model.specs.Dues.{progress, is_over, live_of, live_sends}
use Rattle.rdm_model.specs.Targets.{live_send}
use Rattle.rdm_model.proofs.Numbers.{sends_one}
use Rattle.rdm_lists.proofs.Members.{member-filter, filter-member, find_member, member_find}
use Rattle.rdm_lists.proofs.Options.{some_of}
use Rattle.rdm_num.proofs.Lives.{same_life-refl}

-- a live send is one of the sends, and is not over
pub live_parts : (own : Own) (ms : Messages) (log : List Deed) (s : Sent) → Member s (live_sends own ms log)
    → Member s (sends own ms log) × (not (is_over log ((progress own ms log).packets s.number) s) ≡ true)
unfolding live_sends live_of
live_parts own ms log s m = member-filter (λ (t : Sent). not (is_over log ((progress own ms log).packets t.number) t)) s (sends own ms log) m

-- a send that is not over is live
pub live_from : (own : Own) (ms : Messages) (log : List Deed) (s : Sent) → Member s (sends own ms log) → is_over log ((progress own ms log).packets s.number) s ≡ false
    → Member s (live_sends own ms log)
unfolding live_sends live_of
live_from own ms log s m h = filter-member (λ (t : Sent). not (is_over log ((progress own ms log).packets t.number) t)) s (sends own ms log) m (ap not h)

-- a send that is not over is the live send of its number
pub live_send_is : (s : Scene) (t : Sent) (to : Life) (n : ℕ) → Member t (sends s.own s.ms s.log) → t.to ≡ to → t.number ≡ n
    → is_over s.log ((progress s.own s.ms s.log).packets t.number) t ≡ false → live_send s to n ≡ Some t
unfolding live_send
live_send_is s t to n m e k h =
    let test : Sent → Bool = λ x. same_life x.to to && x.number == n in
    let passes : test t ≡ true = and_from (same_life t.to to) (nat_eq t.number n) (ap (λ (l : Life). same_life l to) e ∙ same_life-refl to) (eq-eqb t.number n k) in
    let found = some_of (find test (live_sends s.own s.ms s.log)) (member_find test t (live_sends s.own s.ms s.log) (live_from s.own s.ms s.log t m h) passes) in
    let r = find_member test found.0 (live_sends s.own s.ms s.log) found.1 in
    let p = and_parts (same_life found.0.to to) (nat_eq found.0.number n) r.1 in
    let same : found.0 ≡ t = sends_one s.own s.ms s.log found.0 t (live_parts s.own s.ms s.log found.0 r.0).0 m (eqb-true found.0.number n p.1 ∙ sym k) in
    found.1 ∙ ap Some same
