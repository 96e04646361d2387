use Rattle.std.proofs.Common.{◌≡◌, ℕ, zero, suc, ◌+◌, List, [], ◌∷◌, ◌++◌, length, ap, ◌∙◌, arith, Option, Some, None, IfSome}
use Rattle.std.specs.Prelude.{slice_get}
use Rattle.std.specs.Option.{option_to_list}
use Rattle.rdm_inbox.specs.Passes.{InboxState}
use Rattle.rdm_inbox.specs.Queues.{PassesState, ArePassesOf}
use Rattle.rdm_inbox.proofs.tests.last_port.Goals as goal
use Rattle.rdm_lists.proofs.Places.{slice_get-push}

before : (xs ys : List PassesState) (i : ℕ) (y : PassesState) → slice_get xs i ≡ Some y → slice_get (xs ++ ys) i ≡ Some y
before [] ys i y e = absurd (cc)
before (x ∷ xs) ys zero y e = e
before (x ∷ xs) ys (suc i) y e = before xs ys i y e

last : (tables : List InboxState) (old new : List PassesState) (m n : ℕ) (result : Option PassesState) → old ≡ new ++ option_to_list result → n ≡ length new → n + length (option_to_list result) ≡ m
    → ((port : ℕ) (v : PassesState) → slice_get old port ≡ Some v → ArePassesOf tables v × (v.port ≡ port)) → IfSome result (λ v. ArePassesOf tables v × (v.port + 1 ≡ m) × (v.port ≡ n))
last tables old new m n None items long count each = tt
last tables old new m n (Some v) items long count each =
    let is = each (length new) v (ap (λ l. slice_get l (length new)) items ∙ slice_get-push new v) in let at = is.1 in (is.0, omega arith, omega arith)

pub returns-clause-left : goal.returns-clause-left
returns-clause-left c port v e = c.requires port v (ap (λ l. slice_get l port) c.pop.ensures.items ∙ before c.pop.new.self.items (option_to_list c.pop.result) port v e)

pub returns-clause-last : goal.returns-clause-last
returns-clause-last c = last c.args.queues.now.tables c.args.all.now.items c.pop.new.self.items _ _ c.pop.result c.pop.ensures.items c.pop.new.self.ok.0 c.pop.ensures.len c.requires
