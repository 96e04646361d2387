use Rattle.std.proofs.Common.{◌≡◌, ap, sym, ◌∙◌, inr}
use Rattle.std.specs.Option.{ghost_name_of}
use borrow.Follows.Closed.{read_of}
use Rattle.rdm_pool.specs.Numbered.{after_write}
use Rattle.rdm_pool.specs.Places.{live}
use Rattle.rdm_pool.proofs.SlabKeys.{key_held}
use Rattle.rdm_pool.proofs.Seen.{found_under, kept-written, written_seen}
use Rattle.rdm_pool.proofs.Pool.get_mut.Goals as goal

pub invariant_of-self-lent : goal.invariant_of-self-lent
invariant_of-self-lent g c o =
    let p = c.self.inside in
    let is = rw c.deref.ensures.value at c.in-Some.ensures in
    (λ w. kept-written p c.self.invariant c.in-Some.key w (key_held p.values (live p.places.items) c.args.id.0 c.in-Some.key is c.self.invariant.held), c.self.invariant)

pub returns-in-Some : goal.returns-in-Some
returns-in-Some g c =
    let p = c.self.inside in
    let is = rw c.deref.ensures.value at c.in-Some.ensures in
    let held = key_held p.values (live p.places.items) c.args.id.0 c.in-Some.key is c.self.invariant.held in
    let written : (w : g.row.T.Denot) → _ ≡ after_write c.args.self.now c.args.id w = λ w. written_seen p c.self.invariant c.args.id c.in-Some.key w is held ∙ ap (λ s. after_write s c.args.id w) c.self.view_is in (
      λ i. read_of (ghost_name_of c.get_mut.result) (λ w. written w i) (c.self.view_is i),
      record { writes_back = tt; value = rw (← c.self.view_is) (c.get_mut.ensures.value ∙ sym (found_under p c.self.invariant c.args.id _ is)) },
    )

pub returns-in-None : goal.returns-in-None
returns-in-None g c =
    let is = rw c.deref.ensures.value at c.in-None.ensures in (
      ap inr c.self.view_is,
      record { writes_back = tt; value = rw (← c.self.view_is) (sym (found_under c.self.inside c.self.invariant c.args.id _ is)) },
    )
