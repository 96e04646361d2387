use Rattle.std.proofs.Common.{◌+◌, arith, ap}
use Rattle.rdm_mr.proofs.Homes.{fits, not_home, given, is_part, out_is}
use Rattle.rdm_mr.proofs.home.Home.take_out.Goals as goal

pub overflow_add-from : goal.overflow_add-from
overflow_add-from c = let f = fits _ _ _ _ _ _ _ c.self.invariant.apart c.self.view_is c.args.at c.args.len c.requires.inside c.self.invariant.small in record { fits = omega (arith, f, c.start.ensures.value) }

pub overflow_add-from-2 : goal.overflow_add-from-2
overflow_add-from-2 c = let f = fits _ _ _ _ _ _ _ c.self.invariant.apart c.self.view_is c.args.at c.args.len c.requires.inside c.self.invariant.small in record { fits = omega (arith, f, c.start.ensures.value) }

pub returns-in_default-clause-answer : goal.returns-in_default-clause-answer
returns-in_default-clause-answer c = not_home _ _ _ _ _ _ _ c.self.invariant.apart c.self.view_is c.args.at c.args.len (c.start.result + c.args.at) _ c.deref.ensures.value (ap (λ k. k + c.args.at) c.start.ensures.value) c.in_default.ensures

pub invariant_of-self-2 : goal.invariant_of-self-2
invariant_of-self-2 c =
    let e = ap (λ k. k + c.args.at) c.start.ensures.value in
    let g = given _ _ _ _ _ _ _ c.self.invariant.apart c.self.view_is c.args.at c.args.len (c.start.result + c.args.at) c.in-Some.i _ _ _ c.deref.ensures.value e c.requires.some c.in-Some.ensures c.in_ok-part.ensures.lifted in
    record {
      anchor = c.self.invariant.anchor;
      small = c.self.invariant.small;
      apart = g.apart;
      of_block = g.of_block _ _ c.self.invariant.of_block;
      room = c.in_ok-part.ensures.room;
    }

pub returns-clause-answer : goal.returns-clause-answer
returns-clause-answer c =
    let e = ap (λ k. k + c.args.at) c.start.ensures.value in
    is_part _ _ _ _ _ _ _ c.self.invariant.apart c.self.view_is c.args.at c.args.len (c.start.result + c.args.at) c.in-Some.i _ _ _ c.deref.ensures.value e c.requires.some c.in-Some.ensures c.in_ok-part.ensures.lifted c.self.invariant.of_block

pub returns-clause-after : goal.returns-clause-after
returns-clause-after c =
    let e = ap (λ k. k + c.args.at) c.start.ensures.value in
    out_is _ _ _ _ _ _ _ c.self.invariant.apart c.self.view_is c.args.at c.args.len (c.start.result + c.args.at) c.in-Some.i _ _ _ c.deref.ensures.value e c.requires.some c.in-Some.ensures c.in_ok-part.ensures.lifted
