use Rattle.std.proofs.Common.{rules, ◌≡◌, ◌+◌, ◌++◌, length, vec_len, List, None, refl, arith, ◌∙◌, sym, ap, subst}
use Rattle.std.specs.Prelude.{find}
use Rattle.rdm_ep.specs.declared.state.Inbound.{Inbound}
use Rattle.rdm_ep.specs.Places.{IsPlaced}
use Rattle.rdm_ep.specs.Entering.{is_message, following}
use Rattle.rdm_ep.proofs.Follows.{follows, ends, empty_ends}
use Rattle.rdm_ep.proofs.holding.take_following.Goals as goal

pub loop-due-init : goal.loop-due-init
loop-due-init c =
    let n : vec_len c.args.held.now ≡ length c.args.held.now.items = search rules in
    let room = c.requires.room in
    (refl, refl, refl, omega arith, omega arith)

pub returns-in_default-clause-entering : goal.returns-in_default-clause-entering
returns-in_default-clause-entering c =
    let none : find (is_message c.args.from c.loop-due.next) c.loop-due.held.items ≡ None = subst (λ (is : List Inbound). find (is_message c.args.from c.loop-due.next) is ≡ None) c.deref.ensures.value c.in_default.ensures in
    let e = ends (length c.loop-due.held.items) c.loop-due.held.items c.args.from c.loop-due.next none in
    e.more c.loop-due.entering.items ∙ c.loop-due.invariant.0

pub returns-in_default-clause-held : goal.returns-in_default-clause-held
returns-in_default-clause-held c =
    let none : find (is_message c.args.from c.loop-due.next) c.loop-due.held.items ≡ None = subst (λ (is : List Inbound). find (is_message c.args.from c.loop-due.next) is ≡ None) c.deref.ensures.value c.in_default.ensures in
    let e = ends (length c.loop-due.held.items) c.loop-due.held.items c.args.from c.loop-due.next none in
    sym e.left ∙ c.loop-due.invariant.1

pub returns-in_default-clause-next : goal.returns-in_default-clause-next
returns-in_default-clause-next c =
    let none : find (is_message c.args.from c.loop-due.next) c.loop-due.held.items ≡ None = subst (λ (is : List Inbound). find (is_message c.args.from c.loop-due.next) is ≡ None) c.deref.ensures.value c.in_default.ensures in
    let e = (ends (length c.loop-due.held.items) c.loop-due.held.items c.args.from c.loop-due.next none).count in
    let i = c.loop-due.invariant.2 in
    omega arith

pub push_reserved-requires : goal.push_reserved-requires
push_reserved-requires c =
    let placed : IsPlaced (is_message c.args.from c.loop-due.next) c.loop-due.held.items c.in-Some.at = subst (λ (is : List Inbound). IsPlaced (is_message c.args.from c.loop-due.next) is c.in-Some.at) c.deref.ensures.value c.in-Some.ensures in
    let w = placed.within in
    let r = c.loop-due.invariant.4 in
    omega arith

pub loop-due-preserved : goal.loop-due-preserved
loop-due-preserved c =
    let placed : IsPlaced (is_message c.args.from c.loop-due.next) c.loop-due.held.items c.in-Some.at = subst (λ (is : List Inbound). IsPlaced (is_message c.args.from c.loop-due.next) is c.in-Some.at) c.deref.ensures.value c.in-Some.ensures in
    let f = follows c.loop-due.held.items c.take_out-inbound.new.messages.items c.args.from c.loop-due.next c.take_out-inbound.result c.in-Some.at placed c.take_out-inbound.ensures.message c.take_out-inbound.ensures.left in
    let i = c.loop-due.invariant in
    let e = c.push_reserved.ensures.items in
    let l = c.push_reserved.ensures.len in
    let k = c.push_reserved.ensures.capacity in
    let a = f.count in
    let b = f.fewer in
    let t = i.2 in
    let u = i.3 in
    let r = i.4 in (
      ap (λ (is : List Inbound). is ++ following (length c.take_out-inbound.new.messages.items) c.take_out-inbound.new.messages.items c.args.from (c.take_out-inbound.result.no.0 + 1)) e ∙ f.more c.loop-due.entering.items ∙ i.0,
      sym f.left ∙ i.1,
      omega arith,
      omega arith,
      omega arith,
    )

pub returns-clause-entering : goal.returns-clause-entering
returns-clause-entering c =
    let n : vec_len c.args.held.now ≡ length c.args.held.now.items = search rules in
    let m = c.len-most.ensures in
    let t = c.loop-due-test.false in
    let u = c.loop-due.invariant.3 in
    let z : length c.loop-due.held.items ≡ 0 = omega arith in
    let e = (empty_ends c.loop-due.held.items c.args.from c.loop-due.next z) in
    e.more c.loop-due.entering.items ∙ c.loop-due.invariant.0

pub returns-clause-held : goal.returns-clause-held
returns-clause-held c =
    let n : vec_len c.args.held.now ≡ length c.args.held.now.items = search rules in
    let m = c.len-most.ensures in
    let t = c.loop-due-test.false in
    let u = c.loop-due.invariant.3 in
    let z : length c.loop-due.held.items ≡ 0 = omega arith in
    let e = (empty_ends c.loop-due.held.items c.args.from c.loop-due.next z) in
    sym e.left ∙ c.loop-due.invariant.1

pub returns-clause-next : goal.returns-clause-next
returns-clause-next c =
    let n : vec_len c.args.held.now ≡ length c.args.held.now.items = search rules in
    let m = c.len-most.ensures in
    let t = c.loop-due-test.false in
    let u = c.loop-due.invariant.3 in
    let z : length c.loop-due.held.items ≡ 0 = omega arith in
    let e = (empty_ends c.loop-due.held.items c.args.from c.loop-due.next z).count in
    let i = c.loop-due.invariant.2 in
    omega arith
