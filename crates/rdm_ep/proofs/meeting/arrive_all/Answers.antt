use Rattle.std.proofs.Common.{rules, ◌≡◌, map, length, vec_len, ℕ, List, ◌∷◌, Vec, Global, refl, arith, ◌∙◌, sym, ap}
use Rattle.rdm_ep.specs.declared.state.Inbound.{Inbound}
use Rattle.rdm_ep.specs.Meeting.{after_arrivals}
use Rattle.rdm_ep.proofs.MeetingLemmas.{meeting, arrivals_first, arrivals_done}
use Rattle.rdm_ep.proofs.meeting.arrive_all.Goals as goal

pub loop-inbound-init : goal.loop-inbound-init
loop-inbound-init c =
    let given : c.into_iter-inbound-iterator.result.rest.items ≡ c.args.entering.items = search rules in
    let count : length c.into_iter-inbound-iterator.result.rest.items ≡ vec_len c.args.entering = ap (λ (is : List Inbound). length is) given ∙ search rules in
    let room = c.requires.room in (
      ap (after_arrivals (meeting (map (λ (r : Vec ℕ Global). r.items) c.args.regions.now.items) c.args.posted.now.items c.args.arrived.now.items c.args.completions.now.items)) given,
      c.requires.ranges,
      omega arith,
      refl,
      refl,
    )

pub arrive-requires-clause-ranges : goal.arrive-requires-clause-ranges
arrive-requires-clause-ranges c = c.loop-inbound.invariant.1

pub arrive-requires-clause-room : goal.arrive-requires-clause-room
arrive-requires-clause-room c =
    let l = c.loop-inbound.invariant.2 in
    let s = c.in-Some.ensures.steps.0 in
    let n : length c.loop-inbound.inbound-iterator.rest.items ≡ length (c.in-Some.inbound ∷ c.next.new.self.rest.items) = ap length s in
    omega arith

pub arrive-requires-clause-places : goal.arrive-requires-clause-places
arrive-requires-clause-places c =
    let a = c.loop-inbound.invariant.3 in
    let b = c.loop-inbound.invariant.4 in
    let d = c.requires.places in
    omega arith

pub loop-inbound-preserved : goal.loop-inbound-preserved
loop-inbound-preserved c =
    let i = c.loop-inbound.invariant in
    let s = c.in-Some.ensures.steps.0 in
    let n : length c.loop-inbound.inbound-iterator.rest.items ≡ length (c.in-Some.inbound ∷ c.next.new.self.rest.items) = ap length s in
    let l = i.2 in
    let e = c.arrive.ensures.capacity in
    let f = c.arrive.ensures.count in
    let p = c.arrive.ensures.places in
    let q = i.3 in (
      arrivals_first (meeting (map (λ (r : Vec ℕ Global). r.items) c.loop-inbound.regions.items) c.loop-inbound.posted.items c.loop-inbound.arrived.items c.loop-inbound.completions.items)
          (meeting (map (λ (r : Vec ℕ Global). r.items) c.arrive.new.regions.items) c.arrive.new.posted.items c.arrive.new.arrived.items c.arrive.new.completions.items)
          c.in-Some.inbound c.next.new.self.rest.items c.loop-inbound.inbound-iterator.rest.items s c.arrive.ensures.met ∙ i.0,
      c.arrive.ensures.ranges,
      omega arith,
      omega arith,
      c.arrive.ensures.room ∙ i.4,
    )

pub returns-clause-met : goal.returns-clause-met
returns-clause-met c =
    let count : c.loop-inbound.inbound-iterator.rest.len ≡ length c.loop-inbound.inbound-iterator.rest.items = search rules in
    let none : length c.loop-inbound.inbound-iterator.rest.items ≡ 0 = sym count ∙ c.in-None.ensures.steps.0 in
    arrivals_done (meeting (map (λ (r : Vec ℕ Global). r.items) c.loop-inbound.regions.items) c.loop-inbound.posted.items c.loop-inbound.arrived.items c.loop-inbound.completions.items)
    c.loop-inbound.inbound-iterator.rest.items none ∙ c.loop-inbound.invariant.0

pub returns-clause-ranges : goal.returns-clause-ranges
returns-clause-ranges c = c.loop-inbound.invariant.1

pub returns-clause-places : goal.returns-clause-places
returns-clause-places c = c.loop-inbound.invariant.3

pub returns-clause-room : goal.returns-clause-room
returns-clause-room c = c.loop-inbound.invariant.4
