-- Messages enter one after another while the next was heard of.
use Rattle.std.proofs.Common.{◌≡◌, ◌<◌, ◌≤◌, ℕ, zero, suc, ◌+◌, Bool, true, false, cond, map, refl, arith, inl, inr, sym, ◌∙◌, ap, subst}
use Rattle.std.specs.Prelude.{find}
use Rattle.std.proofs.lemmas.Bool.{false_from_ne_true}
use Rattle.std.proofs.lemmas.List.{length-map}
use Rattle.rdm_lists.specs.Lists.{Member, below}
use Rattle.rdm_lists.proofs.Below.{last_or_less, length-below, member_below}
use Rattle.rdm_lists.proofs.Members.{member-map}
use Rattle.rdm_num.proofs.Lives.{same_life-refl}
use Rattle.rdm_num.specs.declared.numbers.Life.{Life}
use Rattle.rdm_match.specs.Matcher.{accepts}
use Rattle.rdm_model.specs.Completions.{Name}
use Rattle.rdm_law.proofs.Bound.Pigeons.{distinct_fit}
use Rattle.rdm_life.specs.Kept.{Kept, Peer, with_peer}
use Rattle.rdm_life.specs.Receiving.{heard_run, entering_in}
use Rattle.rdm_sound.specs.Heard.{named, IsHeardEarly, is_next_heard}
use Rattle.rdm_sound.specs.Steps.{times, next_of, enter_one}
use Rattle.rdm_sound.proofs.EarlyLists.{once_distinct}
use Rattle.rdm_sound.proofs.Enters.{further, further_twice, further_none, arrived_peers}
use Rattle.rdm_sound.proofs.Numbers.{once_below}

-- ---- what is known of lives

-- after so many messages entered
pub times_peers : (n : ℕ) (source : Life) (v : Kept) → (times n (enter_one source) v).peers ≡ further source n v.peers
unfolding times
times_peers zero source v = sym (further_none source v.peers)
times_peers (suc n) source v =
    let a = next_of v source in
    let one : Kept = with_peer source (λ (p : Peer). record p { next = p.next + 1 }) v in
    times_peers n source (enter_one source v)
    ∙ ap (further source n) (arrived_peers a (find (λ r. accepts r a) v.posted) one)
    ∙ further_twice source n v.peers

-- the next number is as much further
next_times : (n : ℕ) (source : Life) (v : Kept) → is_next_heard source (times n (enter_one source) v) ≡ (v.peers source).heard ((v.peers source).next + n)
next_times n source v =
    let p = v.peers source in
    ap (λ (ps : Life → Peer). (ps source).heard (ps source).next) (times_peers n source v)
    ∙ ap (λ b. (cond b (record p { next = p.next + n }) p).heard (cond b (record p { next = p.next + n }) p).next) (same_life-refl source)

-- ---- runs of numbers

-- each number of a run was heard of
pub run_heard : (most : ℕ) (heard : ℕ → Bool) (from n : ℕ) → n < heard_run most heard from → heard (from + n) ≡ true
unfolding heard_run
run_heard zero heard from n less = absurd (omega arith)
run_heard (suc most) heard from zero less =
    (elim (heard from) as (λ b. heard from ≡ b → 0 < cond b (suc (heard_run most heard (from + 1))) 0 → heard (from + 0) ≡ true) [
      | true ↦ λ e less. (let at : from + 0 ≡ from = omega arith in ap heard at ∙ e)
      | false ↦ λ e less. absurd (omega arith)
    ]) refl less
run_heard (suc most) heard from (suc n) less =
    (elim (heard from) as (λ b. suc n < cond b (suc (heard_run most heard (from + 1))) 0 → heard (from + suc n) ≡ true) [
      | true ↦ λ less. (let at : from + suc n ≡ from + 1 + n = omega arith in ap heard at ∙ run_heard most heard (from + 1) n (omega arith))
      | false ↦ λ less. absurd (omega arith)
    ]) less

-- a run that ends before the most ends at a number that was not
run_stops : (most : ℕ) (heard : ℕ → Bool) (from : ℕ) → heard_run most heard from < most → heard (from + heard_run most heard from) ≡ false
unfolding heard_run
run_stops zero heard from less = absurd (omega arith)
run_stops (suc most) heard from less =
    let rest = heard_run most heard (from + 1) in
    (elim (heard from) as (λ b. heard from ≡ b → cond b (suc rest) 0 < suc most → heard (from + cond b (suc rest) 0) ≡ false) [
      | true ↦ λ e less. (let at : from + suc rest ≡ from + 1 + rest = omega arith in ap heard at ∙ run_stops most heard (from + 1) (omega arith))
      | false ↦ λ e less. (let at : from + 0 ≡ from = omega arith in ap heard at ∙ e)
    ]) refl less

-- ---- the messages of a life

pub enters_while : (source : Life) (v : Kept) (n : ℕ) → n < entering_in v source → is_next_heard source (times n (enter_one source) v) ≡ true
enters_while source v n less = next_times n source v ∙ run_heard v.early_count (v.peers source).heard (v.peers source).next n less

-- numbers that were heard of one after another are no more than the early messages
pub heard_fit : (source : Life) (n : ℕ) (v : Kept) → IsHeardEarly v → ((k : ℕ) → k < n → (v.peers source).heard ((v.peers source).next + k) ≡ true) → n ≤ v.early_count
heard_fit source n v h each =
    let next = (v.peers source).next in
    let f : ℕ → Name = λ k. named source (next + k) in
    let once = once_below f n (λ i j e. let same : next + i ≡ next + j = ap (λ (m : Name). m.number) e in omega arith) in
    let fits = distinct_fit (map f (below n)) h.names (once_distinct (map f (below n)) once) (λ m k.
    let q = member-map f m (below n) k in
    subst (λ (x : Name). Member x h.names) q.2
    (h.are.all source (next + q.0) (h.waits source (next + q.0) (each q.0 (member_below n q.0 q.1)) (omega arith)))) in
    let a = length-map (below n) f in
    let b = length-below n in
    let c = h.are.count in
    omega arith

-- the number after those that enter was not heard of
pub entering_stops : (source : Life) (v : Kept) → IsHeardEarly v → (v.peers source).heard ((v.peers source).next + entering_in v source) ≡ false
entering_stops source v h =
    let heard = (v.peers source).heard in
    let next = (v.peers source).next in
    let count = entering_in v source in
    false_from_ne_true (heard (next + count)) (λ on.
    let fits = heard_fit source (suc count) v h (λ k less.
    elim (last_or_less k count less) [
      | inl is ↦ subst (λ (j : ℕ). heard (next + j) ≡ true) (sym is) on
      | inr before ↦ run_heard v.early_count heard next k before
    ]) in
    let off = run_stops v.early_count heard next (omega arith) in
    let wrong : true ≡ false = sym on ∙ off in
    cc)

pub enters_until : (source : Life) (v : Kept) → IsHeardEarly v → is_next_heard source (times (entering_in v source) (enter_one source) v) ≡ false
enters_until source v h = next_times (entering_in v source) source v ∙ entering_stops source v h
