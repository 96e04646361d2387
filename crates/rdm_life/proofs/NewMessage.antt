-- What a packet of a new message makes of what is kept: messages enter up to the first number that was not heard of, and the pairs that
-- are made meet.
use Rattle.std.proofs.Common.{◌≡◌, ℕ, zero, suc, ◌+◌, ◌-◌, ◌≤◌, Bool, true, false, cond, not, ◌&&◌, ◌||◌, List, [], ◌∷◌, ◌++◌, map, filter, length, Option, Some, None, refl, arith, eq-eqb, inl, inr, sym, ◌∙◌, ap, subst, length-append}
use Rattle.std.specs.Prelude.{◌==◌, is_some}
use Rattle.std.proofs.lemmas.Bool.{and_from, cases_eq, eqb-true, ne_eqb}
use Rattle.std.proofs.lemmas.List.{length-map}
use Rattle.rdm_lists.specs.Lists.{Member, or_else, below}
use Rattle.rdm_lists.proofs.Below.{member_below}
use Rattle.rdm_lists.proofs.Members.{member-append_cases, member-append_left, member-append_right, member-map, filter-member}
use Rattle.rdm_num.specs.Lives.{same_life}
use Rattle.rdm_num.specs.declared.numbers.Life.{Life}
use Rattle.rdm_num.specs.declared.numbers.MsgNo.{MsgNo}
use Rattle.rdm_num.proofs.Lives.{same_life-refl}
use Rattle.rdm_hdr.specs.declared.Opt.{Opt}
use Rattle.rdm_pkt.specs.declared.Packet.TheVariants.{Rtm}
use Rattle.rdm_pkt.specs.declared.Form.{Form}
use Rattle.rdm_pkt.specs.Heads.{head_of}
use Rattle.rdm_model.specs.Beginnings.{Own}
use Rattle.rdm_model.specs.Completions.{Name, heard_names, is_matched, early_count}
use Rattle.rdm_model.specs.Currents.{is_forgotten}
use Rattle.rdm_model.specs.Deeds.{Deed, Took, Spelled}
use Rattle.rdm_model.specs.Heard.{heard_head, head_by, is_heard, has_entered, is_next_message}
use Rattle.rdm_law.proofs.Bound.Pigeons.{AreDistinct, distinct_fit}
use Rattle.rdm_law.proofs.Matching.Distinct.{matching_distinct}
use Rattle.rdm_law.proofs.Matching.Enters.{Reach, not_entered}
use Rattle.rdm_life.specs.Kept.{Kept, EarlyMessage}
use Rattle.rdm_life.specs.Keeps.{told, own_pairs, waits_early, early_message}
use Rattle.rdm_life.specs.Receiving.{lists_in, heard_run, entering_in, hear}
use Rattle.rdm_life.proofs.Made.{lists_before}
use Rattle.rdm_life.proofs.MessageFacts.{named}
use Rattle.std.specs.Bool.{then_some}
use Rattle.rdm_life.proofs.TakenBy.{false_unless, pair_of_message}
use Rattle.rdm_life.proofs.EnteringRow.{below_count, reach_grows, next_is_reach, run_is, heard_name}
use Rattle.rdm_life.proofs.Tests.{or_none, same_test}

-- a test that makes some
some_then : {A : Type 0} (b : Bool) (x : A) → is_some (then_some b x) ≡ b
some_then true x = refl
some_then false x = refl

-- two numbers are equal both ways
same_sides : (m n : ℕ) → (m == n) ≡ (n == m)
same_sides m n = same_test (m == n) (n == m) (λ e. eq-eqb n m (sym (eqb-true m n e))) (λ e. eq-eqb m n (sym (eqb-true n m e)))

-- what was heard of it before and by this packet
pub heard_by_packet : (from : Life) (number : MsgNo) (tag : Option ℕ) (confirm : Bool) (opt : Opt) (form : Form) (before : List Deed) (n : ℕ)
    → is_heard (Took from (Spelled (Rtm number tag confirm opt form)) ∷ before) from n ≡ (is_heard before from n || n == number.0)
unfolding is_heard heard_head head_by or_else
heard_by_packet from number tag confirm opt form before n =
    let self : same_life from from ≡ true = same_life-refl from in
    (elim (heard_head before from n) as (λ o. is_some (or_else o (then_some (same_life from from && number.0 == n) (head_of tag confirm opt form))) ≡ (is_some o || n == number.0)) [
      | Some h ↦ refl
      | None ↦ ap (λ (b : Bool). is_some (or_else None (then_some (b && number.0 == n) (head_of tag confirm opt form)))) self ∙ some_then (number.0 == n) (head_of tag confirm opt form) ∙ same_sides number.0 n
    ])

-- the head that the packet tells of a message that was not heard of
pub head_by_packet : (from : Life) (number : MsgNo) (tag : Option ℕ) (confirm : Bool) (opt : Opt) (form : Form) (before : List Deed) → is_heard before from number.0 ≡ false
    → heard_head (Took from (Spelled (Rtm number tag confirm opt form)) ∷ before) from number.0 ≡ Some (head_of tag confirm opt form)
unfolding is_heard heard_head head_by or_else
head_by_packet from number tag confirm opt form before unheard =
    let both : (same_life from from && number.0 == number.0) ≡ true = and_from (same_life from from) (number.0 == number.0) (same_life-refl from) (eq-eqb number.0 number.0 refl) in
    (elim (heard_head before from number.0) as (λ o. is_some o ≡ false → or_else o (then_some (same_life from from && number.0 == number.0) (head_of tag confirm opt form)) ≡ Some (head_of tag confirm opt form)) [
      | Some h ↦ λ k. cc
      | None ↦ λ k. ap (λ (b : Bool). then_some b (head_of tag confirm opt form)) both
    ]) unheard

-- distinct elements, by a function that keeps them apart
distinct_map : {A B : Type 0} (f : A → B) (xs : List A) → AreDistinct xs → ((x y : A) → f x ≡ f y → x ≡ y) → AreDistinct (map f xs)
distinct_map f [] apart one = tt
distinct_map f (x ∷ xs) apart one = (
  λ m. (let y = member-map f (f x) xs m in apart.0 (subst (λ (z : _). Member z xs) (one y.0 x y.2) y.1)),
  distinct_map f xs apart.1 one,
)

-- one more that is not among them
distinct_push : (xs : List ℕ) (y : ℕ) → AreDistinct xs → (Member y xs → ⊥) → AreDistinct (xs ++ y ∷ [])
distinct_push [] y apart out = (λ m. elim m [ ], tt)
distinct_push (x ∷ xs) y apart out = (
  λ m. elim (member-append_cases x xs (y ∷ []) m) [
    | inl old ↦ apart.0 old
    | inr new ↦ elim new [ inl same ↦ out (inl (sym same)) | inr none ↦ elim none [ ] ]
  ],
  distinct_push xs y apart.1 (λ m. out (inr m)),
)

-- the numbers below a bound are distinct
below_distinct : (n : ℕ) → AreDistinct (below n)
unfolding below
below_distinct zero = tt
below_distinct (suc n) = distinct_push (below n) n (below_distinct n) (λ m. let less = member_below n n m in absurd (omega arith))

-- what is known of the messages of a life before a packet of a new one
pub record Facing (own : Own) (before : List Deed) (v : Kept) (from : Life) : Type 0 where
  pub lists : lists_in v ≡ lists_before own before
  pub heard : (n : ℕ) → (v.peers from).heard n ≡ is_heard before from n
  pub next : is_next_message own.limits.first before from (v.peers from).next ≡ true
  pub early : (n : ℕ) → v.early from n ≡ early_message own before from n
  pub count : v.early_count ≡ early_count own (told own before).head before
  pub kept : is_forgotten before from ≡ false

-- a number that was heard of by a packet of another one was heard of before
pub old_heard : (from : Life) (number : MsgNo) (tag : Option ℕ) (confirm : Bool) (opt : Opt) (form : Form) (before : List Deed) (n : ℕ) → (n ≡ number.0 → ⊥)
    → is_heard (Took from (Spelled (Rtm number tag confirm opt form)) ∷ before) from n ≡ true → is_heard before from n ≡ true
old_heard from number tag confirm opt form before n other there =
    let either : (is_heard before from n || n == number.0) ≡ true = sym (heard_by_packet from number tag confirm opt form before n) ∙ there in
    let not' : (n == number.0) ≡ false = ne_eqb n number.0 other in
    sym (ap (λ (b : Bool). is_heard before from n || b) not' ∙ or_none (is_heard before from n)) ∙ either

-- a message that has not entered was not matched
pub unentered : (own : Own) (before : List Deed) (from : Life) (r : Reach own.limits.first before from) (k : ℕ) → r.count ≤ k
    → is_matched (own_pairs own before) (named from (own.limits.first + k)) ≡ false
unentered own before from r k past =
    false_unless (is_matched (own_pairs own before) (named from (own.limits.first + k))) (λ is.
    let p = pair_of_message own before from (own.limits.first + k) is in
    let known = (matching_distinct own.limits.first (told own before).head before).pairs_known p.0 p.1 in
    let entered : has_entered own.limits.first before from (own.limits.first + k) ≡ true =
    subst (λ (j : ℕ). has_entered own.limits.first before from j ≡ true) p.3 (subst (λ (l : Life). has_entered own.limits.first before l p.0.message.no.0 ≡ true) p.2 known) in
    let wrong : true ≡ false = sym entered ∙ not_entered own.limits.first before from r k past in
    cc)

-- numbers from one on are distinct
names_distinct : (from : Life) (start : ℕ) (n : ℕ) → AreDistinct (map (λ k. named from (start + k)) (below n))
names_distinct from start n = distinct_map (λ k. named from (start + k)) (below n) (below_distinct n) (λ j k e. (let f = ap (λ (m : Name). m.number) e in omega arith))

-- no more numbers enter than messages are early, and the new one
few_enter : (own : Own) (before : List Deed) (v : Kept) (from : Life) (number : MsgNo) (tag : Option ℕ) (confirm : Bool) (opt : Opt) (form : Form) → Facing own before v from
    → (r : Reach own.limits.first before from) (s : Reach own.limits.first (Took from (Spelled (Rtm number tag confirm opt form)) ∷ before) from) → s.count - r.count ≤ v.early_count + 1
unfolding early_count
few_enter own before v from number tag confirm opt form f r s =
    let d : Deed = Took from (Spelled (Rtm number tag confirm opt form)) in
    let first = own.limits.first in
    let c = s.count - r.count in
    let names : List Name = map (λ k. named from (first + r.count + k)) (below c) in
    let waiting : List Name = filter (waits_early own before) (heard_names before) in
    let fit = distinct_fit names (waiting ++ named from number.0 ∷ []) (names_distinct from (first + r.count) c)
    (λ m in'.
    let k = member-map (λ k. named from (first + r.count + k)) m (below c) in' in
    let less = member_below c k.0 k.1 in
    let there : is_heard (d ∷ before) from (first + r.count + k.0) ≡ true = (let e : first + (r.count + k.0) ≡ first + r.count + k.0 = omega arith in
    subst (λ (j : ℕ). is_heard (d ∷ before) from j ≡ true) e (s.heard (r.count + k.0) (omega arith))) in
    subst (λ (x : Name). Member x (waiting ++ named from number.0 ∷ [])) k.2
    (elim (cases_eq (first + r.count + k.0) number.0) [
      | inl same ↦ member-append_right (named from (first + r.count + k.0)) waiting (named from number.0 ∷ []) (inl (ap (named from) (sym same)))
      | inr other ↦
          let was : is_heard before from (first + r.count + k.0) ≡ true = old_heard from number tag confirm opt form before (first + r.count + k.0) other there in
          let unmatched : is_matched (own_pairs own before) (named from (first + r.count + k.0)) ≡ false = (let e : first + (r.count + k.0) ≡ first + r.count + k.0 = omega arith in
          subst (λ (j : ℕ). is_matched (own_pairs own before) (named from j) ≡ false) e (unentered own before from r (r.count + k.0) (omega arith))) in
          member-append_left (named from (first + r.count + k.0)) waiting (named from number.0 ∷ [])
          (filter-member (waits_early own before) (named from (first + r.count + k.0)) (heard_names before) (heard_name before from (first + r.count + k.0) was)
          (and_from (not (is_matched (own_pairs own before) (named from (first + r.count + k.0)))) (not (is_forgotten before from)) (ap not unmatched) (ap not f.kept)))
    ])) in
    let a = length-map (below c) (λ k. named from (first + r.count + k)) in
    let b = below_count c in
    let e = length-append waiting (named from number.0 ∷ []) in
    let n : v.early_count ≡ length waiting = f.count in
    omega arith

-- how many numbers enter
pub enters_count : (own : Own) (before : List Deed) (v : Kept) (from : Life) (number : MsgNo) (tag : Option ℕ) (confirm : Bool) (opt : Opt) (form : Form) (e : EarlyMessage) → Facing own before v from
    → (r : Reach own.limits.first before from) (s : Reach own.limits.first (Took from (Spelled (Rtm number tag confirm opt form)) ∷ before) from)
    → entering_in (hear from number.0 e v) from ≡ s.count - r.count
unfolding hear
enters_count own before v from number tag confirm opt form e f r s =
    let d : Deed = Took from (Spelled (Rtm number tag confirm opt form)) in
    let first = own.limits.first in
    let w = hear from number.0 e v in
    let self : same_life from from ≡ true = same_life-refl from in
    let next : (w.peers from).next ≡ first + r.count = ap (λ (b : Bool). (cond b (record (v.peers from) { heard = λ n. (v.peers from).heard n || n == number.0 }) (v.peers from)).next) self ∙ next_is_reach first before from r (v.peers from).next f.next in
    let heard : (n : ℕ) → (w.peers from).heard n ≡ is_heard (d ∷ before) from n = λ n.
    ap (λ (b : Bool). (cond b (record (v.peers from) { heard = λ n. (v.peers from).heard n || n == number.0 }) (v.peers from)).heard n) self
    ∙ ap (λ (b : Bool). b || n == number.0) (f.heard n) ∙ sym (heard_by_packet from number tag confirm opt form before n) in
    let grows = reach_grows first d before from r s in
    let c = s.count - r.count in
    ap (heard_run (v.early_count + 1) (w.peers from).heard) next
    ∙ run_is (v.early_count + 1) (w.peers from).heard (first + r.count) c
    (λ k less. heard (first + r.count + k) ∙ (let at : first + (r.count + k) ≡ first + r.count + k = omega arith in subst (λ (j : ℕ). is_heard (d ∷ before) from j ≡ true) at (s.heard (r.count + k) (omega arith))))
    (heard (first + r.count + c) ∙ (let at : first + s.count ≡ first + r.count + c = omega arith in subst (λ (j : ℕ). is_heard (d ∷ before) from j ≡ false) at s.stops))
    (few_enter own before v from number tag confirm opt form f r s)
