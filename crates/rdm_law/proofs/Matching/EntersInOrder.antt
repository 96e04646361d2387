-- Each sender's messages come to a matcher in the order of their sending, with none left out.
use Rattle.std.proofs.Common.{◌≡◌, ℕ, ◌+◌, true, false, cond, List, [], ◌∷◌, ◌++◌, length, map, Option, None, refl, arith, inl, inr, sym, ◌∙◌, ap}
use Rattle.std.specs.Prelude.{◌&&◌, ◌==◌, is_some}
use Rattle.std.specs.Bool.{then_some}
use Rattle.std.proofs.lemmas.Bool.{cases_Bool, cases_lt}
use Rattle.std.proofs.lemmas.List.{append-nil, append_assoc, length-map}
use Rattle.rdm_lists.specs.Lists.{below, or_else}
use Rattle.rdm_num.specs.Lives.{same_life}
use Rattle.rdm_num.specs.declared.numbers.Life.{Life}
use Rattle.rdm_match.specs.Matcher.{Event, Post, Arrive, Cancel, Forget}
use Rattle.rdm_pkt.specs.declared.Packet.TheVariants.{Rtm}
use Rattle.rdm_pkt.specs.Heads.{head_of}
use Rattle.rdm_model.specs.declared.job.Job.{Job}
use Rattle.rdm_model.specs.declared.job.Instr.TheVariants.{Recv, Cancel as CancelOp, Insert}
use Rattle.rdm_model.specs.declared.entry.Entry.{Entry}
use Rattle.rdm_model.specs.Deeds.{Deed, Did, Took, Item, Spelled}
use Rattle.rdm_model.specs.Beginnings.{Heads}
use Rattle.rdm_model.specs.Currents.{forgotten_by}
use Rattle.rdm_model.specs.Heard.{head_by, heard_head, is_heard, entering}
use Rattle.rdm_model.specs.Matches.{arrival, events_by, merge}
use Rattle.rdm_model.specs.Lawful.{life_deeds, sent_to}
use Rattle.rdm_law.specs.Matched.{numbers_from, numbers_in, EnterInOrder}
use Rattle.rdm_law.proofs.Matching.Enters.{Reach, reach, entering_joins}
use Rattle.rdm_lists.proofs.Below.{length-below}
use Rattle.rdm_num.proofs.Lives.{same_life-true, same_life-refl}
use Rattle.rdm_lists.proofs.Options.{or_else-none}

-- the numbers of events in a row
numbers-append : (source : Life) (es fs : List Event) → numbers_from source (es ++ fs) ≡ numbers_from source es ++ numbers_from source fs
unfolding numbers_from
numbers-append source [] fs = refl
numbers-append source (Arrive a ∷ es) fs =
    let r = numbers-append source es fs in
    let here : List ℕ = cond (same_life a.life source) (a.no.0 ∷ []) [] in
    ap (λ (xs : List ℕ). here ++ xs) r ∙ sym (append_assoc here (numbers_from source es) (numbers_from source fs))
numbers-append source (Post r ∷ es) fs = numbers-append source es fs
numbers-append source (Cancel n ∷ es) fs = numbers-append source es fs
numbers-append source (Forget l ∷ es) fs = numbers-append source es fs

-- the arrivals of a life have its numbers
numbers_own : (heads : Heads) (from source : Life) (ns : List ℕ) → same_life from source ≡ true → numbers_from source (map (arrival heads from) ns) ≡ ns
unfolding numbers_from
numbers_own heads from source [] h = refl
numbers_own heads from source (n ∷ ns) h = let r = numbers_own heads from source ns h in rw (h, r) refl

-- those of another life have none
numbers_other : (heads : Heads) (from source : Life) (ns : List ℕ) → same_life from source ≡ false → numbers_from source (map (arrival heads from) ns) ≡ []
unfolding numbers_from
numbers_other heads from source [] h = refl
numbers_other heads from source (n ∷ ns) h = let r = numbers_other heads from source ns h in rw (h, r) refl

-- a life that is forgotten brings none
numbers_forgets : (source : Life) (lives : List Life) → numbers_from source (map Forget lives) ≡ []
unfolding numbers_from
numbers_forgets source [] = refl
numbers_forgets source (l ∷ ls) = numbers_forgets source ls

-- a deed that takes nothing of a life makes none of its messages heard of
not_heard_by : (source : Life) (d : Deed) → ((item : Item) → d ≡ Took source item → ⊥) → (n : ℕ) → head_by source n d ≡ None
unfolding head_by
not_heard_by source (Took from (Spelled (Rtm number tag confirm opt form))) no' n =
    (elim (same_life from source) as (λ b. same_life from source ≡ b → then_some (b && number.0 == n) (head_of tag confirm opt form) ≡ None) [
      | true ↦ λ is. absurd (no' (Spelled (Rtm number tag confirm opt form)) (ap (λ (x : Life). Took x (Spelled (Rtm number tag confirm opt form))) (same_life-true from source is)))
      | false ↦ λ is. refl
    ]) refl
not_heard_by source _ no' n = refl

-- a deed that takes nothing of a life leaves what was heard of it
same_heard : (source : Life) (d : Deed) (before : List Deed) → ((item : Item) → d ≡ Took source item → ⊥) → (n : ℕ) → is_heard (d ∷ before) source n ≡ is_heard before source n
unfolding is_heard heard_head
same_heard source d before no' n =
    let e = not_heard_by source d no' n in
    ap (λ o. is_some (or_else (heard_head before source n) o)) e ∙ ap (λ (o : Option _). is_some o) (or_else-none (heard_head before source n))

-- the reach of a log is one
reach_one : (first : ℕ) (log more : List Deed) (source : Life) (r : Reach first log source) (s : Reach first more source)
    → ((n : ℕ) → is_heard more source n ≡ is_heard log source n) → s.count ≡ r.count
reach_one first log more source r s same =
    elim (cases_lt s.count r.count) [
      | inl less ↦ (let a = r.heard s.count less in let b = s.stops in let c = same (first + s.count) in cc)
      | inr more' ↦ elim (cases_lt r.count s.count) [
        | inl less ↦ (let a = s.heard r.count less in let b = r.stops in let c = same (first + r.count) in cc)
        | inr other ↦ omega arith
      ]
    ]

-- lives that differ are not one
not_self : (from source : Life) → same_life from source ≡ false → from ≡ source → ⊥
not_self from source h e = let t = ap (λ (l : Life). same_life l source) e in let u = same_life-refl source in cc

-- nothing of a life enters by a deed that takes nothing of it
enters_none : (first : ℕ) (d : Deed) (before : List Deed) (source : Life) (r : Reach first before source) (s : Reach first (d ∷ before) source)
    → ((item : Item) → d ≡ Took source item → ⊥) → map (λ k. first + k) (below r.count) ++ [] ≡ map (λ k. first + k) (below s.count)
enters_none first d before source r s no' =
    let same = reach_one first before (d ∷ before) source r s (same_heard source d before no') in
    append-nil (map (λ k. first + k) (below r.count)) ∙ ap (λ x. map (λ k. first + k) (below x)) (sym same)

-- what enters by a deed, of the numbers of a life
enters : (first : ℕ) (heads : Heads) (d : Deed) (before : List Deed) (source : Life) (r : Reach first before source) (s : Reach first (d ∷ before) source)
    → map (λ k. first + k) (below r.count) ++ numbers_from source (events_by first heads before d) ≡ map (λ k. first + k) (below s.count)
unfolding events_by numbers_from
enters first heads (Took from item) before source r s =
    elim (cases_Bool (same_life from source)) [
      | inl is ↦
          let e = same_life-true from source is in
          let own = numbers_own heads from source (entering first (Took from item) before from) is in
          ap (λ (xs : List ℕ). map (λ k. first + k) (below r.count) ++ xs) (own ∙ ap (λ (l : Life). entering first (Took from item) before l) e)
          ∙ entering_joins first (Took from item) before source r s
      | inr other ↦
          let none = numbers_other heads from source (entering first (Took from item) before from) other in
          let same = reach_one first before (Took from item ∷ before) source r s
          (same_heard source (Took from item) before (λ x h. let e : from ≡ source = cc in not_self from source other e)) in
          ap (λ (xs : List ℕ). map (λ k. first + k) (below r.count) ++ xs) none ∙ append-nil (map (λ k. first + k) (below r.count)) ∙ ap (λ x. map (λ k. first + k) (below x)) (sym same)
    ]
enters first heads (Did (Recv req)) before source r s = enters_none first (Did (Recv req)) before source r s (λ item h. cc)
enters first heads (Did (CancelOp recv)) before source r s = enters_none first (Did (CancelOp recv)) before source r s (λ item h. cc)
enters first heads (Did (Insert life')) before source r s =
    ap (λ (xs : List ℕ). map (λ k. first + k) (below r.count) ++ xs) (numbers_forgets source (forgotten_by before (Did (Insert life'))))
    ∙ enters_none first (Did (Insert life')) before source r s (λ item h. cc)
enters first heads d before source r s = enters_none first d before source r s (λ item h. cc)

-- the numbers of a life that came to a matcher are in a row from the first one on
pub merged : (first : ℕ) (heads : Heads) (log : List Deed) (source : Life) (r : Reach first log source)
    → numbers_from source (merge first heads log) ≡ map (λ k. first + k) (below r.count)
unfolding merge numbers_from below
merged first heads [] source r = let w = r.within in let z : r.count ≡ 0 = omega arith in ap (λ x. map (λ k. first + k) (below x)) (sym z)
merged first heads (d ∷ before) source r =
    let was = reach first before source in
    let earlier = merged first heads before source was in
    numbers-append source (merge first heads before) (events_by first heads before d)
    ∙ ap (λ (xs : List ℕ). xs ++ numbers_from source (events_by first heads before d)) earlier ∙ enters first heads d before source was r

-- each sender's messages come to a matcher in the order of their sending
pub enter_in_order : (job : Job) (history : List Entry) → EnterInOrder job history
unfolding numbers_in
enter_in_order job history i j =
    let first = job.limits.first in
    let log = life_deeds job history i in
    let r = reach first log j in
    let m = merged first (sent_to job history i).head log j r in
    let l : length (numbers_from j (merge first (sent_to job history i).head log)) ≡ r.count =
    ap length m ∙ length-map (below r.count) (λ k. first + k) ∙ length-below r.count in
    m ∙ ap (λ x. map (λ k. first + k) (below x)) (sym l)
