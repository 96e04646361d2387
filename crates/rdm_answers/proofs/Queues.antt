-- What a queue of answers goes out as.
use Rattle.std.proofs.Common.{◌≡◌, ℕ, ◌<◌, Bool, true, false, not, ◌&&◌, List, [], ◌∷◌, ◌++◌, length, drop, filter, Option, Some, None, slice_get, refl, ap, sym, ◌∙◌, cond, arith, IsTrue, IfOk, Result, Ok, Err, append-nil}
use Rattle.std.specs.declared.alloc.AllocError.{AllocError}
use Rattle.std.proofs.lemmas.Grind.{flat_map-append}
use Rattle.std.proofs.lemmas.List.Elements.{filter-append}
use Rattle.rdm_num.specs.Lives.{same_life}
use Rattle.rdm_num.specs.declared.numbers.Connid.{Connid}
use Rattle.rdm_num.specs.declared.numbers.Life.{Life}
use Rattle.rdm_model.specs.Beginnings.{Own}
use Rattle.rdm_model.specs.Replies.{Reply, without_lives}
use Rattle.rdm_owed.specs.declared.Owed.{Owed}
use Rattle.rdm_owed.specs.Owing.{first_left}
use Rattle.rdm_answers.specs.declared.answer.Answer.{Answer}
use Rattle.rdm_answers.specs.declared.answer.First.{First}
use Rattle.rdm_answers.specs.Answers.{BytesOf, replies_for, replies_by, has_item, IsFirst, IsFirstOf, IsLeftOf}
use Rattle.rdm_answers.specs.Owing.{owed_in, have_items, Becomes}
use Rattle.rdm_answers.proofs.Singles.{answer_stays, answer_goes, some_item}

-- one answer more goes out after the others
pub owed_after : (own : Own) (bytes_of : BytesOf) (owed : List (Owed Answer)) (o : Owed Answer)
    → owed_in own bytes_of (owed ++ o ∷ []) ≡ owed_in own bytes_of owed ++ replies_for own bytes_of o.to o.answer
unfolding owed_in
owed_after own bytes_of owed o =
    flat_map-append (λ (x : Owed Answer). replies_for own bytes_of x.to x.answer) owed (o ∷ [])
    ∙ ap (λ rs. owed_in own bytes_of owed ++ rs) (append-nil _)

-- what joins two lists of replies
without_both : (life : Life) (xs ys : List Reply) → without_lives (life ∷ []) (xs ++ ys) ≡ without_lives (life ∷ []) xs ++ without_lives (life ∷ []) ys
unfolding without_lives
without_both life xs ys = filter-append _ xs ys

-- without the answers to a life, nothing is owed to it
pub owed_without : (own : Own) (bytes_of : BytesOf) (life : Life) (owed : List (Owed Answer))
    → owed_in own bytes_of (filter (λ (a : Owed Answer). not (same_life a.to life)) owed) ≡ without_lives (life ∷ []) (owed_in own bytes_of owed)
unfolding owed_in without_lives
owed_without own bytes_of life [] = refl
owed_without own bytes_of life (o ∷ os) =
    let rest = owed_without own bytes_of life os in
    let both = without_both life (replies_for own bytes_of o.to o.answer) (owed_in own bytes_of os) in
    let goes = answer_goes own bytes_of o.to life o.answer in
    let stays = answer_stays own bytes_of o.to life o.answer in
    elim (same_life o.to life) as (λ b. same_life o.to life ≡ b
    → owed_in own bytes_of (cond (not b) (o ∷ filter (λ (a : Owed Answer). not (same_life a.to life)) os) (filter (λ (a : Owed Answer). not (same_life a.to life)) os))
    ≡ without_lives (life ∷ []) (replies_for own bytes_of o.to o.answer ++ owed_in own bytes_of os)) [
      | true ↦ λ e. rest ∙ ap (λ xs. xs ++ without_lives (life ∷ []) (owed_in own bytes_of os)) (sym (goes e)) ∙ sym both
      | false ↦ λ e. ap (λ rs. replies_for own bytes_of o.to o.answer ++ rs) rest ∙ ap (λ xs. xs ++ without_lives (life ∷ []) (owed_in own bytes_of os)) (sym (stays e)) ∙ sym both
    ] refl

-- both of two tests hold
both_true : (a b : Bool) → (a && b) ≡ true → (a ≡ true) × (b ≡ true)
both_true true b h = (refl, h)
both_true false b h = cc

-- a part of them has items where all have
pub items_without : (test : Owed Answer → Bool) (owed : List (Owed Answer)) → IsTrue (have_items owed) → IsTrue (have_items (filter test owed))
items_without test [] h = refl
items_without test (o ∷ os) h =
    let rest : IsTrue (have_items (filter test os)) = items_without test os (both_true _ _ h).1 in
    let one : has_item o.answer ≡ true = (both_true _ _ h).0 in
    elim (test o) as (λ b. IsTrue (have_items (cond b (o ∷ filter test os) (filter test os)))) [ true ↦ rw one rest | false ↦ rest ]

-- one that has an item stands behind others that have
pub items_after : (owed : List (Owed Answer)) (o : Owed Answer) → IsTrue (have_items owed) → IsTrue (has_item o.answer) → IsTrue (have_items (owed ++ o ∷ []))
items_after [] o h i = rw i refl
items_after (x ∷ xs) o h i = let b = both_true _ _ h in let one : has_item x.answer ≡ true = b.0 in rw one (items_after xs o b.1 i)

-- ---- the first

-- the first of two lists is that of the first one
first_joined : {A : Type 0} (xs ys : List A) → 0 < length xs → slice_get (xs ++ ys) 0 ≡ slice_get xs 0
first_joined [] ys h = absurd (omega arith)
first_joined (x ∷ xs) ys h = refl

-- what follows it
rest_joined : {A : Type 0} (xs ys : List A) → 0 < length xs → drop 1 (xs ++ ys) ≡ drop 1 xs ++ ys
rest_joined [] ys h = absurd (omega arith)
rest_joined (x ∷ xs) ys h = refl

-- what goes out first of a queue does so of its first answer
pub first_owed : (own : Own) (bytes_of : BytesOf) (owed : List (Owed Answer)) (o : Owed Answer) → slice_get owed 0 ≡ Some o → IsTrue (have_items owed)
    → slice_get (owed_in own bytes_of owed) 0 ≡ slice_get (replies_for own bytes_of o.to o.answer) 0
unfolding owed_in
first_owed own bytes_of [] o e h = cc
first_owed own bytes_of (x ∷ xs) o e h =
    let i : x ≡ o = cc in
    let some = some_item own bytes_of x.to x.answer (both_true _ _ h).0 in
    first_joined _ _ some ∙ ap (λ (y : Owed Answer). slice_get (replies_for own bytes_of y.to y.answer) 0) i

-- where no answer is first, nothing is owed
pub nothing_owed : (own : Own) (bytes_of : BytesOf) (owed : List (Owed Answer)) → slice_get owed 0 ≡ None → owed_in own bytes_of owed ≡ []
unfolding owed_in
nothing_owed own bytes_of [] e = refl
nothing_owed own bytes_of (x ∷ xs) e = cc

-- the first of a queue went out, of whose first answer nothing is left
pub sent_whole : (owed new : List (Owed Answer)) (o : Owed Answer) → slice_get owed 0 ≡ Some o → IsTrue (have_items owed) → IsLeftOf o.answer None → new ≡ drop 1 owed
    → IsTrue (have_items new) × Becomes owed new (λ own bytes_of before. drop 1 before)
unfolding owed_in replies_by
sent_whole [] new o e h l n = cc
sent_whole (x ∷ xs) new o e h l n =
    let i : x ≡ o = cc in
    let m : new ≡ xs = n in
    let b = both_true _ _ h in
    let others = b.1 in (
      rw m others,
      λ own bytes_of.
          let some = some_item own bytes_of x.to x.answer b.0 in
          let gone : [] ≡ drop 1 (replies_for own bytes_of x.to x.answer) = l own bytes_of x.to ∙ ap (λ (y : Owed Answer). drop 1 (replies_for own bytes_of x.to y.answer)) (sym i) in
          ap (owed_in own bytes_of) m ∙ ap (λ rs. rs ++ owed_in own bytes_of xs) gone ∙ sym (rest_joined _ _ some),
    )

-- the first of a queue went out, of whose first answer that is left
pub sent_part : (owed new : List (Owed Answer)) (o : Owed Answer) (answer : Answer) → slice_get owed 0 ≡ Some o → IsTrue (have_items owed) → IsLeftOf o.answer (Some answer)
    → IsTrue (has_item answer) → new ≡ first_left owed answer
    → IsTrue (have_items new) × Becomes owed new (λ own bytes_of before. drop 1 before)
unfolding owed_in replies_by first_left
sent_part [] new o answer e h l t n = cc
sent_part (x ∷ xs) new o answer e h l t n =
    let i : x ≡ o = cc in
    let m : new ≡ record { to = x.to; answer = answer } ∷ xs = n in
    let b = both_true _ _ h in
    let others = b.1 in (
      rw (m, t) others,
      λ own bytes_of.
          let some = some_item own bytes_of x.to x.answer b.0 in
          let left' : replies_for own bytes_of x.to answer ≡ drop 1 (replies_for own bytes_of x.to x.answer) =
          l own bytes_of x.to ∙ ap (λ (y : Owed Answer). drop 1 (replies_for own bytes_of x.to y.answer)) (sym i) in
          ap (owed_in own bytes_of) m ∙ ap (λ rs. rs ++ owed_in own bytes_of xs) left' ∙ sym (rest_joined _ _ some),
    )

-- where no answer is first, none went out
pub none_sent : (owed : List (Owed Answer)) (first : Option (Owed Answer)) → first ≡ slice_get owed 0 → ((o : Owed Answer) → first ≡ Some o → ⊥)
    → Becomes owed owed (λ own bytes_of before. drop 1 before)
unfolding owed_in
none_sent [] first e n own bytes_of = refl
none_sent (x ∷ xs) first e n own bytes_of = absurd (n x e)

-- ---- the first as it goes out

-- what leads the first answer leads the queue
pub leads_owed : (connid : Connid) (features : ℕ) (inside owed : List (Owed Answer)) (o : Owed Answer) (result : Result (Option First) AllocError) → inside ≡ owed
    → slice_get inside 0 ≡ Some o → IsTrue (have_items inside) → IfOk result (λ first. IsFirstOf connid features o first)
    → IfOk result (λ first. IsFirst connid features first (λ own bytes_of. owed_in own bytes_of owed))
leads_owed connid features inside owed o (Ok first) v e h f = λ own bytes_of a b. f own bytes_of a b ∙ sym (first_owed own bytes_of inside o e h) ∙ ap (λ os. slice_get (owed_in own bytes_of os) 0) v
leads_owed connid features inside owed o (Err error) v e h f = f

-- nothing leads where there is no answer
pub none_leads : (connid : Connid) (features : ℕ) (inside owed : List (Owed Answer)) → inside ≡ owed → slice_get inside 0 ≡ None
    → IsFirst connid features None (λ own bytes_of. owed_in own bytes_of owed)
none_leads connid features inside owed v e own bytes_of a b =
    ap (λ rs. slice_get rs 0) (sym (nothing_owed own bytes_of inside e)) ∙ ap (λ os. slice_get (owed_in own bytes_of os) 0) v
