-- What one answer goes out as.
use Rattle.std.proofs.Common.{◌≡◌, ℕ, ◌<◌, Bool, true, false, not, ◌||◌, List, [], ◌∷◌, length, map, drop, Some, None, refl, ap, inl, inr, sym, ◌∙◌, ◌==◌, nat_lt, arith, IsTrue}
use Rattle.std.proofs.lemmas.List.{drop-map, nil_from_length, length-map}
use Rattle.rdm_lists.specs.Lists.{Member}
use Rattle.rdm_lists.proofs.Filters.{filter_all, filter_nothing}
use Rattle.rdm_num.specs.Lives.{same_life}
use Rattle.rdm_num.specs.declared.numbers.Life.{Life}
use Rattle.rdm_wire.specs.declared.ReadAsk.{ReadAsk}
use Rattle.rdm_model.specs.Beginnings.{Own}
use Rattle.rdm_model.specs.Deeds.{Asks}
use Rattle.rdm_model.specs.Replies.{Reply, reply, without_lives}
use Rattle.rdm_rx.specs.declared.asks.Asks.{Asks as Left}
use Rattle.rdm_rx.specs.Left.{left}
use Rattle.rdm_answers.specs.declared.answer.Answer.{Answer}
use Rattle.rdm_answers.specs.declared.answer.Answer.TheVariants as A
use Rattle.rdm_answers.specs.Answers.{BytesOf, replies_for, replies_by, has_item, IsLeftOf}

-- asks go to the life that they are owed to
asks_to : (to : Life) (asks : List ReadAsk) (r : Reply) → Member r (map (λ (ask : ReadAsk). reply to (Asks ask)) asks) → r.to ≡ to
asks_to to [] r m = elim m [ ]
asks_to to (ask ∷ asks) r (inl e) = ap (λ (x : Reply). x.to) (sym e)
asks_to to (ask ∷ asks) r (inr m) = asks_to to asks r m

-- one thing goes to the life that it is owed to
one_to : (to : Life) (x r : Reply) → x.to ≡ to → Member r (x ∷ []) → r.to ≡ to
one_to to x r h (inl e) = ap (λ (y : Reply). y.to) (sym e) ∙ h
one_to to x r h (inr m) = elim m [ ]

-- an answer goes to the life that it is owed to
pub answer_to : (own : Own) (bytes_of : BytesOf) (to : Life) (answer : Answer) (r : Reply) → Member r (replies_for own bytes_of to answer) → r.to ≡ to
unfolding replies_for
answer_to own bytes_of to (A.Greeting raw) r m = one_to to _ r refl m
answer_to own bytes_of to (A.Asks asks) r m = asks_to to (left asks) r m
answer_to own bytes_of to (A.Grant send recv size) r m = one_to to _ r refl m
answer_to own bytes_of to (A.End send recv) r m = one_to to _ r refl m
answer_to own bytes_of to (A.Receipt no') r m = one_to to _ r refl m
answer_to own bytes_of to (A.Given ask) r m = one_to to _ r refl m

-- a test that is another one
test_is : (b c : Bool) → b ≡ c → not (b || false) ≡ not c
test_is b c e = rw e (elim c as (λ d. not (d || false) ≡ not d) [ true ↦ refl | false ↦ refl ])

-- an answer to another life stays
pub answer_stays : (own : Own) (bytes_of : BytesOf) (to life : Life) (answer : Answer) → same_life to life ≡ false
    → without_lives (life ∷ []) (replies_for own bytes_of to answer) ≡ replies_for own bytes_of to answer
unfolding without_lives
answer_stays own bytes_of to life answer h =
    filter_all _ (replies_for own bytes_of to answer) (λ r m. test_is _ false (ap (λ (x : Life). same_life x life) (answer_to own bytes_of to answer r m) ∙ h))

-- an answer to that life goes
pub answer_goes : (own : Own) (bytes_of : BytesOf) (to life : Life) (answer : Answer) → same_life to life ≡ true
    → without_lives (life ∷ []) (replies_for own bytes_of to answer) ≡ []
unfolding without_lives
answer_goes own bytes_of to life answer h =
    filter_nothing _ (replies_for own bytes_of to answer) (λ r m. test_is _ true (ap (λ (x : Life). same_life x life) (answer_to own bytes_of to answer r m) ∙ h))

-- a number that is not 0 is more
more_than_0 : (n : ℕ) → (n == 0) ≡ false → nat_lt 0 n ≡ true
more_than_0 n h = grind arith

-- so is one that is more
more_from : (n : ℕ) → 0 < n → nat_lt 0 n ≡ true
more_from n h = grind arith

-- more than 0
pub less_from : (n : ℕ) → nat_lt 0 n ≡ true → 0 < n
less_from n h = grind arith

-- an answer goes out as one thing at least
pub some_item : (own : Own) (bytes_of : BytesOf) (to : Life) (answer : Answer) → IsTrue (has_item answer) → 0 < length (replies_for own bytes_of to answer)
unfolding replies_for has_item
some_item own bytes_of to (A.Greeting raw) h = omega arith
some_item own bytes_of to (A.Asks asks) h = let l = less_from _ h in let m = length-map (left asks) (λ (ask : ReadAsk). reply to (Asks ask)) in omega arith
some_item own bytes_of to (A.Grant send recv size) h = omega arith
some_item own bytes_of to (A.End send recv) h = omega arith
some_item own bytes_of to (A.Receipt no') h = omega arith
some_item own bytes_of to (A.Given ask) h = omega arith

-- no asks are left once the last went out
pub asks_gone : (old new : Left) (done : Bool) → left new ≡ drop 1 (left old) → done ≡ (length (left new) == 0) → done ≡ true → IsLeftOf (A.Asks old) None
unfolding replies_for replies_by
asks_gone old new done e d t own bytes_of to =
    let n : left new ≡ [] = nil_from_length (left new) (grind arith) in
    sym (drop-map (λ (ask : ReadAsk). reply to (Asks ask)) 1 (left old) ∙ ap (λ xs. map (λ (ask : ReadAsk). reply to (Asks ask)) xs) (sym e ∙ n))

-- the others are left once the first ask went out
pub asks_left : (old new : Left) → left new ≡ drop 1 (left old) → IsLeftOf (A.Asks old) (Some (A.Asks new))
unfolding replies_for replies_by
asks_left old new e own bytes_of to =
    sym (drop-map (λ (ask : ReadAsk). reply to (Asks ask)) 1 (left old) ∙ ap (λ xs. map (λ (ask : ReadAsk). reply to (Asks ask)) xs) (sym e))

-- some are left where not all went out
pub asks_there : (new : Left) (done : Bool) → done ≡ (length (left new) == 0) → done ≡ false → IsTrue (has_item (A.Asks new))
unfolding has_item
asks_there new done d f = more_than_0 _ (sym d ∙ f)

-- all else goes out at once
pub all_at_once : (answer : Answer) → ((asks : Left) → answer ≡ A.Asks asks → ⊥) → IsLeftOf answer None
unfolding replies_for replies_by
all_at_once (A.Asks asks) h own bytes_of to = absurd (h asks refl)
all_at_once (A.Greeting raw) h own bytes_of to = refl
all_at_once (A.Grant send recv size) h own bytes_of to = refl
all_at_once (A.End send recv) h own bytes_of to = refl
all_at_once (A.Receipt no') h own bytes_of to = refl
all_at_once (A.Given ask) h own bytes_of to = refl

-- asks have an item where one is left
pub some_left : (asks : Left) → 0 < length (left asks) → IsTrue (has_item (A.Asks asks))
unfolding has_item
some_left asks h = more_from _ h
