-- What is owed gives only the bytes of the sends that it names.
use Rattle.std.proofs.Common.{◌≡◌, ℕ, List, [], ◌∷◌, ◌++◌, Some, refl, ap, ap₂, inl}
use Rattle.rdm_lists.specs.Lists.{Member}
use Rattle.rdm_lists.proofs.Members.{member-append_left, member-append_right}
use Rattle.rdm_num.specs.declared.numbers.Life.{Life}
use Rattle.rdm_wire.specs.declared.ReadAsk.{ReadAsk}
use Rattle.rdm_model.specs.Beginnings.{Own}
use Rattle.rdm_model.specs.Replies.{Reply}
use Rattle.rdm_answers.specs.declared.answer.Answer.{Answer}
use Rattle.rdm_answers.specs.declared.answer.Answer.TheVariants as A
use Rattle.rdm_answers.specs.Answers.{BytesOf, given, replies_for}
use Rattle.rdm_answers.specs.Owing.{owed_in}
use Rattle.rdm_answers.specs.Laws.{OnlyGivenBytesCount}

-- the sends that these replies give bytes of have the same bytes
abbrev SameBytes : BytesOf → BytesOf → List Reply → Type 0
SameBytes before after rs = (r : Reply) (send : ℕ) → Member r rs → r.gives ≡ Some send → before send ≡ after send

-- an ask gives the same bytes
given_same : (before after : BytesOf) (to : Life) (ask : ReadAsk) → before ask.send_id.0 ≡ after ask.send_id.0 → given after to ask ≡ given before to ask
given_same before after to ask e = rw e refl

-- an answer goes out as the same
answer_same : (own : Own) (before after : BytesOf) (to : Life) (answer : Answer) → SameBytes before after (replies_for own before to answer)
    → replies_for own after to answer ≡ replies_for own before to answer
unfolding replies_for
answer_same own before after to (A.Greeting raw) h = refl
answer_same own before after to (A.Asks asks) h = refl
answer_same own before after to (A.Grant send recv size) h = refl
answer_same own before after to (A.End send recv) h = refl
answer_same own before after to (A.Receipt no') h = refl
answer_same own before after to (A.Given ask) h = ap (λ r. r ∷ []) (given_same before after to ask (h (given before to ask) ask.send_id.0 (inl refl) refl))

pub only_given_bytes_count : OnlyGivenBytesCount
unfolding owed_in
only_given_bytes_count own before after [] h = refl
only_given_bytes_count own before after (o ∷ os) h =
    ap₂ (λ xs ys. xs ++ ys)
    (answer_same own before after o.to o.answer (λ r send m g. h r send (member-append_left r (replies_for own before o.to o.answer) (owed_in own before os) m) g))
    (only_given_bytes_count own before after os (λ r send m g. h r send (member-append_right r (replies_for own before o.to o.answer) (owed_in own before os) m) g))
