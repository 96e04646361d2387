-- What a queue of answers goes out as.
use Rattle.std.specs.Prelude.{◌≡◌, Bool, List, flat_map}
use Rattle.std.specs.List.{list_all}
use Rattle.rdm_model.specs.Beginnings.{Own}
use Rattle.rdm_model.specs.Replies.{Reply}
use Rattle.rdm_owed.specs.declared.Owed.{Owed}
use Rattle.rdm_answers.specs.declared.answer.Answer.{Answer}
use Rattle.rdm_answers.specs.Answers.{BytesOf, replies_for, has_item}

-- what all of them go out as, in order: what the life owes, where those are the bytes of its sends
unfoldable pub owed_in : Own → BytesOf → List (Owed Answer) → List Reply
owed_in own bytes_of owed = flat_map (λ (o : Owed Answer). replies_for own bytes_of o.to o.answer) owed

-- something of each has to go out
abbrev pub have_items : List (Owed Answer) → Bool
have_items owed = list_all (λ (o : Owed Answer). has_item o.answer) owed

-- whichever life owes it, and whatever the bytes of its sends are, what is owed is changed so
abbrev pub Becomes : (old new : List (Owed Answer)) → (Own → BytesOf → List Reply → List Reply) → Type 0
Becomes old new change = (own : Own) (bytes_of : BytesOf) → owed_in own bytes_of new ≡ change own bytes_of (owed_in own bytes_of old)
