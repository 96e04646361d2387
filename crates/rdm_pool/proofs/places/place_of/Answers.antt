use Rattle.std.proofs.Common.{rules}
use Rattle.std.proofs.lemmas.List.Sorted.{answers_always}
use Rattle.rdm_pool.proofs.Search.{searched}
use Rattle.rdm_pool.proofs.places.place_of.Goals as goal

-- the closure gives a place's number
pub returns : goal.returns
returns c =
    let facts = c.binary_search_by_key.ensures in
    let by_number = facts.position (λ place. place.number) (answers_always _ _ _ (λ f a r g called. search rules)) in
    rw c.ok.ensures.value (searched c.args.places.now c.requires c.args.id.0 _ facts.bound by_number)
