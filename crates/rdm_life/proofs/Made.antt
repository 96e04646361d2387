-- The pairs that a deed makes, and what follows from it for what is kept: statements that several proofs stand on.
use Rattle.std.proofs.Common.{◌≡◌, List, [], ◌∷◌, ◌++◌}
use Rattle.rdm_match.specs.Matcher.{Matching, Pair, run}
use Rattle.rdm_model.specs.Beginnings.{Own}
use Rattle.rdm_model.specs.Deeds.{Deed}
use Rattle.rdm_model.specs.Matches.{events_by}
use Rattle.rdm_life.specs.Kept.{Kept}
use Rattle.rdm_life.specs.Keeps.{told, own_matching, own_pairs}
use Rattle.rdm_life.specs.Landing.{meet}

-- the matcher's lists before a deed, with no pair
abbrev pub lists_before : Own → List Deed → Matching
lists_before own before = record (own_matching own before) { pairs = [] }

-- the pairs that a deed makes
abbrev pub made : Own → Deed → List Deed → List Pair
made own d before = (run (lists_before own before) (events_by own.limits.first (told own (d ∷ before)).head before d)).pairs

-- pairs are only added: those before, and those that the deed makes
abbrev pub PairsAdded : Own → Deed → List Deed → Type 0
PairsAdded own d before = own_pairs own (d ∷ before) ≡ own_pairs own before ++ made own d before

-- the matcher's lists are those after the deed, and the pairs that it made meet
abbrev pub matched_after : Own → Deed → List Deed → Kept → Kept
matched_after own d before v =
    meet (made own d before) (record v { posted = (own_matching own (d ∷ before)).posted; arrived = (own_matching own (d ∷ before)).arrived })
