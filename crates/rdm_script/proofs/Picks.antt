-- The choices that are read are of ranks.
use Rattle.std.proofs.Common.{◌≡◌, ℕ, suc, ◌+◌, Bool, true, false, List, [], ◌∷◌, length, codes, Result, Ok, refl, ap, if◌then◌else◌}
use Rattle.std.specs.Prelude.{nat_lt, bytes_eq}
use Rattle.std.specs.List.{list_all}
use Rattle.std.proofs.lemmas.Bool.{and_from}
use Rattle.serde_json.specs.Data.{Data}
use Rattle.rdm_model.specs.declared.job.Choice.{Choice}
use Rattle.rdm_model.specs.declared.job.Choice.TheVariants as choice
use Rattle.rdm_model.specs.Jobs.{choice_rank}
use Rattle.rdm_json.specs.declared.place.Place.TheVariants as place
use Rattle.rdm_json.specs.declared.refusal.BadScript.{BadScript}
use Rattle.rdm_json.specs.declared.refusal.Reason.{Reason}
use Rattle.rdm_json.specs.declared.refusal.Reason.TheVariants.{NoRank}
use Rattle.rdm_json.specs.Results.{◌>>=◌, placed}
use Rattle.rdm_json.specs.Values.{array_of, text_of, number_of}
use Rattle.rdm_script.specs.Choices.{as_rank, eager_choice, picking_choice, choice_in, choice_of, choices_of}
use Rattle.rdm_json.proofs.Chains.{gave, unplaced, tested_value, given}

-- a choice made of a rank is of a rank
made_of : (ports rank : ℕ) (make : ℕ → Choice) → ((r : ℕ) → choice_rank (make r) ≡ r) → (c : Choice) → (as_rank ports rank >>= λ r. Ok (make r)) ≡ Ok c → nat_lt (choice_rank c) ports ≡ true
made_of ports rank make of c h =
    let (r, read, h) = gave (as_rank ports rank) _ c h in
    let is = given {E = Reason} (make r) c h in
    rw (← is, of r) (tested_value NoRank (λ r. nat_lt r ports) rank r read)

-- a choice of two results, each of which is of a rank where it is given
chosen : (b : Bool) (ports : ℕ) (r s : Result Choice Reason) (c : Choice) → (r ≡ Ok c → nat_lt (choice_rank c) ports ≡ true) → (s ≡ Ok c → nat_lt (choice_rank c) ports ≡ true)
    → (if b then r else s) ≡ Ok c → nat_lt (choice_rank c) ports ≡ true
chosen true ports r s c p q h = p h
chosen false ports r s c p q h = q h

eager_choice-fits : (ports : ℕ) (word : List ℕ) (rank : ℕ) (c : Choice) → eager_choice ports word rank ≡ Ok c → nat_lt (choice_rank c) ports ≡ true
unfolding choice_rank
eager_choice-fits ports word rank c =
    chosen (bytes_eq word (codes "next")) ports _ _ c (made_of ports rank choice.Next (λ r. refl) c)
    (chosen (bytes_eq word (codes "push")) ports _ _ c (made_of ports rank choice.Push (λ r. refl) c)
    (chosen (bytes_eq word (codes "poll")) ports _ _ c (made_of ports rank choice.Poll (λ r. refl) c) (λ h. cc)))

picking_choice-fits : (ports : ℕ) (word : List ℕ) (rank pick : ℕ) (c : Choice) → picking_choice ports word rank pick ≡ Ok c → nat_lt (choice_rank c) ports ≡ true
unfolding choice_rank
picking_choice-fits ports word rank pick c = chosen (bytes_eq word (codes "handle")) ports _ _ c (made_of ports rank (λ r. choice.Handle r pick) (λ r. refl) c) (λ h. cc)

choice_in-fits : (ports : ℕ) (ds : List Data) (c : Choice) → choice_in ports ds ≡ Ok c → nat_lt (choice_rank c) ports ≡ true
choice_in-fits ports [] c h = cc
choice_in-fits ports (word ∷ []) c h = cc
choice_in-fits ports (word ∷ rank ∷ []) c h =
    let (w, _, h) = gave (text_of word) _ c h in
    let (r, _, h) = gave (number_of rank) _ c h in
    eager_choice-fits ports w r c h
choice_in-fits ports (word ∷ rank ∷ pick ∷ []) c h =
    let (w, _, h) = gave (text_of word) _ c h in
    let (r, _, h) = gave (number_of rank) _ c h in
    let (p, _, h) = gave (number_of pick) _ c h in
    picking_choice-fits ports w r p c h
choice_in-fits ports (word ∷ rank ∷ pick ∷ more ∷ ds) c h = cc

choice_of-fits : (ports : ℕ) (d : Data) (c : Choice) → choice_of ports d ≡ Ok c → nat_lt (choice_rank c) ports ≡ true
choice_of-fits ports d c h = let (ds, _, h) = gave (array_of d) _ c h in choice_in-fits ports ds c h

-- as many choices as values, each of a rank
pub record ChoicesFit (ports : ℕ) (ds : List Data) (cs : List Choice) : Type 0 where
  pub count : length cs ≡ length ds
  pub fits : list_all (λ c. nat_lt (choice_rank c) ports) cs ≡ true

pub choices_of-fits : (index ports : ℕ) (ds : List Data) (cs : List Choice) → choices_of index ports ds ≡ Ok cs → ChoicesFit ports ds cs
choices_of-fits index ports [] cs h = let none = given {E = BadScript} [] cs h in rw (← none) (record { count = refl; fits = refl })
choices_of-fits index ports (d ∷ ds) cs h =
    let (c, read, h) = gave (placed (place.Choice index) (choice_of ports d)) _ cs h in
    let (more, rest, h) = gave (choices_of (index + 1) ports ds) _ cs h in
    let all = given {E = BadScript} (c ∷ more) cs h in
    let others = choices_of-fits (index + 1) ports ds more rest in
    rw (← all) (record { count = ap suc others.count; fits = and_from _ _ (choice_of-fits ports d c (unplaced _ _ c read)) others.fits })
