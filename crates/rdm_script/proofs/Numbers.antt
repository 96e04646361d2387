-- The numbers and texts that are read are in their ranges.
use Rattle.std.proofs.Common.{◌≡◌, ℕ, true, List, Option, Some, None, Ok, refl}
use Rattle.std.specs.Prelude.{nat_le, option_and_then}
use Rattle.serde_json.specs.Data.{Data}
use Rattle.serde_json.specs.Find.{get, as_number, as_u64, as_str}
use Rattle.rdm_model.specs.Jobs.{is_u32, is_u64, is_within, len_max, option_fits}
use Rattle.rdm_json.specs.declared.refusal.Reason.TheVariants.{Shape, Limit}
use Rattle.rdm_json.specs.Results.{tested, present}
use Rattle.rdm_json.specs.Values.{number_of, text_of, are_bytes, value, number, text, optional, number_if_there, number_or}
use Rattle.rdm_script.specs.Fields.{number_in}
use Rattle.rdm_script.specs.Contents.{as_length}
use Rattle.rdm_script.specs.Ranges.{as_u32}
use Rattle.rdm_json.proofs.Chains.{gave, passed, tested_value}

pub number_of-fits : (d : Data) (n : ℕ) → number_of d ≡ Ok n → is_u64 n ≡ true
number_of-fits d n h =
    let (m, _, h) = gave (present Shape (option_and_then as_u64 (as_number d))) _ n h in
    tested_value Shape (λ n. is_u64 n) m n h

pub number-fits : (key : List ℕ) (d : Data) (n : ℕ) → number key d ≡ Ok n → is_u64 n ≡ true
number-fits key d n h = let (e, _, h) = gave (value key d) _ n h in number_of-fits e n h

number_if_there-fits : (found : Option Data) (o : Option ℕ) → number_if_there found ≡ Ok o → option_fits o ≡ true
unfolding option_fits
number_if_there-fits None None h = refl
number_if_there-fits None (Some n) h = cc
number_if_there-fits (Some d) None h = let (m, _, h) = gave (number_of d) _ None h in cc
number_if_there-fits (Some d) (Some n) h =
    let (m, e, h) = gave (number_of d) _ (Some n) h in
    let same : m ≡ n = cc in
    rw (← same) (number_of-fits d m e)

pub optional-fits : (key : List ℕ) (d : Data) (o : Option ℕ) → optional key d ≡ Ok o → option_fits o ≡ true
optional-fits key d o h = number_if_there-fits (get key d) o h

pub text_of-fits : (d : Data) (t : List ℕ) → text_of d ≡ Ok t → are_bytes t ≡ true
text_of-fits d t h =
    let (s, _, h) = gave (present Shape (as_str d)) _ t h in
    tested_value Shape (λ s. are_bytes s) s t h

pub text-fits : (key : List ℕ) (d : Data) (t : List ℕ) → text key d ≡ Ok t → are_bytes t ≡ true
text-fits key d t h = let (e, _, h) = gave (value key d) _ t h in text_of-fits e t h

pub as_u32-fits : (n m : ℕ) → as_u32 n ≡ Ok m → is_u32 m ≡ true
as_u32-fits n m h = tested_value Limit (λ n. is_u32 n) n m h

pub as_length-fits : (n m : ℕ) → as_length n ≡ Ok m → nat_le m len_max ≡ true
as_length-fits n m h = tested_value Limit (λ n. nat_le n len_max) n m h

pub as_length-same : (n m : ℕ) → as_length n ≡ Ok m → n ≡ m
as_length-same n m h = let (_, h) = passed (tested Limit (nat_le n len_max)) _ m h in cc

pub number_in-fits : (least greatest default : ℕ) (found : Option Data) (n : ℕ) → number_in least greatest default found ≡ Ok n → is_within least greatest n ≡ true
number_in-fits least greatest default found n h =
    let (m, _, h) = gave (number_or default found) _ n h in
    tested_value Limit (is_within least greatest) m n h
