-- How the numbers and bytes of a row of fields are read back.
use Rattle.std.proofs.Common.{◌≡◌, ℕ, ◌+◌, ◌*◌, ◌%◌, ◌^◌, ◌<◌, true, List, [], ◌∷◌, ◌++◌, length, map, drop, refl, sym, ap, ◌∙◌, arith, subst}
use Rattle.std.specs.Prelude.{nat_lt}
use Rattle.std.specs.List.{list_all}
use Rattle.std.proofs.lemmas.Bool.{and_parts, ltb-true}
use Rattle.std.proofs.lemmas.List.{append-nil, drop-drop, drop_at}
use Rattle.std.proofs.Math.Nat.{mod-eq_of_lt, div-one}
use Rattle.byteorder.specs.Endian.{little_bytes, little_number}
use Rattle.byteorder.specs.Numbers.{little_from-bytes, length-bytes_low_first}
use Rattle.rdm_pkt.specs.Reading.{words_at}
use Rattle.rdm_hdr.specs.Fields.{Field, Number, Data, field_bytes, field_fits, fields_bytes, fields_fit, number_at}

-- from a place on, the bytes are those of the fields, and each field fits
pub record At (place : ℕ) (bytes : List ℕ) (fields : List Field) : Type 0 where
  pub stands : drop place bytes ≡ fields_bytes fields
  pub fit : fields_fit fields ≡ true

-- a number in its bytes is read back
number_back : (size value : ℕ) (rest : List ℕ) → value < 256 ^ size → little_number size (little_bytes size value ++ rest) ≡ value
number_back size value rest h = little_from-bytes size 0 value rest ∙ ap (λ (x : ℕ). x % 256 ^ size) (div-one value) ∙ mod-eq_of_lt h

-- the bytes after the first ones
drop_more : (m n : ℕ) (xs front rest : List ℕ) → drop m xs ≡ front ++ rest → length front ≡ n → drop (m + n) xs ≡ rest
drop_more m n xs front rest h e = sym (drop-drop n m xs) ∙ ap (drop n) h ∙ drop_at front rest n e

-- the number that stands first is read, and the other fields stand after it
pub at_number : (place size value : ℕ) (bytes : List ℕ) (rest : List Field) → At place bytes (Number size value ∷ rest)
    → (number_at place size bytes ≡ value) × At (place + size) bytes rest
unfolding number_at fields_bytes fields_fit field_bytes field_fits
at_number place size value bytes rest a =
    let parts = and_parts (nat_lt value (256 ^ size)) (list_all field_fits rest) a.fit in (
      ap (little_number size) a.stands ∙ number_back size value (fields_bytes rest) (ltb-true value (256 ^ size) parts.0),
      record { stands = drop_more place size bytes (little_bytes size value) (fields_bytes rest) a.stands (length-bytes_low_first 0 size value); fit = parts.1 },
    )

-- bytes that stand last are read
pub at_data : (place : ℕ) (bytes data' : List ℕ) → At place bytes (Data data' ∷ []) → drop place bytes ≡ data'
unfolding fields_bytes field_bytes
at_data place bytes data' a = a.stands ∙ append-nil data'

-- the bytes of a row of fields begin at 0
pub at_start : (bytes : List ℕ) (fields : List Field) → fields_fit fields ≡ true → bytes ≡ fields_bytes fields → At 0 bytes fields
at_start bytes fields fit is = record { stands = is; fit = fit }

-- the same place, written in another way
pub at_place : (m n : ℕ) (bytes : List ℕ) (fields : List Field) → m ≡ n → At m bytes fields → At n bytes fields
at_place m n bytes fields e a = subst (λ (k : ℕ). At k bytes fields) e a

-- so many words are read, and the other fields stand after them
pub at_words : (place : ℕ) (words : List ℕ) (bytes : List ℕ) (rest : List Field) → At place bytes (map (Number 8) words ++ rest)
    → (words_at place (length words) bytes ≡ words) × At (place + 8 * length words) bytes rest
unfolding words_at
at_words place [] bytes rest a = (refl, at_place place (place + 8 * length {A = ℕ} []) bytes rest (omega arith) a)
at_words place (w ∷ ws) bytes rest a =
    let first = at_number place 8 w bytes (map (Number 8) ws ++ rest) a in
    let others = at_words (place + 8) ws bytes rest first.1 in
    (rw (first.0, others.0) refl, at_place (place + 8 + 8 * length ws) (place + 8 * length (w ∷ ws)) bytes rest (omega arith) others.1)
