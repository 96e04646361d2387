-- The contents that are read are bytes, and no region is too long.
use Rattle.std.proofs.Common.{◌≡◌, ◌<◌, ℕ, zero, suc, ◌+◌, ◌*◌, ◌/◌, ◌%◌, Bool, true, false, ◌&&◌, List, [], ◌∷◌, length, replicate, codes, Result, Ok, refl, arith, if◌then◌else◌}
use Rattle.std.specs.Prelude.{nat_lt, nat_le}
use Rattle.std.proofs.lemmas.Bool.{and_from, and_parts, lt-ltb, leb-true}
use Rattle.std.proofs.lemmas.List.{length-replicate}
use Rattle.serde_json.specs.Data.{Data}
use Rattle.rdm_model.specs.Jobs.{len_max}
use Rattle.rdm_json.specs.declared.refusal.Reason.{Reason}
use Rattle.rdm_json.specs.declared.refusal.Reason.TheVariants.{Shape, Limit}
use Rattle.rdm_json.specs.declared.value.Form.TheVariants.{RegText, RegHex, RegZero, RegFill}
use Rattle.rdm_json.specs.Results.{tested}
use Rattle.rdm_json.specs.Values.{are_bytes, text, number, array, number_of, keys_known}
use Rattle.rdm_script.specs.Contents.{hex_value, hex_bytes, is_hex, fill_bytes, as_length, text_content, hex_content, zero_content, fill_of, fill_parts, fill_content, content_of}
use Rattle.rdm_json.proofs.Chains.{gave, passed}
use Rattle.rdm_script.proofs.Numbers.{text-fits, as_length-fits, as_length-same}
use Rattle.rdm_script.proofs.Lengths.{length-hex_bytes, length-fill_bytes}

-- a content of a region
pub record IsContent (content : List ℕ) : Type 0 where
  pub short : nat_le (length content) len_max ≡ true
  pub bytes : are_bytes content ≡ true

byte : (n : ℕ) → n < 256 → nat_lt n 256 ≡ true
byte n h = lt-ltb n 256 h

-- where a choice is below 16 on both sides, it is below 16
below_16 : (b : Bool) (m n : ℕ) → (b ≡ true → m < 16) → n < 16 → (if b then m else n) < 16
below_16 true m n h k = h refl
below_16 false m n h k = k

hex_value-below : (c : ℕ) → hex_value c < 16
hex_value-below c =
    below_16 (nat_le 48 c && nat_le c 57) _ _ (λ h. let p = and_parts _ _ h in omega (arith, leb-true 48 c p.0, leb-true c 57 p.1))
    (below_16 (nat_le 65 c && nat_le c 70) _ _ (λ h. let p = and_parts _ _ h in omega (arith, leb-true 65 c p.0, leb-true c 70 p.1))
    (below_16 (nat_le 97 c && nat_le c 102) _ _ (λ h. let p = and_parts _ _ h in omega (arith, leb-true 97 c p.0, leb-true c 102 p.1)) (omega arith)))

hex_bytes-are_bytes : (digits : List ℕ) → are_bytes (hex_bytes digits) ≡ true
unfolding hex_bytes
hex_bytes-are_bytes [] = refl
hex_bytes-are_bytes (high ∷ []) = refl
hex_bytes-are_bytes (high ∷ low ∷ rest) =
    let h : hex_value high < 16 = hex_value-below high in
    let l : hex_value low < 16 = hex_value-below low in
    and_from _ _ (two_digits (hex_value high) (hex_value low) h l) (hex_bytes-are_bytes rest)
  where
    two_digits : (h l : ℕ) → h < 16 → l < 16 → nat_lt (h * 16 + l) 256 ≡ true
    two_digits h l p q = lt-ltb (h * 16 + l) 256 (omega (arith, p, q))

replicate-are_bytes : (n : ℕ) → are_bytes (replicate n 0) ≡ true
replicate-are_bytes zero = refl
replicate-are_bytes (suc n) = replicate-are_bytes n

fill_bytes-are_bytes : (seed place count : ℕ) → are_bytes (fill_bytes seed place count) ≡ true
unfolding fill_bytes
fill_bytes-are_bytes seed place zero = refl
fill_bytes-are_bytes seed place (suc count) =
    and_from _ _ (rest_of_256 (seed + place + place / 251)) (fill_bytes-are_bytes seed (place + 1) count)
  where
    rest_of_256 : (n : ℕ) → nat_lt (n % 256) 256 ≡ true
    rest_of_256 n = lt-ltb (n % 256) 256 (omega arith)

text_content-is : (d : Data) (content : List ℕ) → text_content d ≡ Ok content → IsContent content
text_content-is d content h =
    let (bytes, t, h) = gave (text (codes "text") d) _ content h in
    let (len, l, h) = gave (as_length (length bytes)) _ content h in
    let same : bytes ≡ content = cc in
    let long : length bytes ≡ len = as_length-same (length bytes) len l in
    rw (← same) (record { short = rw long (as_length-fits (length bytes) len l); bytes = text-fits (codes "text") d bytes t })

hex_content-is : (d : Data) (content : List ℕ) → hex_content d ≡ Ok content → IsContent content
hex_content-is d content h =
    let (digits, _, h) = gave (text (codes "hex") d) _ content h in
    let (_, h) = passed (tested Shape (is_hex digits)) _ content h in
    let (len, l, h) = gave (as_length (length digits / 2)) _ content h in
    let same : hex_bytes digits ≡ content = cc in
    let long : length digits / 2 ≡ len = as_length-same (length digits / 2) len l in
    rw (← same) (record { short = rw (length-hex_bytes digits, long) (as_length-fits (length digits / 2) len l); bytes = hex_bytes-are_bytes digits })

zero_content-is : (d : Data) (content : List ℕ) → zero_content d ≡ Ok content → IsContent content
zero_content-is d content h =
    let (count, _, h) = gave (number (codes "zero") d) _ content h in
    let (len, l, h) = gave (as_length count) _ content h in
    let same : replicate len 0 ≡ content = cc in
    rw (← same) (record { short = rw (length-replicate {A = ℕ} len 0) (as_length-fits count len l); bytes = replicate-are_bytes len })

fill_of-is : (count seed : ℕ) (content : List ℕ) → fill_of count seed ≡ Ok content → IsContent content
fill_of-is count seed content h =
    let (len, l, h) = gave (as_length count) _ content h in
    let (_, h) = passed (tested Limit (nat_lt seed 256)) _ content h in
    let same : fill_bytes seed 0 len ≡ content = cc in
    rw (← same) (record { short = rw (length-fill_bytes seed 0 len) (as_length-fits count len l); bytes = fill_bytes-are_bytes seed 0 len })

fill_parts-is : (ds : List Data) (content : List ℕ) → fill_parts ds ≡ Ok content → IsContent content
fill_parts-is [] content h = cc
fill_parts-is (count ∷ []) content h = cc
fill_parts-is (count ∷ seed ∷ []) content h =
    let (n, _, h) = gave (number_of count) _ content h in
    let (s, _, h) = gave (number_of seed) _ content h in
    fill_of-is n s content h
fill_parts-is (count ∷ seed ∷ more ∷ ds) content h = cc

fill_content-is : (d : Data) (content : List ℕ) → fill_content d ≡ Ok content → IsContent content
fill_content-is d content h = let (ds, _, h) = gave (array (codes "fill") d) _ content h in fill_parts-is ds content h

-- a choice of two results, each of which is a content where it is given
chosen : (b : Bool) (r s : Result (List ℕ) Reason) (content : List ℕ) → (r ≡ Ok content → IsContent content) → (s ≡ Ok content → IsContent content)
    → (if b then r else s) ≡ Ok content → IsContent content
chosen true r s content p q h = p h
chosen false r s content p q h = q h

pub content_of-is : (d : Data) (content : List ℕ) → content_of d ≡ Ok content → IsContent content
content_of-is d content =
    chosen (keys_known RegText d) _ _ content (text_content-is d content)
    (chosen (keys_known RegHex d) _ _ content (hex_content-is d content)
    (chosen (keys_known RegZero d) _ _ content (zero_content-is d content)
    (chosen (keys_known RegFill d) _ _ content (fill_content-is d content) (λ h. cc))))
