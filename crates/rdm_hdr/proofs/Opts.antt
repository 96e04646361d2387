-- The optional headers: their sizes, and when bytes begin with them.
use Rattle.std.proofs.Common.{◌≡◌, ℕ, ◌+◌, ◌<◌, Bool, true, false, if◌then◌else◌, List, [], ◌++◌, length, Option, Some, None, refl, arith, zero-add}
use Rattle.std.specs.Prelude.{is_some, nat_le, not, ◌&&◌, ◌||◌, drop}
use Rattle.std.specs.Bool.{then_some}
use Rattle.std.proofs.lemmas.List.{length-append}
use Rattle.std.proofs.Math.Bool.{and-true}
use Rattle.std.proofs.lemmas.Grind.{flat_map-append}
use Rattle.rdm_hdr.specs.declared.Opt.{Opt}
use Rattle.rdm_hdr.specs.Fields.{Field, field_bytes, fields_bytes}
use Rattle.rdm_hdr.specs.Fields.{number_at, has_bit}
use Rattle.rdm_hdr.specs.Headers.{raw_fields, cq_data_fields, connid_fields, opt_fields, opt_size, opt_at}
use Rattle.rdm_hdr.specs.Reading.{begins, opt_in}
use Rattle.rdm_hdr.proofs.Fronts.{AreBytes, begins-append, begins-nothing, begins-longer, own_number-stands_at}

-- the size of the optional headers by their parts
size_of_parts : (raw : Option (ℕ × ℕ)) (cq_data connid : Option ℕ) → opt_size (record { raw = raw; cq_data = cq_data; connid = connid }) ≡ (if is_some raw then 36 else 0) + (if is_some cq_data then 8 else 0) + (if is_some connid then 4 else 0)
unfolding opt_size opt_fields raw_fields cq_data_fields connid_fields fields_bytes field_bytes
size_of_parts None None None = refl
size_of_parts None None (Some c) = refl
size_of_parts None (Some d) None = refl
size_of_parts None (Some d) (Some c) = refl
size_of_parts (Some a) None None = refl
size_of_parts (Some a) None (Some c) = refl
size_of_parts (Some a) (Some d) None = refl
size_of_parts (Some a) (Some d) (Some c) = refl

-- the size of the optional headers is that of those that are there
pub opt_size-parts : (opt : Opt) → opt_size opt ≡ (if is_some opt.raw then 36 else 0) + (if is_some opt.cq_data then 8 else 0) + (if is_some opt.connid then 4 else 0)
opt_size-parts opt = size_of_parts opt.raw opt.cq_data opt.connid

-- what the sizes of the optional headers are
pub ruleset opt_sizes = opt_size-parts

-- the bytes of fields and more fields
pub fields_bytes-append : (fields more : List Field) → fields_bytes (fields ++ more) ≡ fields_bytes fields ++ fields_bytes more
unfolding fields_bytes
fields_bytes-append fields more = flat_map-append field_bytes fields more

-- the bytes of the optional headers are those of each
pub opt_bytes : (opt : Opt) → fields_bytes (opt_fields opt) ≡ (fields_bytes (raw_fields opt.raw) ++ fields_bytes (cq_data_fields opt.cq_data)) ++ fields_bytes (connid_fields opt.connid)
unfolding opt_fields
opt_bytes opt = rw (fields_bytes-append, fields_bytes-append) refl

-- the raw address that the flags name, with the values that stand there
abbrev pub raw_there : Bool → List ℕ → Option (ℕ × ℕ)
raw_there there bytes = then_some there (number_at 4 4 bytes, number_at 24 4 bytes)

-- no raw address stands anywhere
pub no_raw-stands : (bytes : List ℕ) → begins (fields_bytes (raw_fields None)) bytes ≡ true
unfolding raw_fields fields_bytes
no_raw-stands bytes = begins-nothing bytes

-- a raw address has 36 bytes
pub raw-longer : (address : ℕ × ℕ) (bytes : List ℕ) → length bytes < 36 → begins (fields_bytes (raw_fields (Some address))) bytes ≡ false
unfolding raw_fields fields_bytes field_bytes
raw-longer address bytes h = begins-longer (fields_bytes (raw_fields (Some address))) bytes h

-- the size of a raw address
raw-size : (there : Bool) (address : ℕ × ℕ) → length (fields_bytes (raw_fields (then_some there address))) ≡ (if there then 36 else 0)
unfolding raw_fields fields_bytes field_bytes
raw-size true address = refl
raw-size false address = refl

-- the size of CQ data
cq_data-size : (there : Bool) (x : ℕ) → length (fields_bytes (cq_data_fields (then_some there x))) ≡ (if there then 8 else 0)
unfolding cq_data_fields fields_bytes field_bytes
cq_data-size true x = refl
cq_data-size false x = refl

-- CQ data with the value that stands there are there where there is room for them
cq_data-stands : (there : Bool) (place : ℕ) (bytes : List ℕ) → AreBytes bytes → begins (fields_bytes (cq_data_fields (then_some there (number_at place 8 bytes)))) (drop place bytes) ≡ (not there || nat_le (place + 8) (length bytes))
unfolding cq_data_fields fields_bytes
cq_data-stands true place bytes h = rw (own_number-stands_at place 8 [] bytes h (omega arith), begins-nothing, and-true) refl
cq_data-stands false place bytes h = begins-nothing (drop place bytes)

-- an identifier with the value that stands there is there where there is room for it
connid-stands : (there : Bool) (place : ℕ) (bytes : List ℕ) → AreBytes bytes → begins (fields_bytes (connid_fields (then_some there (number_at place 4 bytes)))) (drop place bytes) ≡ (not there || nat_le (place + 4) (length bytes))
unfolding connid_fields fields_bytes
connid-stands true place bytes h = rw (own_number-stands_at place 4 [] bytes h (omega arith), begins-nothing, and-true) refl
connid-stands false place bytes h = begins-nothing (drop place bytes)

-- the optional headers that tests name, with the values that stand there
abbrev pub opt_there : (raw cq_data connid : Bool) → List ℕ → Opt
opt_there raw cq_data connid bytes =
    record {
      raw = raw_there raw bytes;
      cq_data = then_some cq_data (number_at (if raw then 36 else 0) 8 bytes);
      connid = then_some connid (number_at ((if raw then 36 else 0) + (if cq_data then 8 else 0)) 4 bytes);
    }

-- each of the optional headers that tests name stands at its place
abbrev pub parts_stand : (raw cq_data connid : Bool) → List ℕ → Bool
parts_stand raw cq_data connid bytes =
    (begins (fields_bytes (raw_fields (raw_there raw bytes))) bytes
    && (not cq_data || nat_le ((if raw then 36 else 0) + 8) (length bytes)))
    && (not connid || nat_le (((if raw then 36 else 0) + (if cq_data then 8 else 0)) + 4) (length bytes))

-- the optional headers stand at the front where each stands at its place
there-stand : (raw cq_data connid : Bool) (bytes : List ℕ) → AreBytes bytes → begins (fields_bytes (opt_fields (opt_there raw cq_data connid bytes))) bytes ≡ parts_stand raw cq_data connid bytes
there-stand raw cq_data connid bytes h =
    let a : List ℕ = fields_bytes (raw_fields (raw_there raw bytes)) in
    let b : List ℕ = fields_bytes (cq_data_fields (then_some cq_data (number_at (if raw then 36 else 0) 8 bytes))) in
    let d : List ℕ = fields_bytes (connid_fields (then_some connid (number_at ((if raw then 36 else 0) + (if cq_data then 8 else 0)) 4 bytes))) in
    let la : length a ≡ (if raw then 36 else 0) = raw-size raw (number_at 4 4 bytes, number_at 24 4 bytes) in
    let lb : length b ≡ (if cq_data then 8 else 0) = cq_data-size cq_data (number_at (if raw then 36 else 0) 8 bytes) in
    let lab : length (a ++ b) ≡ (if raw then 36 else 0) + (if cq_data then 8 else 0) = rw (length-append a b, la, lb) refl in
    rw (opt_bytes (opt_there raw cq_data connid bytes), begins-append (a ++ b) d bytes, begins-append a b bytes, lab, la, cq_data-stands cq_data (if raw then 36 else 0) bytes h, connid-stands connid ((if raw then 36 else 0) + (if cq_data then 8 else 0)) bytes h) refl

-- which optional headers the flags name at the front
pub opt_in-by : (flags : ℕ) (bytes : List ℕ) → AreBytes bytes → (raw cq_data connid : Bool) → raw ≡ has_bit 0 flags → cq_data ≡ has_bit 1 flags → connid ≡ has_bit 15 flags
    → opt_in flags bytes ≡ then_some (parts_stand raw cq_data connid bytes) (opt_there raw cq_data connid bytes, opt_size (opt_there raw cq_data connid bytes))
unfolding opt_in opt_at
opt_in-by flags bytes h raw cq_data connid p q r = rw (p, q, r) (simp (zero-add, there-stand (has_bit 0 flags) (has_bit 1 flags) (has_bit 15 flags) bytes h) refl)

-- a test that does not hold
pub none-then : {A : Type 0} (b : Bool) (x : A) → then_some b x ≡ None → b ≡ false
none-then false x e = refl
none-then true x e = absurd (cc)

-- a test that holds, and the value
pub some-then : {A : Type 0} (b : Bool) (x y : A) → then_some b x ≡ Some y → (b ≡ true) × (y ≡ x)
some-then false x y e = absurd (cc)
some-then true x y e = (refl, cc)
