-- Whom the last header of a handshake names.
use Rattle.std.proofs.Common.{◌≡◌, ℕ, ◌+◌, ◌-◌, ◌≤◌, Bool, true, false, if◌then◌else◌, List, [], ◌∷◌, length, drop, Option, Some, None, refl, sym, ap, ◌∙◌, add-zero, arith}
use Rattle.std.specs.Prelude.{◌==◌, ◌&&◌}
use Rattle.std.specs.Bool.{then_some}
use Rattle.std.proofs.lemmas.List.{length-drop}
use Rattle.std.proofs.lemmas.Bool.{and_parts, eqb-true, false_from_ne_true}
use Rattle.std.proofs.lemmas.Bool.Decides.{Decides-eqb}
use Rattle.rdm_num.specs.declared.numbers.PortNo.{PortNo}
use Rattle.rdm_num.specs.declared.numbers.Connid.{Connid}
use Rattle.rdm_hdr.specs.declared.Opt.{Opt}
use Rattle.rdm_hdr.specs.Fields.{Number, fields_fit, number_at, has_bit}
use Rattle.rdm_hdr.specs.Headers.{raw_fields, cq_data_fields, connid_fields, opt_fields, opt_at, opt_size}
use Rattle.rdm_hdr.specs.Reading.{opt_in}
use Rattle.rdm_hdr.proofs.Fronts.{AreBytes}
use Rattle.rdm_hdr.proofs.Opts.{none-then, some-then}
use Rattle.rdm_pkt.specs.Grammar.{sender_opt}
use Rattle.rdm_pkt.specs.Reading.{sender_by}
use Rattle.rdm_pkt.specs.Opened.{raw_in, connid_in, sender_in}
use Rattle.rdm_pkt.proofs.PacketSizes.{size_of, size_of-number, nothing-size}
use Rattle.rdm_pkt.proofs.Stands.{stands, stands-own, stands-nothing}
use Rattle.rdm_pkt.proofs.Rows.{fit-nothing, fit-own, fit-append}
use Rattle.rdm_pkt.proofs.Openers.{fit-raw, number_at-drop, opt_at-drop}

-- whom the header at a place names, a raw address or an identifier
abbrev pub sender_of : (raw : Bool) (place : ℕ) → List ℕ → Connid × Option PortNo
sender_of raw place bytes = sender_by (then_some raw (number_at (place + 4) 4 bytes, number_at (place + 24) 4 bytes)) (number_at place 4 bytes)

-- that header
abbrev pub header_of : (raw : Bool) (place : ℕ) → List ℕ → Opt
header_of raw place bytes = sender_opt (sender_of raw place bytes).0 (sender_of raw place bytes).1

-- the one that is found
abbrev pub found_in : (raw : Bool) (place : ℕ) → List ℕ → Option (Connid × Option PortNo)
found_in raw place bytes = if raw then raw_in (drop place bytes) else connid_in (drop place bytes)

-- the header stands at a place and ends with the bytes
pub record Named (raw : Bool) (place : ℕ) (bytes : List ℕ) : Type 0 where
  pub there : stands place (opt_fields (header_of raw place bytes)) bytes ≡ true
  pub end' : place + size_of (opt_fields (header_of raw place bytes)) ≡ length bytes

-- that header is in its ranges
pub fit-header : (raw : Bool) (place : ℕ) (bytes : List ℕ) → AreBytes bytes → fields_fit (opt_fields (header_of raw place bytes)) ≡ true
unfolding sender_by sender_opt opt_fields cq_data_fields connid_fields
fit-header true place bytes h = fit-append _ _ (fit-append _ _ (fit-raw true (place + 4) (place + 24) bytes h) fit-nothing) fit-nothing
fit-header false place bytes h = fit-append _ _ (fit-append _ _ (fit-raw false 0 0 bytes h) fit-nothing) (fit-own place 4 [] bytes h fit-nothing)

-- what is left of the bytes from a place on
left : (place n : ℕ) (bytes : List ℕ) → place + n ≡ length bytes → length (drop place bytes) ≡ n
left place n bytes e = length-drop place bytes ∙ (let r : length bytes - place ≡ n = omega arith in r)

-- whom a raw address names that is all that is left of the bytes
raw_in-by : (place : ℕ) (bytes : List ℕ)
    → raw_in (drop place bytes) ≡ then_some (stands place (opt_fields (opt_at place 1 bytes)) bytes && length (drop place bytes) == size_of (opt_fields (opt_at place 1 bytes))) (sender_by (opt_at place 1 bytes).raw 0)
unfolding raw_in opt_size
raw_in-by place bytes = rw (opt_at-drop place 1 bytes) refl

-- the size of an identifier
identifier-size : (x : ℕ) → size_of (Number 4 x ∷ []) ≡ 4
identifier-size x = size_of-number 4 x [] ∙ rw nothing-size refl

-- an identifier ends four bytes on
identifier-end : (place : ℕ) (bytes : List ℕ) → place + size_of (opt_fields (header_of false place bytes)) ≡ length bytes → place + 4 ≡ length bytes
unfolding sender_by sender_opt opt_fields raw_fields cq_data_fields connid_fields
identifier-end place bytes e = let s = identifier-size (number_at place 4 bytes) in omega (arith, s, e)

-- a header that is there is found
pub named-found : (raw : Bool) (place : ℕ) (bytes : List ℕ) → Named raw place bytes → found_in raw place bytes ≡ Some (sender_of raw place bytes)
unfolding connid_in sender_by sender_opt opt_at has_bit
named-found true place bytes named =
    let size = left place (size_of (opt_fields (header_of true place bytes))) bytes named.end' in
    rw (raw_in-by place bytes, named.there, (Decides-eqb (length (drop place bytes)) (size_of (opt_fields (header_of true place bytes)))).1 size) refl
named-found false place bytes named =
    let size = left place 4 bytes (identifier-end place bytes named.end') in
    let n : number_at 0 4 (drop place bytes) ≡ number_at place 4 bytes = number_at-drop 0 4 place bytes ∙ ap (λ (at : ℕ). number_at at 4 bytes) (add-zero place) in
    rw (n, (Decides-eqb (length (drop place bytes)) 4).1 size) refl

-- a header that is found is there
pub found-named : (raw : Bool) (place : ℕ) (bytes : List ℕ) (s : Connid × Option PortNo) → AreBytes bytes → place ≤ length bytes → found_in raw place bytes ≡ Some s
    → Named raw place bytes × (s ≡ sender_of raw place bytes)
unfolding connid_in sender_by sender_opt opt_at has_bit opt_fields raw_fields cq_data_fields connid_fields
found-named true place bytes s h room e =
    let found = some-then _ _ _ (sym (raw_in-by place bytes) ∙ e) in
    let parts = and_parts _ _ found.0 in
    let size = eqb-true (length (drop place bytes)) (size_of (opt_fields (header_of true place bytes))) parts.1 in
    (record { there = parts.0; end' = (let l = length-drop place bytes in omega (arith, l, size)) }, found.1)
found-named false place bytes s h room e =
    let found = some-then _ _ _ e in
    let size = eqb-true (length (drop place bytes)) 4 found.0 in
    let l = length-drop place bytes in
    let n : number_at 0 4 (drop place bytes) ≡ number_at place 4 bytes = number_at-drop 0 4 place bytes ∙ ap (λ (at : ℕ). number_at at 4 bytes) (add-zero place) in
    let there : stands place (Number 4 (number_at place 4 bytes) ∷ []) bytes ≡ true =
    stands-own place 4 [] bytes h (omega arith) (omega (arith, size, l)) ∙ stands-nothing (place + 4) bytes in
    (record { there = there; end' = rw (identifier-size (number_at place 4 bytes)) (omega (arith, size, l)) }, found.1 ∙ rw n refl)

-- ---- a raw address, as it is read

-- none is read
pub raw-none : (bytes : List ℕ) → opt_in 1 bytes ≡ None → raw_in bytes ≡ None
unfolding raw_in opt_in
raw-none bytes e = rw (none-then _ _ e) refl

-- one is read
raw-by : (opt : Opt) (size : ℕ) (bytes : List ℕ) → opt_in 1 bytes ≡ Some (opt, size) → raw_in bytes ≡ then_some (length bytes == size) (sender_by opt.raw 0)
unfolding raw_in opt_in
raw-by opt size bytes e =
    let parts = some-then _ _ _ e in
    let o : opt ≡ opt_at 0 1 bytes = ap (λ (x : Opt × ℕ). x.0) parts.1 in
    let s : size ≡ opt_size (opt_at 0 1 bytes) = ap (λ (x : Opt × ℕ). x.1) parts.1 in
    rw (parts.0, o, s) refl

-- it is not all of the bytes
pub raw-short : (opt : Opt) (size : ℕ) (bytes : List ℕ) → opt_in 1 bytes ≡ Some (opt, size) → (length bytes ≡ size → ⊥) → raw_in bytes ≡ None
raw-short opt size bytes e short =
    let other : (length bytes == size) ≡ false = false_from_ne_true (length bytes == size) (λ h. short (eqb-true (length bytes) size h)) in
    raw-by opt size bytes e ∙ rw other refl

-- the headers that flag 1 names have one
pub raw-there : (opt : Opt) (size : ℕ) (bytes : List ℕ) → opt_in 1 bytes ≡ Some (opt, size) → opt.raw ≡ None → ⊥
unfolding opt_in opt_at has_bit
raw-there opt size bytes e none =
    let parts = some-then _ _ _ e in
    let o : opt.raw ≡ Some (number_at 4 4 bytes, number_at 24 4 bytes) = ap (λ (x : Opt × ℕ). x.0.raw) parts.1 in
    cc

-- it is all of the bytes
pub raw-is : (opt : Opt) (size port connid : ℕ) (bytes : List ℕ) → opt_in 1 bytes ≡ Some (opt, size) → length bytes ≡ size → opt.raw ≡ Some (port, connid)
    → raw_in bytes ≡ Some (record { 0 = connid }, Some (record { 0 = port }))
unfolding sender_by
raw-is opt size port connid bytes e whole raw =
    raw-by opt size bytes e ∙ rw ((Decides-eqb (length bytes) size).1 whole, raw) refl

-- ---- an identifier, as it is read

-- the bytes are none
pub connid-none : (bytes : List ℕ) → (length bytes ≡ 4 → ⊥) → connid_in bytes ≡ None
unfolding connid_in
connid-none bytes other = let e : (length bytes == 4) ≡ false = false_from_ne_true (length bytes == 4) (λ h. other (eqb-true (length bytes) 4 h)) in rw e refl

-- the bytes are one
pub connid-is : (bytes : List ℕ) → length bytes ≡ 4 → connid_in bytes ≡ Some (record { 0 = number_at 0 4 bytes }, None)
unfolding connid_in sender_by
connid-is bytes whole = rw ((Decides-eqb (length bytes) 4).1 whole) refl

-- ---- a sender, as it is read

-- by a raw address
pub sender-raw : (place flags : ℕ) (bytes last : List ℕ) (raw : Bool) → last ≡ drop place bytes → flags ≡ number_at 2 2 bytes → raw ≡ has_bit 0 flags → raw ≡ true → raw_in last ≡ sender_in place bytes
unfolding sender_in
sender-raw place flags bytes last raw l f b t =
    let bit : has_bit 0 (number_at 2 2 bytes) ≡ true = ap (has_bit 0) (sym f) ∙ sym b ∙ t in
    rw (l, bit) refl

-- by an identifier
pub sender-connid : (place flags : ℕ) (bytes last : List ℕ) (raw : Bool) → last ≡ drop place bytes → flags ≡ number_at 2 2 bytes → raw ≡ has_bit 0 flags → raw ≡ false → connid_in last ≡ sender_in place bytes
unfolding sender_in
sender-connid place flags bytes last raw l f b t =
    let bit : has_bit 0 (number_at 2 2 bytes) ≡ false = ap (has_bit 0) (sym f) ∙ sym b ∙ t in
    rw (l, bit) refl
