-- Which fields stand at a place of bytes, and what it takes for bytes to be a packet.
use Rattle.std.proofs.Common.{◌≡◌, ℕ, ◌+◌, ◌<◌, ◌≤◌, ◌^◌, Bool, true, false, List, [], ◌∷◌, ◌++◌, length, drop, Some, None, refl, ap, subst, append-nil, arith}
use Rattle.std.specs.Prelude.{◌==◌, ◌&&◌, bytes_eq}
use Rattle.std.specs.Bool.{then_some}
use Rattle.std.proofs.lemmas.Bool.{and_parts, and_from, le-leb}
use Rattle.std.proofs.lemmas.Bool.Decides.{Decides-eqb}
use Rattle.std.proofs.lemmas.List.{drop-drop}
use Rattle.std.proofs.lemmas.Slice.Eq.{bytes_eq-Decides}
use Rattle.rdm_hdr.specs.Fields.{Field, Number, Data, field_bytes, fields_bytes, fields_fit, number_at}
use Rattle.rdm_hdr.specs.Reading.{begins}
use Rattle.rdm_hdr.proofs.Fronts.{AreBytes, begins-append, begins-nothing, number-stands_at, own_number-stands_at}
use Rattle.rdm_hdr.proofs.Opts.{fields_bytes-append}
use Rattle.rdm_pkt.specs.declared.Packet.{Packet}
use Rattle.rdm_pkt.specs.Grammar.{layout, packet_fits, fits, spelling}
use Rattle.rdm_pkt.specs.Reading.{if_spelled}
use Rattle.rdm_pkt.proofs.PacketSizes.{size_of}

-- the fields stand at a place of the bytes
abbrev pub stands : (place : ℕ) → List Field → List ℕ → Bool
stands place fields bytes = begins (fields_bytes fields) (drop place bytes)

-- fields and more stand where the more stand after the fields
pub stands-append : (place : ℕ) (fields more : List Field) (bytes : List ℕ) → stands place (fields ++ more) bytes ≡ (stands place fields bytes && stands (place + size_of fields) more bytes)
stands-append place fields more bytes =
    rw (fields_bytes-append fields more, begins-append (fields_bytes fields) (fields_bytes more) (drop place bytes), drop-drop (size_of fields) place bytes) refl

-- nothing stands anywhere
pub stands-nothing : (place : ℕ) (bytes : List ℕ) → stands place [] bytes ≡ true
unfolding fields_bytes
stands-nothing place bytes = begins-nothing (drop place bytes)

-- the number that is there stands there where there is room for it
pub stands-own : (place n : ℕ) (more : List Field) (bytes : List ℕ) → AreBytes bytes → 0 < n → place + n ≤ length bytes → stands place (Number n (number_at place n bytes) ∷ more) bytes ≡ stands (place + n) more bytes
unfolding fields_bytes
stands-own place n more bytes h some room =
    rw (own_number-stands_at place n (fields_bytes more) bytes h some, le-leb (place + n) (length bytes) room) refl

-- a number stands where it is the one there
pub stands-number : (place n x : ℕ) (more : List Field) (bytes : List ℕ) → AreBytes bytes → 0 < n → x < 256 ^ n → place + n ≤ length bytes → stands place (Number n x ∷ more) bytes ≡ ((number_at place n bytes == x) && stands (place + n) more bytes)
unfolding fields_bytes
stands-number place n x more bytes h some small room =
    rw (number-stands_at place n x (fields_bytes more) bytes h some small, le-leb (place + n) (length bytes) room) refl

-- bytes begin with themselves
begins-itself : (xs : List ℕ) → begins xs xs ≡ true
unfolding begins
begins-itself [] = refl
begins-itself (x ∷ xs) = and_from (x == x) (begins xs xs) ((Decides-eqb x x).1 refl) (begins-itself xs)

-- what is left of the bytes stands there
pub stands-rest : (place : ℕ) (bytes : List ℕ) → stands place (Data (drop place bytes) ∷ []) bytes ≡ true
unfolding fields_bytes field_bytes
stands-rest place bytes = rw (append-nil (drop place bytes)) (begins-itself (drop place bytes))

-- a front as long as the bytes is the bytes
begins-whole : (front bytes : List ℕ) → begins front bytes ≡ true → length front ≡ length bytes → bytes_eq front bytes ≡ true
unfolding begins
begins-whole [] [] h same = refl
begins-whole [] (b ∷ bs) h same = absurd (omega arith)
begins-whole (x ∷ front) [] h same = absurd (omega arith)
begins-whole (x ∷ front) (b ∷ bs) h same =
    let parts = and_parts (x == b) (begins front bs) h in
    and_from (x == b) (bytes_eq front bs) parts.0 (begins-whole front bs parts.1 (omega arith))

-- the bytes are the packet with those values
pub is-spelled : (p : Packet) (bytes : List ℕ) → packet_fits p ≡ true → fields_fit (layout p) ≡ true → stands 0 (layout p) bytes ≡ true → length (spelling p) ≡ length bytes → if_spelled bytes p ≡ Some p
unfolding if_spelled fits spelling
is-spelled p bytes a b c d = rw (a, b, begins-whole (fields_bytes (layout p)) bytes c d) refl

-- a test that cannot hold
none_if : (test : Bool) (p : Packet) → (test ≡ true → ⊥) → then_some test p ≡ None
none_if true p wrong = absurd (wrong refl)
none_if false p wrong = refl

-- the bytes are not
pub not-spelled : (p : Packet) (bytes : List ℕ) → (packet_fits p ≡ true → stands 0 (layout p) bytes ≡ true → length (spelling p) ≡ length bytes → ⊥) → if_spelled bytes p ≡ None
unfolding if_spelled fits spelling
not-spelled p bytes wrong =
    let test : Bool = (packet_fits p && fields_fit (layout p)) && bytes_eq (fields_bytes (layout p)) bytes in
    let never : test ≡ true → ⊥ = λ e.
    let halves = and_parts (packet_fits p && fields_fit (layout p)) (bytes_eq (fields_bytes (layout p)) bytes) e in
    let fit = and_parts (packet_fits p) (fields_fit (layout p)) halves.0 in
    let same : fields_bytes (layout p) ≡ bytes = (bytes_eq-Decides (fields_bytes (layout p)) bytes).0 halves.1 in
    wrong fit.0 (subst (λ (bs : List ℕ). begins (fields_bytes (layout p)) bs ≡ true) same (begins-itself (fields_bytes (layout p)))) (ap length same) in
    none_if test p never
