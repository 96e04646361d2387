-- When bytes are a handshake.
use Rattle.std.proofs.Common.{◌≡◌, ℕ, zero, suc, ◌+◌, ◌-◌, ◌*◌, ◌<◌, ◌≤◌, ◌^◌, Bool, true, List, [], ◌∷◌, ◌++◌, length, map, Option, Some, None, refl, sym, ap, ◌∙◌, append_assoc, append-nil, arith}
use Rattle.std.specs.Prelude.{nat_le, ◌==◌, ◌&&◌, min}
use Rattle.std.proofs.lemmas.Bool.{and_parts, and_from, leb-true, eqb-true, le-leb}
use Rattle.rdm_num.specs.declared.numbers.PortNo.{PortNo}
use Rattle.rdm_num.specs.declared.numbers.Connid.{Connid}
use Rattle.rdm_hdr.specs.declared.Opt.{Opt}
use Rattle.rdm_hdr.specs.Fields.{Field, Number, fields_bytes, fields_fit, number_at, has_bit}
use Rattle.rdm_hdr.specs.Headers.{opt_fields, opt_flags, opt_size, opt_at}
use Rattle.rdm_hdr.specs.Reading.{begins}
use Rattle.rdm_hdr.proofs.Fronts.{AreBytes}
use Rattle.rdm_pkt.specs.declared.Packet.{Packet}
use Rattle.rdm_pkt.specs.declared.Packet.TheVariants.{Handshake}
use Rattle.rdm_pkt.specs.Grammar.{head_fields, layout, packet_fits}
use Rattle.rdm_pkt.specs.Reading.{HandshakeRow, words_at, sender_at, handshake_at, values_at, if_spelled}
use Rattle.rdm_pkt.specs.Opened.{sender_in}
use Rattle.rdm_pkt.proofs.PacketSizes.{size_of, head-size, packet-size}
use Rattle.rdm_pkt.proofs.Stands.{stands, stands-append, stands-own, stands-number, is-spelled, not-spelled}
use Rattle.rdm_pkt.proofs.Rows.{fit-own}
use Rattle.rdm_pkt.proofs.Openers.{fit-head, opt_flags-small}
use Rattle.rdm_pkt.proofs.Named.{sender_of, header_of, Named, fit-header, named-found, found-named}

-- there are so many words
length-words_at : (place count : ℕ) (bytes : List ℕ) → length (words_at place count bytes) ≡ count
unfolding words_at
length-words_at place zero bytes = refl
length-words_at place (suc n) bytes = let e = length-words_at (place + 8) n bytes in omega (arith, e)

-- one word more is read
pub words_at-next : (count k : ℕ) (read bytes : List ℕ) → k < count → (read ++ number_at (8 + 8 * k) 8 bytes ∷ []) ++ words_at (8 + 8 * (k + 1)) (count - (k + 1)) bytes ≡ read ++ words_at (8 + 8 * k) (count - k) bytes
unfolding words_at
words_at-next count k read bytes more =
    let left : count - k ≡ suc (count - (k + 1)) = omega arith in
    let place : 8 + 8 * k + 8 ≡ 8 + 8 * (k + 1) = omega arith in
    rw (left, place) (append_assoc read (number_at (8 + 8 * k) 8 bytes ∷ []) (words_at (8 + 8 * (k + 1)) (count - (k + 1)) bytes))

-- all words are read
pub words_at-last : (count k : ℕ) (read bytes : List ℕ) → count ≤ k → read ++ words_at (8 + 8 * k) (count - k) bytes ≡ read
unfolding words_at
words_at-last count k read bytes done =
    let none : count - k ≡ 0 = omega arith in
    rw none (append-nil read)

-- words that stand there are in their ranges
fit-words : (place count : ℕ) (more : List Field) (bytes : List ℕ) → AreBytes bytes → fields_fit more ≡ true → fields_fit (map (Number 8) (words_at place count bytes) ++ more) ≡ true
unfolding words_at
fit-words place zero more bytes h rest = rest
fit-words place (suc n) more bytes h rest = fit-own place 8 (map (Number 8) (words_at (place + 8) n bytes) ++ more) bytes h (fit-words (place + 8) n more bytes h rest)

-- words that are there stand there
stands-words : (place count : ℕ) (more : List Field) (bytes : List ℕ) → AreBytes bytes → place + 8 * count ≤ length bytes → stands place (map (Number 8) (words_at place count bytes) ++ more) bytes ≡ stands (place + 8 * count) more bytes
unfolding words_at
stands-words place zero more bytes h room = let e : place ≡ place + 8 * 0 = omega arith in ap (λ (at : ℕ). stands at more bytes) e
stands-words place (suc n) more bytes h room =
    let e : (place + 8) + 8 * n ≡ place + 8 * suc n = omega arith in
    stands-own place 8 (map (Number 8) (words_at (place + 8) n bytes) ++ more) bytes h (omega arith) (omega arith)
    ∙ stands-words (place + 8) n more bytes h (omega arith)
    ∙ ap (λ (at : ℕ). stands at more bytes) e

-- the flags name a raw address
abbrev pub is_raw : List ℕ → Bool
is_raw bytes = has_bit 0 (number_at 2 2 bytes)

-- where the header begins that names the sender
abbrev pub last_of : (count : ℕ) → ℕ
last_of count = 8 + 8 * count

-- that header
abbrev pub header_after : (count : ℕ) → List ℕ → Opt
header_after count bytes = header_of (is_raw bytes) (last_of count) bytes

-- the bytes begin with the base header of a handshake whose last header is that one
abbrev pub has_front : Opt → List ℕ → Bool
has_front opt bytes = begins (fields_bytes (head_fields 9 (opt_flags opt))) bytes

-- the handshake of so many words
abbrev pub own : (count : ℕ) → List ℕ → Packet
own count bytes = Handshake (words_at 8 count bytes) (sender_of (is_raw bytes) (last_of count) bytes).0 (sender_of (is_raw bytes) (last_of count) bytes).1

handshake_at-is : (count : ℕ) (bytes : List ℕ) → handshake_at count bytes ≡ own count bytes
unfolding handshake_at sender_at opt_at
handshake_at-is count bytes = refl

-- its fields, the base header first
own-layout : (count : ℕ) (bytes : List ℕ)
    → layout (own count bytes)
    ≡ head_fields 9 (opt_flags (header_after count bytes)) ++ (Number 4 (length (words_at 8 count bytes) + 3) ∷ (map (Number 8) (words_at 8 count bytes) ++ opt_fields (header_after count bytes)))
unfolding layout
own-layout count bytes =
    append_assoc (head_fields 9 (opt_flags (header_after count bytes))) (Number 4 (length (words_at 8 count bytes) + 3) ∷ map (Number 8) (words_at 8 count bytes)) (opt_fields (header_after count bytes))

-- after the base header, fields stand at the fourth byte
after-front : (opt : Opt) (more : List Field) (bytes : List ℕ) → stands 0 (head_fields 9 (opt_flags opt) ++ more) bytes ≡ (has_front opt bytes && stands 4 more bytes)
after-front opt more bytes = rw (stands-append 0 (head_fields 9 (opt_flags opt)) more bytes, head-size 9 (opt_flags opt)) refl

-- what there is of a handshake of so many words
pub record Shaken (count : ℕ) (bytes : List ℕ) : Type 0 where
  pub some : 1 ≤ count
  pub few : count ≤ 8
  pub number : number_at 4 4 bytes ≡ count + 3
  pub front : has_front (header_after count bytes) bytes ≡ true
  pub named : Named (is_raw bytes) (last_of count) bytes

-- how many bytes it has
size-of : (count : ℕ) (bytes : List ℕ) → length (words_at 8 count bytes) ≡ count → {n : ℕ} → last_of count + size_of (opt_fields (header_after count bytes)) ≡ n
    → 8 + 8 * length (words_at 8 count bytes) + opt_size (header_after count bytes) ≡ n
unfolding opt_size
size-of count bytes counted e = omega (arith, counted, e)

-- bytes with all of it are a handshake
shaken-is : (count : ℕ) (bytes : List ℕ) → AreBytes bytes → Shaken count bytes → if_spelled bytes (own count bytes) ≡ Some (own count bytes)
unfolding packet_fits
shaken-is count bytes h shaken =
    let p : Packet = own count bytes in
    let opt : Opt = header_after count bytes in
    let counted = length-words_at 8 count bytes in
    let number = shaken.number in
    let end' = shaken.named.end' in
    let words : List Field = map (Number 8) (words_at 8 count bytes) ++ opt_fields opt in
    let all : packet_fits p ≡ true = rw counted (and_from (nat_le 1 count) (nat_le count 8) (le-leb 1 count shaken.some) (le-leb count 8 shaken.few)) in
    let same : length (words_at 8 count bytes) + 3 ≡ number_at 4 4 bytes = omega (arith, counted, number) in
    let fit : fields_fit (layout p) ≡ true =
    rw (own-layout count bytes, same)
    (fit-head 9 (opt_flags opt) (Number 4 (number_at 4 4 bytes) ∷ words) (omega arith) (opt_flags-small opt) (fit-own 4 4 words bytes h (fit-words 8 count (opt_fields opt) bytes h (fit-header (is_raw bytes) (last_of count) bytes h)))) in
    let there : stands 0 (layout p) bytes ≡ true =
    rw (own-layout count bytes, same) (after-front opt (Number 4 (number_at 4 4 bytes) ∷ words) bytes
    ∙ and_from (has_front opt bytes) (stands 4 (Number 4 (number_at 4 4 bytes) ∷ words) bytes) shaken.front
    (stands-own 4 4 words bytes h (omega arith) (omega arith)
    ∙ stands-words 8 count (opt_fields opt) bytes h (omega arith)
    ∙ shaken.named.there)) in
    is-spelled p bytes all fit there (packet-size p ∙ size-of count bytes counted end')

-- what a handshake takes
shaken-takes : (count : ℕ) (bytes : List ℕ) → AreBytes bytes → (Shaken count bytes → ⊥) → if_spelled bytes (own count bytes) ≡ None
unfolding packet_fits
shaken-takes count bytes h wrong =
    let p : Packet = own count bytes in
    let opt : Opt = header_after count bytes in
    let counted = length-words_at 8 count bytes in
    let n : ℕ = length (words_at 8 count bytes) in
    let words : List Field = map (Number 8) (words_at 8 count bytes) ++ opt_fields opt in
    not-spelled p bytes (λ fit there size.
    let few = and_parts (nat_le 1 n) (nat_le n 8) fit in
    let some : 1 ≤ n = leb-true 1 n few.0 in
    let most : n ≤ 8 = leb-true n 8 few.1 in
    let end' : last_of count + size_of (opt_fields opt) ≡ length bytes = sym (size-of count bytes counted refl) ∙ sym (packet-size p) ∙ size in
    let parts = and_parts (has_front opt bytes) (stands 4 (Number 4 (n + 3) ∷ words) bytes) (sym (after-front opt (Number 4 (n + 3) ∷ words) bytes) ∙ (rw (own-layout count bytes) at there)) in
    let small : n + 3 < 256 ^ 4 = omega arith in
    let number = and_parts (number_at 4 4 bytes == n + 3) (stands 8 words bytes) (sym (stands-number 4 4 (n + 3) words bytes h (omega arith) small (omega arith)) ∙ parts.1) in
    let same : number_at 4 4 bytes ≡ n + 3 = eqb-true (number_at 4 4 bytes) (n + 3) number.0 in
    let last : stands (last_of count) (opt_fields opt) bytes ≡ true = sym (stands-words 8 count (opt_fields opt) bytes h (omega arith)) ∙ number.1 in
    wrong (record {
      some = omega (arith, counted);
      few = omega (arith, counted);
      number = omega (arith, counted, same);
      front = parts.0;
      named = record { there = last; end' = end' };
    }))

-- bytes are a handshake where all of it is there for the count that stands there
pub handshake-is : (bytes : List ℕ) → AreBytes bytes → (count : ℕ) → count ≡ number_at 4 4 bytes - 3 → Shaken count bytes → if_spelled bytes (values_at HandshakeRow bytes) ≡ Some (own count bytes)
unfolding values_at
handshake-is bytes h count same shaken =
    let few = shaken.few in
    let e : min 8 (number_at 4 4 bytes - 3) ≡ count = omega arith in
    rw (e, handshake_at-is count bytes) (shaken-is count bytes h shaken)

-- what a handshake takes
pub handshake-takes : (bytes : List ℕ) → AreBytes bytes → ((count : ℕ) → count ≡ number_at 4 4 bytes - 3 → 4 ≤ number_at 4 4 bytes → number_at 4 4 bytes ≤ 11 → Shaken count bytes → ⊥)
    → if_spelled bytes (values_at HandshakeRow bytes) ≡ None
unfolding values_at
handshake-takes bytes h wrong =
    let count : ℕ = min 8 (number_at 4 4 bytes - 3) in
    rw (handshake_at-is count bytes)
    (shaken-takes count bytes h (λ shaken.
    let some = shaken.some in
    let few = shaken.few in
    let number = shaken.number in
    wrong count (omega arith) (omega arith) (omega arith) shaken))

-- a sender that is found is the one whose header is there
pub sender-named : (count : ℕ) (bytes : List ℕ) (s : Connid × Option PortNo) → AreBytes bytes → last_of count ≤ length bytes → sender_in (last_of count) bytes ≡ Some s
    → Named (is_raw bytes) (last_of count) bytes × (s ≡ sender_of (is_raw bytes) (last_of count) bytes)
unfolding sender_in
sender-named count bytes s h room e = found-named (is_raw bytes) (last_of count) bytes s h room e

-- where none is found there is no such header
pub no-sender : (count : ℕ) (bytes : List ℕ) → sender_in (last_of count) bytes ≡ None → Named (is_raw bytes) (last_of count) bytes → ⊥
unfolding sender_in
no-sender count bytes e named = let found = named-found (is_raw bytes) (last_of count) bytes named in cc
