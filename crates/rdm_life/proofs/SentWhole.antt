-- A message was pushed whole exactly where all its openings were pushed and all its bytes.
use Rattle.std.proofs.Common.{◌≡◌, ℕ, zero, suc, ◌+◌, ◌<◌, ◌≤◌, max, min, Bool, true, false, cond, ◌&&◌, nat_le, leb-true, le-leb, leb-false, eq-eqb, List, [], ◌∷◌, ◌++◌, map, length, take, drop, Some, None, refl, arith, ◌⊎◌, inl, inr, sym, ◌∙◌, ap, subst, length-append, length-drop, append-nil}
use Rattle.std.specs.Prelude.{◌==◌, filter_map}
use Rattle.std.specs.List.{cons_option}
use Rattle.std.proofs.lemmas.Bool.{and_parts, and_from, eqb-true, cases_lt}
use Rattle.std.proofs.lemmas.List.{length-map, nil_from_length}
use Rattle.rdm_lists.specs.Lists.{Member}
use Rattle.rdm_num.specs.Pieces.{Piece, cut, pieces, piece_bytes, covers}
use Rattle.rdm_num.specs.declared.limits.EpLimits.{EpLimits}
use Rattle.rdm_pkt.specs.declared.Packet.{Packet}
use Rattle.rdm_pkt.specs.declared.Kind.{Kind}
use Rattle.rdm_pkt.specs.declared.Kind.TheVariants.{Eager, Medium, LongCts, LongRead, Runt}
use Rattle.rdm_pkt.specs.Heads.{piece_of}
use Rattle.rdm_pkt.specs.Openings.{Message, rtm, read_rtm, medium_form, runt_form, no_bytes, room_in, openings}
use Rattle.rdm_model.specs.Beginnings.{Own}
use Rattle.rdm_model.specs.Deeds.{Deed}
use Rattle.rdm_model.specs.Dues.{packet_piece, pieces_in, is_pushed}
use Rattle.rdm_model.specs.Sends.{Sent}
use Rattle.rdm_model.proofs.Cuts.{row_within, piece_bytes-append, cut_bytes}
use Rattle.rdm_model.proofs.Opens.{pieces_in-append, openings_in_row, some_opening}
use Rattle.rdm_model.proofs.Dues.{Underway}
use Rattle.rdm_model.proofs.Pushes.{underway}
use Rattle.rdm_model.proofs.Rows.{row_covers, row_covered}
use Rattle.rdm_law.proofs.Accounts.WasDue.{own_sends}
use Rattle.rdm_life.specs.Keeps.{told, own_progress, kept_send}
use Rattle.rdm_life.specs.Sending.{opening_bytes, is_sent}
use Rattle.rdm_life.proofs.Tests.{same_test}

-- what is left of a list of pieces always has a byte, as long as a piece is left
abbrev EndsSome : List Piece → Type 0
EndsSome [] = Unit {0}
EndsSome (x ∷ xs) = (0 < piece_bytes (x ∷ xs)) × EndsSome xs

-- bytes that are some are cut so
cut_ends : (fuel size offset : ℕ) (bytes : List ℕ) → 0 < length bytes → EndsSome (cut fuel size offset bytes)
unfolding cut piece_bytes
cut_ends zero size offset bytes some = (omega arith, tt)
cut_ends (suc fuel) size offset bytes some =
    let all = cut_bytes fuel size (offset + size) (drop size bytes) in
    let rest = length-drop size bytes in
    (elim (nat_le (length bytes) size) as (λ c. nat_le (length bytes) size ≡ c
    → EndsSome (cond c (record { offset = offset; bytes = bytes } ∷ []) (record { offset = offset; bytes = take size bytes } ∷ cut fuel size (offset + size) (drop size bytes)))) [
      | true ↦ λ is. (omega arith, tt)
      | false ↦ λ is. (let more = leb-false (length bytes) size is in (omega arith, cut_ends fuel size (offset + size) (drop size bytes) (omega arith)))
    ]) refl

-- none are one piece
cut_none : (size : ℕ) (bytes : List ℕ) → length bytes ≡ 0 → length (pieces size bytes) ≡ 1
unfolding pieces cut
cut_none size bytes none = rw none refl

-- what is left of it after some pieces
left_some : (xs ys : List Piece) → EndsSome (xs ++ ys) → 0 < length ys → 0 < piece_bytes ys
left_some [] [] ends some = absurd (omega arith)
left_some [] (y ∷ ys) ends some = ends.0
left_some (x ∷ xs) ys ends some = left_some xs ys ends.1 some

-- openings by pieces end with a byte, or are one
abbrev OpensWell : List Packet → Type 0
OpensWell ops = (length ops ≡ 1) ⊎ (EndsSome (pieces_in ops) × (length (pieces_in ops) ≡ length ops))

-- packets for pieces that end so
made_well : (f : Piece → Packet) (xs : List Piece) → ((x : Piece) → packet_piece (f x) ≡ Some x) → pieces_in (map f xs) ≡ xs
unfolding pieces_in
made_well f [] is = refl
made_well f (x ∷ xs) is = rw (is x) (ap (λ (ys : List Piece). x ∷ ys) (made_well f xs is))

-- pieces of some bytes end with one, and pieces of none are one
cuts_well : (size : ℕ) (bytes : List ℕ) (f : Piece → Packet) → ((x : Piece) → packet_piece (f x) ≡ Some x) → OpensWell (map f (pieces size bytes))
unfolding pieces
cuts_well size bytes f is =
    let xs = pieces size bytes in
    let count = length-map xs f in
    elim (cases_lt 0 (length bytes)) [
      | inl some ↦ inr (subst EndsSome (sym (made_well f xs is)) (cut_ends (length bytes) size 0 bytes some), ap (λ (l : List Piece). length l) (made_well f xs is) ∙ sym count)
      | inr none ↦ inl (count ∙ cut_none size bytes (omega arith))
    ]

-- a packet has a piece at most
few_pieces : (ps : List Packet) → length (pieces_in ps) ≤ length ps
unfolding pieces_in
few_pieces [] = omega arith
few_pieces (p ∷ ps) =
    let rest = few_pieces ps in
    (elim (packet_piece p) as (λ o. length (cons_option o (filter_map packet_piece ps)) ≤ suc (length ps)) [
      | Some x ↦ omega arith
      | None ↦ omega arith
    ])

-- packets that have all bytes, of which there is one, were pushed whole
covered_pushed : (s : Sent) (ps : List Packet) → 0 < length ps → covers (pieces_in ps) (length s.message.bytes) ≡ true → is_pushed s ps ≡ true
unfolding is_pushed
covered_pushed s [] some all = absurd (omega arith)
covered_pushed s (p ∷ ps) some all = all

-- so it is with each message
opens_well : (limits : EpLimits) (m : Message) (kind : Kind) → OpensWell (openings limits m kind)
unfolding openings packet_piece piece_of pieces
opens_well limits m Eager = inl refl
opens_well limits m Medium = cuts_well (room_in limits (rtm m (medium_form m no_bytes))) m.bytes (λ p. rtm m (medium_form m p)) (λ x. refl)
opens_well limits m LongCts = inl refl
opens_well limits m LongRead = inl refl
opens_well limits m (Runt runt) = cuts_well (room_in limits (read_rtm m (runt_form m runt no_bytes))) (take runt m.bytes) (λ p. read_rtm m (runt_form m runt p)) (λ x. refl)

-- all packets that open a message were pushed where it was pushed whole
none_later : (own : Own) (s : Sent) (ps later : List Packet) → openings own.limits s.message s.kind ≡ ps ++ later → 0 < length ps → length s.message.bytes ≤ piece_bytes (pieces_in ps) → length later ≡ 0
none_later own s ps later is some whole =
    let ops = openings own.limits s.message s.kind in
    let split = pieces_in-append ps later in
    let both : pieces_in ops ≡ pieces_in ps ++ pieces_in later = ap pieces_in is ∙ split in
    let sum : piece_bytes (pieces_in ops) ≡ piece_bytes (pieces_in ps) + piece_bytes (pieces_in later) = ap piece_bytes both ∙ piece_bytes-append (pieces_in ps) (pieces_in later) in
    let within = row_within s.message.bytes 0 (pieces_in ops) (openings_in_row own.limits s.message s.kind) (omega arith) in
    let long : length ops ≡ length ps + length later = ap (λ (l : List Packet). length l) is ∙ length-append ps later in
    elim (opens_well own.limits s.message s.kind) [
      | inl one ↦ omega arith
      | inr well ↦ elim (cases_lt 0 (length later)) [
        | inr none ↦ omega arith
        | inl more ↦
            let counts : length (pieces_in ops) ≡ length (pieces_in ps) + length (pieces_in later) = ap (λ (l : List Piece). length l) both ∙ length-append (pieces_in ps) (pieces_in later) in
            let few = few_pieces ps in
            let rest : 0 < length (pieces_in later) = omega arith in
            let bytes = left_some (pieces_in ps) (pieces_in later) (subst EndsSome both well.0) rest in
            absurd (omega arith)
      ]
    ]

-- a message that was pushed whole
whole_sent : (own : Own) (s : Sent) (ps : List Packet) → Underway own s ps → is_pushed s ps ≡ true
    → (length (openings own.limits s.message s.kind) ≤ length ps) × (max (opening_bytes own s) (piece_bytes (pieces_in ps)) ≡ length s.message.bytes)
unfolding is_pushed
whole_sent own s [] u h = cc
whole_sent own s (p ∷ more) u h =
    let ps = p ∷ more in
    let ops = openings own.limits s.message s.kind in
    let all = row_covered s.message.bytes (pieces_in ps) (length s.message.bytes) u.row h in
    let fits = row_within s.message.bytes 0 (pieces_in ps) u.row (omega arith) in
    let opens = row_within s.message.bytes 0 (pieces_in ops) (openings_in_row own.limits s.message s.kind) (omega arith) in
    elim u.how [
      | inl a ↦ (
          let none = none_later own s ps a.0 a.1 (omega arith) all in
          let long : length ops ≡ length ps + length a.0 = ap (λ (l : List Packet). length l) a.1 ∙ length-append ps a.0 in
          (omega arith, omega arith))
      | inr a ↦ (
          let long : length ps ≡ length ops + length a.0 = ap (λ (l : List Packet). length l) a.1 ∙ length-append ops a.0 in
          (omega arith, omega arith))
    ]

-- a message of which all openings and all bytes were pushed
sent_whole : (own : Own) (s : Sent) (ps : List Packet) → Underway own s ps → length (openings own.limits s.message s.kind) ≤ length ps
    → max (opening_bytes own s) (piece_bytes (pieces_in ps)) ≡ length s.message.bytes → is_pushed s ps ≡ true
sent_whole own s ps u opened whole =
    let ops = openings own.limits s.message s.kind in
    let some = some_opening own.limits s.message s.kind in
    let more : piece_bytes (pieces_in ops) ≤ piece_bytes (pieces_in ps) =
    elim u.how [
      | inl a ↦ (
          let long : length ops ≡ length ps + length a.0 = ap (λ (l : List Packet). length l) a.1 ∙ length-append ps a.0 in
          let same : ops ≡ ps = a.1 ∙ ap (λ (l : List Packet). ps ++ l) (nil_from_length a.0 (omega arith)) ∙ append-nil ps in
          let e : piece_bytes (pieces_in ops) ≡ piece_bytes (pieces_in ps) = ap (λ (l : List Packet). piece_bytes (pieces_in l)) same in
          omega arith)
      | inr a ↦ (
          let e : piece_bytes (pieces_in ps) ≡ piece_bytes (pieces_in ops) + piece_bytes (pieces_in a.0) =
          ap (λ (l : List Packet). piece_bytes (pieces_in l)) a.1 ∙ ap piece_bytes (pieces_in-append ops a.0) ∙ piece_bytes-append (pieces_in ops) (pieces_in a.0) in
          omega arith)
    ] in
    covered_pushed s ps (omega arith) (row_covers s.message.bytes (pieces_in ps) (length s.message.bytes) u.row (omega arith))

-- a send as it is kept was pushed whole exactly where its message was
pub is_sent_is : (own : Own) (log : List Deed) (s : Sent) → Member s (own_sends own log) → is_sent own (kept_send own log s) ≡ is_pushed s ((own_progress own log).packets s.number)
unfolding kept_send
is_sent_is own log s m =
    let ps = (own_progress own log).packets s.number in
    let ops = openings own.limits s.message s.kind in
    let u = underway own (told own log) log s m in
    let opened : Bool = nat_le (length ops) (min (length ps) (length ops)) in
    let all : Bool = max (opening_bytes own s) (piece_bytes (pieces_in ps)) == length s.message.bytes in
    same_test (opened && all) (is_pushed s ps)
    (λ h. (let p = and_parts opened all h in
    let le = leb-true (length ops) (min (length ps) (length ops)) p.0 in
    sent_whole own s ps u (omega arith) (eqb-true _ _ p.1)))
    (λ h. (let w = whole_sent own s ps u h in
    let le = w.0 in
    and_from opened all (le-leb (length ops) (min (length ps) (length ops)) (omega arith)) (eq-eqb _ _ w.1)))
