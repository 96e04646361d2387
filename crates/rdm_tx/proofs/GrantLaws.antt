-- What the packets of granted bytes come to.
use Rattle.std.proofs.Common.{◌≡◌, ℕ, ◌+◌, ◌-◌, ◌≤◌, Bool, true, false, List, [], ◌∷◌, length, drop, Option, Some, None, refl, arith, ap, ◌∙◌}
use Rattle.std.specs.Prelude.{min, nat_lt, not, ◌||◌, option_map}
use Rattle.std.specs.Bool.{then_some}
use Rattle.std.proofs.lemmas.Bool.Decides.{nat_tests}
use Rattle.std.proofs.lemmas.List.{length-take, length-drop}
use Rattle.std.proofs.lemmas.List.Sums.{sum_by-cons}
use Rattle.rdm_lists.specs.Lists.{or_else}
use Rattle.rdm_hdr.proofs.Opts.{some-then}
use Rattle.rdm_num.specs.Lives.{op_id}
use Rattle.rdm_num.specs.Pieces.{piece_bytes}
use Rattle.rdm_num.specs.declared.limits.EpLimits.{EpLimits}
use Rattle.rdm_num.specs.declared.numbers.Connid.{Connid}
use Rattle.rdm_pkt.specs.declared.Packet.{Packet}
use Rattle.rdm_pkt.specs.declared.Packet.TheVariants.{CtsData}
use Rattle.rdm_model.specs.Beginnings.{Own}
use Rattle.rdm_model.specs.Dues.{pieces_in, packet_piece, data_packet}
use Rattle.rdm_model.specs.Grants.{Grant, grant_bytes}
use Rattle.rdm_model.specs.Sends.{Sent}
use Rattle.rdm_tx.specs.declared.spans.Span.{Span}
use Rattle.rdm_tx.specs.Sends.{part}
use Rattle.rdm_tx.specs.Granting.{Granting, ungranted, is_other_number, with_grant, next_length, span_next, packet_with, pushed}
use Rattle.rdm_tx.specs.GrantLaws.{Move, Takes, Pushes, AreMoves, after_moves, taken, packets, first_granter, Follow, GrantedFollow, GrantedIsCounted, GrantedAreDue}

-- bytes of a message at a place
abbrev pub bytes_at : List ℕ → (at len : ℕ) → List ℕ
bytes_at bytes at len = part (record { offset = at; length = len }) bytes

-- they are as many as the message has there
pub part_length : (bytes : List ℕ) (at len : ℕ) → at + len ≤ length bytes → length (bytes_at bytes at len) ≡ len
part_length bytes at len h =
    let t = length-take (at + len - at) (drop at bytes) in
    let d = length-drop at bytes in
    omega (arith, t, d, h)

-- neither of two
neither : (a b : Bool) → not (a || b) ≡ true → (a ≡ false) × (b ≡ false)
neither false false h = (refl, refl)
neither false true h = absurd (cc)
neither true b h = absurd (cc)

-- a grant that is not wrong has room
has_room : (total allowed size : ℕ) → nat_lt (total - allowed) size ≡ false → allowed ≤ total → allowed + size ≤ total
has_room total allowed size e h = grind (arith, nat_tests)

-- the packet is to the receive that grants name
packet_to : (own : Connid) (named : Option ℕ) (at : ℕ) (piece : List ℕ) (p : Packet) → Some p ≡ option_map (λ recv. CtsData (op_id recv) at own piece) named
    → (recv : ℕ) × (named ≡ Some recv) × (p ≡ CtsData (op_id recv) at own piece)
packet_to own None at piece p e = absurd (cc)
packet_to own (Some recv) at piece p e = (recv, refl, cc)

-- what a push shows: there are bytes to push, at that span, and the packet has them
pub record IsPush (limits : EpLimits) (own : Connid) (bytes : List ℕ) (g : Granting) (p : Packet) : Type 0 where
  pub recv : ℕ
  pub named : g.granted_by ≡ Some recv
  pub packet : p ≡ CtsData (op_id recv) g.done own (bytes_at bytes g.done (next_length limits g))

is_push : (limits : EpLimits) (own : Connid) (bytes : List ℕ) (g : Granting) (p : Packet) (s : Span) → span_next limits g ≡ Some s → Some p ≡ packet_with own g (part s bytes) → IsPush limits own bytes g p
is_push limits own bytes g p s e w =
    let a : s ≡ record { offset = g.done; length = next_length limits g } = (some-then _ _ _ e).1 in
    let v : Some p ≡ packet_with own g (bytes_at bytes g.done (next_length limits g)) = w ∙ ap (λ (x : Span). packet_with own g (part x bytes)) a in
    let q = packet_to own g.granted_by g.done (bytes_at bytes g.done (next_length limits g)) p v in
    record { recv = q.0; named = q.1; packet = q.2 }

-- ---- what follows

-- the first that was named stays
first_stays : (named : Option ℕ) (recv : ℕ) (next : Option ℕ) → or_else (or_else named (Some recv)) next ≡ or_else named (Some recv)
unfolding or_else
first_stays None recv next = refl
first_stays (Some r) recv next = refl

-- one that is named is the first
named_first : (named next : Option ℕ) (recv : ℕ) → named ≡ Some recv → or_else named next ≡ Some recv
unfolding or_else
named_first None next recv e = absurd (cc)
named_first (Some r) next recv e = e

-- none beside it
none_next : (named : Option ℕ) → named ≡ or_else named None
unfolding or_else
none_next None = refl
none_next (Some r) = refl

-- the room that the next packet takes
next_within : (limits : EpLimits) (g : Granting) → g.done ≤ g.allowed → g.done + next_length limits g ≤ g.allowed
next_within limits g h = omega arith

-- packets from a place on follow each other
follow_from : (limits : EpLimits) (own : Connid) (bytes : List ℕ) (g : Granting) (ms : List Move) → g.total ≡ length bytes → g.done ≤ g.allowed → g.allowed ≤ g.total → AreMoves limits own bytes g ms
    → Follow own (or_else g.granted_by (first_granter (taken ms))) bytes g.done (packets ms)
unfolding taken packets first_granter
follow_from limits own bytes g [] t d a h = tt
follow_from limits own bytes g (Takes x ∷ ms) t d a (w, rest) =
    let r = has_room g.total g.allowed x.size (neither (nat_lt (g.total - g.allowed) x.size) (is_other_number x.recv g.granted_by) w).0 a in
    let i = follow_from limits own bytes (with_grant x.recv x.size g) ms t (omega (arith, d)) r rest in
    rw (first_stays g.granted_by x.recv (first_granter (taken ms))) at i
follow_from limits own bytes g (Pushes p ∷ ms) t d a ((s, e, w), rest) =
    let q = is_push limits own bytes g p s e w in
    let n = next_within limits g d in
    let i = follow_from limits own bytes (pushed limits g) ms t n a rest in
    (q.recv, next_length limits g, named_first g.granted_by (first_granter (taken ms)) q.recv q.named, omega (arith, n, a, t), q.packet, i)

pub granted_follow : GrantedFollow
unfolding or_else
granted_follow = λ limits own bytes first moves h m. follow_from limits own bytes (ungranted (length bytes) first) moves refl (omega arith) h m

-- ---- how much it comes to

-- what is left of a message that was granted so by those moves
record IsCountedFrom (after g : Granting) (ms : List Move) : Type 0 where
  done : after.done ≡ g.done + piece_bytes (pieces_in (packets ms))
  allowed : after.allowed ≡ g.allowed + grant_bytes (taken ms)
  granted_by : after.granted_by ≡ or_else g.granted_by (first_granter (taken ms))
  within_grants : after.done ≤ after.allowed
  within_message : after.allowed ≤ after.total

-- a packet adds its bytes
packet_more : (recv : ℕ) (at : ℕ) (own : Connid) (piece : List ℕ) (p : Packet) (ps : List Packet) → p ≡ CtsData (op_id recv) at own piece → piece_bytes (pieces_in (p ∷ ps)) ≡ length piece + piece_bytes (pieces_in ps)
unfolding piece_bytes pieces_in packet_piece
packet_more recv at own piece p ps e = rw e refl

-- a grant adds its size
grant_more : (x : Grant) (xs : List Grant) → grant_bytes (x ∷ xs) ≡ x.size + grant_bytes xs
unfolding grant_bytes
grant_more x xs = sum_by-cons (λ (y : Grant). y.size) x xs

counted_from : (limits : EpLimits) (own : Connid) (bytes : List ℕ) (g : Granting) (ms : List Move) → g.total ≡ length bytes → g.done ≤ g.allowed → g.allowed ≤ g.total → AreMoves limits own bytes g ms
    → IsCountedFrom (after_moves limits g ms) g ms
unfolding after_moves taken packets first_granter
counted_from limits own bytes g [] t d a h =
    let p : piece_bytes (pieces_in []) ≡ 0 = (unfold piece_bytes pieces_in in refl) in
    let q : grant_bytes [] ≡ 0 = (unfold grant_bytes in refl) in
    record { done = omega (arith, p); allowed = omega (arith, q); granted_by = none_next g.granted_by; within_grants = d; within_message = a }
counted_from limits own bytes g (Takes x ∷ ms) t d a (w, rest) =
    let r = has_room g.total g.allowed x.size (neither (nat_lt (g.total - g.allowed) x.size) (is_other_number x.recv g.granted_by) w).0 a in
    let i = counted_from limits own bytes (with_grant x.recv x.size g) ms t (omega (arith, d)) r rest in
    let m = grant_more x (taken ms) in
    let j = i.allowed in
    record {
      done = i.done;
      allowed = omega (arith, m, j);
      granted_by = i.granted_by ∙ first_stays g.granted_by x.recv (first_granter (taken ms));
      within_grants = i.within_grants;
      within_message = i.within_message;
    }
counted_from limits own bytes g (Pushes p ∷ ms) t d a ((s, e, w), rest) =
    let q = is_push limits own bytes g p s e w in
    let n = next_within limits g d in
    let i = counted_from limits own bytes (pushed limits g) ms t n a rest in
    let m = packet_more q.recv g.done own (bytes_at bytes g.done (next_length limits g)) p (packets ms) q.packet in
    let l = part_length bytes g.done (next_length limits g) (omega (arith, n, a, t)) in
    let j = i.done in
    record {
      done = omega (arith, m, l, j);
      allowed = i.allowed;
      granted_by = i.granted_by;
      within_grants = i.within_grants;
      within_message = i.within_message;
    }

pub granted_is_counted : GrantedIsCounted
unfolding or_else
granted_is_counted = λ limits own bytes first moves h m.
    let i = counted_from limits own bytes (ungranted (length bytes) first) moves refl (omega arith) h m in
    record { done = i.done; allowed = i.allowed; granted_by = i.granted_by; within_grants = i.within_grants; within_message = i.within_message }

-- ---- what a life owes

-- where nothing is, the test failed
none_then : {A : Type 0} (b : Bool) (x : A) → then_some b x ≡ None → b ≡ false
none_then false x e = refl
none_then true x e = absurd (cc)

-- the packet that is owed of a send
due_of : (own : Own) (s : Sent) (g : Granting) (gs : List Grant) → g.total ≡ length s.message.bytes → g.allowed ≤ g.total → g.granted_by ≡ first_granter gs
    → ((span : Span) → span_next own.limits g ≡ Some span → packet_with own.life.connid g (part span s.message.bytes) ≡ data_packet own s g.allowed g.done gs)
    × (span_next own.limits g ≡ None → data_packet own s g.allowed g.done gs ≡ None)
unfolding data_packet first_granter
due_of own s g [] t a n = ((λ span e. rw n refl), (λ e. refl))
due_of own s g (x ∷ xs) t a n =
    let m : min g.allowed (length s.message.bytes) ≡ g.allowed = omega (arith, a, t) in (
      (λ span e.
          let b = some-then (nat_lt g.done g.allowed) (record { offset = g.done; length = next_length own.limits g }) span e in
          let l : g.done + next_length own.limits g - g.done ≡ next_length own.limits g = omega arith in
          rw (n, m, b.0, b.1, l) refl),
      (λ e.
          let b = none_then (nat_lt g.done g.allowed) (record { offset = g.done; length = next_length own.limits g }) e in
          rw (m, b) refl),
    )

pub granted_are_due : GrantedAreDue
granted_are_due = λ own s g gs t a n. due_of own s g gs t a n
