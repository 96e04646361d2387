-- The asks of a message: they lie in what is read, apart from each other, and have all of it.
use Rattle.std.proofs.Common.{◌≡◌, ℕ, zero, suc, ◌+◌, ◌-◌, ◌<◌, ◌≤◌, true, false, cond, List, [], ◌∷◌, refl, arith, inl, inr, subst}
use Rattle.std.specs.Prelude.{◌==◌, min, max}
use Rattle.std.proofs.lemmas.Bool.{and_from, eqb-true, eqb-false, eq-eqb, cases_lt, or_left, or_right, le-leb}
use Rattle.rdm_lists.specs.Lists.{Member}
use Rattle.rdm_num.specs.declared.numbers.OpId.{OpId}
use Rattle.rdm_num.specs.declared.lists.IovEntry.{IovEntry}
use Rattle.rdm_num.specs.declared.head.Shape.{Shape}
use Rattle.rdm_num.specs.declared.head.Shape.TheVariants.{Eager, Medium, LongCts, LongRead, Runt}
use Rattle.rdm_wire.specs.declared.ReadAsk.{ReadAsk}
use Rattle.rdm_model.specs.Reads.{ask_room, asks_in, asks_from}
use Rattle.rdm_model.specs.Replies.{asks_for}
use Rattle.rdm_model.specs.Targets.{is_in_entry, is_in_iov}
use Rattle.rdm_law.proofs.Replies.Unique.{Unique, unique_none, unique_cons, unique_append}
use Rattle.rdm_lists.proofs.Members.{member-append_left, member-append_right, member-append_cases}

-- two ranges have a place in common
abbrev pub Shares : (at len at' len' : ℕ) → Type 0
Shares at len at' len' = (x : ℕ) × (at ≤ x) × (x < at + len) × (at' ≤ x) × (x < at' + len')

-- an ask lies in a range, has a byte, and names the send and the receive
pub record IsAskIn (send recv : OpId) (low high : ℕ) (a : ReadAsk) : Type 0 where
  pub from : low ≤ a.at
  pub to : a.at + a.length ≤ high
  pub has_byte : 0 < a.length
  pub send_is : a.send_id ≡ send
  pub recv_is : a.recv_id ≡ recv

-- an ask that lies in a range lies in a wider one
wider : (send recv : OpId) (low high less more : ℕ) (a : ReadAsk) → less ≤ low → high ≤ more → IsAskIn send recv low high a → IsAskIn send recv less more a
wider send recv low high less more a l m i =
    record { from = (let x = i.from in omega arith); to = (let x = i.to in omega arith); has_byte = i.has_byte; send_is = i.send_is; recv_is = i.recv_is }

-- the asks for what is left of a range lie in it, at its key and offset
asks_in_parts : (fuel : ℕ) (send recv : OpId) (e : IovEntry) (into at left : ℕ) (a : ReadAsk) → Member a (asks_in fuel send recv e into at left)
    → IsAskIn send recv at (at + left) a × (a.key ≡ e.key) × (a.offset + at ≡ e.offset + into + a.at)
unfolding asks_in
asks_in_parts zero send recv e into at left a h = elim h [ ]
asks_in_parts (suc fuel) send recv e into at left a h =
    let len : ℕ = min left ask_room in
    let first : ReadAsk = record { send_id = send; recv_id = recv; key = e.key; offset = e.offset + into; length = len; at = at } in
    (elim (left == 0) as (λ b. (left == 0) ≡ b → Member a (cond b [] (first ∷ asks_in fuel send recv e (into + len) (at + len) (left - len)))
    → IsAskIn send recv at (at + left) a × (a.key ≡ e.key) × (a.offset + at ≡ e.offset + into + a.at)) [
      | true ↦ λ t k. elim k [ ]
      | false ↦ λ t k. elim k [
        | inl is ↦
            let one : IsAskIn send recv at (at + left) first × (first.key ≡ e.key) × (first.offset + at ≡ e.offset + into + first.at) = (
              record { from = omega arith; to = omega arith; has_byte = (let z = eqb-false left 0 t in omega arith); send_is = refl; recv_is = refl },
              refl,
              omega arith,
            ) in
            subst (λ (x : ReadAsk). IsAskIn send recv at (at + left) x × (x.key ≡ e.key) × (x.offset + at ≡ e.offset + into + x.at)) is one
        | inr r ↦
            let p = asks_in_parts fuel send recv e (into + len) (at + len) (left - len) a r in
            let u = p.2 in
            (wider send recv (at + len) (at + len + (left - len)) at (at + left) a (omega arith) (omega arith) p.0, p.1, omega arith)
      ]
    ]) refl h

-- two asks share a byte
abbrev pub AsksShare : ReadAsk → ReadAsk → Type 0
AsksShare a b = Shares a.at a.length b.at b.length

-- sharing a byte holds both ways
pub asks_share_back : (a b : ReadAsk) → AsksShare a b → AsksShare b a
asks_share_back a b s = (s.0, s.3, s.4, s.1, s.2)

-- the asks for what is left of a range are apart
asks_in_unique : (fuel : ℕ) (send recv : OpId) (e : IovEntry) (into at left : ℕ) → Unique AsksShare (asks_in fuel send recv e into at left)
unfolding asks_in
asks_in_unique zero send recv e into at left = unique_none AsksShare
asks_in_unique (suc fuel) send recv e into at left =
    let len : ℕ = min left ask_room in
    let first : ReadAsk = record { send_id = send; recv_id = recv; key = e.key; offset = e.offset + into; length = len; at = at } in
    let rest = asks_in fuel send recv e (into + len) (at + len) (left - len) in
    elim (left == 0) as (λ b. Unique AsksShare (cond b [] (first ∷ rest))) [
      | true ↦ unique_none AsksShare
      | false ↦ unique_cons AsksShare asks_share_back first rest (asks_in_unique fuel send recv e (into + len) (at + len) (left - len))
          (λ b m s. let p = (asks_in_parts fuel send recv e (into + len) (at + len) (left - len) b m).0 in let x = p.from in let y = s.2 in let z = s.3 in omega arith)
    ]

-- each place of what is left is asked for
asks_in_cover : (fuel : ℕ) (send recv : OpId) (e : IovEntry) (into at left place : ℕ) → left ≤ fuel → at ≤ place → place < at + left
    → (a : ReadAsk) × Member a (asks_in fuel send recv e into at left) × (a.at ≤ place) × (place < a.at + a.length)
unfolding asks_in
asks_in_cover zero send recv e into at left place f l h = absurd (omega arith)
asks_in_cover (suc fuel) send recv e into at left place f l h =
    let len : ℕ = min left ask_room in
    let first : ReadAsk = record { send_id = send; recv_id = recv; key = e.key; offset = e.offset + into; length = len; at = at } in
    let rest = asks_in fuel send recv e (into + len) (at + len) (left - len) in
    (elim (left == 0) as (λ b. (left == 0) ≡ b → (a : ReadAsk) × Member a (cond b [] (first ∷ rest)) × (a.at ≤ place) × (place < a.at + a.length)) [
      | true ↦ λ t. absurd (let z = eqb-true left 0 t in omega arith)
      | false ↦ λ t. elim (cases_lt place (at + len)) [
        | inl k ↦ (first, inl refl, l, k)
        | inr k ↦
            let r = asks_in_cover fuel send recv e (into + len) (at + len) (left - len) place (omega arith) k (omega arith) in
            (r.0, inr r.1, r.2, r.3)
      ]
    ]) refl

-- how many bytes a read list has
unfoldable pub iov_bytes : List IovEntry → ℕ
iov_bytes [] = 0
iov_bytes (e ∷ es) = e.length + iov_bytes es

-- an ask for what is left of a range is in its entry
in_entry : (send recv : OpId) (e : IovEntry) (begin start left : ℕ) (a : ReadAsk) → begin ≤ start → left ≡ begin + e.length - start
    → IsAskIn send recv start (start + left) a × (a.key ≡ e.key) × (a.offset + start ≡ e.offset + (start - begin) + a.at) → is_in_entry a begin e ≡ true
unfolding is_in_entry
in_entry send recv e begin start left a le is p =
    let x = p.0.from in
    let y = p.0.to in
    let z = p.0.has_byte in
    let w = p.2 in
    and_from _ _ (and_from _ _ (and_from _ _ (le-leb begin a.at (omega arith)) (le-leb (a.at + a.length) (begin + e.length) (omega arith))) (eq-eqb a.key e.key p.1))
    (eq-eqb a.offset (e.offset + (a.at - begin)) (omega arith))

-- an ask of a message lies in what is read of its read list
pub asks_from_parts : (send recv : OpId) (iov : List IovEntry) (begin from : ℕ) (a : ReadAsk) → Member a (asks_from send recv iov begin from)
    → IsAskIn send recv (max begin from) (begin + iov_bytes iov) a × (is_in_iov a begin iov ≡ true)
unfolding asks_from iov_bytes is_in_iov
asks_from_parts send recv [] begin from a h = elim h [ ]
asks_from_parts send recv (e ∷ es) begin from a h =
    let start : ℕ = max begin from in
    let left : ℕ = begin + e.length - start in
    elim (member-append_cases a (asks_in left send recv e (start - begin) start left) (asks_from send recv es (begin + e.length) from) h) [
      | inl m ↦
          let p = asks_in_parts left send recv e (start - begin) start left a m in
          let x = p.0.from in
          let y = p.0.to in
          let z = p.0.has_byte in (
            wider send recv start (start + left) (max begin from) (begin + (e.length + iov_bytes es)) a (omega arith) (omega arith) p.0,
            or_left (is_in_entry a begin e) (is_in_iov a (begin + e.length) es) (in_entry send recv e begin start left a (omega arith) refl p),
          )
      | inr m ↦
          let p = asks_from_parts send recv es (begin + e.length) from a m in (
            wider send recv (max (begin + e.length) from) (begin + e.length + iov_bytes es) (max begin from) (begin + (e.length + iov_bytes es)) a (omega arith) (omega arith) p.0,
            or_right (is_in_entry a begin e) (is_in_iov a (begin + e.length) es) p.1,
          )
    ]

-- the asks of a message are apart
pub asks_from_unique : (send recv : OpId) (iov : List IovEntry) (begin from : ℕ) → Unique AsksShare (asks_from send recv iov begin from)
unfolding asks_from
asks_from_unique send recv [] begin from = unique_none AsksShare
asks_from_unique send recv (e ∷ es) begin from =
    let start : ℕ = max begin from in
    let left : ℕ = begin + e.length - start in
    unique_append AsksShare asks_share_back (asks_in left send recv e (start - begin) start left) (asks_from send recv es (begin + e.length) from)
    (asks_in_unique left send recv e (start - begin) start left) (asks_from_unique send recv es (begin + e.length) from)
    (λ a b h k s.
    let p = (asks_in_parts left send recv e (start - begin) start left a h).0 in
    let q = (asks_from_parts send recv es (begin + e.length) from b k).0 in
    let x = p.from in
    let y = p.to in
    let z = p.has_byte in
    let u = q.from in
    let v = s.2 in
    let w = s.3 in
    omega arith)

-- each place of what is read is asked for
pub asks_from_cover : (send recv : OpId) (iov : List IovEntry) (begin from place : ℕ) → begin ≤ place → from ≤ place → place < begin + iov_bytes iov
    → (a : ReadAsk) × Member a (asks_from send recv iov begin from) × (a.at ≤ place) × (place < a.at + a.length)
unfolding asks_from iov_bytes
asks_from_cover send recv [] begin from place b f h = absurd (omega arith)
asks_from_cover send recv (e ∷ es) begin from place b f h =
    let start : ℕ = max begin from in
    let left : ℕ = begin + e.length - start in
    elim (cases_lt place (begin + e.length)) [
      | inl k ↦
          let r = asks_in_cover left send recv e (start - begin) start left place (omega arith) (omega arith) (omega arith) in
          (r.0, member-append_left r.0 (asks_in left send recv e (start - begin) start left) _ r.1, r.2, r.3)
      | inr k ↦
          let r = asks_from_cover send recv es (begin + e.length) from place k f (omega arith) in
          (r.0, member-append_right r.0 (asks_in left send recv e (start - begin) start left) _ r.1, r.2, r.3)
    ]

-- a message that is read, by that send, its read list, and the first byte that is read
pub record IsRead (shape : Shape) : Type 0 where
  pub send : OpId
  pub iov : List IovEntry
  pub from : ℕ
  pub is : (recv : OpId) → asks_for shape recv ≡ asks_from send recv iov 0 from

-- a message that has an ask is read
pub asks_for_read : (shape : Shape) (recv : OpId) (a : ReadAsk) → Member a (asks_for shape recv) → IsRead shape
unfolding asks_for
asks_for_read (LongRead send iov) recv a h = record { send = send; iov = iov; from = 0; is = λ r. refl }
asks_for_read (Runt send iov runt) recv a h = record { send = send; iov = iov; from = runt; is = λ r. refl }
asks_for_read Eager recv a h = elim h [ ]
asks_for_read Medium recv a h = elim h [ ]
asks_for_read (LongCts send credits) recv a h = elim h [ ]

-- the asks of a message of any shape are apart
pub asks_for_unique : (shape : Shape) (recv : OpId) → Unique AsksShare (asks_for shape recv)
unfolding asks_for
asks_for_unique (LongRead send iov) recv = asks_from_unique send recv iov 0 0
asks_for_unique (Runt send iov runt) recv = asks_from_unique send recv iov 0 runt
asks_for_unique Eager recv = unique_none AsksShare
asks_for_unique Medium recv = unique_none AsksShare
asks_for_unique (LongCts send credits) recv = unique_none AsksShare

-- an ask names its receive
pub asks_for_recv : (shape : Shape) (recv : OpId) (a : ReadAsk) → Member a (asks_for shape recv) → a.recv_id ≡ recv
asks_for_recv shape recv a h =
    let r = asks_for_read shape recv a h in
    (asks_from_parts r.send recv r.iov 0 r.from a (subst (λ (x : List ReadAsk). Member a x) (r.is recv) h)).0.recv_is
