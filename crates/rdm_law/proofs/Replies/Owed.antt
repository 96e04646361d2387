-- What each reply is owed for.
use Rattle.std.proofs.Common.{◌≡◌, ℕ, ◌<◌, Bool, true, false, cond, ◌&&◌, not, List, [], ◌∷◌, ◌++◌, map, take, drop, Option, Some, None, refl, ◌⊎◌, inl, inr, sym, ◌∙◌, ap, subst}
use Rattle.std.specs.Prelude.{◌==◌, flat_map, find, nat_lt}
use Rattle.std.specs.List.{list_any}
use Rattle.std.proofs.lemmas.Bool.{and_parts, eqb-true, not-true, ltb-true}
use Rattle.rdm_lists.specs.Lists.{Member}
use Rattle.rdm_num.specs.Lives.{same_life}
use Rattle.rdm_num.specs.declared.numbers.Life.{Life}
use Rattle.rdm_num.specs.declared.numbers.OpId.{OpId}
use Rattle.rdm_num.specs.declared.numbers.MsgNo.{MsgNo}
use Rattle.rdm_num.specs.declared.numbers.PortNo.{PortNo}
use Rattle.rdm_num.specs.declared.head.Shape.{Shape}
use Rattle.rdm_num.specs.declared.head.Shape.TheVariants.{Eager, Medium, LongCts, LongRead, Runt}
use Rattle.rdm_pkt.specs.declared.Packet.TheVariants.{Cts, Eor, Handshake, Receipt}
use Rattle.rdm_wire.specs.declared.ReadAsk.{ReadAsk}
use Rattle.rdm_match.specs.Matcher.{Pair, is_pair}
use Rattle.rdm_hdr.specs.Fields.{has_bit}
use Rattle.rdm_model.specs.declared.job.Instr.TheVariants.{Insert}
use Rattle.rdm_model.specs.Targets.{is_read_shape}
use Rattle.rdm_model.specs.Deeds.{Deed, Did, Took, Item, Spelled, Asks, Gives}
use Rattle.rdm_model.specs.Beginnings.{Own, Messages, Heads}
use Rattle.rdm_model.specs.Matches.{pairs}
use Rattle.rdm_model.specs.Receives.{is_filled}
use Rattle.rdm_model.specs.Sends.{Sent, sends}
use Rattle.rdm_model.specs.Grants.{window, granted_bytes}
use Rattle.rdm_model.specs.Replies.{Reply, reply, confirm_feature, meets, greeting, greets, handshake_by, receipt_for, asks_for, grant_for, end_for, pair_items, pair_replies, given_of, given_by, replies_by}
use Rattle.rdm_law.proofs.Replies.Queue.{owed}
use Rattle.rdm_lists.proofs.Members.{member-append_cases, member-map, member-flat_map, find_member}
use Rattle.rdm_num.proofs.Lives.{same_life-true}

-- the shape of a pair's message
abbrev pub shape_in : Heads → Pair → Shape
shape_in heads p = (heads p.message.life p.message.no.0).shape

-- the number of a pair's receive as packets carry it
abbrev pub recv_in : Pair → OpId
recv_in p = record { 0 = p.recv.id.0 }

-- a life is met by a datagram that is taken from it, or by its insert; then the greeting has the raw address
abbrev pub MetBy : Own → Deed → Life → Option PortNo → Type 0
MetBy own d life raw =
    ((item : Item) × (d ≡ Took life item) × (raw ≡ None))
    ⊎ ((d ≡ Did (Insert life)) × (raw ≡ Some own.life.port) × (has_bit confirm_feature own.features ≡ true))

-- a life is greeted when it is met, with the own features
pub record NewShake (own : Own) (d : Deed) (before : List Deed) (r : Reply) : Type 0 where
  pub raw : Option PortNo
  pub how : MetBy own d r.to raw
  pub met : meets own r.to d ≡ true
  pub first : list_any (meets own r.to) before ≡ false
  pub is : r.item ≡ greeting own raw
  pub gives_is : r.gives ≡ None

-- a new pair owes its asks
pub record NewAsk (own : Own) (heads : Heads) (d : Deed) (before : List Deed) (r : Reply) : Type 0 where
  pub pair : Pair
  pub member : Member pair (pairs own.limits.first heads (d ∷ before))
  pub new : is_pair (pairs own.limits.first heads before) pair.recv.id.0 pair.message.life pair.message.no.0 ≡ false
  pub to_is : pair.message.life ≡ r.to
  pub ask : ReadAsk
  pub of : Member ask (asks_for (shape_in heads pair) (recv_in pair))
  pub is : r.item ≡ Asks ask
  pub gives_is : r.gives ≡ None

-- a pair owes the grant of its window
pub record NewCts (own : Own) (heads : Heads) (d : Deed) (before : List Deed) (r : Reply) : Type 0 where
  pub pair : Pair
  pub member : Member pair (pairs own.limits.first heads (d ∷ before))
  pub to_is : pair.message.life ≡ r.to
  pub send : OpId
  pub credits : ℕ
  pub shape_is : shape_in heads pair ≡ LongCts send credits
  pub has_byte : 0 < window own.limits heads (d ∷ before) pair (granted_bytes own.limits heads before pair)
  pub is : r.item ≡ Spelled (Cts send (recv_in pair) (window own.limits heads (d ∷ before) pair (granted_bytes own.limits heads before pair)) own.life.connid)
  pub gives_is : r.gives ≡ None

-- whether the sender of a pair's message waits for a receipt
abbrev pub confirm_in : Heads → Pair → Bool
confirm_in heads p = (heads p.message.life p.message.no.0).confirm

-- what a pair owes once it is filled
abbrev pub ends_in : Own → Heads → Pair → List Item
ends_in own heads p = end_for own (shape_in heads p) (confirm_in heads p) p.message.no (recv_in p)

-- a pair that is filled owes an end, where it is read
pub record NewEnd (own : Own) (heads : Heads) (d : Deed) (before : List Deed) (r : Reply) : Type 0 where
  pub pair : Pair
  pub member : Member pair (pairs own.limits.first heads (d ∷ before))
  pub to_is : pair.message.life ≡ r.to
  pub filled : is_filled own.limits.first heads (d ∷ before) pair ≡ true
  pub new : is_filled own.limits.first heads before pair ≡ false
  pub send : OpId
  pub shape_is : ends_in own heads pair ≡ Spelled (Eor send (recv_in pair) own.life.connid) ∷ []
  pub is : r.item ≡ Spelled (Eor send (recv_in pair) own.life.connid)
  pub gives_is : r.gives ≡ None

-- a pair that is filled owes a receipt, where its sender waits for one
pub record NewReceipt (own : Own) (heads : Heads) (d : Deed) (before : List Deed) (r : Reply) : Type 0 where
  pub pair : Pair
  pub member : Member pair (pairs own.limits.first heads (d ∷ before))
  pub to_is : pair.message.life ≡ r.to
  pub filled : is_filled own.limits.first heads (d ∷ before) pair ≡ true
  pub new : is_filled own.limits.first heads before pair ≡ false
  pub confirm : confirm_in heads pair ≡ true
  pub unread : is_read_shape (shape_in heads pair) ≡ false
  pub is : r.item ≡ Spelled (Receipt pair.message.no own.life.connid)
  pub gives_is : r.gives ≡ None

-- an ask is given its bytes of its send
pub record NewGiven (sents : List Sent) (d : Deed) (r : Reply) : Type 0 where
  pub ask : ReadAsk
  pub took : d ≡ Took r.to (Asks ask)
  pub sent : Sent
  pub member : Member sent sents
  pub to_is : sent.to ≡ r.to
  pub names : sent.number ≡ ask.send_id.0
  pub is : r.item ≡ Gives (record { recv_id = ask.recv_id; at = ask.at; bytes = take ask.length (drop ask.at sent.message.bytes) })
  pub gives_is : r.gives ≡ Some sent.number

-- what a deed makes owed
abbrev pub NewReply : Own → Heads → List Sent → Deed → List Deed → Reply → Type 0
NewReply own heads sents d before r =
    NewShake own d before r
    ⊎ (NewAsk own heads d before r ⊎ (NewCts own heads d before r ⊎ (NewEnd own heads d before r ⊎ (NewReceipt own heads d before r ⊎ NewGiven sents d r))))

-- what a met life is greeted with
greets_from : (own : Own) (before : List Deed) (d : Deed) (life : Life) (raw : Option PortNo) (r : Reply) → Member r (greets own before d life raw)
    → (r ≡ reply life (greeting own raw)) × (meets own life d ≡ true) × (list_any (meets own life) before ≡ false)
unfolding greets
greets_from own before d life raw r h =
    (elim (meets own life d && not (list_any (meets own life) before)) as (λ b. (meets own life d && not (list_any (meets own life) before)) ≡ b
    → Member r (cond b (reply life (greeting own raw) ∷ []) []) → (r ≡ reply life (greeting own raw)) × (meets own life d ≡ true) × (list_any (meets own life) before ≡ false)) [
      | true ↦ λ t k. (
          let p = and_parts (meets own life d) (not (list_any (meets own life) before)) t in
          let is : r ≡ reply life (greeting own raw) = (elim k [ inl e ↦ sym e | inr never ↦ elim never [ ] ]) in
          (is, p.0, not-true _ p.1))
      | false ↦ λ t k. elim k [ ]
    ]) refl h

-- a greeting is owed to a life that is met
shake_of : (own : Own) (before : List Deed) (d : Deed) (life : Life) (raw : Option PortNo) (r : Reply) → MetBy own d life raw → Member r (greets own before d life raw) → NewShake own d before r
shake_of own before d life raw r how h =
    let g = greets_from own before d life raw r h in
    subst (λ (x : Reply). NewShake own d before x) (sym g.0) (record { raw = raw; how = how; met = g.1; first = g.2; is = refl; gives_is = refl })

-- a life that an insert meets is of an endpoint that can confirm
insert_met : (own : Own) (life : Life) → meets own life (Did (Insert life)) ≡ true → has_bit confirm_feature own.features ≡ true
unfolding meets
insert_met own life h = (and_parts (has_bit confirm_feature own.features) (same_life life life) h).0

-- what a deed greets
pub shake_from : (own : Own) (before : List Deed) (d : Deed) (r : Reply) → Member r (handshake_by own before d) → NewShake own d before r
unfolding handshake_by
shake_from own before (Took from item) r h = shake_of own before (Took from item) from None r (inl (item, refl, refl)) h
shake_from own before (Did (Insert life)) r h =
    let g = greets_from own before (Did (Insert life)) life (Some own.life.port) r h in
    shake_of own before (Did (Insert life)) life (Some own.life.port) r (inr (refl, refl, insert_met own life g.1)) h
shake_from own before _ r h = elim h [ ]

-- what a window makes owed is a grant of a long message
pub grant_from : (own : Own) (shape : Shape) (recv : OpId) (size : ℕ) (x : Item) → Member x (grant_for own shape recv size)
    → (send : OpId) × (credits : ℕ) × (shape ≡ LongCts send credits) × (0 < size) × (x ≡ Spelled (Cts send recv size own.life.connid))
unfolding grant_for
grant_from own (LongCts send credits) recv size x h =
    (elim (nat_lt 0 size) as (λ b. nat_lt 0 size ≡ b → Member x (cond b (Spelled (Cts send recv size own.life.connid) ∷ []) [])
    → (s : OpId) × (c : ℕ) × (LongCts send credits ≡ LongCts s c) × (0 < size) × (x ≡ Spelled (Cts s recv size own.life.connid))) [
      | true ↦ λ t k. elim k [ inl is ↦ (send, credits, refl, ltb-true 0 size t, sym is) | inr never ↦ elim never [ ] ]
      | false ↦ λ t k. elim k [ ]
    ]) refl h
grant_from own Eager recv size x h = elim h [ ]
grant_from own Medium recv size x h = elim h [ ]
grant_from own (LongRead send iov) recv size x h = elim h [ ]
grant_from own (Runt send iov runt) recv size x h = elim h [ ]

-- what a filled receive makes owed: the end of a read message, or a receipt
abbrev pub AnEnd : Own → Shape → (confirm : Bool) → MsgNo → OpId → Item → Type 0
AnEnd own shape confirm number recv x =
    ((send : OpId) × (end_for own shape confirm number recv ≡ Spelled (Eor send recv own.life.connid) ∷ []) × (x ≡ Spelled (Eor send recv own.life.connid)))
    ⊎ ((confirm ≡ true) × (is_read_shape shape ≡ false) × (x ≡ Spelled (Receipt number own.life.connid)))

-- a receipt is owed where the sender waits for one
receipt_from : (own : Own) (confirm : Bool) (number : MsgNo) (x : Item) → Member x (receipt_for own confirm number) → (confirm ≡ true) × (x ≡ Spelled (Receipt number own.life.connid))
unfolding receipt_for
receipt_from own true number x (inl is) = (refl, sym is)
receipt_from own true number x (inr never) = elim never [ ]
receipt_from own false number x h = elim h [ ]

-- what a filled receive makes owed is one of these
pub end_from : (own : Own) (shape : Shape) (confirm : Bool) (number : MsgNo) (recv : OpId) (x : Item) → Member x (end_for own shape confirm number recv) → AnEnd own shape confirm number recv x
unfolding end_for is_read_shape
end_from own (LongRead send iov) confirm number recv x (inl is) = inl (send, refl, sym is)
end_from own (LongRead send iov) confirm number recv x (inr never) = elim never [ ]
end_from own (Runt send iov runt) confirm number recv x (inl is) = inl (send, refl, sym is)
end_from own (Runt send iov runt) confirm number recv x (inr never) = elim never [ ]
end_from own Eager confirm number recv x h = (let r = receipt_from own confirm number x h in inr (r.0, refl, r.1))
end_from own Medium confirm number recv x h = (let r = receipt_from own confirm number x h in inr (r.0, refl, r.1))
end_from own (LongCts send credits) confirm number recv x h = (let r = receipt_from own confirm number x h in inr (r.0, refl, r.1))

-- an element of a list that is there if a test holds
pub cond_member : {A : Type 0} (b : Bool) (xs : List A) (x : A) → Member x (cond b xs []) → (b ≡ true) × Member x xs
cond_member true xs x h = (refl, h)
cond_member false xs x h = elim h [ ]

-- what a deed makes a pair owe: an ask, a grant, an end or a receipt
abbrev pub AnyNew : Own → Heads → Deed → List Deed → Pair → Item → Type 0
AnyNew own heads d before p x =
    ((ask : ReadAsk) × (is_pair (pairs own.limits.first heads before) p.recv.id.0 p.message.life p.message.no.0 ≡ false)
    × Member ask (asks_for (shape_in heads p) (recv_in p)) × (x ≡ Asks ask))
    ⊎ (((send : OpId) × (credits : ℕ) × (shape_in heads p ≡ LongCts send credits)
    × (0 < window own.limits heads (d ∷ before) p (granted_bytes own.limits heads before p))
    × (x ≡ Spelled (Cts send (recv_in p) (window own.limits heads (d ∷ before) p (granted_bytes own.limits heads before p)) own.life.connid)))
    ⊎ ((is_filled own.limits.first heads (d ∷ before) p ≡ true) × (is_filled own.limits.first heads before p ≡ false)
    × AnEnd own (shape_in heads p) (confirm_in heads p) p.message.no (recv_in p) x))

-- what a pair owes by a deed is one of these
pub items_from : (own : Own) (heads : Heads) (d : Deed) (before : List Deed) (p : Pair) (x : Item) → Member x (pair_items own heads d before p) → AnyNew own heads d before p x
unfolding pair_items
items_from own heads d before p x h =
    let is_new : Bool = not (is_pair (pairs own.limits.first heads before) p.recv.id.0 p.message.life p.message.no.0) in
    let is_over : Bool = is_filled own.limits.first heads (d ∷ before) p && not (is_filled own.limits.first heads before p) in
    let grants = grant_for own (shape_in heads p) (recv_in p) (window own.limits heads (d ∷ before) p (granted_bytes own.limits heads before p)) in
    let ends = ends_in own heads p in
    elim (member-append_cases x (cond is_new (map Asks (asks_for (shape_in heads p) (recv_in p))) [] ++ grants) (cond is_over ends []) h) [
      | inl k ↦ elim (member-append_cases x (cond is_new (map Asks (asks_for (shape_in heads p) (recv_in p))) []) grants k) [
        | inl a ↦
            let c = cond_member is_new (map Asks (asks_for (shape_in heads p) (recv_in p))) x a in
            let m = member-map Asks x (asks_for (shape_in heads p) (recv_in p)) c.1 in
            inl (m.0, not-true _ c.0, m.1, sym m.2)
        | inr b ↦ inr (inl (grant_from own (shape_in heads p) (recv_in p) (window own.limits heads (d ∷ before) p (granted_bytes own.limits heads before p)) x b))
      ]
      | inr b ↦
          let c = cond_member is_over ends x b in
          let t = and_parts (is_filled own.limits.first heads (d ∷ before) p) (not (is_filled own.limits.first heads before p)) c.0 in
          inr (inr (t.0, not-true _ t.1, end_from own (shape_in heads p) (confirm_in heads p) p.message.no (recv_in p) x c.1))
    ]

-- what pairs owe
pairs_from : (own : Own) (heads : Heads) (sents : List Sent) (d : Deed) (before : List Deed) (r : Reply)
    → Member r (flat_map (pair_replies own heads d before) (pairs own.limits.first heads (d ∷ before))) → NewReply own heads sents d before r
unfolding pair_replies
pairs_from own heads sents d before r h =
    let f = member-flat_map (pair_replies own heads d before) r (pairs own.limits.first heads (d ∷ before)) h in
    let p : Pair = f.0 in
    let m = member-map (reply p.message.life) r (pair_items own heads d before p) f.2 in
    let to : p.message.life ≡ r.to = ap (λ (x : Reply). x.to) m.2 in
    let item : m.0 ≡ r.item = ap (λ (x : Reply). x.item) m.2 in
    let gives : r.gives ≡ None = sym (ap (λ (x : Reply). x.gives) m.2) in
    elim (items_from own heads d before p m.0 m.1) [
      | inl a ↦ inr (inl (record { pair = p; member = f.1; new = a.1; to_is = to; ask = a.0; of = a.2; is = sym item ∙ a.3; gives_is = gives }))
      | inr a ↦ elim a [
        | inl b ↦ inr (inr (inl (record { pair = p; member = f.1; to_is = to; send = b.0; credits = b.1; shape_is = b.2; has_byte = b.3; is = sym item ∙ b.4; gives_is = gives })))
        | inr b ↦ elim b.2 [
          | inl c ↦ inr (inr (inr (inl (record { pair = p; member = f.1; to_is = to; filled = b.0; new = b.1; send = c.0; shape_is = c.1; is = sym item ∙ c.2; gives_is = gives }))))
          | inr c ↦ inr (inr (inr (inr (inl (record { pair = p; member = f.1; to_is = to; filled = b.0; new = b.1; confirm = c.0; unread = c.1; is = sym item ∙ c.2; gives_is = gives })))))
        ]
      ]
    ]

-- what an ask is given is of the send that was found
given_to : (sents : List Sent) (from : Life) (ask : ReadAsk) (o : Option Sent) (r : Reply)
    → find (λ (s : Sent). same_life s.to from && s.number == ask.send_id.0) sents ≡ o → Member r (given_of from ask o) → NewGiven sents (Took from (Asks ask)) r
unfolding given_of
given_to sents from ask None r e h = elim h [ ]
given_to sents from ask (Some s) r e (inl is) =
    let m = find_member (λ (s : Sent). same_life s.to from && s.number == ask.send_id.0) s sents e in
    let t = and_parts (same_life s.to from) (s.number == ask.send_id.0) m.1 in
    subst (λ (x : Reply). NewGiven sents (Took from (Asks ask)) x) is
    (record { ask = ask; took = refl; sent = s; member = m.0; to_is = same_life-true s.to from t.0; names = eqb-true _ _ t.1; is = refl; gives_is = refl })
given_to sents from ask (Some s) r e (inr never) = elim never [ ]

-- what a deed gives answers an ask that it takes
pub given_from : (sents : List Sent) (d : Deed) (r : Reply) → Member r (given_by sents d) → NewGiven sents d r
unfolding given_by
given_from sents (Took from (Asks ask)) r h = given_to sents from ask (find (λ (s : Sent). same_life s.to from && s.number == ask.send_id.0) sents) r refl h
given_from sents _ r h = elim h [ ]

-- each reply that a deed makes owed is of one of these kinds
pub new_from : (own : Own) (heads : Heads) (sents : List Sent) (d : Deed) (before : List Deed) (r : Reply) → Member r (replies_by own heads sents d before)
    → NewReply own heads sents d before r
unfolding replies_by
new_from own heads sents d before r h =
    let of_pairs = flat_map (pair_replies own heads d before) (pairs own.limits.first heads (d ∷ before)) in
    elim (member-append_cases r (handshake_by own before d ++ of_pairs) (given_by sents d) h) [
      | inl a ↦ elim (member-append_cases r (handshake_by own before d) of_pairs a) [
        | inl b ↦ inl (shake_from own before d r b)
        | inr b ↦ pairs_from own heads sents d before r b
      ]
      | inr a ↦ inr (inr (inr (inr (inr (given_from sents d r a)))))
    ]

-- that was owed by some deed
abbrev pub OwedIn : Own → Messages → Reply → List Deed → Type 0
OwedIn own ms r [] = ⊥
OwedIn own ms r (d ∷ before) = NewReply own ms.head (sends own ms before) d before r ⊎ OwedIn own ms r before

-- each reply was owed by some deed
pub owed_in : (own : Own) (ms : Messages) (log : List Deed) (r : Reply) → Member r (owed own ms log) → OwedIn own ms r log
unfolding owed
owed_in own ms [] r h = elim h [ ]
owed_in own ms (d ∷ before) r h =
    elim (member-append_cases r (owed own ms before) (replies_by own ms.head (sends own ms before) d before) h) [
      | inl a ↦ inr (owed_in own ms before r a)
      | inr a ↦ inl (new_from own ms.head (sends own ms before) d before r a)
    ]
