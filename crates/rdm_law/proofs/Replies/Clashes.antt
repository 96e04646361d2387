-- Replies that clash: what is owed has one of them at most.
use Rattle.std.proofs.Common.{Option, ◌≡◌, ℕ, List, length, ◌⊎◌, inl, inr, sym, ◌∙◌, ap}
use Rattle.rdm_num.specs.declared.numbers.MsgNo.{MsgNo}
use Rattle.rdm_num.specs.declared.numbers.PortNo.{PortNo}
use Rattle.rdm_num.specs.declared.numbers.Connid.{Connid}
use Rattle.rdm_num.specs.declared.numbers.OpId.{OpId}
use Rattle.rdm_pkt.specs.declared.Packet.TheVariants.{Cts, Eor, Handshake, Receipt}
use Rattle.rdm_wire.specs.declared.ReadAsk.{ReadAsk}
use Rattle.rdm_wire.specs.declared.ReadData.{ReadData}
use Rattle.rdm_match.specs.Matcher.{Pair}
use Rattle.rdm_model.specs.Deeds.{Deed, Item, Spelled, Asks, Gives}
use Rattle.rdm_model.specs.Beginnings.{Own, Heads}
use Rattle.rdm_model.specs.Replies.{Reply}
use Rattle.rdm_law.proofs.Replies.Asks.{Shares, AsksShare, asks_share_back, asks_for_recv}
use Rattle.rdm_law.proofs.Replies.Owed.{shape_in, recv_in, AnyNew}

-- two handshakes to one life
pub record ClashShake (r s : Reply) : Type 0 where
  pub to_is : r.to ≡ s.to
  pub words : List ℕ
  pub connid : Connid
  pub raw : Option PortNo
  pub is : r.item ≡ Spelled (Handshake words connid raw)
  pub words' : List ℕ
  pub connid' : Connid
  pub raw' : Option PortNo
  pub is' : s.item ≡ Spelled (Handshake words' connid' raw')

-- two asks of one receive that share a byte
pub record ClashAsk (r s : Reply) : Type 0 where
  pub ask : ReadAsk
  pub is : r.item ≡ Asks ask
  pub ask' : ReadAsk
  pub is' : s.item ≡ Asks ask'
  pub recv_is : ask.recv_id.0 ≡ ask'.recv_id.0
  pub share : AsksShare ask ask'

-- two ends of one receive
pub record ClashEnd (r s : Reply) : Type 0 where
  pub send : OpId
  pub recv : OpId
  pub connid : Connid
  pub is : r.item ≡ Spelled (Eor send recv connid)
  pub send' : OpId
  pub recv' : OpId
  pub connid' : Connid
  pub is' : s.item ≡ Spelled (Eor send' recv' connid')
  pub recv_is : recv.0 ≡ recv'.0

-- bytes of one send that are given to one life twice
pub record ClashGiven (r s : Reply) : Type 0 where
  pub to_is : r.to ≡ s.to
  pub gives_is : r.gives ≡ s.gives
  pub data' : ReadData
  pub is : r.item ≡ Gives data'
  pub data'' : ReadData
  pub is' : s.item ≡ Gives data''
  pub share : Shares data'.at (length data'.bytes) data''.at (length data''.bytes)

-- two receipts of one message to one life
pub record ClashReceipt (r s : Reply) : Type 0 where
  pub to_is : r.to ≡ s.to
  pub number : MsgNo
  pub connid : Connid
  pub is : r.item ≡ Spelled (Receipt number connid)
  pub connid' : Connid
  pub is' : s.item ≡ Spelled (Receipt number connid')

-- two replies of which a life owes one at most
abbrev pub Clash : Reply → Reply → Type 0
Clash r s = ClashShake r s ⊎ (ClashAsk r s ⊎ (ClashEnd r s ⊎ (ClashGiven r s ⊎ ClashReceipt r s)))

-- clashes hold both ways
pub clash_back : (r s : Reply) → Clash r s → Clash s r
clash_back r s (inl c) = inl (record { to_is = sym c.to_is; words = c.words'; connid = c.connid'; raw = c.raw'; is = c.is'; words' = c.words; connid' = c.connid; raw' = c.raw; is' = c.is })
clash_back r s (inr (inl c)) = inr (inl (record { ask = c.ask'; is = c.is'; ask' = c.ask; is' = c.is; recv_is = sym c.recv_is; share = asks_share_back c.ask c.ask' c.share }))
clash_back r s (inr (inr (inl c))) =
    inr (inr (inl (record { send = c.send'; recv = c.recv'; connid = c.connid'; is = c.is'; send' = c.send; recv' = c.recv; connid' = c.connid; is' = c.is; recv_is = sym c.recv_is })))
clash_back r s (inr (inr (inr (inr c)))) =
    inr (inr (inr (inr (record { to_is = sym c.to_is; number = c.number; connid = c.connid'; is = c.is'; connid' = c.connid; is' = c.is }))))
clash_back r s (inr (inr (inr (inl c)))) =
    inr (inr (inr (inl (record { to_is = sym c.to_is; gives_is = sym c.gives_is; data' = c.data''; is = c.is'; data'' = c.data'; is' = c.is; share = (c.share.0, c.share.3, c.share.4, c.share.1, c.share.2) }))))

-- the kinds of replies that are told apart
pub data Kind : Type 0 where
  Shakes : Kind
  AsksBytes : Kind
  Grants : Kind
  Ends : Kind
  GivesBytes : Kind
  Receipts : Kind
  Others : Kind

-- the kind of a reply
unfoldable pub kind_of : Item → Kind
kind_of (Spelled (Handshake words connid raw)) = Shakes
kind_of (Spelled (Cts send recv size connid)) = Grants
kind_of (Spelled (Eor send recv connid)) = Ends
kind_of (Spelled (Receipt number connid)) = Receipts
kind_of (Asks a) = AsksBytes
kind_of (Gives g) = GivesBytes
kind_of _ = Others

-- the receive that a reply of a pair names
unfoldable pub recv_of : Item → ℕ
recv_of (Spelled (Cts send recv size connid)) = recv.0
recv_of (Spelled (Eor send recv connid)) = recv.0
recv_of (Asks a) = a.recv_id.0
recv_of _ = 0

-- the message that a receipt names
unfoldable pub receipt_of : Item → ℕ
receipt_of (Spelled (Receipt number connid)) = number.0
receipt_of _ = 0

-- replies that clash are of one kind, and not grants
pub clash_kind : (r s : Reply) → Clash r s → (kind_of r.item ≡ kind_of s.item) × (kind_of r.item ≡ Grants → ⊥)
unfolding kind_of
clash_kind r s (inl c) = (ap kind_of c.is ∙ sym (ap kind_of c.is'), λ e. let f = ap kind_of c.is in cc)
clash_kind r s (inr (inl c)) = (ap kind_of c.is ∙ sym (ap kind_of c.is'), λ e. let f = ap kind_of c.is in cc)
clash_kind r s (inr (inr (inl c))) = (ap kind_of c.is ∙ sym (ap kind_of c.is'), λ e. let f = ap kind_of c.is in cc)
clash_kind r s (inr (inr (inr (inl c)))) = (ap kind_of c.is ∙ sym (ap kind_of c.is'), λ e. let f = ap kind_of c.is in cc)
clash_kind r s (inr (inr (inr (inr c)))) = (ap kind_of c.is ∙ sym (ap kind_of c.is'), λ e. let f = ap kind_of c.is in cc)

-- asks or ends that clash name one receive
pub clash_recv : (r s : Reply) → Clash r s → (kind_of r.item ≡ AsksBytes) ⊎ (kind_of r.item ≡ Ends) → recv_of r.item ≡ recv_of s.item
unfolding kind_of recv_of
clash_recv r s (inl c) k = (let f = ap kind_of c.is in elim k [ inl a ↦ cc | inr a ↦ cc ])
clash_recv r s (inr (inl c)) k = ap recv_of c.is ∙ c.recv_is ∙ sym (ap recv_of c.is')
clash_recv r s (inr (inr (inl c))) k = ap recv_of c.is ∙ c.recv_is ∙ sym (ap recv_of c.is')
clash_recv r s (inr (inr (inr (inl c)))) k = (let f = ap kind_of c.is in elim k [ inl a ↦ cc | inr a ↦ cc ])
clash_recv r s (inr (inr (inr (inr c)))) k = (let f = ap kind_of c.is in elim k [ inl a ↦ cc | inr a ↦ cc ])

-- receipts that clash go to one life and name one message
pub clash_receipt : (r s : Reply) → Clash r s → kind_of r.item ≡ Receipts → (r.to ≡ s.to) × (receipt_of r.item ≡ receipt_of s.item)
unfolding kind_of receipt_of
clash_receipt r s (inl c) k = (let f = ap kind_of c.is in cc)
clash_receipt r s (inr (inl c)) k = (let f = ap kind_of c.is in cc)
clash_receipt r s (inr (inr (inl c))) k = (let f = ap kind_of c.is in cc)
clash_receipt r s (inr (inr (inr (inl c)))) k = (let f = ap kind_of c.is in cc)
clash_receipt r s (inr (inr (inr (inr c)))) k = (c.to_is, ap receipt_of c.is ∙ sym (ap receipt_of c.is'))

-- an ask, a grant or an end that names the pair's receive, or a receipt that names its message
abbrev pub IsOfPair : Pair → Item → Type 0
IsOfPair p x =
    (((kind_of x ≡ AsksBytes) ⊎ ((kind_of x ≡ Grants) ⊎ (kind_of x ≡ Ends))) × (recv_of x ≡ p.recv.id.0))
    ⊎ ((kind_of x ≡ Receipts) × (receipt_of x ≡ p.message.no.0))

-- what a pair owes is one of these
pub item_of_pair : (own : Own) (heads : Heads) (d : Deed) (before : List Deed) (p : Pair) (x : Item) → AnyNew own heads d before p x → IsOfPair p x
unfolding kind_of recv_of receipt_of
item_of_pair own heads d before p x (inl a) =
    inl (inl (ap kind_of a.3), ap recv_of a.3 ∙ ap (λ (y : OpId). y.0) (asks_for_recv (shape_in heads p) (recv_in p) a.0 a.2))
item_of_pair own heads d before p x (inr (inl b)) = inl (inr (inl (ap kind_of b.4)), ap recv_of b.4)
item_of_pair own heads d before p x (inr (inr c)) =
    elim c.2 [
      | inl e ↦ inl (inr (inr (ap kind_of e.2)), ap recv_of e.2)
      | inr e ↦ inr (ap kind_of e.2, ap receipt_of e.2)
    ]
