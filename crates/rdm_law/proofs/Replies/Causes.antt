-- What a reply of each kind says of the life that owes it.
use Rattle.std.proofs.Common.{◌≡◌, ℕ, ◌<◌, true, false, List, [], ◌∷◌, take, drop, Option, Some, inl, inr, ◌∙◌, ap, subst}
use Rattle.std.specs.List.{list_any}
use Rattle.std.proofs.lemmas.Bool.{or_left, or_right}
use Rattle.rdm_lists.specs.Lists.{Member}
use Rattle.rdm_num.specs.declared.numbers.Life.{Life}
use Rattle.rdm_num.specs.declared.numbers.Connid.{Connid}
use Rattle.rdm_num.specs.declared.numbers.OpId.{OpId}
use Rattle.rdm_num.specs.declared.numbers.PortNo.{PortNo}
use Rattle.rdm_num.specs.declared.numbers.MsgNo.{MsgNo}
use Rattle.rdm_num.specs.declared.head.Shape.TheVariants.{LongCts}
use Rattle.rdm_pkt.specs.declared.Packet.TheVariants.{Cts, Eor, Handshake, Receipt}
use Rattle.rdm_wire.specs.declared.ReadAsk.{ReadAsk}
use Rattle.rdm_wire.specs.declared.ReadData.{ReadData}
use Rattle.rdm_match.specs.Matcher.{Pair}
use Rattle.rdm_model.specs.Deeds.{Deed, Took, Item, Spelled, Asks, Gives}
use Rattle.rdm_model.specs.Beginnings.{Own, Messages, Heads}
use Rattle.rdm_model.specs.Matches.{pairs}
use Rattle.rdm_model.specs.Receives.{is_filled}
use Rattle.rdm_model.specs.Sends.{Sent, sends, with_sent}
use Rattle.rdm_model.specs.Targets.{is_read_shape}
use Rattle.rdm_model.specs.Replies.{Reply, meets, greeting, asks_for}
use Rattle.rdm_model.proofs.Matches.{pair_still}
use Rattle.rdm_model.proofs.SameReceives.{filled_still}
use Rattle.rdm_law.proofs.Replies.Owed.{shape_in, recv_in, confirm_in, ends_in, OwedIn}
use Rattle.rdm_lists.proofs.Members.{member-append_left}

-- an ask is of a pair
pub record OfAsk (first : ℕ) (heads : Heads) (log : List Deed) (to : Life) (ask : ReadAsk) : Type 0 where
  pub pair : Pair
  pub member : Member pair (pairs first heads log)
  pub to_is : pair.message.life ≡ to
  pub of : Member ask (asks_for (shape_in heads pair) (recv_in pair))

-- a grant is of a pair whose message is granted
pub record OfCts (own : Own) (heads : Heads) (log : List Deed) (to : Life) (send recv : OpId) (size : ℕ) (connid : Connid) : Type 0 where
  pub pair : Pair
  pub member : Member pair (pairs own.limits.first heads log)
  pub to_is : pair.message.life ≡ to
  pub credits : ℕ
  pub shape_is : shape_in heads pair ≡ LongCts send credits
  pub recv_is : recv ≡ recv_in pair
  pub has_byte : 0 < size
  pub connid_is : connid ≡ own.life.connid

-- an end is of a pair that is filled, whose message is read
pub record OfEnd (own : Own) (heads : Heads) (log : List Deed) (to : Life) (send recv : OpId) (connid : Connid) : Type 0 where
  pub pair : Pair
  pub member : Member pair (pairs own.limits.first heads log)
  pub to_is : pair.message.life ≡ to
  pub filled : is_filled own.limits.first heads log pair ≡ true
  pub shape_is : ends_in own heads pair ≡ Spelled (Eor send recv connid) ∷ []
  pub recv_is : recv ≡ recv_in pair
  pub connid_is : connid ≡ own.life.connid

-- a receipt is of a pair that is filled, whose sender waits for it
pub record OfReceipt (own : Own) (heads : Heads) (log : List Deed) (to : Life) (number : MsgNo) (connid : Connid) : Type 0 where
  pub pair : Pair
  pub member : Member pair (pairs own.limits.first heads log)
  pub to_is : pair.message.life ≡ to
  pub filled : is_filled own.limits.first heads log pair ≡ true
  pub confirm : confirm_in heads pair ≡ true
  pub unread : is_read_shape (shape_in heads pair) ≡ false
  pub number_is : number ≡ pair.message.no
  pub connid_is : connid ≡ own.life.connid

-- a greeting tells the own features, to a life that was met
pub record OfShake (own : Own) (log : List Deed) (to : Life) (words : List ℕ) (connid : Connid) : Type 0 where
  pub met : list_any (meets own to) log ≡ true
  pub words_are : words ≡ own.features ∷ []
  pub connid_is : connid ≡ own.life.connid

-- what is given answers an ask that was taken, of a send
pub record OfGiven (own : Own) (ms : Messages) (log : List Deed) (r : Reply) (g : ReadData) : Type 0 where
  pub sent : Sent
  pub member : Member sent (sends own ms log)
  pub to_is : sent.to ≡ r.to
  pub ask : ReadAsk
  pub took : Member (Took r.to (Asks ask)) log
  pub names : sent.number ≡ ask.send_id.0
  pub is : g ≡ record { recv_id = ask.recv_id; at = ask.at; bytes = take ask.length (drop ask.at sent.message.bytes) }
  pub gives_is : r.gives ≡ Some sent.number

-- an ask that is owed is of a pair
pub owed_ask : (own : Own) (ms : Messages) (log : List Deed) (r : Reply) (a : ReadAsk) → OwedIn own ms r log → r.item ≡ Asks a
    → OfAsk own.limits.first ms.head log r.to a
owed_ask own ms [] r a h is = elim h [ ]
owed_ask own ms (d ∷ before) r a (inr h) is =
    let o = owed_ask own ms before r a h is in
    record { pair = o.pair; member = pair_still own.limits.first ms.head d before o.pair o.member; to_is = o.to_is; of = o.of }
owed_ask own ms (d ∷ before) r a (inl (inl n)) is = (let e = n.is in cc)
owed_ask own ms (d ∷ before) r a (inl (inr (inl n))) is =
    let e : n.ask ≡ a = (let f = n.is in cc) in
    record { pair = n.pair; member = n.member; to_is = n.to_is; of = subst (λ (x : ReadAsk). Member x (asks_for (shape_in ms.head n.pair) (recv_in n.pair))) e n.of }
owed_ask own ms (d ∷ before) r a (inl (inr (inr (inl n)))) is = (let e = n.is in cc)
owed_ask own ms (d ∷ before) r a (inl (inr (inr (inr (inl n))))) is = (let e = n.is in cc)
owed_ask own ms (d ∷ before) r a (inl (inr (inr (inr (inr (inl n)))))) is = (let e = n.is in cc)
owed_ask own ms (d ∷ before) r a (inl (inr (inr (inr (inr (inr n)))))) is = (let e = n.is in cc)

-- a grant that is owed is of a pair
pub owed_cts : (own : Own) (ms : Messages) (log : List Deed) (r : Reply) (send recv : OpId) (size : ℕ) (connid : Connid) → OwedIn own ms r log
    → r.item ≡ Spelled (Cts send recv size connid) → OfCts own ms.head log r.to send recv size connid
owed_cts own ms [] r send recv size connid h is = elim h [ ]
owed_cts own ms (d ∷ before) r send recv size connid (inr h) is =
    let o = owed_cts own ms before r send recv size connid h is in
    record {
      pair = o.pair;
      member = pair_still own.limits.first ms.head d before o.pair o.member;
      to_is = o.to_is;
      credits = o.credits;
      shape_is = o.shape_is;
      recv_is = o.recv_is;
      has_byte = o.has_byte;
      connid_is = o.connid_is;
    }
owed_cts own ms (d ∷ before) r send recv size connid (inl (inl n)) is = (let e = n.is in cc)
owed_cts own ms (d ∷ before) r send recv size connid (inl (inr (inl n))) is = (let e = n.is in cc)
owed_cts own ms (d ∷ before) r send recv size connid (inl (inr (inr (inl n)))) is =
    let f = n.is in
    let s : n.send ≡ send = cc in
    let z = n.has_byte in
    record {
      pair = n.pair;
      member = n.member;
      to_is = n.to_is;
      credits = n.credits;
      shape_is = n.shape_is ∙ ap (λ (x : OpId). LongCts x n.credits) s;
      recv_is = cc;
      has_byte = subst (λ x. 0 < x) (cc) n.has_byte;
      connid_is = cc;
    }
owed_cts own ms (d ∷ before) r send recv size connid (inl (inr (inr (inr (inl n))))) is = (let e = n.is in cc)
owed_cts own ms (d ∷ before) r send recv size connid (inl (inr (inr (inr (inr (inl n)))))) is = (let e = n.is in cc)
owed_cts own ms (d ∷ before) r send recv size connid (inl (inr (inr (inr (inr (inr n)))))) is = (let e = n.is in cc)

-- an end that is owed is of a filled pair
pub owed_end : (own : Own) (ms : Messages) (log : List Deed) (r : Reply) (send recv : OpId) (connid : Connid) → OwedIn own ms r log
    → r.item ≡ Spelled (Eor send recv connid) → OfEnd own ms.head log r.to send recv connid
owed_end own ms [] r send recv connid h is = elim h [ ]
owed_end own ms (d ∷ before) r send recv connid (inr h) is =
    let o = owed_end own ms before r send recv connid h is in
    record {
      pair = o.pair;
      member = pair_still own.limits.first ms.head d before o.pair o.member;
      to_is = o.to_is;
      filled = filled_still own.limits.first ms.head d before o.pair o.filled;
      shape_is = o.shape_is;
      recv_is = o.recv_is;
      connid_is = o.connid_is;
    }
owed_end own ms (d ∷ before) r send recv connid (inl (inl n)) is = (let e = n.is in cc)
owed_end own ms (d ∷ before) r send recv connid (inl (inr (inl n))) is = (let e = n.is in cc)
owed_end own ms (d ∷ before) r send recv connid (inl (inr (inr (inl n)))) is = (let e = n.is in cc)
owed_end own ms (d ∷ before) r send recv connid (inl (inr (inr (inr (inl n))))) is =
    let f = n.is in
    let e : Spelled (Eor n.send (recv_in n.pair) own.life.connid) ≡ Spelled (Eor send recv connid) = cc in
    record {
      pair = n.pair;
      member = n.member;
      to_is = n.to_is;
      filled = n.filled;
      shape_is = n.shape_is ∙ ap (λ (x : Item). x ∷ []) e;
      recv_is = cc;
      connid_is = cc;
    }
owed_end own ms (d ∷ before) r send recv connid (inl (inr (inr (inr (inr (inl n)))))) is = (let e = n.is in cc)
owed_end own ms (d ∷ before) r send recv connid (inl (inr (inr (inr (inr (inr n)))))) is = (let e = n.is in cc)

-- a handshake that is owed is for a life that was met
pub owed_shake : (own : Own) (ms : Messages) (log : List Deed) (r : Reply) (words : List ℕ) (connid : Connid) (raw : Option PortNo) → OwedIn own ms r log
    → r.item ≡ Spelled (Handshake words connid raw) → OfShake own log r.to words connid
owed_shake own ms [] r words connid raw h is = elim h [ ]
owed_shake own ms (d ∷ before) r words connid raw (inr h) is =
    let o = owed_shake own ms before r words connid raw h is in
    record { met = or_right (meets own r.to d) (list_any (meets own r.to) before) o.met; words_are = o.words_are; connid_is = o.connid_is }
owed_shake own ms (d ∷ before) r words connid raw (inl (inl n)) is =
    let f = n.is in record { met = or_left (meets own r.to d) (list_any (meets own r.to) before) n.met; words_are = cc; connid_is = cc }
owed_shake own ms (d ∷ before) r words connid raw (inl (inr (inl n))) is = (let e = n.is in cc)
owed_shake own ms (d ∷ before) r words connid raw (inl (inr (inr (inl n)))) is = (let e = n.is in cc)
owed_shake own ms (d ∷ before) r words connid raw (inl (inr (inr (inr (inl n))))) is = (let e = n.is in cc)
owed_shake own ms (d ∷ before) r words connid raw (inl (inr (inr (inr (inr (inl n)))))) is = (let e = n.is in cc)
owed_shake own ms (d ∷ before) r words connid raw (inl (inr (inr (inr (inr (inr n)))))) is = (let e = n.is in cc)

-- a receipt that is owed is of a filled pair, whose sender waits for it
pub owed_receipt : (own : Own) (ms : Messages) (log : List Deed) (r : Reply) (number : MsgNo) (connid : Connid) → OwedIn own ms r log
    → r.item ≡ Spelled (Receipt number connid) → OfReceipt own ms.head log r.to number connid
owed_receipt own ms [] r number connid h is = elim h [ ]
owed_receipt own ms (d ∷ before) r number connid (inr h) is =
    let o = owed_receipt own ms before r number connid h is in
    record {
      pair = o.pair;
      member = pair_still own.limits.first ms.head d before o.pair o.member;
      to_is = o.to_is;
      filled = filled_still own.limits.first ms.head d before o.pair o.filled;
      confirm = o.confirm;
      unread = o.unread;
      number_is = o.number_is;
      connid_is = o.connid_is;
    }
owed_receipt own ms (d ∷ before) r number connid (inl (inl n)) is = (let e = n.is in cc)
owed_receipt own ms (d ∷ before) r number connid (inl (inr (inl n))) is = (let e = n.is in cc)
owed_receipt own ms (d ∷ before) r number connid (inl (inr (inr (inl n)))) is = (let e = n.is in cc)
owed_receipt own ms (d ∷ before) r number connid (inl (inr (inr (inr (inl n))))) is = (let e = n.is in cc)
owed_receipt own ms (d ∷ before) r number connid (inl (inr (inr (inr (inr (inl n)))))) is =
    let f = n.is in
    record {
      pair = n.pair;
      member = n.member;
      to_is = n.to_is;
      filled = n.filled;
      confirm = n.confirm;
      unread = n.unread;
      number_is = cc;
      connid_is = cc;
    }
owed_receipt own ms (d ∷ before) r number connid (inl (inr (inr (inr (inr (inr n)))))) is = (let e = n.is in cc)

-- a send stays one of the sends
sent_still : (own : Own) (ms : Messages) (d : Deed) (before : List Deed) (s : Sent) → Member s (sends own ms before) → Member s (sends own ms (d ∷ before))
unfolding sends with_sent
sent_still own ms d before s h = member-append_left s (sends own ms before) _ h

-- what is given is owed for an ask that was taken
pub owed_given : (own : Own) (ms : Messages) (log : List Deed) (r : Reply) (g : ReadData) → OwedIn own ms r log → r.item ≡ Gives g → OfGiven own ms log r g
owed_given own ms [] r g h is = elim h [ ]
owed_given own ms (d ∷ before) r g (inr h) is =
    let o = owed_given own ms before r g h is in
    record {
      sent = o.sent;
      member = sent_still own ms d before o.sent o.member;
      to_is = o.to_is;
      ask = o.ask;
      took = inr o.took;
      names = o.names;
      is = o.is;
      gives_is = o.gives_is;
    }
owed_given own ms (d ∷ before) r g (inl (inl n)) is = (let e = n.is in cc)
owed_given own ms (d ∷ before) r g (inl (inr (inl n))) is = (let e = n.is in cc)
owed_given own ms (d ∷ before) r g (inl (inr (inr (inl n)))) is = (let e = n.is in cc)
owed_given own ms (d ∷ before) r g (inl (inr (inr (inr (inl n))))) is = (let e = n.is in cc)
owed_given own ms (d ∷ before) r g (inl (inr (inr (inr (inr (inl n)))))) is = (let e = n.is in cc)
owed_given own ms (d ∷ before) r g (inl (inr (inr (inr (inr (inr n)))))) is =
    let f = n.is in
    record {
      sent = n.sent;
      member = sent_still own ms d before n.sent n.member;
      to_is = n.to_is;
      ask = n.ask;
      took = inl n.took;
      names = n.names;
      is = cc;
      gives_is = n.gives_is;
    }
