-- What a receive makes owed, and what else the record of an endpoint owes.
use Rattle.std.proofs.Common.{◌≡◌, ℕ, Bool, true, false, List, [], ◌∷◌, ◌++◌, map, Option, Some, None, option_map, slice_get, refl, ap, ap₂, sym, ◌∙◌, cond, IfNone, IfSome, nat_lt, append_assoc}
use Rattle.std.proofs.lemmas.List.{map-append}
use Rattle.rdm_num.specs.declared.numbers.Life.{Life}
use Rattle.rdm_num.specs.declared.numbers.OpId.{OpId}
use Rattle.rdm_num.specs.declared.numbers.MsgNo.{MsgNo}
use Rattle.rdm_num.specs.declared.head.Shape.{Shape}
use Rattle.rdm_num.specs.declared.head.Shape.TheVariants.{Eager, Medium, LongCts, LongRead, Runt}
use Rattle.rdm_pkt.specs.declared.Packet.{Packet}
use Rattle.rdm_pkt.specs.declared.Packet.TheVariants.{Cts, Eor, Receipt}
use Rattle.rdm_wire.specs.declared.ReadAsk.{ReadAsk}
use Rattle.rdm_model.specs.Beginnings.{Own}
use Rattle.rdm_model.specs.Deeds.{Item, Spelled, Asks}
use Rattle.rdm_model.specs.Replies.{Reply, reply, asks_for, grant_for, end_for, receipt_for, given_of}
use Rattle.rdm_rx.specs.declared.asks.Asks.{Asks as Left}
use Rattle.rdm_rx.specs.Left.{left}
use Rattle.rdm_rx.specs.Receiving.{window_if}
use Rattle.rdm_life.specs.Landing.{has_all, next_window, items_of, replies_of}
use Rattle.rdm_answers.specs.declared.answer.Answer.{Answer}
use Rattle.rdm_answers.specs.declared.answer.Answer.TheVariants as A
use Rattle.rdm_answers.specs.declared.answer.Dues.{Dues}
use Rattle.rdm_answers.specs.Answers.{BytesOf, replies_for, replies_by, replies_of_dues, answer_of}
use Rattle.rdm_answers.specs.Laws.{DuesAreOwed, WindowsAgree, GreetingsGreet, GivensGive}

-- ---- packets

-- a packet that an answer of the life goes out as
abbrev IsAnswer : Own → BytesOf → Life → Packet → Type 0
IsAnswer own bytes_of to p = replies_by own bytes_of to (answer_of (Some p)) ≡ reply to (Spelled p) ∷ []

-- grants, ends and receipts of the life are such packets
grant_answers : (own : Own) (bytes_of : BytesOf) (to : Life) (send recv : OpId) (size : ℕ) → IsAnswer own bytes_of to (Cts send recv size own.life.connid)
unfolding replies_by replies_for answer_of
grant_answers own bytes_of to send recv size = refl

end_answers : (own : Own) (bytes_of : BytesOf) (to : Life) (send recv : OpId) → IsAnswer own bytes_of to (Eor send recv own.life.connid)
unfolding replies_by replies_for answer_of
end_answers own bytes_of to send recv = refl

receipt_answers : (own : Own) (bytes_of : BytesOf) (to : Life) (number : MsgNo) → IsAnswer own bytes_of to (Receipt number own.life.connid)
unfolding replies_by replies_for answer_of
receipt_answers own bytes_of to number = refl

-- no packet goes out as nothing
no_answer : (own : Own) (bytes_of : BytesOf) (to : Life) (packet : Option Packet) → option_map Spelled packet ≡ None → replies_by own bytes_of to (answer_of packet) ≡ []
unfolding replies_by answer_of
no_answer own bytes_of to None e = refl
no_answer own bytes_of to (Some p) e = cc

-- the packet goes out as its answer
one_answer : (own : Own) (bytes_of : BytesOf) (to : Life) (packet : Option Packet) (p : Packet) → option_map Spelled packet ≡ Some (Spelled p) → IsAnswer own bytes_of to p
    → replies_by own bytes_of to (answer_of packet) ≡ reply to (Spelled p) ∷ []
one_answer own bytes_of to None p e a = cc
one_answer own bytes_of to (Some q) p e a = let i : q ≡ p = cc in ap (λ x. replies_by own bytes_of to (answer_of (Some x))) i ∙ a

-- where a packet is all that is owed, its answer goes out as that
abbrev GoesAs : Own → BytesOf → Life → Option Packet → List Item → Type 0
GoesAs own bytes_of to packet items = option_map Spelled packet ≡ slice_get items 0 → replies_by own bytes_of to (answer_of packet) ≡ map (reply to) items

-- a grant
grant_goes : (own : Own) (bytes_of : BytesOf) (to : Life) (packet : Option Packet) (shape : Shape) (recv : OpId) (size : ℕ)
    → GoesAs own bytes_of to packet (grant_for own shape recv size)
unfolding grant_for
grant_goes own bytes_of to packet Eager recv size e = no_answer own bytes_of to packet e
grant_goes own bytes_of to packet Medium recv size e = no_answer own bytes_of to packet e
grant_goes own bytes_of to packet (LongRead send iov) recv size e = no_answer own bytes_of to packet e
grant_goes own bytes_of to packet (Runt send iov runt) recv size e = no_answer own bytes_of to packet e
grant_goes own bytes_of to packet (LongCts send credits) recv size e =
    elim (nat_lt 0 size) as (λ b. GoesAs own bytes_of to packet (cond b (Spelled (Cts send recv size own.life.connid) ∷ []) [])) [
      | true ↦ λ e. one_answer own bytes_of to packet _ e (grant_answers own bytes_of to send recv size)
      | false ↦ λ e. no_answer own bytes_of to packet e
    ] e

-- a receipt
receipt_goes : (own : Own) (bytes_of : BytesOf) (to : Life) (packet : Option Packet) (confirm : Bool) (number : MsgNo)
    → GoesAs own bytes_of to packet (receipt_for own confirm number)
unfolding receipt_for
receipt_goes own bytes_of to packet true number e = one_answer own bytes_of to packet _ e (receipt_answers own bytes_of to number)
receipt_goes own bytes_of to packet false number e = no_answer own bytes_of to packet e

-- an end
end_goes : (own : Own) (bytes_of : BytesOf) (to : Life) (packet : Option Packet) (shape : Shape) (confirm : Bool) (number : MsgNo) (recv : OpId)
    → GoesAs own bytes_of to packet (end_for own shape confirm number recv)
unfolding end_for
end_goes own bytes_of to packet Eager confirm number recv e = receipt_goes own bytes_of to packet confirm number e
end_goes own bytes_of to packet Medium confirm number recv e = receipt_goes own bytes_of to packet confirm number e
end_goes own bytes_of to packet (LongCts send credits) confirm number recv e = receipt_goes own bytes_of to packet confirm number e
end_goes own bytes_of to packet (LongRead send iov) confirm number recv e = one_answer own bytes_of to packet _ e (end_answers own bytes_of to send recv)
end_goes own bytes_of to packet (Runt send iov runt) confirm number recv e = one_answer own bytes_of to packet _ e (end_answers own bytes_of to send recv)

-- an end, where the message is over
end_if_goes : (own : Own) (bytes_of : BytesOf) (to : Life) (packet : Option Packet) (is_over : Bool) (shape : Shape) (confirm : Bool) (number : MsgNo) (recv : OpId)
    → GoesAs own bytes_of to packet (cond is_over (end_for own shape confirm number recv) [])
end_if_goes own bytes_of to packet true shape confirm number recv e = end_goes own bytes_of to packet shape confirm number recv e
end_if_goes own bytes_of to packet false shape confirm number recv e = no_answer own bytes_of to packet e

-- ---- asks

-- each ask goes out as one
each_ask : (to : Life) (asks : List ReadAsk) → map (λ (ask : ReadAsk). reply to (Asks ask)) asks ≡ map (reply to) (map Asks asks)
each_ask to [] = refl
each_ask to (ask ∷ asks) = ap (λ rs. reply to (Asks ask) ∷ rs) (each_ask to asks)

-- the asks go out as those that are left
asks_go : (own : Own) (bytes_of : BytesOf) (to : Life) (asks : Option Left) (wanted : List ReadAsk)
    → IfNone asks (wanted ≡ []) → IfSome asks (λ a. left a ≡ wanted)
    → replies_by own bytes_of to (option_map A.Asks asks) ≡ map (reply to) (map Asks wanted)
unfolding replies_by replies_for
asks_go own bytes_of to None wanted n s = rw n refl
asks_go own bytes_of to (Some a) wanted n s = each_ask to (left a) ∙ ap (λ xs. map (reply to) (map Asks xs)) s

-- no asks but those of a new match
asks_if : (is_new : Bool) (asks : List ReadAsk) → map Asks (cond is_new asks []) ≡ cond is_new (map Asks asks) []
asks_if true asks = refl
asks_if false asks = refl

-- three lists of items
three : (to : Life) (a b c : List Item) → (map (reply to) a ++ map (reply to) b) ++ map (reply to) c ≡ map (reply to) ((a ++ b) ++ c)
three to a b c = sym (map-append (reply to) (a ++ b) c ∙ ap (λ xs. xs ++ map (reply to) c) (map-append (reply to) a b))

-- what a receive asks for, grants and ends with goes out as what its message makes owed
pub dues_are_owed : DuesAreOwed
unfolding replies_of_dues replies_of items_of
dues_are_owed own bytes_of is_new recv m dues d =
    let to : Life = m.source in
    let a_items : List Item = cond is_new (map Asks (asks_for m.head.shape recv)) [] in
    let g_items : List Item = grant_for own m.head.shape recv (next_window own m) in
    let e_items : List Item = cond (has_all m) (end_for own m.head.shape m.head.confirm (record { 0 = m.number }) recv) [] in
    let x = asks_go own bytes_of to dues.asks _ d.no_asks d.asks ∙ ap (map (reply to)) (asks_if is_new (asks_for m.head.shape recv)) in
    let y = grant_goes own bytes_of to dues.grant m.head.shape recv (next_window own m) (d.grant own refl).0 in
    let z = end_if_goes own bytes_of to dues.end (has_all m) m.head.shape m.head.confirm (record { 0 = m.number }) recv (d.end own refl).0 in
    ap₂ (λ xs ys. xs ++ ys) (ap₂ (λ xs ys. xs ++ ys) x y) z ∙ three to a_items g_items e_items

-- three answers after others are what a receive makes owed after them
pub three_more : (own : Own) (bytes_of : BytesOf) (to : Life) (dues : Dues) (before one two all : List Reply) (asks grant end' : Option Answer)
    → one ≡ before ++ replies_by own bytes_of to asks
    → two ≡ one ++ replies_by own bytes_of to grant
    → all ≡ two ++ replies_by own bytes_of to end'
    → asks ≡ option_map A.Asks dues.asks
    → grant ≡ answer_of dues.grant
    → end' ≡ answer_of dues.end
    → all ≡ before ++ replies_of_dues own bytes_of to dues
unfolding replies_of_dues
three_more own bytes_of to dues before one two all asks grant end' x y z a g e =
    let by : Option Answer → List Reply = replies_by own bytes_of to in
    let b = z ∙ ap (λ rs. rs ++ by end') (y ∙ ap (λ rs. rs ++ by grant) x) in
    b ∙ simp append_assoc (rw (a, g, e) refl)

-- ---- the others

-- the window of a receive is that of the record
pub windows_agree : WindowsAgree
unfolding window_if next_window
windows_agree own m r h g = rw (h, g) refl

pub greetings_greet : GreetingsGreet
unfolding replies_for
greetings_greet own bytes_of to raw = refl

-- the answer to an ask gives the bytes of its send
pub givens_give : GivensGive
unfolding replies_for given_of
givens_give own bytes_of to ask s n b = rw (← n, b) refl
