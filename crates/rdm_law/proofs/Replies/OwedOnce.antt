-- What is owed has no replies that clash.
use Rattle.std.proofs.Common.{◌≡◌, ℕ, ◌≤◌, true, false, List, [], ◌∷◌, length, take, drop, Some, arith, inl, inr, sym, ◌∙◌, ap, subst}
use Rattle.std.specs.List.{list_any}
use Rattle.std.proofs.lemmas.List.{length-take}
use Rattle.rdm_lists.specs.Lists.{Member}
use Rattle.rdm_num.specs.declared.numbers.Life.{Life}
use Rattle.rdm_num.specs.declared.numbers.OpId.{OpId}
use Rattle.rdm_num.specs.declared.numbers.MsgNo.{MsgNo}
use Rattle.rdm_wire.specs.declared.ReadAsk.{ReadAsk}
use Rattle.rdm_wire.specs.declared.ReadData.{ReadData}
use Rattle.rdm_match.specs.Matcher.{Pair, is_pair}
use Rattle.rdm_model.specs.Deeds.{Deed, Took, Item, Asks}
use Rattle.rdm_model.specs.Beginnings.{Own, Messages, Heads}
use Rattle.rdm_model.specs.Matches.{pairs}
use Rattle.rdm_model.specs.Receives.{is_filled}
use Rattle.rdm_model.specs.Sends.{sends}
use Rattle.rdm_model.specs.Replies.{Reply, reply, meets, replies_by}
use Rattle.rdm_model.proofs.Matches.{member_is_pair, pair_still}
use Rattle.rdm_law.proofs.Matching.Numbered.{matching_numbered}
use Rattle.rdm_law.proofs.Matching.Distinct.{matching_distinct}
use Rattle.rdm_law.proofs.Replies.Unique.{Unique, unique_none, unique_append}
use Rattle.rdm_law.proofs.Replies.Asks.{AsksShare, asks_for_recv}
use Rattle.rdm_law.proofs.Replies.Queue.{owed}
use Rattle.rdm_law.proofs.Replies.Owed.{shape_in, recv_in, NewReply, OwedIn, new_from, owed_in}
use Rattle.rdm_law.proofs.Replies.Clashes.{ClashShake, ClashAsk, ClashEnd, ClashGiven, ClashReceipt, Clash, clash_back, clash_kind, clash_recv, clash_receipt}
use Rattle.rdm_law.proofs.Replies.Causes.{owed_ask, owed_end, owed_receipt, owed_shake, owed_given}
use Rattle.rdm_law.proofs.Replies.NewReplies.{Telling, new_unique}
use Rattle.rdm_lists.proofs.Members.{member_list_any}
use Rattle.rdm_num.proofs.Lives.{same_life-refl}

-- asks that clash share a byte
asks_share : (to : Life) (a b : ReadAsk) → Clash (reply to (Asks a)) (reply to (Asks b)) → AsksShare a b
asks_share to a b (inl c) = (let e = c.is in cc)
asks_share to a b (inr (inl c)) =
    let e : c.ask ≡ a = (let f = c.is in cc) in
    let g : c.ask' ≡ b = (let f = c.is' in cc) in
    subst (λ (x : ReadAsk). AsksShare x b) e (subst (λ (x : ReadAsk). AsksShare c.ask x) g c.share)
asks_share to a b (inr (inr (inl c))) = (let e = c.is in cc)
asks_share to a b (inr (inr (inr (inl c)))) = (let e = c.is in cc)
asks_share to a b (inr (inr (inr (inr c)))) = (let e = c.is in cc)

-- clashes are such a relation
clash_tells : Telling Clash
clash_tells =
    record {
      back = clash_back;
      kinds = λ r s c. (clash_kind r s c).0;
      recvs = λ r s c k. clash_recv r s c (elim k [ inl x ↦ inl x | inr x ↦ elim x [ inl y ↦ absurd ((clash_kind r s c).1 y) | inr y ↦ inr y ] ]);
      asks = asks_share;
      receipts = clash_receipt;
    }

-- no two asks that were taken from a life for one send share a byte
abbrev pub AsksApart : List Deed → Type 0
AsksApart [] = Unit {0}
AsksApart (d ∷ before) =
    AsksApart before
    × ((from : Life) (a b : ReadAsk) → d ≡ Took from (Asks b) → Member (Took from (Asks a)) before → a.send_id.0 ≡ b.send_id.0 → AsksShare a b → ⊥)

-- the bytes that are given lie in what was asked for
given_within : (ask : ReadAsk) (bytes : List ℕ) → length (take ask.length (drop ask.at bytes)) ≤ ask.length
given_within ask bytes = let e = length-take ask.length (drop ask.at bytes) in omega arith

-- an ask that was taken, by an equal life
asks_at : (from to : Life) (a : ReadAsk) (before : List Deed) → from ≡ to → Member (Took from (Asks a)) before → Member (Took to (Asks a)) before
asks_at from to a before e h = subst (λ (x : Life). Member (Took x (Asks a)) before) e h

-- a pair of a longer log that has the receive of an older one is that one
same_pair : (first : ℕ) (heads : Heads) (d : Deed) (before : List Deed) (p q : Pair) → Member p (pairs first heads before) → Member q (pairs first heads (d ∷ before))
    → p.recv.id.0 ≡ q.recv.id.0 → p ≡ q
same_pair first heads d before p q h k e = (matching_numbered first heads (d ∷ before)).once p q (pair_still first heads d before p h) k e

-- no new reply clashes with one that is owed already
abbrev Fresh : Own → Messages → Deed → List Deed → Type 0
Fresh own ms d before =
    (r s : Reply) → OwedIn own ms r before → NewReply own ms.head (sends own ms before) d before s → Clash r s → ⊥

-- a life is greeted when it is met, and not again
fresh_shake : (own : Own) (ms : Messages) (d : Deed) (before : List Deed) (r s : Reply) → OwedIn own ms r before → NewReply own ms.head (sends own ms before) d before s → ClashShake r s → ⊥
fresh_shake own ms d before r s h (inl n) c =
    let o = owed_shake own ms before r c.words c.connid c.raw h c.is in
    let t = o.met in
    let f : list_any (meets own r.to) before ≡ false = subst (λ (x : Life). list_any (meets own x) before ≡ false) (sym c.to_is) n.first in
    cc
fresh_shake own ms d before r s h (inr (inl n)) c = (let e = n.is in let f = c.is' in cc)
fresh_shake own ms d before r s h (inr (inr (inl n))) c = (let e = n.is in let f = c.is' in cc)
fresh_shake own ms d before r s h (inr (inr (inr (inl n)))) c = (let e = n.is in let f = c.is' in cc)
fresh_shake own ms d before r s h (inr (inr (inr (inr (inl n))))) c = (let e = n.is in let f = c.is' in cc)
fresh_shake own ms d before r s h (inr (inr (inr (inr (inr n))))) c = (let e = n.is in let f = c.is' in cc)

-- asks are owed for a new pair alone
fresh_ask : (own : Own) (ms : Messages) (d : Deed) (before : List Deed) (r s : Reply) → OwedIn own ms r before → NewReply own ms.head (sends own ms before) d before s → ClashAsk r s → ⊥
fresh_ask own ms d before r s h (inl n) c = (let e = n.is in let f = c.is' in cc)
fresh_ask own ms d before r s h (inr (inl n)) c =
    let o = owed_ask own ms before r c.ask h c.is in
    let e : n.ask ≡ c.ask' = (let x = n.is in let y = c.is' in cc) in
    let a : c.ask.recv_id.0 ≡ o.pair.recv.id.0 = ap (λ (y : OpId). y.0) (asks_for_recv (shape_in ms.head o.pair) (recv_in o.pair) c.ask o.of) in
    let b : n.ask.recv_id.0 ≡ n.pair.recv.id.0 = ap (λ (y : OpId). y.0) (asks_for_recv (shape_in ms.head n.pair) (recv_in n.pair) n.ask n.of) in
    let g : n.ask.recv_id.0 ≡ c.ask'.recv_id.0 = ap (λ (y : ReadAsk). y.recv_id.0) e in
    let same : o.pair ≡ n.pair = same_pair own.limits.first ms.head d before o.pair n.pair o.member n.member (sym a ∙ c.recv_is ∙ sym g ∙ b) in
    let t : is_pair (pairs own.limits.first ms.head before) n.pair.recv.id.0 n.pair.message.life n.pair.message.no.0 ≡ true =
    subst (λ (x : Pair). is_pair (pairs own.limits.first ms.head before) x.recv.id.0 x.message.life x.message.no.0 ≡ true) same (member_is_pair (pairs own.limits.first ms.head before) o.pair o.member) in
    let f = n.new in
    cc
fresh_ask own ms d before r s h (inr (inr (inl n))) c = (let e = n.is in let f = c.is' in cc)
fresh_ask own ms d before r s h (inr (inr (inr (inl n)))) c = (let e = n.is in let f = c.is' in cc)
fresh_ask own ms d before r s h (inr (inr (inr (inr (inl n))))) c = (let e = n.is in let f = c.is' in cc)
fresh_ask own ms d before r s h (inr (inr (inr (inr (inr n))))) c = (let e = n.is in let f = c.is' in cc)

-- an end is owed when the pair is filled, and not again
fresh_end : (own : Own) (ms : Messages) (d : Deed) (before : List Deed) (r s : Reply) → OwedIn own ms r before → NewReply own ms.head (sends own ms before) d before s → ClashEnd r s → ⊥
fresh_end own ms d before r s h (inl n) c = (let e = n.is in let f = c.is' in cc)
fresh_end own ms d before r s h (inr (inl n)) c = (let e = n.is in let f = c.is' in cc)
fresh_end own ms d before r s h (inr (inr (inl n))) c = (let e = n.is in let f = c.is' in cc)
fresh_end own ms d before r s h (inr (inr (inr (inl n)))) c =
    let o = owed_end own ms before r c.send c.recv c.connid h c.is in
    let x = n.is in
    let y = c.is' in
    let e : recv_in n.pair ≡ c.recv' = cc in
    let a : c.recv.0 ≡ o.pair.recv.id.0 = ap (λ (z : OpId). z.0) o.recv_is in
    let same : o.pair ≡ n.pair = same_pair own.limits.first ms.head d before o.pair n.pair o.member n.member (sym a ∙ c.recv_is ∙ sym (ap (λ (z : OpId). z.0) e)) in
    let t : is_filled own.limits.first ms.head before n.pair ≡ true = subst (λ (x : Pair). is_filled own.limits.first ms.head before x ≡ true) same o.filled in
    let f = n.new in
    cc
fresh_end own ms d before r s h (inr (inr (inr (inr (inl n))))) c = (let e = n.is in let f = c.is' in cc)
fresh_end own ms d before r s h (inr (inr (inr (inr (inr n))))) c = (let e = n.is in let f = c.is' in cc)

-- a receipt is owed when the pair is filled, and not again
fresh_receipt : (own : Own) (ms : Messages) (d : Deed) (before : List Deed) (r s : Reply) → OwedIn own ms r before → NewReply own ms.head (sends own ms before) d before s → ClashReceipt r s → ⊥
fresh_receipt own ms d before r s h (inl n) c = (let e = n.is in let f = c.is' in cc)
fresh_receipt own ms d before r s h (inr (inl n)) c = (let e = n.is in let f = c.is' in cc)
fresh_receipt own ms d before r s h (inr (inr (inl n))) c = (let e = n.is in let f = c.is' in cc)
fresh_receipt own ms d before r s h (inr (inr (inr (inl n)))) c = (let e = n.is in let f = c.is' in cc)
fresh_receipt own ms d before r s h (inr (inr (inr (inr (inl n))))) c =
    let o = owed_receipt own ms before r c.number c.connid h c.is in
    let x = n.is in
    let y = c.is' in
    let e : n.pair.message.no ≡ c.number = cc in
    let still = pair_still own.limits.first ms.head d before o.pair o.member in
    let same : o.pair ≡ n.pair = (matching_distinct own.limits.first ms.head (d ∷ before)).once o.pair n.pair still n.member (o.to_is ∙ c.to_is ∙ sym n.to_is)
    (ap (λ (z : MsgNo). z.0) (sym o.number_is ∙ sym e)) in
    let t : is_filled own.limits.first ms.head before n.pair ≡ true = subst (λ (x : Pair). is_filled own.limits.first ms.head before x ≡ true) same o.filled in
    let f = n.new in
    cc
fresh_receipt own ms d before r s h (inr (inr (inr (inr (inr n))))) c = (let e = n.is in let f = c.is' in cc)

-- bytes are given to asks that are apart
fresh_given : (own : Own) (ms : Messages) (d : Deed) (before : List Deed) (r s : Reply) → AsksApart (d ∷ before) → OwedIn own ms r before
    → NewReply own ms.head (sends own ms before) d before s → ClashGiven r s → ⊥
fresh_given own ms d before r s apart h (inl n) c = (let e = n.is in let f = c.is' in cc)
fresh_given own ms d before r s apart h (inr (inl n)) c = (let e = n.is in let f = c.is' in cc)
fresh_given own ms d before r s apart h (inr (inr (inl n))) c = (let e = n.is in let f = c.is' in cc)
fresh_given own ms d before r s apart h (inr (inr (inr (inl n)))) c = (let e = n.is in let f = c.is' in cc)
fresh_given own ms d before r s apart h (inr (inr (inr (inr (inl n))))) c = (let e = n.is in let f = c.is' in cc)
fresh_given own ms d before r s apart h (inr (inr (inr (inr (inr n))))) c =
    let o = owed_given own ms before r c.data' h c.is in
    let x = n.is in
    let y = c.is' in
    let e : record { recv_id = n.ask.recv_id; at = n.ask.at; bytes = take n.ask.length (drop n.ask.at n.sent.message.bytes) } ≡ c.data'' = cc in
    let at : o.ask.at ≡ c.data'.at = sym (ap (λ (z : ReadData). z.at) o.is) in
    let len : length c.data'.bytes ≡ length (take o.ask.length (drop o.ask.at o.sent.message.bytes)) = ap (λ (z : ReadData). length z.bytes) o.is in
    let at' : n.ask.at ≡ c.data''.at = ap (λ (z : ReadData). z.at) e in
    let len' : length (take n.ask.length (drop n.ask.at n.sent.message.bytes)) ≡ length c.data''.bytes = ap (λ (z : ReadData). length z.bytes) e in
    let w = given_within o.ask o.sent.message.bytes in
    let w' = given_within n.ask n.sent.message.bytes in
    let number : Some o.sent.number ≡ Some n.sent.number = sym o.gives_is ∙ c.gives_is ∙ n.gives_is in
    let numbers : o.sent.number ≡ n.sent.number = cc in
    let p = c.share.1 in
    let q = c.share.2 in
    let u = c.share.3 in
    let v = c.share.4 in
    apart.1 s.to o.ask n.ask n.took (asks_at r.to s.to o.ask before c.to_is o.took) (sym o.names ∙ numbers ∙ n.names)
    (c.share.0, omega arith, omega arith, omega arith, omega arith)

-- a life never owes two replies that clash
pub owed_unique : (own : Own) (ms : Messages) (log : List Deed) → AsksApart log → Unique Clash (owed own ms log)
unfolding owed
owed_unique own ms [] apart = unique_none Clash
owed_unique own ms (d ∷ before) apart =
    unique_append Clash clash_back (owed own ms before) (replies_by own ms.head (sends own ms before) d before)
    (owed_unique own ms before apart.0) (new_unique Clash clash_tells own ms (sends own ms before) d before)
    (λ r s h k c.
    let o = owed_in own ms before r h in
    let n = new_from own ms.head (sends own ms before) d before s k in
    elim c [
      | inl a ↦ fresh_shake own ms d before r s o n a
      | inr a ↦ elim a [
        | inl b ↦ fresh_ask own ms d before r s o n b
        | inr b ↦ elim b [
          | inl z ↦ fresh_end own ms d before r s o n z
          | inr z ↦ elim z [ inl y ↦ fresh_given own ms d before r s apart o n y | inr y ↦ fresh_receipt own ms d before r s o n y ]
        ]
      ]
    ])
