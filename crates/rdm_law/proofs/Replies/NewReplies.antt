-- A deed makes no two replies owed that tell one ask, grant or end.
use Rattle.std.proofs.Common.{◌≡◌, ℕ, Bool, true, false, cond, List, [], ◌∷◌, ◌++◌, map, Option, Some, None, ◌⊎◌, inl, inr, sym, ◌∙◌, ap, subst}
use Rattle.std.specs.Prelude.{◌==◌, flat_map, find, nat_lt, not, ◌&&◌}
use Rattle.std.specs.List.{list_any}
use Rattle.rdm_lists.specs.Lists.{Member}
use Rattle.rdm_num.specs.Lives.{same_life}
use Rattle.rdm_num.specs.declared.numbers.Life.{Life}
use Rattle.rdm_num.specs.declared.numbers.OpId.{OpId}
use Rattle.rdm_num.specs.declared.numbers.MsgNo.{MsgNo}
use Rattle.rdm_num.specs.declared.numbers.PortNo.{PortNo}
use Rattle.rdm_num.specs.declared.head.Shape.{Shape}
use Rattle.rdm_num.specs.declared.head.Shape.TheVariants.{Eager, Medium, LongCts, LongRead, Runt}
use Rattle.rdm_pkt.specs.declared.Packet.TheVariants.{Cts, Eor, Receipt}
use Rattle.rdm_wire.specs.declared.ReadAsk.{ReadAsk}
use Rattle.rdm_match.specs.Matcher.{Pair, is_pair}
use Rattle.rdm_model.specs.declared.job.Instr.TheVariants.{Insert}
use Rattle.rdm_model.specs.Deeds.{Deed, Did, Took, Item, Spelled, Asks}
use Rattle.rdm_model.specs.Beginnings.{Own, Messages, Heads}
use Rattle.rdm_model.specs.Matches.{pairs}
use Rattle.rdm_model.specs.Receives.{is_filled}
use Rattle.rdm_model.specs.Grants.{window, granted_bytes}
use Rattle.rdm_model.specs.Sends.{Sent}
use Rattle.rdm_model.specs.Replies.{Reply, reply, meets, greeting, greets, handshake_by, receipt_for, asks_for, grant_for, end_for, pair_items, pair_replies, given_of, given_by, replies_by}
use Rattle.rdm_law.proofs.Matching.Numbered.{matching_numbered}
use Rattle.rdm_law.proofs.Matching.Distinct.{matching_distinct}
use Rattle.rdm_law.proofs.Replies.Unique.{Unique, unique_none, unique_one, unique_append, unique_map, unique_pairs}
use Rattle.rdm_law.proofs.Replies.Asks.{AsksShare, asks_for_unique}
use Rattle.rdm_law.proofs.Replies.Owed.{shape_in, confirm_in, ends_in, recv_in, cond_member, items_from, shake_from, given_from, grant_from, end_from}
use Rattle.rdm_law.proofs.Replies.Clashes.{Shakes, AsksBytes, Grants, Ends, GivesBytes, Receipts, kind_of, recv_of, receipt_of, IsOfPair, item_of_pair}
use Rattle.rdm_lists.proofs.Members.{member-append_cases, member-map, member-flat_map}

-- a list that is there if a test holds
unique_cond : {A : Type 0} (K : A → A → Type 0) (b : Bool) (xs : List A) → Unique K xs → Unique K (cond b xs [])
unique_cond K true xs u = u
unique_cond K false xs u = unique_none K

-- a list that is there unless a test holds
unique_unless : {A : Type 0} (K : A → A → Type 0) (b : Bool) (xs : List A) → Unique K xs → Unique K (cond b [] xs)
unique_unless K true xs u = unique_none K
unique_unless K false xs u = u

-- a relation by which a deed makes no two replies owed: it tells their kinds, the receives of pairs, and the bytes of asks
pub record Telling (K : Reply → Reply → Type 0) : Type 0 where
  pub back : (r s : Reply) → K r s → K s r
  pub kinds : (r s : Reply) → K r s → kind_of r.item ≡ kind_of s.item
  pub recvs : (r s : Reply) → K r s → (kind_of r.item ≡ AsksBytes) ⊎ ((kind_of r.item ≡ Grants) ⊎ (kind_of r.item ≡ Ends)) → recv_of r.item ≡ recv_of s.item
  pub asks : (to : Life) (a b : ReadAsk) → K (reply to (Asks a)) (reply to (Asks b)) → AsksShare a b
  pub receipts : (r s : Reply) → K r s → kind_of r.item ≡ Receipts → (r.to ≡ s.to) × (receipt_of r.item ≡ receipt_of s.item)

-- a life is greeted once at most by a deed
greets_unique : (K : Reply → Reply → Type 0) (own : Own) (before : List Deed) (d : Deed) (life : Life) (raw : Option PortNo) → Unique K (greets own before d life raw)
unfolding greets
greets_unique K own before d life raw =
    unique_cond K (meets own life d && not (list_any (meets own life) before)) (reply life (greeting own raw) ∷ []) (unique_one K (reply life (greeting own raw)))

-- a deed owes one handshake at most
shakes_unique : (K : Reply → Reply → Type 0) (own : Own) (before : List Deed) (d : Deed) → Unique K (handshake_by own before d)
unfolding handshake_by
shakes_unique K own before (Took from item) = greets_unique K own before (Took from item) from None
shakes_unique K own before (Did (Insert life)) = greets_unique K own before (Did (Insert life)) life (Some own.life.port)
shakes_unique K own before _ = unique_none K

-- a pair owes one grant at most by a deed
grants_unique : (K : Item → Item → Type 0) (own : Own) (shape : Shape) (recv : OpId) (size : ℕ) → Unique K (grant_for own shape recv size)
unfolding grant_for
grants_unique K own (LongCts send credits) recv size =
    unique_cond K (nat_lt 0 size) (Spelled (Cts send recv size own.life.connid) ∷ []) (unique_one K (Spelled (Cts send recv size own.life.connid)))
grants_unique K own Eager recv size = unique_none K
grants_unique K own Medium recv size = unique_none K
grants_unique K own (LongRead send iov) recv size = unique_none K
grants_unique K own (Runt send iov runt) recv size = unique_none K

-- and one end, or one receipt
ends_unique : (K : Item → Item → Type 0) (own : Own) (shape : Shape) (confirm : Bool) (number : MsgNo) (recv : OpId) → Unique K (end_for own shape confirm number recv)
unfolding end_for receipt_for
ends_unique K own (LongRead send iov) confirm number recv = unique_one K (Spelled (Eor send recv own.life.connid))
ends_unique K own (Runt send iov runt) confirm number recv = unique_one K (Spelled (Eor send recv own.life.connid))
ends_unique K own Eager confirm number recv = unique_cond K confirm (Spelled (Receipt number own.life.connid) ∷ []) (unique_one K (Spelled (Receipt number own.life.connid)))
ends_unique K own Medium confirm number recv = unique_cond K confirm (Spelled (Receipt number own.life.connid) ∷ []) (unique_one K (Spelled (Receipt number own.life.connid)))
ends_unique K own (LongCts send credits) confirm number recv =
    unique_cond K confirm (Spelled (Receipt number own.life.connid) ∷ []) (unique_one K (Spelled (Receipt number own.life.connid)))

-- an ask is given its bytes once
given_of_unique : (K : Reply → Reply → Type 0) (from : Life) (ask : ReadAsk) (o : Option Sent) → Unique K (given_of from ask o)
unfolding given_of
given_of_unique K from ask None = unique_none K
given_of_unique K from ask (Some s) = unique_one K _

-- so a deed gives once
given_unique : (K : Reply → Reply → Type 0) (sents : List Sent) (d : Deed) → Unique K (given_by sents d)
unfolding given_by
given_unique K sents (Took from (Asks ask)) = given_of_unique K from ask (find (λ (s : Sent). same_life s.to from && s.number == ask.send_id.0) sents)
given_unique K sents _ = unique_none K

-- asks are asks
asks_kind : (as' : List ReadAsk) (x : Item) → Member x (map Asks as') → kind_of x ≡ AsksBytes
unfolding kind_of
asks_kind as' x h = let m = member-map Asks x as' h in sym (ap kind_of m.2)

-- what a pair owes by a deed has no replies of such a relation
items_unique : (L : Reply → Reply → Type 0) → Telling L → (own : Own) (heads : Heads) (d : Deed) (before : List Deed) (p : Pair) (to : Life)
    → Unique (λ x y. L (reply to x) (reply to y)) (pair_items own heads d before p)
unfolding pair_items kind_of
items_unique L t own heads d before p to =
    let is_new : Bool = not (is_pair (pairs own.limits.first heads before) p.recv.id.0 p.message.life p.message.no.0) in
    let is_over : Bool = is_filled own.limits.first heads (d ∷ before) p && not (is_filled own.limits.first heads before p) in
    let size = window own.limits heads (d ∷ before) p (granted_bytes own.limits heads before p) in
    let as' = asks_for (shape_in heads p) (recv_in p) in
    let asks = cond is_new (map Asks as') [] in
    let grants = grant_for own (shape_in heads p) (recv_in p) size in
    let ends = ends_in own heads p in
    let K : Item → Item → Type 0 = λ x y. L (reply to x) (reply to y) in
    let ask_kind : (x : Item) → Member x asks → kind_of x ≡ AsksBytes = λ x h. asks_kind as' x (cond_member is_new (map Asks as') x h).1 in
    let grant_kind : (x : Item) → Member x grants → kind_of x ≡ Grants = λ x h. ap kind_of (grant_from own (shape_in heads p) (recv_in p) size x h).4 in
    let end_kind : (x : Item) → Member x (cond is_over ends []) → (kind_of x ≡ Ends) ⊎ (kind_of x ≡ Receipts) = λ x h.
    (elim (end_from own (shape_in heads p) (confirm_in heads p) p.message.no (recv_in p) x (cond_member is_over ends x h).1) [
      | inl e ↦ inl (ap kind_of e.2)
      | inr e ↦ inr (ap kind_of e.2)
    ]) in
    unique_append K (λ x y c. t.back (reply to x) (reply to y) c) (asks ++ grants) (cond is_over ends [])
    (unique_append K (λ x y c. t.back (reply to x) (reply to y) c) asks grants
    (unique_cond K is_new (map Asks as') (unique_map AsksShare K Asks as' (asks_for_unique (shape_in heads p) (recv_in p)) (t.asks to)))
    (grants_unique K own (shape_in heads p) (recv_in p) size)
    (λ x y h k c. let e = t.kinds (reply to x) (reply to y) c in let f = ask_kind x h in let g = grant_kind y k in cc))
    (unique_cond K is_over ends (ends_unique K own (shape_in heads p) (confirm_in heads p) p.message.no (recv_in p)))
    (λ x y h k c.
    let e = t.kinds (reply to x) (reply to y) c in
    elim (end_kind y k) [
      | inl g ↦ elim (member-append_cases x asks grants h) [ inl m ↦ (let f = ask_kind x m in cc) | inr m ↦ (let f = grant_kind x m in cc) ]
      | inr g ↦ elim (member-append_cases x asks grants h) [ inl m ↦ (let f = ask_kind x m in cc) | inr m ↦ (let f = grant_kind x m in cc) ]
    ])

-- and so have its replies
pair_unique : (K : Reply → Reply → Type 0) → Telling K → (own : Own) (heads : Heads) (d : Deed) (before : List Deed) (p : Pair) → Unique K (pair_replies own heads d before p)
unfolding pair_replies
pair_unique K t own heads d before p =
    unique_map (λ x y. K (reply p.message.life x) (reply p.message.life y)) K (reply p.message.life) (pair_items own heads d before p)
    (items_unique K t own heads d before p p.message.life) (λ x y c. c)

-- a reply of a pair goes to its life, and is an ask, a grant or an end that names its receive, or a receipt that names its message
reply_of_pair : (own : Own) (heads : Heads) (d : Deed) (before : List Deed) (p : Pair) (r : Reply) → Member r (pair_replies own heads d before p)
    → (p.message.life ≡ r.to) × IsOfPair p r.item
unfolding pair_replies
reply_of_pair own heads d before p r h =
    let m = member-map (reply p.message.life) r (pair_items own heads d before p) h in
    let i = item_of_pair own heads d before p m.0 (items_from own heads d before p m.0 m.1) in
    (ap (λ (x : Reply). x.to) m.2, subst (λ (x : Reply). IsOfPair p x.item) m.2 i)

-- the kind of a receipt is none of the others
not_receipt : (x : Item) → (kind_of x ≡ AsksBytes) ⊎ ((kind_of x ≡ Grants) ⊎ (kind_of x ≡ Ends)) → kind_of x ≡ Receipts → ⊥
not_receipt x (inl a) k = cc
not_receipt x (inr (inl a)) k = cc
not_receipt x (inr (inr a)) k = cc

-- replies of two pairs of such a relation are of one receive
pairs_cross : (K : Reply → Reply → Type 0) → Telling K → (own : Own) (heads : Heads) (d : Deed) (before : List Deed) (p q : Pair) (r s : Reply)
    → Member p (pairs own.limits.first heads (d ∷ before)) → Member q (pairs own.limits.first heads (d ∷ before)) → Member r (pair_replies own heads d before p)
    → Member s (pair_replies own heads d before q) → K r s → p.recv.id.0 ≡ q.recv.id.0
pairs_cross K t own heads d before p q r s mp mq h k c =
    let a = reply_of_pair own heads d before p r h in
    let b = reply_of_pair own heads d before q s k in
    let same = t.kinds r s c in
    elim a.1 [
      | inl x ↦ elim b.1 [
        | inl y ↦ sym x.1 ∙ t.recvs r s c x.0 ∙ y.1
        | inr y ↦ absurd (not_receipt r.item x.0 (same ∙ y.0))
      ]
      | inr x ↦ elim b.1 [
        | inl y ↦ absurd (not_receipt s.item y.0 (sym same ∙ x.0))
        | inr y ↦ (
            let m = t.receipts r s c x.0 in
            let one = (matching_distinct own.limits.first heads (d ∷ before)).once p q mp mq (a.0 ∙ m.0 ∙ sym b.0) (sym x.1 ∙ m.1 ∙ y.1) in
            ap (λ (z : Pair). z.recv.id.0) one)
      ]
    ]

-- what a deed makes owed has no replies of such a relation
pub new_unique : (K : Reply → Reply → Type 0) → Telling K → (own : Own) (ms : Messages) (sents : List Sent) (d : Deed) (before : List Deed) → Unique K (replies_by own ms.head sents d before)
unfolding replies_by kind_of
new_unique K t own ms sents d before =
    let shakes = handshake_by own before d in
    let of_pairs = flat_map (pair_replies own ms.head d before) (pairs own.limits.first ms.head (d ∷ before)) in
    let givens = given_by sents d in
    let shake_kind : (r : Reply) → Member r shakes → kind_of r.item ≡ Shakes = λ r h. ap kind_of (shake_from own before d r h).is in
    let given_kind : (r : Reply) → Member r givens → kind_of r.item ≡ GivesBytes = λ r h. ap kind_of (given_from sents d r h).is in
    let pair_kind : (r : Reply) → Member r of_pairs → ((kind_of r.item ≡ AsksBytes) ⊎ ((kind_of r.item ≡ Grants) ⊎ (kind_of r.item ≡ Ends))) ⊎ (kind_of r.item ≡ Receipts) =
    λ r h. (
    let f = member-flat_map (pair_replies own ms.head d before) r (pairs own.limits.first ms.head (d ∷ before)) h in
    elim (reply_of_pair own ms.head d before f.0 r f.2).1 [ inl x ↦ inl x.0 | inr x ↦ inr x.0 ]) in
    unique_append K t.back (shakes ++ of_pairs) givens
    (unique_append K t.back shakes of_pairs (shakes_unique K own before d)
    (unique_pairs K t.back (pair_replies own ms.head d before) (pairs own.limits.first ms.head (d ∷ before))
    (matching_numbered own.limits.first ms.head (d ∷ before)).pairs_apart
    (λ p h. pair_unique K t own ms.head d before p)
    (λ p q r s h k m n c. pairs_cross K t own ms.head d before p q r s h k m n c))
    (λ r s h k c.
    let e = t.kinds r s c in
    let f = shake_kind r h in
    elim (pair_kind s k) [ inl x ↦ elim x [ inl a ↦ cc | inr a ↦ elim a [ inl b ↦ cc | inr b ↦ cc ] ] | inr x ↦ cc ]))
    (given_unique K sents d)
    (λ r s h k c.
    let e = t.kinds r s c in
    let g = given_kind s k in
    elim (member-append_cases r shakes of_pairs h) [
      | inl m ↦ (let f = shake_kind r m in cc)
      | inr m ↦ elim (pair_kind r m) [ inl x ↦ elim x [ inl a ↦ cc | inr a ↦ elim a [ inl b ↦ cc | inr b ↦ cc ] ] | inr x ↦ cc ]
    ])
