-- The replies that a life pushed: what each was owed for, and that those that clash are one push.
use Rattle.std.proofs.Common.{◌≡◌, ℕ, Bool, true, cond, ◌&&◌, not, List, [], ◌∷◌, Option, Some, None, refl, arith, inl, inr, sym, subst}
use Rattle.std.specs.Prelude.{slice_get, ◌==◌}
use Rattle.std.specs.List.{list_any}
use Rattle.std.proofs.lemmas.Bool.{and_parts, and_from, not-true, eq-eqb, not-false}
use Rattle.rdm_lists.specs.Lists.{Member}
use Rattle.rdm_num.specs.Lives.{same_life}
use Rattle.rdm_num.specs.Pieces.{overlaps}
use Rattle.rdm_num.specs.declared.numbers.Life.{Life}
use Rattle.rdm_wire.specs.declared.ReadAsk.{ReadAsk}
use Rattle.rdm_model.specs.Deeds.{Deed, Took, Asks}
use Rattle.rdm_model.specs.Beginnings.{Own, Messages}
use Rattle.rdm_model.specs.Reads.{asked_by, asks_of}
use Rattle.rdm_model.specs.Sends.{Sent, sends}
use Rattle.rdm_model.specs.Replies.{Reply}
use Rattle.rdm_model.specs.Dues.{Replies, progress}
use Rattle.rdm_model.specs.Scenes.{Scene}
use Rattle.rdm_model.specs.Targets.{live_send, is_good_ask}
use Rattle.rdm_model.specs.Classes.{is_bad_key}
use Rattle.rdm_model.specs.Local.{heard_by}
use Rattle.rdm_model.proofs.Rows.{overlaps_from}
use Rattle.rdm_model.proofs.SameRegions.{Agree, agree_before, sends_same}
use Rattle.rdm_model.proofs.SameReplies.{replies_by_same}
use Rattle.rdm_model.proofs.Grows.{agree_grows}
use Rattle.rdm_law.proofs.Lives.Lives.{LifeLocal, LifeStep, WasDueAt, life_scene}
use Rattle.rdm_law.proofs.Classes.Classed.{taken_parts}
use Rattle.rdm_law.proofs.Replies.Asks.{AsksShare}
use Rattle.rdm_law.proofs.Replies.Queue.{owed, queue, Placed}
use Rattle.rdm_law.proofs.Replies.Answered.{Answered, answered_owed, answered_once, due_reply, waits_owed, waits_unanswered}
use Rattle.rdm_law.proofs.Replies.Owed.{OwedIn, owed_in}
use Rattle.rdm_law.proofs.Replies.Clashes.{Clash}
use Rattle.rdm_law.proofs.Replies.OwedOnce.{AsksApart, owed_unique}
use Rattle.rdm_lists.proofs.Members.{member-append_left, member-append_right, member_list_any}
use Rattle.rdm_lists.proofs.Places.{slice_get-member}
use Rattle.rdm_num.proofs.Lives.{same_life-refl}

-- what a life owed is the same by accounts that agree
pub owed_same : (own : Own) (ms ns : Messages) (log : List Deed) → Agree own.limits.first ms ns log → owed own ms log ≡ owed own ns log
unfolding owed
owed_same own ms ns [] a = refl
owed_same own ms ns (d ∷ before) a =
    let b = agree_before own.limits.first ms ns d before a in
    let earlier = owed_same own ms ns before b in
    let s = sends_same own ms ns before b in
    let r = replies_by_same own ms.head ns.head (sends own ns before) d before a.heads in
    rw (s, r, earlier) refl

-- and so are the replies that wait, at their places
pub queue_same : (own : Own) (ms ns : Messages) (log : List Deed) → Agree own.limits.first ms ns log → queue own ms log ≡ queue own ns log
unfolding queue
queue_same own ms ns [] a = refl
queue_same own ms ns (d ∷ before) a =
    let b = agree_before own.limits.first ms ns d before a in
    let earlier = queue_same own ms ns before b in
    let o = owed_same own ms ns before b in
    let s = sends_same own ms ns before b in
    let r = replies_by_same own ms.head ns.head (sends own ns before) d before a.heads in
    rw (s, r, earlier, o) refl

-- and those that were pushed
pub answered_same : (own : Own) (ms ns : Messages) (log : List Deed) (x : Placed) (k : ℕ) → Agree own.limits.first ms ns log → Answered own ms x k log → Answered own ns x k log
answered_same own ms ns [] x k a h = elim h [ ]
answered_same own ms ns (d ∷ before) x k a (inl h) =
    let b = agree_before own.limits.first ms ns d before a in
    inl (h.0, h.1, subst (λ (q : List Placed). slice_get q 0 ≡ Some x) (queue_same own ms ns before b) h.2)
answered_same own ms ns (d ∷ before) x k a (inr h) =
    inr (answered_same own ms ns before x k (agree_before own.limits.first ms ns d before a) h)

-- a reply whose due item was pushed stands at a place of all that is owed
pub was_due_answered : (own : Own) (r : Reply) (k : ℕ) (log : List Deed) → WasDueAt own (Replies r) k log
    → (x : Placed) × Answered own (heard_by own.limits.first log) x k log × (x.reply ≡ r)
was_due_answered own r k [] h = elim h [ ]
was_due_answered own r k (d ∷ before) (inl h) =
    let first = own.limits.first in
    let t = due_reply own (heard_by first before) before r h.1 in
    let q = queue_same own (heard_by first before) (heard_by first (d ∷ before)) before (agree_grows first d before) in
    (t.0, inl (h.0, h.2, subst (λ (x : List Placed). slice_get x 0 ≡ Some t.0) q t.1), t.2)
was_due_answered own r k (d ∷ before) (inr h) =
    let first = own.limits.first in
    let o = was_due_answered own r k before h in
    (o.0, inr (answered_same own (heard_by first before) (heard_by first (d ∷ before)) before o.0 k (agree_grows first d before) o.1), o.2)

-- an ask that was taken of a send is one of its asks
pub took_asks : (from : Life) (a : ReadAsk) (send : ℕ) (before : List Deed) → a.send_id.0 ≡ send → Member (Took from (Asks a)) before → Member a (asks_of before from send)
unfolding asks_of asked_by
took_asks from a send [] e h = elim h [ ]
took_asks from a send (d ∷ before) e (inl is) =
    let t : (same_life from from && a.send_id.0 == send) ≡ true = and_from _ _ (same_life-refl from) (eq-eqb a.send_id.0 send e) in
    let here : Member a (asked_by from send (Took from (Asks a))) = subst (λ (b : Bool). Member a (cond b (a ∷ []) [])) (sym t) (inl refl) in
    member-append_right a (asks_of before from send) (asked_by from send d) (subst (λ (x : Deed). Member a (asked_by from send x)) (sym is) here)
took_asks from a send (d ∷ before) e (inr h) = member-append_left a (asks_of before from send) (asked_by from send d) (took_asks from a send before e h)

-- a good ask shares no byte with those that were taken
good_apart : (s : Scene) (from : Life) (b : ReadAsk) (o : Option Sent) → is_good_ask s from b o ≡ true
    → not (list_any (λ (a : ReadAsk). overlaps b.at b.length a.at a.length) (asks_of s.log from b.send_id.0)) ≡ true
unfolding is_good_ask
good_apart s from b None h = cc
good_apart s from b (Some t) h = (and_parts _ _ (and_parts _ _ h).0).1

-- an ask that is taken shares no byte with those of its send that were
step_apart : (own : Own) (before : List Deed) (d : Deed) → LifeStep own before d → (from : Life) (a b : ReadAsk) → d ≡ Took from (Asks b)
    → Member (Took from (Asks a)) before → a.send_id.0 ≡ b.send_id.0 → AsksShare a b → ⊥
unfolding is_bad_key
step_apart own before d step from a b e m same share =
    let taken : LifeStep own before (Took from (Asks b)) = subst (λ (x : Deed). LifeStep own before x) e step in
    let s = life_scene taken.0 own taken.1 before in
    let good = (taken_parts s from own.life.connid (Asks b) taken.2).good_key in
    let apart = good_apart s from b (live_send s from b.send_id.0) (not-false (is_good_ask s from b (live_send s from b.send_id.0)) good) in
    let p = share.1 in
    let q = share.2 in
    let u = share.3 in
    let v = share.4 in
    let over : overlaps b.at b.length a.at a.length ≡ true = overlaps_from b.at b.length a.at a.length (omega arith) (omega arith) (omega arith) (omega arith) in
    let any = member_list_any (λ (x : ReadAsk). overlaps b.at b.length x.at x.length) a (asks_of before from b.send_id.0) (took_asks from a b.send_id.0 before same m) over in
    let none = not-true _ apart in
    cc

-- asks that a life took are apart
pub asks_apart : (own : Own) (log : List Deed) → LifeLocal own log → AsksApart log
asks_apart own [] l = tt
asks_apart own (d ∷ before) l = (asks_apart own before l.0, step_apart own before d l.1)

-- a reply that was pushed was owed
pub was_due_owed : (own : Own) (r : Reply) (k : ℕ) (log : List Deed) → WasDueAt own (Replies r) k log → OwedIn own (heard_by own.limits.first log) r log
was_due_owed own r k log h =
    let ms = heard_by own.limits.first log in
    let a = was_due_answered own r k log h in
    let m = slice_get-member (owed own ms log) a.0.place a.0.reply (answered_owed own ms log a.0 k a.1) in
    owed_in own ms log r (subst (λ (x : Reply). Member x (owed own ms log)) a.2 m)

-- replies that clash and were pushed are one push
pub reply_once : (own : Own) (r s : Reply) (k l : ℕ) (log : List Deed) → LifeLocal own log → WasDueAt own (Replies r) k log → WasDueAt own (Replies s) l log
    → Clash r s → k ≡ l
reply_once own r s k l log local h i c =
    let ms = heard_by own.limits.first log in
    let a = was_due_answered own r k log h in
    let b = was_due_answered own s l log i in
    let clash : Clash a.0.reply b.0.reply = subst (λ (x : Reply). Clash x b.0.reply) (sym a.2) (subst (λ (x : Reply). Clash r x) (sym b.2) c) in
    let e = owed_unique own ms log (asks_apart own log local) a.0.place b.0.place a.0.reply b.0.reply
    (answered_owed own ms log a.0 k a.1) (answered_owed own ms log b.0 l b.1) clash in
    answered_once own ms log a.0 b.0 k l a.1 b.1 e

-- a reply that waits clashes with none that was pushed
pub waits_once : (own : Own) (r s : Reply) (l : ℕ) (log : List Deed) → LifeLocal own log → Member r (progress own (heard_by own.limits.first log) log).replies
    → WasDueAt own (Replies s) l log → Clash r s → ⊥
waits_once own r s l log local h i c =
    let ms = heard_by own.limits.first log in
    let a = waits_owed own ms log r h in
    let b = was_due_answered own s l log i in
    let clash : Clash r b.0.reply = subst (λ (x : Reply). Clash r x) (sym b.2) c in
    let e = owed_unique own ms log (asks_apart own log local) a.0.place b.0.place r b.0.reply a.3 (answered_owed own ms log b.0 l b.1) clash in
    waits_unanswered own ms log a.0 b.0 l a.1 b.1 e
