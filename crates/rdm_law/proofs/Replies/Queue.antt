-- The queue of replies, each with its place among all that was ever owed.
use Rattle.std.proofs.Common.{◌≡◌, ℕ, suc, true, false, cond, not, List, [], ◌∷◌, ◌++◌, map, length, drop, Option, Some, None, refl, sym, ◌∙◌, ap}
use Rattle.std.specs.Prelude.{filter, slice_get}
use Rattle.std.specs.List.{list_any}
use Rattle.std.proofs.lemmas.List.{map-append}
use Rattle.rdm_num.specs.Lives.{same_life}
use Rattle.rdm_num.specs.declared.numbers.Life.{Life}
use Rattle.rdm_pkt.specs.declared.Packet.{Packet}
use Rattle.rdm_model.specs.Deeds.{Deed, Did, PushedNote, Pushed, TookNote, Took, Polled, Nothing}
use Rattle.rdm_model.specs.Beginnings.{Own, Messages}
use Rattle.rdm_model.specs.Currents.{forgotten_by}
use Rattle.rdm_model.specs.Sends.{Sent, sends}
use Rattle.rdm_model.specs.Replies.{Reply, replies_by, without_forgotten, without_lives}
use Rattle.rdm_model.specs.Dues.{Progress, Due, Replies, Sends, progress, after_deed, after_push, after_due, next_due, next_send, reply_due, send_due, is_over, next_packet}

-- all that a life ever owed for what it took, in order
unfoldable pub owed : Own → Messages → List Deed → List Reply
owed own ms [] = []
owed own ms (d ∷ before) = owed own ms before ++ replies_by own ms.head (sends own ms before) d before

-- a reply and its place among all that was owed
pub record Placed : Type 0 where
  pub place : ℕ
  pub reply : Reply

-- these replies, at the places from that one on
unfoldable pub placed : ℕ → List Reply → List Placed
placed n [] = []
placed n (r ∷ rs) = record { place = n; reply = r } ∷ placed (suc n) rs

-- a push takes the first
unfoldable pub popped : {A : Type 0} → Deed → List A → List A
popped Pushed q = drop 1 q
popped _ q = q

-- without what is owed to these lives
unfoldable pub without : List Life → List Placed → List Placed
without lives q = filter (λ (x : Placed). not (list_any (same_life x.reply.to) lives)) q

-- the replies that were not pushed, with their places
unfoldable pub queue : Own → Messages → List Deed → List Placed
queue own ms [] = []
queue own ms (d ∷ before) =
    without (forgotten_by before d) (popped d (queue own ms before))
    ++ placed (length (owed own ms before)) (replies_by own ms.head (sends own ms before) d before)

-- the replies of a queue
abbrev pub replies_in : List Placed → List Reply
replies_in q = map (λ (x : Placed). x.reply) q

-- the replies at places are those
placed_replies : (n : ℕ) (rs : List Reply) → replies_in (placed n rs) ≡ rs
unfolding placed
placed_replies n [] = refl
placed_replies n (r ∷ rs) = ap (λ (x : List Reply). r ∷ x) (placed_replies (suc n) rs)

-- a push takes the first of the replies
popped_replies : (d : Deed) (q : List Placed) → replies_in (popped d q) ≡ popped d (replies_in q)
unfolding popped
popped_replies Pushed [] = refl
popped_replies Pushed (x ∷ q) = refl
popped_replies (Did i) q = refl
popped_replies PushedNote q = refl
popped_replies (TookNote p b) q = refl
popped_replies (Took l i) q = refl
popped_replies Polled q = refl
popped_replies Nothing q = refl

-- what is owed to forgotten lives goes from the replies
without_replies : (lives : List Life) (q : List Placed) → replies_in (without lives q) ≡ without_lives lives (replies_in q)
unfolding without without_lives
without_replies lives [] = refl
without_replies lives (x ∷ q) =
    elim (not (list_any (same_life x.reply.to) lives)) as (λ b. replies_in (cond b (x ∷ without lives q) (without lives q)) ≡ cond b (x.reply ∷ without_lives lives (replies_in q)) (without_lives lives (replies_in q))) [
      | true ↦ ap (λ (y : List Reply). x.reply ∷ y) (without_replies lives q)
      | false ↦ without_replies lives q
    ]

-- the due item of a life with no reply in its queue is no reply
pub next_send_none : (own : Own) (log : List Deed) (packets : ℕ → List Packet) (ss : List Sent) (r : Reply) → next_send own log packets ss ≡ Some (Replies r) → ⊥
unfolding next_send send_due
next_send_none own log packets [] r h = cc
next_send_none own log packets (s ∷ ss) r h =
    (elim (is_over log (packets s.number) s) as (λ b. cond b (next_send own log packets ss) (send_due s (next_packet own log s (packets s.number)) (next_send own log packets ss)) ≡ Some (Replies r) → ⊥) [
      | true ↦ λ k. next_send_none own log packets ss r k
      | false ↦ λ k. (elim (next_packet own log s (packets s.number)) as (λ o. send_due s o (next_send own log packets ss) ≡ Some (Replies r) → ⊥) [
        | None ↦ λ l. next_send_none own log packets ss r l
        | Some p ↦ λ l. cc
      ]) k
    ]) h

-- where no reply is next, there is none
was_due : (rs : List Reply) (others : Option Due) (p : Progress) → ((r : Reply) → others ≡ Some (Replies r) → ⊥) → p.replies ≡ rs
    → (after_due (reply_due (slice_get rs 0) others) p).replies ≡ drop 1 p.replies
unfolding after_due reply_due
was_due [] None p never e = e ∙ sym (ap (λ (x : List Reply). drop 1 x) e)
was_due [] (Some (Replies r)) p never e = absurd (never r refl)
was_due [] (Some (Sends s q)) p never e = e ∙ sym (ap (λ (x : List Reply). drop 1 x) e)
was_due (r ∷ rs) others p never e = refl

-- a push takes the first reply, whatever is next
pub pushed_replies : (own : Own) (ms : Messages) (before : List Deed) (d : Deed) (p : Progress) → (after_push own ms before d p).replies ≡ popped d p.replies
unfolding after_push popped next_due
pushed_replies own ms before Pushed p =
    was_due p.replies (next_send own before p.packets (sends own ms before)) p (next_send_none own before p.packets (sends own ms before)) refl
pushed_replies own ms before (Did i) p = refl
pushed_replies own ms before PushedNote p = refl
pushed_replies own ms before (TookNote q b) p = refl
pushed_replies own ms before (Took l i) p = refl
pushed_replies own ms before Polled p = refl
pushed_replies own ms before Nothing p = refl

-- the queue has the replies that were not pushed
pub queue_replies : (own : Own) (ms : Messages) (log : List Deed) → replies_in (queue own ms log) ≡ (progress own ms log).replies
unfolding queue progress after_deed without_forgotten
queue_replies own ms [] = refl
queue_replies own ms (d ∷ before) =
    let lives = forgotten_by before d in
    let q = popped d (queue own ms before) in
    let new = replies_by own ms.head (sends own ms before) d before in
    let earlier : replies_in q ≡ (after_push own ms before d (progress own ms before)).replies =
    popped_replies d (queue own ms before) ∙ ap (λ (x : List Reply). popped d x) (queue_replies own ms before) ∙ sym (pushed_replies own ms before d (progress own ms before)) in
    map-append (λ (x : Placed). x.reply) (without lives q) (placed (length (owed own ms before)) new)
    ∙ ap (λ (x : List Reply). x ++ replies_in (placed (length (owed own ms before)) new)) (without_replies lives q ∙ ap (λ (x : List Reply). without_lives lives x) earlier)
    ∙ ap (λ (x : List Reply). without_lives lives (after_push own ms before d (progress own ms before)).replies ++ x) (placed_replies (length (owed own ms before)) new)
