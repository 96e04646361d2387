-- Where nothing waits each place of what is owed was pushed, and the datagram of each push has its place.
use Rattle.std.proofs.Common.{◌≡◌, ℕ, zero, suc, ◌+◌, Bool, false, not, List, [], ◌∷◌, length, Some, None, refl, arith, ◌⊎◌, inl, inr, sym, ◌∙◌, ap, subst}
use Rattle.std.specs.Prelude.{slice_get, filter}
use Rattle.std.specs.List.{list_any}
use Rattle.rdm_lists.specs.Lists.{Member}
use Rattle.rdm_num.specs.Lives.{same_life}
use Rattle.rdm_num.specs.declared.numbers.Life.{Life}
use Rattle.rdm_num.specs.declared.numbers.Connid.{Connid}
use Rattle.rdm_num.specs.declared.numbers.PortNo.{PortNo}
use Rattle.rdm_wire.specs.declared.Datagram.{Datagram}
use Rattle.rdm_wire.specs.declared.Body.TheVariants.{Between}
use Rattle.rdm_wire.specs.declared.Load.{Load}
use Rattle.rdm_model.specs.declared.job.Job.{Job}
use Rattle.rdm_model.specs.declared.entry.Entry.{Entry}
use Rattle.rdm_model.specs.declared.entry.Act.{Act}
use Rattle.rdm_model.specs.declared.entry.Act.TheVariants.{Push}
use Rattle.rdm_model.specs.Deeds.{Deed, Did, PushedNote, Pushed, TookNote, Took, Polled, Nothing, Item, deed_of, deeds, of_life, open_life}
use Rattle.rdm_model.specs.Beginnings.{Own, Messages, own_of, rank_of, port_count}
use Rattle.rdm_model.specs.Currents.{forgotten_by, is_forgotten}
use Rattle.rdm_model.specs.Sends.{sends}
use Rattle.rdm_model.specs.Replies.{Reply, replies_by}
use Rattle.rdm_model.specs.Dues.{Due, Replies, progress, due}
use Rattle.rdm_model.specs.Scenes.{Scene, deeds_at}
use Rattle.rdm_model.specs.Going.{Goes, due_going, GoesNext}
use Rattle.rdm_model.specs.Classes.{class_of}
use Rattle.rdm_model.specs.Steps.{Does}
use Rattle.rdm_model.specs.Local.{heard_by, own_scene, Local}
use Rattle.rdm_model.proofs.Served.{PushedAt}
use Rattle.rdm_law.proofs.Lives.Lives.{life_of, life_scene, WasDueAt, IsPush, push_is, at_of_life, opened_scene}
use Rattle.rdm_law.proofs.Accounts.Pushed.{PlacedAt}
use Rattle.rdm_law.proofs.Accounts.Wired.{TakenAs, bears_item}
use Rattle.rdm_law.proofs.Settled.Datagrams.{act_pushed}
use Rattle.rdm_law.proofs.Settled.DuesPushed.{pushed_was_due}
use Rattle.rdm_law.proofs.Replies.Queue.{owed, Placed, placed, popped, without, queue, replies_in, queue_replies}
use Rattle.rdm_law.proofs.Replies.Answered.{Answered}
use Rattle.rdm_law.proofs.Settled.OwedRest.{none_first, head_due}
use Rattle.rdm_lists.proofs.Members.{member-append_left, member-append_right, filter-member, map-member}
use Rattle.rdm_lists.proofs.Places.{slice_get_split}
use Rattle.std.proofs.lemmas.Bool.{or_parts}

-- what waited waits, or was taken by the push
popped_or : {A : Type 0} (d : Deed) (q : List A) (x : A) → Member x q → Member x (popped d q) ⊎ ((d ≡ Pushed) × (slice_get q 0 ≡ Some x))
unfolding popped
popped_or d [] x h = elim h [ ]
popped_or Pushed (y ∷ q) x (inl is) = inr (refl, ap Some is)
popped_or Pushed (y ∷ q) x (inr h) = inl h
popped_or (Did i) (y ∷ q) x h = inl h
popped_or PushedNote (y ∷ q) x h = inl h
popped_or (TookNote p b) (y ∷ q) x h = inl h
popped_or (Took l i) (y ∷ q) x h = inl h
popped_or Polled (y ∷ q) x h = inl h
popped_or Nothing (y ∷ q) x h = inl h

-- what stands in a list has its place among places that are counted from a number on
placed_member : (n : ℕ) (rs : List Reply) (k : ℕ) (x : Placed) → x.place ≡ n + k → slice_get rs k ≡ Some x.reply → Member x (placed n rs)
unfolding placed
placed_member n [] k x e h = cc
placed_member n (r ∷ rs) zero x e h =
    let a : r ≡ x.reply = cc in
    let b : n ≡ x.place = omega arith in
    inl (ap (λ (y : ℕ). let z : Placed = record { place = y; reply = r } in z) b ∙ ap (λ (y : Reply). let z : Placed = record { place = x.place; reply = y } in z) a)
placed_member n (r ∷ rs) (suc k) x e h = inr (placed_member (suc n) rs k x (omega arith) h)

-- each place of what is owed to a life that is not forgotten waits, or was pushed
place_or : (own : Own) (ms : Messages) (log : List Deed) (x : Placed) → slice_get (owed own ms log) x.place ≡ Some x.reply → is_forgotten log x.reply.to ≡ false
    → Member x (queue own ms log) ⊎ ((k : ℕ) × Answered own ms x k log)
unfolding owed queue without is_forgotten
place_or own ms [] x h f = cc
place_or own ms (d ∷ before) x h f =
    let parts = or_parts (is_forgotten before x.reply.to) (list_any (same_life x.reply.to) (forgotten_by before d)) f in
    let q = queue own ms before in
    let new = replies_by own ms.head (sends own ms before) d before in
    let keeps : Placed → Bool = λ (y : Placed). not (list_any (same_life y.reply.to) (forgotten_by before d)) in
    elim (slice_get_split (owed own ms before) new x.place x.reply h) [
      | inr now ↦ inl (member-append_right x (filter keeps (popped d q)) (placed (length (owed own ms before)) new) (placed_member (length (owed own ms before)) new now.0 x now.1 now.2))
      | inl older ↦ elim (place_or own ms before x older parts.0) [
        | inr pushed ↦ inr (pushed.0, inr pushed.1)
        | inl waits ↦ elim (popped_or d q x waits) [
          | inl stays ↦ inl (member-append_left x (filter keeps (popped d q)) (placed (length (owed own ms before)) new) (filter-member keeps x (popped d q) stays (ap not parts.1)))
          | inr goes ↦ inr (length before, inl (goes.0, refl, goes.1))
        ]
      ]
    ]

-- where nothing waits, it was pushed
pub place_rest : (own : Own) (ms : Messages) (log : List Deed) (x : Placed) → slice_get (owed own ms log) x.place ≡ Some x.reply → is_forgotten log x.reply.to ≡ false
    → slice_get (progress own ms log).replies 0 ≡ None → (k : ℕ) × Answered own ms x k log
place_rest own ms log x h f none =
    elim (place_or own ms log x h f) [
      | inl waits ↦ absurd (none_first (progress own ms log).replies x.reply none
          (subst (λ (rs : List Reply). Member x.reply rs) (queue_replies own ms log) (map-member (λ (y : Placed). y.reply) x (queue own ms log) waits)))
      | inr pushed ↦ pushed
    ]

-- the first of the queue is the first of the replies
first_reply : (q : List Placed) (x : Placed) → slice_get q 0 ≡ Some x → slice_get (replies_in q) 0 ≡ Some x.reply
first_reply [] x h = cc
first_reply (y ∷ q) x h = let e : y ≡ x = cc in ap (λ (z : Placed). Some z.reply) e

-- a reply that was pushed was due
answered_pushed : (own : Own) (ms : Messages) (log : List Deed) (x : Placed) (k : ℕ) → Answered own ms x k log → PushedAt own ms (Replies x.reply) k log
answered_pushed own ms [] x k h = elim h [ ]
answered_pushed own ms (d ∷ before) x k (inl h) =
    inl (h.0, head_due own ms before x.reply (ap (λ (rs : List Reply). slice_get rs 0) (sym (queue_replies own ms before)) ∙ first_reply (queue own ms before) x h.2), h.1)
answered_pushed own ms (d ∷ before) x k (inr h) = inr (answered_pushed own ms before x k h)

-- by what the life heard itself
pub answered_was_due : (own : Own) (log : List Deed) (x : Placed) (k : ℕ) → Answered own (heard_by own.limits.first log) x k log → WasDueAt own (Replies x.reply) k log
answered_was_due own log x k h = pushed_was_due own (Replies x.reply) k log (answered_pushed own (heard_by own.limits.first log) log x k h)

-- the datagram of a due item, at its place
pub record PlacedDue (job : Job) (port : ℕ) (c : Connid) (to : Life) (item : Item) (k : ℕ) (log : List Entry) : Type 0 where
  pub datagram : Datagram
  pub placed' : PlacedAt job port c datagram k log
  pub as' : TakenAs (life_of port c) to.connid item datagram
  pub dst_is : datagram.dst ≡ to.port

-- the datagram of an older due item
placed_later : (job : Job) (port : ℕ) (c : Connid) (to : Life) (item : Item) (k : ℕ) (e : Entry) (before : List Entry) → PlacedDue job port c to item k before
    → PlacedDue job port c to item k (e ∷ before)
placed_later job port c to item k e before p = record { datagram = p.datagram; placed' = inr p.placed'; as' = p.as'; dst_is = p.dst_is }

-- the datagram of the newest due item
placed_now : (job : Job) (port : ℕ) (c : Connid) (to : Life) (item : Item) (t : Due) (k : ℕ) (e : Entry) (before : List Entry) (from to' : Connid) (load : Load) (d : Datagram)
    → e.act ≡ Push d → open_life (deeds_at job port before) ≡ Some c → k ≡ length (of_life c (deeds_at job port before)) → e.port.0 ≡ port → d.body ≡ Between from to' load → d.src ≡ e.port
    → (is : IsPush (own_of job (life_of port c)) (of_life c (deeds_at job port before)) d from to' load)
    → due (own_of job (life_of port c)) (heard_by (own_of job (life_of port c)).limits.first (of_life c (deeds_at job port before))) (of_life c (deeds_at job port before)) ≡ Some t
    → due_going (Some t) ≡ Some (Goes to item) → PlacedDue job port c to item k (e ∷ before)
unfolding own_of
placed_now job port c to item t k e before from to' load d act now at p body src is was_due g =
    let out = is.out.is in
    let gives = is.out.gives in
    let same : is.out.due' ≡ t = cc in
    let goes : Goes is.dest is.item ≡ Goes to item = (let x = ap (λ (u : Due). due_going (Some u)) same in cc) in
    let dest : is.dest ≡ to = cc in
    let it : is.item ≡ item = cc in
    record {
      datagram = d;
      placed' = inl (act, now, at);
      as' = record {
        load = load;
        src_is = src ∙ ap (λ (n : ℕ). let x : PortNo = record { 0 = n } in x) p;
        body_is = body ∙ ap (λ (x : Connid). Between x to' load) is.from_is ∙ ap (λ (x : Connid). Between c x load) (is.to_is ∙ ap (λ (l : Life). l.connid) dest);
        item_is = bears_item is.item load is.bears ∙ it;
      };
      dst_is = is.dst_is ∙ ap (λ (l : Life). l.port) dest;
    }

-- each due item of a life went in a datagram that its port pushed at that place
pub was_due_placed : (job : Job) (port : ℕ) (c : Connid) (to : Life) (item : Item) (t : Due) (k : ℕ) (log : List Entry) → Local job port log
    → WasDueAt (own_of job (life_of port c)) t k (of_life c (deeds_at job port log)) → due_going (Some t) ≡ Some (Goes to item) → PlacedDue job port c to item k log
unfolding of_life deeds_at deeds
was_due_placed job port c to item t k [] l h g = elim h [ ]
was_due_placed job port c to item t k (e ∷ before) l h g =
    at_of_life (λ log. WasDueAt (own_of job (life_of port c)) t k log → PlacedDue job port c to item k (e ∷ before)) c (deed_of (rank_of job port).ops e.act) (deeds_at job port before)
    (λ now h. elim h [
      | inl a ↦ (
          let p = act_pushed (rank_of job port).ops e.act a.0 in
          let S = own_scene job port (deeds_at job port before) in
          let P : Act → Type 0 = λ x. Does job class_of S before e x in
          let does : Does job class_of S before e (Push p.0) = subst P p.4 l.2.2 in
          let next : GoesNext (life_scene (port_count job) (own_of job (life_of port c)) (deeds_at job port before) (of_life c (deeds_at job port before))) p.0 =
          subst (λ (s : Scene). GoesNext s p.0) (opened_scene job port c (deeds_at job port before) now) does.3 in
          let is = push_is (port_count job) (own_of job (life_of port c)) (deeds_at job port before) (of_life c (deeds_at job port before)) p.0 p.1 p.2 p.3 p.5 next in
          placed_now job port c to item t k e before p.1 p.2 p.3 p.0 p.4 now a.2 l.1 p.5 does.0 is a.1 g)
      | inr a ↦ placed_later job port c to item k e before (was_due_placed job port c to item t k before l.0 a g)
    ])
    (λ other h. placed_later job port c to item k e before (was_due_placed job port c to item t k before l.0 h g))
    h
