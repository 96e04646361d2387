-- Receives that wait stay live, and without a message, by each step.
use Rattle.std.proofs.Common.{◌≡◌, ℕ, ◌+◌, Bool, true, false, cond, not, List, [], ◌∷◌, ◌++◌, Option, Some, None, refl, arith, ◌⊎◌, inl, inr, sym, ◌∙◌, ap, subst}
use Rattle.std.specs.Prelude.{◌==◌, ◌||◌, filter, find, option_map, is_some}
use Rattle.std.proofs.lemmas.Bool.{eqb-true, eq-eqb, false_from_ne_true}
use Rattle.rdm_lists.specs.Lists.{Member, without_first}
use Rattle.rdm_lists.proofs.Members.{member-append_left, member-append_right, member-append_cases, member-filter, filter-member, member-map, map-member, find_member, without_member}
use Rattle.rdm_num.specs.Pieces.{Piece, byte_in}
use Rattle.rdm_num.specs.declared.numbers.Life.{Life}
use Rattle.rdm_num.specs.declared.request.RecvReq.{RecvReq}
use Rattle.rdm_match.specs.declared.PostedRecv.{PostedRecv}
use Rattle.rdm_match.specs.declared.Arrived.{Arrived}
use Rattle.rdm_match.specs.Matcher.{Pair, accepts, is_recv}
use Rattle.rdm_model.specs.Beginnings.{Own}
use Rattle.rdm_life.specs.Kept.{Kept, Peer, LiveReceive, Matched, is_receive, receive_numbered, change_where, with_peer}
use Rattle.rdm_life.specs.Facts.{meets_receive_in}
use Rattle.rdm_life.specs.Forgetting.{concerns, names_one, is_of_one, forget}
use Rattle.rdm_life.specs.Landing.{is_full, next_window, with_window, with_message, with_piece}
use Rattle.rdm_life.specs.Receiving.{receive_in, with_live, after_cancel}
use Rattle.rdm_life.proofs.Back.{found_none}
use Rattle.rdm_sound.specs.Premises.{IsOrderly, posted_numbers}
use Rattle.rdm_sound.specs.Steps.{settle_found, settle_one, with_end, with_next_window, with_replies, land_one, meet_one, post_found, post_one, arrive_found, next_of, enter_one}
use Rattle.rdm_sound.specs.Waiting.{Waits, AreWaiting, IsFree}
use Rattle.rdm_sound.proofs.Arrives.{once_without}
use Rattle.rdm_sound.proofs.Losses.{found_one}
use Rattle.rdm_sound.proofs.Deeds.{accepted_orderly}
use Rattle.rdm_sound.proofs.Forgotten.{or_nothing}
use Rattle.rdm_sound.proofs.Orderly.{numbered, orderly_thinned, thins_none}
use Rattle.rdm_sound.proofs.Pairs.{taken, message_same}
use Rattle.rdm_sound.proofs.Posts.{accepted, live_cases}
use Rattle.rdm_sound.proofs.Stays.{window_same}
use Rattle.rdm_sound.proofs.Thinned.{thinned_without}
use Rattle.rdm_sound.proofs.Thinning.{taken_thins, thins_still, thins_changed}

-- ---- lists

-- where neither changes
pub waiting_still : (v w : Kept) → w.posted ≡ v.posted → w.receives ≡ v.receives → AreWaiting v → AreWaiting w
waiting_still v w posted receives h =
    record {
      waits = λ p m. subst (λ (rs : List LiveReceive). Waits rs p) (sym receives) (h.waits p (subst (λ (ps : List PostedRecv). Member p ps) posted m));
      numbers = λ r m. h.numbers r (subst (λ (rs : List LiveReceive). Member r rs) receives m);
    }

-- what waits among more
waits_more : (rs qs : List LiveReceive) (p : PostedRecv) → Waits rs p → Waits (rs ++ qs) p
waits_more rs qs p h = record { receive = h.receive; live = member-append_left h.receive rs qs h.live; posted = h.posted; unmatched = h.unmatched }

-- and among those that are left
waits_left : (t : LiveReceive → Bool) (rs : List LiveReceive) (p : PostedRecv) (h : Waits rs p) → t h.receive ≡ true → Waits (filter t rs) p
waits_left t rs p h left = record { receive = h.receive; live = filter-member t h.receive rs h.live left; posted = h.posted; unmatched = h.unmatched }

-- and among those that are changed, where it isn't, or stays without a message
waits_changed : (t : LiveReceive → Bool) (f : LiveReceive → LiveReceive) (rs : List LiveReceive) (p : PostedRecv) (h : Waits rs p)
    → (t h.receive ≡ false) ⊎ (((f h.receive).receive ≡ h.receive.receive) × ((f h.receive).matched ≡ None)) → Waits (change_where t f rs) p
unfolding change_where
waits_changed t f rs p h stays =
    let g : LiveReceive → LiveReceive = λ x. cond (t x) (f x) x in
    let r = h.receive in
    let same : ((g r).receive ≡ r.receive) × ((g r).matched ≡ None) =
    elim stays [
      | inl off ↦ (ap (λ b. (cond b (f r) r).receive) off, ap (λ b. (cond b (f r) r).matched) off ∙ h.unmatched)
      | inr e ↦ elim (t r) as (λ b. ((cond b (f r) r).receive ≡ r.receive) × ((cond b (f r) r).matched ≡ None)) [ true ↦ e | false ↦ (refl, h.unmatched) ]
    ] in
    record { receive = g r; live = map-member g r rs h.live; posted = ap (λ s. s.posted) same.0 ∙ h.posted; unmatched = same.1 }

-- receives have come further
numbers_changed : (t : LiveReceive → Bool) (f : LiveReceive → LiveReceive) (rs : List LiveReceive) → ((x : LiveReceive) → (f x).receive ≡ x.receive)
    → ((r : LiveReceive) → Member r rs → r.receive.posted.id.0 ≡ r.receive.number) → (r : LiveReceive) → Member r (change_where t f rs) → r.receive.posted.id.0 ≡ r.receive.number
unfolding change_where
numbers_changed t f rs same numbers r m =
    let g : LiveReceive → LiveReceive = λ x. cond (t x) (f x) x in
    let q = member-map g r rs m in
    let is : (g q.0).receive ≡ q.0.receive = elim (t q.0) as (λ b. (cond b (f q.0) q.0).receive ≡ q.0.receive) [ true ↦ same q.0 | false ↦ refl ] in
    let was : r.receive ≡ q.0.receive = sym (ap (λ (x : LiveReceive). x.receive) q.2) ∙ is in
    ap (λ s. s.posted.id.0) was ∙ numbers q.0 q.1 ∙ sym (ap (λ s. s.number) was)

-- the number of one that waits
number_of : (v : Kept) (p : PostedRecv) → AreWaiting v → (h : Waits v.receives p) → h.receive.receive.number ≡ p.id.0
number_of v p w h = sym (w.numbers h.receive h.live) ∙ ap (λ (q : PostedRecv). q.id.0) h.posted

-- ---- bytes came

-- one that is full has a message
full_matched : (o : Option Matched) → is_full o ≡ true → o ≡ None → ⊥
unfolding is_full
full_matched o full none = let e : is_full o ≡ false = ap is_full none in let wrong : true ≡ false = sym full ∙ e in cc

window_unmatched : (own : Own) (r : LiveReceive) → r.matched ≡ None → (with_window own r).matched ≡ None
unfolding with_window
window_unmatched own r none = ap (λ o. option_map (λ (m : Matched). record m { granted = m.granted + next_window own m }) o) none

settled_waiting : (is_new : Bool) (n : ℕ) (o : Option LiveReceive) (v : Kept) → receive_numbered v n ≡ o → IsOrderly v → AreWaiting v → AreWaiting (settle_found is_new o v)
unfolding settle_found
settled_waiting is_new n None v found o h = h
settled_waiting is_new n (Some r) v found o h =
    let there = (find_member (is_receive n) r v.receives found).0 in
    let key : ℕ = r.receive.number in
    (elim (is_full r.matched) as (λ b. is_full r.matched ≡ b → AreWaiting (with_replies is_new r (cond b (with_end r v) (with_next_window r v)))) [
      | true ↦ λ full. record {
        waits = λ p m.
            let w = h.waits p m in
            waits_left (λ (q : LiveReceive). not (is_receive key q)) v.receives p w
            (ap not (false_from_ne_true (is_receive key w.receive) (λ is.
            let same : w.receive ≡ r = numbered v.receives o.once w.receive r w.live there (eqb-true w.receive.receive.number key is) in
            full_matched r.matched full (ap (λ (x : LiveReceive). x.matched) (sym same) ∙ w.unmatched))));
        numbers = λ q m. h.numbers q (member-filter (λ (q : LiveReceive). not (is_receive key q)) q v.receives m).0;
      }
      | false ↦ λ _. record {
        waits = λ p m. (let w = h.waits p m in
            waits_changed (is_receive key) (with_window v.own) v.receives p w (inr (window_same v w.receive, window_unmatched v.own w.receive w.unmatched)));
        numbers = numbers_changed (is_receive key) (with_window v.own) v.receives (window_same v) h.numbers;
      }
    ]) refl

pub settles_waiting : (is_new : Bool) (n : ℕ) (v : Kept) → IsOrderly v → AreWaiting v → AreWaiting (settle_one is_new n v)
settles_waiting is_new n v o h = settled_waiting is_new n (receive_numbered v n) v refl o h

-- a receive takes a message, where it waits no more
pub met_waiting : (p : Pair) (v : Kept) → IsOrderly v → AreWaiting v → (Member p.recv.id.0 (posted_numbers v.posted) → ⊥) → AreWaiting (meet_one p v)
unfolding meet_one
met_waiting p v o h gone =
    let n = p.recv.id.0 in
    let e = v.early p.message.life p.message.no.0 in
    let u : Kept = taken p v in
    let waiting : AreWaiting u = record {
      waits = λ q m.
          let w = h.waits q m in
          waits_changed (is_receive n) (with_message p e) v.receives q w (inl (false_from_ne_true (is_receive n w.receive) (λ is.
          let same : q.id.0 ≡ n = sym (number_of v q h w) ∙ eqb-true w.receive.receive.number n is in
          gone (subst (λ (k : ℕ). Member k (posted_numbers v.posted)) same (map-member (λ (x : PostedRecv). x.id.0) q v.posted m)))));
      numbers = numbers_changed (is_receive n) (with_message p e) v.receives (message_same p e) h.numbers;
    } in
    settles_waiting true n u (orderly_thinned v u (taken_thins p v) o) waiting

-- a piece lands
pub lands_waiting : (number : ℕ) (p : Piece) (v : Kept) → IsOrderly v → AreWaiting v → AreWaiting (land_one number p v)
lands_waiting number p v o h =
    let u : Kept = record v { receives = change_where (is_receive number) (with_piece p) v.receives } in
    let orderly = orderly_thinned v u (thins_changed (is_receive number) (with_piece p) v (λ x. refl)) o in
    settles_waiting false number u orderly (record {
      waits = λ q m. (let w = h.waits q m in
          waits_changed (is_receive number) (with_piece p) v.receives q w (inr (refl, ap (λ o. option_map (λ (m : Matched). record m { came = λ place. m.came place || is_some (byte_in p place) }) o) w.unmatched)));
      numbers = numbers_changed (is_receive number) (with_piece p) v.receives (λ x. refl) h.numbers;
    })

-- ---- messages enter, and receives are posted

arrived_waiting : (a : Arrived) (r : Option PostedRecv) (v : Kept) → find (λ q. accepts q a) v.posted ≡ r → IsOrderly v → AreWaiting v → AreWaiting (arrive_found a r v)
unfolding arrive_found
arrived_waiting a None v found o h = waiting_still v (record v { arrived = v.arrived ++ a ∷ [] }) refl refl h
arrived_waiting a (Some r) v found o h =
    let t : PostedRecv → Bool = λ q. accepts q a in
    let u : Kept = record v { posted = without_first t v.posted } in
    let left = thins_none v in
    let orderly = orderly_thinned v u (record { receives = left.receives; posted = thinned_without t v.posted; sends = left.sends; receive_count = refl; send_count = refl }) o in
    met_waiting (record { recv = r; message = a }) u orderly
    (record { waits = λ p m. h.waits p (without_member t p v.posted m); numbers = h.numbers })
    (once_without (λ (q : PostedRecv). q.id.0) t v.posted r o.posted_once found).0

pub enters_waiting : (source : Life) (v : Kept) → IsOrderly v → AreWaiting v → AreWaiting (enter_one source v)
enters_waiting source v o h =
    let a = next_of v source in
    let w : Kept = with_peer source (λ (p : Peer). record p { next = p.next + 1 }) v in
    arrived_waiting a (find (λ q. accepts q a) v.posted) w refl (orderly_thinned v w (thins_still v w refl refl refl refl refl) o) (waiting_still v w refl refl h)

-- the next number is none of those that wait
unposted : (v : Kept) → IsOrderly v → Member v.receive_count (posted_numbers v.posted) → ⊥
unposted v o m =
    let q = member-map (λ (x : PostedRecv). x.id.0) v.receive_count v.posted m in
    let g = o.posted_given q.0 q.1 in
    let e = q.2 in
    omega arith

-- a receive is accepted: it waits last, or takes a message
accepted_waiting : (req : RecvReq) (v : Kept) → AreWaiting v → AreWaiting (with_live (receive_in v req) v)
accepted_waiting req v h =
    record {
      waits = λ p m. waits_more v.receives (accepted v req ∷ []) p (h.waits p m);
      numbers = λ r m. elim (live_cases v req r m) [
        | inl old ↦ h.numbers r old
        | inr is ↦ subst (λ (x : LiveReceive). x.receive.posted.id.0 ≡ x.receive.number) is refl
      ];
    }

found_waiting : (r : PostedRecv) (a : Option Arrived) (v : Kept) → IsOrderly v → AreWaiting v → Waits v.receives r → (Member r.id.0 (posted_numbers v.posted) → ⊥) → AreWaiting (post_found r a v)
unfolding post_found
found_waiting r None v o h live new =
    record {
      waits = λ p m. elim (member-append_cases p v.posted (r ∷ []) m) [
        | inl old ↦ h.waits p old
        | inr last ↦ elim last [
          | inl is ↦ subst (λ (q : PostedRecv). Waits v.receives q) is live
          | inr never ↦ elim never [ ]
        ]
      ];
      numbers = h.numbers;
    }
found_waiting r (Some a) v o h live new =
    let u : Kept = record v { arrived = without_first (accepts r) v.arrived } in
    met_waiting (record { recv = r; message = a }) u (orderly_thinned v u (thins_still v u refl refl refl refl refl) o) (waiting_still v u refl refl h) new

pub posts_waiting : (req : RecvReq) (v : Kept) → IsOrderly v → AreWaiting v → meets_receive_in v req.region.0 req.at req.len ≡ false
    → AreWaiting (post_one (receive_in v req).posted (with_live (receive_in v req) v))
posts_waiting req v o h free =
    let w : Kept = with_live (receive_in v req) v in
    let r : PostedRecv = (receive_in v req).posted in
    found_waiting r (find (accepts r) v.arrived) w (accepted_orderly req v o free) (accepted_waiting req v h)
    (record { receive = accepted v req; live = member-append_right (accepted v req) v.receives (accepted v req ∷ []) (inl refl); posted = refl; unmatched = refl })
    (λ m. unposted v o m)

-- one is taken back
pub cancels_waiting : (recv : ℕ) (v : Kept) → IsOrderly v → AreWaiting v → AreWaiting (after_cancel recv v)
unfolding after_cancel is_recv
cancels_waiting recv v o h =
    let t : PostedRecv → Bool = λ q. q.id.0 == recv in
    let other : (p : PostedRecv) → Member p (without_first t v.posted) → p.id.0 ≡ recv → ⊥ = λ p m is.
    (elim (find t v.posted) as (λ x. find t v.posted ≡ x → ⊥) [
      | None ↦ λ none. (let off = found_none t v.posted p none (without_member t p v.posted m) in let on = eq-eqb p.id.0 recv is in cc)
      | Some q ↦ λ found.
          let gone = (once_without (λ (x : PostedRecv). x.id.0) t v.posted q o.posted_once found).0 in
          let at : q.id.0 ≡ recv = eqb-true q.id.0 recv (find_member t q v.posted found).1 in
          gone (subst (λ (n : ℕ). Member n (posted_numbers (without_first t v.posted))) (is ∙ sym at) (map-member (λ (x : PostedRecv). x.id.0) p (without_first t v.posted) m))
    ]) refl in
    record {
      waits = λ p m.
          let was = without_member t p v.posted m in
          let w = h.waits p was in
          waits_left (λ (q : LiveReceive). not (is_receive recv q)) v.receives p w
          (ap not (false_from_ne_true (is_receive recv w.receive) (λ is. other p m (sym (number_of v p h w) ∙ eqb-true w.receive.receive.number recv is))));
      numbers = λ q m. h.numbers q (member-filter (λ (q : LiveReceive). not (is_receive recv q)) q v.receives m).0;
    }

-- a receive that names none of some lives, and has no message, concerns none of them
unconcerned : (lives : List Life) (p : PostedRecv) (r : LiveReceive) → r.receive.posted ≡ p → r.matched ≡ None → not (names_one lives p.from) ≡ true → not (concerns lives r) ≡ true
unfolding concerns is_of_one
unconcerned lives p r posted unmatched e =
    ap (λ o. not (names_one lives r.receive.posted.from || is_of_one lives o)) unmatched
    ∙ ap (λ (q : PostedRecv). not (names_one lives q.from || false)) posted
    ∙ ap not (or_nothing (names_one lives p.from)) ∙ e

-- lives are forgotten
pub forgets_waiting : (lives : List Life) (v : Kept) → AreWaiting v → AreWaiting (forget lives v)
unfolding forget
forgets_waiting lives v h =
    let stays : PostedRecv → Bool = λ p. not (names_one lives p.from) in
    record {
      waits = λ p m.
          let f = member-filter stays p v.posted m in
          let w = h.waits p f.0 in
          waits_left (λ (q : LiveReceive). not (concerns lives q)) v.receives p w (unconcerned lives p w.receive w.posted w.unmatched f.1);
      numbers = λ q m. h.numbers q (member-filter (λ (q : LiveReceive). not (concerns lives q)) q v.receives m).0;
    }

-- ---- a message finds a receive that may take it

pub accepts_free : (a : Arrived) (p : PostedRecv) (v : Kept) → IsOrderly v → AreWaiting v → find (λ q. accepts q a) v.posted ≡ Some p → IsFree v p
accepts_free a p v o h found =
    let w = h.waits p (find_member (λ q. accepts q a) p v.posted found).0 in
    let number = number_of v p h w in
    record {
      receive = w.receive;
      found = ap (λ n. receive_numbered v n) (sym number) ∙ found_one (λ (r : LiveReceive). r.receive.number) w.receive v.receives o.once w.live;
      posted = w.posted;
      unmatched = w.unmatched;
    }
