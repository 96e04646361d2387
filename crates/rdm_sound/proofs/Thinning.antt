-- Steps that leave receives, posted receives and sends out, or leave them as they are.
use Rattle.std.proofs.Common.{◌≡◌, ℕ, ◌+◌, Bool, true, false, cond, not, List, [], ◌∷◌, ◌++◌, Option, Some, None, refl, inl, ap}
use Rattle.std.specs.Prelude.{◌-◌, min, filter, find, flat_map}
use Rattle.rdm_lists.specs.Lists.{without_first}
use Rattle.rdm_num.specs.Pieces.{Piece}
use Rattle.rdm_num.specs.declared.numbers.Life.{Life}
use Rattle.rdm_match.specs.declared.PostedRecv.{PostedRecv}
use Rattle.rdm_match.specs.declared.Arrived.{Arrived}
use Rattle.rdm_match.specs.Matcher.{Pair, accepts, is_recv}
use Rattle.rdm_wire.specs.declared.ReadAsk.{ReadAsk}
use Rattle.rdm_model.specs.Beginnings.{Own}
use Rattle.rdm_model.specs.Grants.{data_room}
use Rattle.rdm_model.specs.Replies.{Reply}
use Rattle.rdm_life.specs.Kept.{Kept, Peer, LiveSend, LiveReceive, is_receive, is_send, receive_numbered, change_where, with_peer}
use Rattle.rdm_life.specs.Forgetting.{concerns, is_among, names_one, forget}
use Rattle.rdm_life.specs.Landing.{is_full, with_window, with_message, with_piece}
use Rattle.rdm_life.specs.Receiving.{after_cancel}
use Rattle.rdm_life.specs.Sending.{after_packet, pushed, ends_by_push, is_opened, push_send, push_first, send_next, gives_of, with_answer, with_grant, with_ask, after_grant, after_ask, end_sends}
use Rattle.rdm_sound.specs.Steps.{settle_found, settle_one, with_end, with_next_window, with_replies, land_one, meet_one, arrive_found, enter_one, next_of}
use Rattle.rdm_sound.proofs.Thinned.{IsThinned, thinned_self, thinned_same, thinned_more, thinned_map, thinned_filter, thinned_without, change_unseen}
use Rattle.rdm_sound.proofs.Orderly.{Thins, thins_none, thins_again, accepted_receives, accepted_sends}
use Rattle.rdm_sound.proofs.Pairs.{taken, message_same}
use Rattle.rdm_sound.proofs.Stays.{window_same}

-- ---- receives

-- all stay as they are
pub thins_still : (v w : Kept) → w.receives ≡ v.receives → w.posted ≡ v.posted → w.sends ≡ v.sends → w.receive_count ≡ v.receive_count → w.send_count ≡ v.send_count → Thins v w
thins_still v w receives posted sends receive_count send_count =
    record {
      receives = thinned_same (accepted_receives w.receives) (accepted_receives v.receives) (ap accepted_receives receives);
      posted = thinned_same w.posted v.posted posted;
      sends = thinned_same (accepted_sends w.sends) (accepted_sends v.sends) (ap accepted_sends sends);
      receive_count = receive_count;
      send_count = send_count;
    }

-- receives that don't pass are left out
pub thinned_live : (t : LiveReceive → Bool) (rs : List LiveReceive) → IsThinned (accepted_receives (filter t rs)) (accepted_receives rs)
thinned_live t rs = thinned_map (λ (r : LiveReceive). r.receive) (filter t rs) rs (thinned_filter t rs)

-- receives have come further
pub thins_changed : (t : LiveReceive → Bool) (f : LiveReceive → LiveReceive) (v : Kept) → ((x : LiveReceive) → (f x).receive ≡ x.receive)
    → Thins v (record v { receives = change_where t f v.receives })
thins_changed t f v same =
    let h = thins_none v in
    record {
      receives = thinned_same (accepted_receives (change_where t f v.receives)) (accepted_receives v.receives) (change_unseen (λ (r : LiveReceive). r.receive) t f v.receives same);
      posted = h.posted;
      sends = h.sends;
      receive_count = refl;
      send_count = refl;
    }

-- one settles
settled_thins : (is_new : Bool) (o : Option LiveReceive) (v : Kept) → Thins v (settle_found is_new o v)
unfolding settle_found
settled_thins is_new None v = thins_none v
settled_thins is_new (Some r) v =
    elim (is_full r.matched) as (λ b. Thins v (with_replies is_new r (cond b (with_end r v) (with_next_window r v)))) [
      | true ↦ (let h = thins_none v in
          record { receives = thinned_live (λ (q : LiveReceive). not (is_receive r.receive.number q)) v.receives; posted = h.posted; sends = h.sends; receive_count = refl; send_count = refl })
      | false ↦ (let h = thins_changed (is_receive r.receive.number) (with_window v.own) v (window_same v) in
          record { receives = h.receives; posted = h.posted; sends = h.sends; receive_count = refl; send_count = refl })
    ]

pub settles_thin : (is_new : Bool) (number : ℕ) (v : Kept) → Thins v (settle_one is_new number v)
settles_thin is_new number v = settled_thins is_new (receive_numbered v number) v

-- a piece lands
pub lands_thin : (number : ℕ) (p : Piece) (v : Kept) → Thins v (land_one number p v)
lands_thin number p v =
    let w : Kept = record v { receives = change_where (is_receive number) (with_piece p) v.receives } in
    thins_again v w (settle_one false number w) (thins_changed (is_receive number) (with_piece p) v (λ x. refl)) (settles_thin false number w)

-- one takes its message
pub taken_thins : (p : Pair) (v : Kept) → Thins v (taken p v)
taken_thins p v =
    let h = thins_changed (is_receive p.recv.id.0) (with_message p (v.early p.message.life p.message.no.0)) v (message_same p (v.early p.message.life p.message.no.0)) in
    record { receives = h.receives; posted = h.posted; sends = h.sends; receive_count = refl; send_count = refl }

pub meets_thin : (p : Pair) (v : Kept) → Thins v (meet_one p v)
unfolding meet_one
meets_thin p v = thins_again v (taken p v) (meet_one p v) (taken_thins p v) (settles_thin true p.recv.id.0 (taken p v))

-- a message enters
arrived_thins : (a : Arrived) (o : Option PostedRecv) (v : Kept) → Thins v (arrive_found a o v)
unfolding arrive_found
arrived_thins a None v = thins_still v (record v { arrived = v.arrived ++ a ∷ [] }) refl refl refl refl refl
arrived_thins a (Some r) v =
    let t : PostedRecv → Bool = λ q. accepts q a in
    let u : Kept = record v { posted = without_first t v.posted } in
    let h = thins_none v in
    let left : Thins v u = record { receives = h.receives; posted = thinned_without t v.posted; sends = h.sends; receive_count = refl; send_count = refl } in
    thins_again v u (meet_one (record { recv = r; message = a }) u) left (meets_thin (record { recv = r; message = a }) u)

pub enters_thin : (source : Life) (v : Kept) → Thins v (enter_one source v)
enters_thin source v =
    let w : Kept = with_peer source (λ (p : Peer). record p { next = p.next + 1 }) v in
    let a = next_of v source in
    let h = arrived_thins a (find (λ r. accepts r a) v.posted) w in
    record { receives = h.receives; posted = h.posted; sends = h.sends; receive_count = h.receive_count; send_count = h.send_count }

-- one is taken back
pub cancels_thin : (recv : ℕ) (v : Kept) → Thins v (after_cancel recv v)
unfolding after_cancel
cancels_thin recv v =
    record {
      receives = thinned_live (λ (r : LiveReceive). not (is_receive recv r)) v.receives;
      posted = thinned_without (is_recv recv) v.posted;
      sends = thinned_self (accepted_sends v.sends);
      receive_count = refl;
      send_count = refl;
    }

-- lives are forgotten
pub forgets_thin : (lives : List Life) (v : Kept) → Thins v (forget lives v)
unfolding forget
forgets_thin lives v =
    record {
      receives = thinned_live (λ (r : LiveReceive). not (concerns lives r)) v.receives;
      posted = thinned_filter (λ (r : PostedRecv). not (names_one lives r.from)) v.posted;
      sends = thinned_map (λ (s : LiveSend). s.sent) (filter (λ (s : LiveSend). not (is_among lives s.sent.to)) v.sends) v.sends (thinned_filter (λ (s : LiveSend). not (is_among lives s.sent.to)) v.sends);
      receive_count = refl;
      send_count = refl;
    }

-- ---- sends

-- sends have come further
sends_changed : (t : LiveSend → Bool) (f : LiveSend → LiveSend) (ss : List LiveSend) → ((x : LiveSend) → (f x).sent ≡ x.sent) → IsThinned (accepted_sends (change_where t f ss)) (accepted_sends ss)
sends_changed t f ss same = thinned_same (accepted_sends (change_where t f ss)) (accepted_sends ss) (change_unseen (λ (s : LiveSend). s.sent) t f ss same)

-- a packet of one went out
pushed_same : (own : Own) (s : LiveSend) → (pushed own s).sent ≡ s.sent
unfolding pushed
pushed_same own s =
    let further : LiveSend = record s { done = s.done + min (s.allowed - s.done) (data_room own.limits) } in
    let opened : LiveSend = record s { opened = s.opened + 1 } in
    let same : (b : Bool) → (cond b further opened).sent ≡ s.sent = λ b. elim b as (λ c. (cond c further opened).sent ≡ s.sent) [ true ↦ refl | false ↦ refl ] in
    same (is_opened own s)

sends_pushed : (own : Own) (n : ℕ) (ss : List LiveSend) → IsThinned (accepted_sends (flat_map (λ (t : LiveSend). cond (is_send n t) (after_packet own t) (t ∷ [])) ss)) (accepted_sends ss)
unfolding after_packet
sends_pushed own n [] = tt
sends_pushed own n (s ∷ ss) =
    let rest = sends_pushed own n ss in
    let left = flat_map (λ (t : LiveSend). cond (is_send n t) (after_packet own t) (t ∷ [])) ss in
    elim (is_send n s) as (λ b. IsThinned (accepted_sends (cond b (after_packet own s) (s ∷ []) ++ left)) (s.sent ∷ accepted_sends ss)) [
      | true ↦ elim (ends_by_push own (pushed own s)) as (λ b. IsThinned (accepted_sends (cond b [] (pushed own s ∷ []) ++ left)) (s.sent ∷ accepted_sends ss)) [
        | true ↦ thinned_more (accepted_sends left) (accepted_sends ss) s.sent rest
        | false ↦ inl (pushed_same own s, rest)
      ]
      | false ↦ inl (refl, rest)
    ]

push_sends_thin : (o : Option LiveSend) (v : Kept) → Thins v (push_send o v)
unfolding push_send
push_sends_thin None v = thins_none v
push_sends_thin (Some s) v =
    let h = thins_none v in
    record { receives = h.receives; posted = h.posted; sends = sends_pushed v.own s.sent.number v.sends; receive_count = refl; send_count = refl }

pub pushes_thin : (o : Option Reply) (v : Kept) → Thins v (push_first o v)
unfolding push_first
pushes_thin None v = push_sends_thin (send_next v) v
pushes_thin (Some r) v =
    let h = thins_none v in
    record { receives = h.receives; posted = h.posted; sends = sends_changed (gives_of r.gives) with_answer v.sends (λ x. refl); receive_count = refl; send_count = refl }

-- one is granted, asked, or over
pub grants_thin : (send recv size : ℕ) (v : Kept) → Thins v (after_grant send recv size v)
unfolding after_grant
grants_thin send recv size v =
    let h = thins_none v in
    record { receives = h.receives; posted = h.posted; sends = sends_changed (is_send send) (with_grant recv size) v.sends (λ x. refl); receive_count = refl; send_count = refl }

pub asks_thin : (from : Life) (ask : ReadAsk) (v : Kept) → Thins v (after_ask from ask v)
unfolding after_ask
asks_thin from ask v =
    let h = thins_none v in
    record { receives = h.receives; posted = h.posted; sends = sends_changed (is_send ask.send_id.0) (with_ask ask) v.sends (λ x. refl); receive_count = refl; send_count = refl }

pub ends_thin : (test : LiveSend → Bool) (v : Kept) → Thins v (end_sends test v)
unfolding end_sends
ends_thin test v =
    let h = thins_none v in
    record {
      receives = h.receives;
      posted = h.posted;
      sends = thinned_map (λ (s : LiveSend). s.sent) (filter (λ (s : LiveSend). not (test s)) v.sends) v.sends (thinned_filter (λ (s : LiveSend). not (test s)) v.sends);
      receive_count = refl;
      send_count = refl;
    }
