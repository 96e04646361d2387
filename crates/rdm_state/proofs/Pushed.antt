-- What goes out.
use Rattle.std.proofs.Common.{◌≡◌, ℕ, ◌+◌, ◌-◌, Bool, true, false, not, cond, List, [], ◌∷◌, ◌++◌, filter, drop, Some, None, refl, sym, ap, ◌∙◌, subst, inl, inr, arith}
use Rattle.std.specs.Prelude.{◌==◌, flat_map, min}
use Rattle.std.proofs.lemmas.List.{append-nil}
use Rattle.rdm_lists.specs.Lists.{Member}
use Rattle.rdm_lists.proofs.Members.{find_member}
use Rattle.rdm_num.specs.declared.completion.Completion.TheVariants.{Send}
use Rattle.rdm_model.specs.Beginnings.{Own}
use Rattle.rdm_model.specs.Grants.{data_room}
use Rattle.rdm_model.specs.Sends.{Sent}
use Rattle.rdm_life.specs.Kept.{LiveSend, is_send, change_where}
use Rattle.rdm_life.specs.Sending.{after_packet, completion_of_send, push_send, push_first, pushed, is_opened, gives_of, with_answer}
use Rattle.rdm_sends.specs.Sending.{SendingView}
use Rattle.rdm_sent.specs.Shows.{IsSend}
use Rattle.rdm_sent.proofs.Going.{pushes_as_kept}
use Rattle.rdm_shown.specs.GroundLaws.{one_send_fewer}
use Rattle.rdm_state.specs.Shows.{Shows, number_of, bytes_of}
use Rattle.rdm_state.specs.Steps.{with_send, without_send, owing}
use Rattle.rdm_state.specs.SendLaws.{PacketsGo, RepliesGo}
use Rattle.rdm_state.proofs.Among.{found_only}
use Rattle.rdm_state.proofs.Sends.{shown_send, changed_send, over_send}

number_is : (a b : ℕ) → (a == b) ≡ true → a ≡ b
number_is a b h = grind (arith, h)

-- a push leaves what is sent
pub sent_same : (own : Own) (s : LiveSend) → (pushed own s).sent ≡ s.sent
unfolding pushed
sent_same own s = by_case (is_opened own s)
  where
    by_case : (b : Bool) → (cond b (record s { done = s.done + min (s.allowed - s.done) (data_room own.limits) }) (record s { opened = s.opened + 1 })).sent ≡ s.sent
    by_case true = refl
    by_case false = refl

-- one that goes on in its place
pub goes_on : (own : Own) (n : ℕ) (sends : List LiveSend) → ((t : LiveSend) → Member t sends → t.sent.number ≡ n → after_packet own t ≡ pushed own t ∷ [])
    → flat_map (λ (t : LiveSend). cond (is_send n t) (after_packet own t) (t ∷ [])) sends ≡ change_where (is_send n) (pushed own) sends
unfolding change_where
goes_on own n [] h = refl
goes_on own n (t ∷ sends) h =
    let rest = goes_on own n sends (λ u m is. h u (inr m) is) in
    elim (is_send n t) as (λ b. is_send n t ≡ b → cond b (after_packet own t) (t ∷ []) ++ flat_map (λ (u : LiveSend). cond (is_send n u) (after_packet own u) (u ∷ [])) sends ≡ cond b (pushed own t) t ∷ change_where (is_send n) (pushed own) sends) [
      | true ↦ λ is. (let one = h t (inl refl) (number_is t.sent.number n is) in λ i. one i ++ rest i)
      | false ↦ λ is. ap (λ us. t ∷ us) rest
    ] refl

-- one that is over goes
pub goes_out : (own : Own) (n : ℕ) (sends : List LiveSend) → ((t : LiveSend) → Member t sends → t.sent.number ≡ n → after_packet own t ≡ [])
    → flat_map (λ (t : LiveSend). cond (is_send n t) (after_packet own t) (t ∷ [])) sends ≡ filter (λ (t : LiveSend). not (is_send n t)) sends
goes_out own n [] h = refl
goes_out own n (t ∷ sends) h =
    let rest = goes_out own n sends (λ u m is. h u (inr m) is) in
    elim (is_send n t) as (λ b. is_send n t ≡ b → cond b (after_packet own t) (t ∷ []) ++ flat_map (λ (u : LiveSend). cond (is_send n u) (after_packet own u) (u ∷ [])) sends ≡ cond (not b) (t ∷ filter (λ (u : LiveSend). not (is_send n u)) sends) (filter (λ (u : LiveSend). not (is_send n u)) sends)) [
      | true ↦ λ is. (let none = h t (inl refl) (number_is t.sent.number n is) in λ i. none i ++ rest i)
      | false ↦ λ is. ap (λ us. t ∷ us) rest
    ] refl

some_same : (a b : LiveSend) → Some a ≡ Some b → a ≡ b
some_same a b h = cc

pub packets_go : PacketsGo
unfolding push_send
packets_go e v number x y live s o there found is =
    let q = shown_send e v number x s there in
    let shows = subst (IsSend x) (some_same q.live live (sym q.found ∙ found)) q.shows in
    let named : live.sent.number ≡ number = number_is live.sent.number number (find_member (is_send number) live v.sends found).1 in (
      λ over.
          let p = pushes_as_kept v.own x y live false shows is over in
          let step = changed_send e v number y (pushed v.own) live s o found (sent_same v.own) p.0 in
          let same = goes_on v.own number v.sends (λ t m at. subst (λ (u : LiveSend). after_packet v.own u ≡ pushed v.own u ∷ []) (sym (found_only number_of number v.sends live t o.sends_once found m at)) p.1) in
          subst (λ n. Shows (with_send number y e) (record v { sends = flat_map (λ (t : LiveSend). cond (is_send n t) (after_packet v.own t) (t ∷ [])) v.sends; completions = v.completions ++ completion_of_send v.own live })) (sym named)
          (subst (λ ss. Shows (with_send number y e) (record v { sends = ss; completions = v.completions ++ completion_of_send v.own live })) (sym same)
          (subst (λ cs. Shows (with_send number y e) (record v { sends = change_where (is_send number) (pushed v.own) v.sends; completions = cs })) (sym (append-nil v.completions) ∙ ap (λ cs. v.completions ++ cs) (sym p.2)) step)),
      λ over few none.
          let p = pushes_as_kept v.own x y live true shows is over in
          let step = over_send e v number live false s o found few none in
          let same = goes_out v.own number v.sends (λ t m at. subst (λ (u : LiveSend). after_packet v.own u ≡ []) (sym (found_only number_of number v.sends live t o.sends_once found m at)) p.1) in
          let z = pushes_as_kept v.own x y live true shows is over in
          let done : Send (record { 0 = number }) false ∷ [] ≡ completion_of_send v.own live = ap (λ (n : ℕ). Send (record { 0 = n }) false ∷ []) (sym named ∙ sym (number_of_pushed v.own y live z.0)) ∙ sym z.2 in
          subst (λ n. Shows (without_send number false e) (record v { sends = flat_map (λ (t : LiveSend). cond (is_send n t) (after_packet v.own t) (t ∷ [])) v.sends; completions = v.completions ++ completion_of_send v.own live })) (sym named)
          (subst (λ ss. Shows (without_send number false e) (record v { sends = ss; completions = v.completions ++ completion_of_send v.own live })) (sym same)
          (subst (λ cs. Shows (without_send number false e) (record (one_send_fewer number v) { completions = v.completions ++ cs })) done step)),
    )
  where
    number_of_pushed : (own : Own) (y : SendingView) (s : LiveSend) → IsSend y (pushed own s) → y.message.send_id.0 ≡ s.sent.number
    number_of_pushed own y s is = is.message.number ∙ ap (λ (t : Sent). t.number) (sent_same own s)

-- an answer that gives no bytes of a send
pub replies_go : RepliesGo
unfolding push_first gives_of change_where
replies_go e v r owed s gives becomes =
    subst (λ o. Shows (owing owed e) (record v { owed = drop 1 v.owed; sends = change_where (gives_of o) with_answer v.sends })) (sym gives)
    (subst (λ ss. Shows (owing owed e) (record v { owed = drop 1 v.owed; sends = ss })) (sym (none_changed v.sends))
    (record {
      own = s.own;
      regions = s.regions;
      leases = s.leases;
      holds = s.holds;
      lives = s.lives;
      peers = s.peers;
      first = s.first;
      posted = s.posted;
      arrived = s.arrived;
      early = s.early;
      sends = s.sends;
      sends_made = s.sends_made;
      receives = s.receives;
      each_receive = s.each_receive;
      receives_made = s.receives_made;
      owed = becomes v.own (bytes_of v.sends) ∙ ap (drop 1) s.owed;
      completed = s.completed;
      reserved = s.reserved;
      polled = s.polled;
    }))
  where
    none_changed : (xs : List LiveSend) → change_where (gives_of None) with_answer xs ≡ xs
    none_changed [] = refl
    none_changed (x ∷ xs) = ap (λ ys. x ∷ ys) (none_changed xs)
