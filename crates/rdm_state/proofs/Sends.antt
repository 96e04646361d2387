-- A live send that is changed, and one that is over.
use Rattle.std.proofs.Common.{◌≡◌, ℕ, ◌≤◌, Bool, true, false, not, List, [], ◌∷◌, ◌++◌, length, filter, find, map, drop, Option, Some, None, refl, sym, ap, ◌∙◌, subst, arith}
use Rattle.std.proofs.Math.Path.{fun_ext}
use Rattle.std.specs.Prelude.{◌==◌, option_map}
use Rattle.rdm_lists.specs.Lists.{Member}
use Rattle.rdm_lists.proofs.Members.{find_member}
use Rattle.rdm_num.specs.declared.completion.Completion.TheVariants.{Send}
use Rattle.rdm_model.specs.Replies.{given_of}
use Rattle.rdm_tx.specs.Asks.{with_answer as with_answer_of}
use Rattle.rdm_pool.specs.Numbered.{value_at}
use Rattle.rdm_answers.specs.declared.answer.Answer.TheVariants.{Given}
use Rattle.rdm_answers.specs.Answers.{replies_for}
use Rattle.rdm_answers.specs.Owing.{owed_in}
use Rattle.rdm_answers.proofs.Given.{only_given_bytes_count}
use Rattle.rdm_answers.proofs.Received.{givens_give}
use Rattle.rdm_life.specs.Kept.{Kept, LiveSend, is_send, send_numbered, change_where}
use Rattle.rdm_life.specs.Sending.{with_grant, with_ask, with_answer, after_grant, after_ask, end_sends, push_first, gives_of}
use Rattle.rdm_sends.specs.Sending.{SendingView}
use Rattle.rdm_sends.specs.Coming.{with_asks}
use Rattle.rdm_sent.specs.Shows.{IsSend}
use Rattle.rdm_sent.proofs.Granting.{grants_as_kept}
use Rattle.rdm_sent.proofs.Asking.{asks_as_kept, answers_as_kept}
use Rattle.rdm_shown.specs.Tables.{IsLike}
use Rattle.rdm_shown.specs.GroundLaws.{one_send_fewer}
use Rattle.rdm_shown.proofs.Finding.{find_named, find_left}
use Rattle.rdm_shown.proofs.Grounds.{names_count, drop_shows}
use Rattle.rdm_shown.proofs.Tables.{entries_find, entries_write, entries_take, rise_changed, rise_left}
use Rattle.rdm_sound.specs.Premises.{IsOrderly}
use Rattle.rdm_sound.specs.Forgets.{lose_send}
use Rattle.rdm_state.specs.State.{State}
use Rattle.rdm_state.specs.Shows.{Shows, number_of, bytes_of, bytes_of_found}
use Rattle.rdm_state.specs.Steps.{with_send, without_send, owing}
use Rattle.rdm_state.specs.SendLaws.{GrantsCome, AsksCome, AnswersGo, SendsEnd, SendsLost, GivesNone}
use Rattle.rdm_state.proofs.Among.{found_only, filter_one, one_fewer, as_many}

number_is : (a b : ℕ) → (a == b) ≡ true → a ≡ b
number_is a b h = grind (arith, h)

-- the live send that a send of a number shows
pub record ShownSend (v : Kept) (number : ℕ) (x : SendingView) : Type 0 where
  pub live : LiveSend
  pub found : send_numbered v number ≡ Some live
  pub shows : IsSend x live
  pub number_is : live.sent.number ≡ number

shown_by : (number : ℕ) (x : SendingView) (v : Kept) (o : Option LiveSend) → send_numbered v number ≡ o → IsLike IsSend (Some x) o → ShownSend v number x
shown_by number x v None is like = absurd like
shown_by number x v (Some s) is like = record { live = s; found = is; shows = like; number_is = number_is s.sent.number number (find_member (is_send number) s v.sends is).1 }

pub shown_send : (e : State) (v : Kept) (number : ℕ) (x : SendingView) → Shows e v → value_at e.sends.list number ≡ Some x → ShownSend v number x
shown_send e v number x s live =
    shown_by number x v (send_numbered v number) refl
    (subst (λ o. IsLike IsSend o (send_numbered v number)) live (entries_find number_of IsSend e.sends.list v.sends number s.sends.like))

-- the bytes of a send by what it is
bytes_named : (o q : Option LiveSend) → option_map (λ (s : LiveSend). s.sent) o ≡ option_map (λ (s : LiveSend). s.sent) q → bytes_of_found o ≡ bytes_of_found q
unfolding bytes_of_found
bytes_named None None h = refl
bytes_named None (Some q) h = absurd (differ h)
  where
    differ : None ≡ Some q.sent → ⊥
    differ e = cc
bytes_named (Some s) None h = absurd (differ h)
  where
    differ : Some s.sent ≡ None → ⊥
    differ e = cc
bytes_named (Some s) (Some q) h = let e : s.sent ≡ q.sent = same h in rw e refl
  where
    same : Some s.sent ≡ Some q.sent → s.sent ≡ q.sent
    same e = cc

-- the bytes of messages stay where what is sent does
same_bytes : (t : LiveSend → Bool) (g : LiveSend → LiveSend) (sends : List LiveSend) → ((s : LiveSend) → (g s).sent ≡ s.sent) → bytes_of (change_where t g sends) ≡ bytes_of sends
same_bytes t g sends same = fun_ext (λ n. bytes_named _ _ (find_named (λ (s : LiveSend). s.sent) (is_send n) t g sends same (λ s. rw (same s) refl)))

-- a send that is changed
pub changed_send : (e : State) (v : Kept) (number : ℕ) (x : SendingView) (g : LiveSend → LiveSend) (live : LiveSend)
    → Shows e v → IsOrderly v → send_numbered v number ≡ Some live → ((s : LiveSend) → (g s).sent ≡ s.sent) → IsSend x (g live)
    → Shows (with_send number x e) (record v { sends = change_where (is_send number) g v.sends })
changed_send e v number x g live s o found same new =
    let ground = (names_count e.regions v (record { regions = s.regions; leases = s.leases; holds = s.holds })).1 (is_send number) g same in
    let count = as_many (is_send number) g v.sends in
    record {
      own = s.own;
      regions = s.regions;
      leases = s.leases;
      holds = ground.holds;
      lives = s.lives;
      peers = s.peers;
      first = s.first;
      posted = s.posted;
      arrived = s.arrived;
      early = s.early;
      sends = record {
        like = entries_write number_of IsSend e.sends.list v.sends 0 number x g s.sends.like s.sends.rise (λ y m is.
            let only = found_only number_of number v.sends live y o.sends_once found m is in
            (rw (same y) is, subst (λ (q : LiveSend). IsSend x (g q)) (sym only) new));
        rise = rise_changed number_of (is_send number) g 0 v.sends (λ y m. rw (same y) refl) s.sends.rise;
      };
      sends_made = s.sends_made;
      receives = s.receives;
      each_receive = s.each_receive;
      receives_made = s.receives_made;
      owed = ap (λ b. owed_in v.own b e.owed.owed) (same_bytes (is_send number) g v.sends same) ∙ s.owed;
      completed = s.completed;
      reserved = (let was = s.reserved in omega (arith, was, count));
      polled = s.polled;
    }

-- one that is over
pub over_send : (e : State) (v : Kept) (number : ℕ) (live : LiveSend) (gone : Bool)
    → Shows e v → IsOrderly v → send_numbered v number ≡ Some live → length live.sent.req.parts ≤ 4 → GivesNone v number
    → Shows (without_send number gone e) (record (one_send_fewer number v) { completions = v.completions ++ Send (record { 0 = number }) gone ∷ [] })
unfolding bytes_of_found
over_send e v number live gone s o found few none =
    let ground = drop_shows e.regions v number (record { regions = s.regions; leases = s.leases; holds = s.holds }) (λ q is. subst (λ (z : LiveSend). length z.sent.req.parts ≤ 4) (some_same live q (sym found ∙ is)) few) in
    let fewer = one_fewer number_of number v.sends live o.sends_once found in
    record {
      own = s.own;
      regions = ground.regions;
      leases = ground.leases;
      holds = ground.holds;
      lives = s.lives;
      peers = s.peers;
      first = s.first;
      posted = s.posted;
      arrived = s.arrived;
      early = s.early;
      sends = record {
        like = entries_take number_of IsSend e.sends.list v.sends 0 number s.sends.like s.sends.rise;
        rise = rise_left number_of (λ y. not (is_send number y)) 0 v.sends s.sends.rise;
      };
      sends_made = s.sends_made;
      receives = s.receives;
      each_receive = s.each_receive;
      receives_made = s.receives_made;
      owed = only_given_bytes_count v.own (bytes_of v.sends) (bytes_of (one_send_fewer number v).sends) e.owed.owed (λ r send m gives.
          ap bytes_of_found (sym (find_left number_of number send v.sends (λ same. none r (subst (Member r) s.owed m) (gives ∙ ap (λ (n : ℕ). Some n) (sym same))))))
          ∙ s.owed;
      completed = ap (λ cs. cs ++ Send (record { 0 = number }) gone ∷ []) s.completed;
      reserved = (let was = s.reserved in omega (arith, was, fewer));
      polled = s.polled;
    }
  where
    some_same : (a b : LiveSend) → Some a ≡ Some b → a ≡ b
    some_same a b h = cc

-- ---- what comes

pub grants_come : GrantsCome
unfolding after_grant
grants_come e v number recv size x s o live may =
    let l = shown_send e v number x s live in
    changed_send e v number _ (with_grant recv size) l.live s o l.found (λ q. refl) (grants_as_kept x l.live recv size l.shows may)

-- ---- sends that are over

pub sends_end : SendsEnd
unfolding end_sends
sends_end e v number live s o found few none =
    let step = over_send e v number live false s o found few none in
    let only : filter (is_send number) v.sends ≡ live ∷ [] = filter_one number_of number v.sends live o.sends_once found in
    let named : live.sent.number ≡ number = number_is live.sent.number number (find_member (is_send number) live v.sends found).1 in
    subst (λ cs. Shows (without_send number false e) (record (one_send_fewer number v) { completions = v.completions ++ cs }))
    (ap (λ (n : ℕ). Send (record { 0 = n }) false ∷ []) (sym named) ∙ sym (ap (map (λ (q : LiveSend). Send (record { 0 = q.sent.number }) false)) only)) step

pub sends_lost : SendsLost
unfolding lose_send
sends_lost e v number live s o found few none =
    let step = over_send e v number live true s o found few none in
    let named : live.sent.number ≡ number = number_is live.sent.number number (find_member (is_send number) live v.sends found).1 in
    subst (λ q. Shows (without_send number true e) (lose_send q v)) (sym found)
    (subst (λ n. Shows (without_send number true e) (record (one_send_fewer n v) { completions = v.completions ++ Send (record { 0 = n }) true ∷ [] })) (sym named) step)

-- ---- asks and answers

-- the bytes of a live send once it is changed
bytes_there : (v : Kept) (number : ℕ) (g : LiveSend → LiveSend) (live : LiveSend) → send_numbered v number ≡ Some live → live.sent.number ≡ number → ((s : LiveSend) → (g s).sent ≡ s.sent)
    → bytes_of (change_where (is_send number) g v.sends) live.sent.number ≡ live.sent.message.bytes
unfolding bytes_of_found
bytes_there v number g live found named same =
    ap (λ b. b live.sent.number) (same_bytes (is_send number) g v.sends same) ∙ ap bytes_of_found (ap (λ n. find (is_send n) v.sends) named ∙ found)

pub asks_come : AsksCome
unfolding after_ask
asks_come e v from ask x owed s o live takes becomes =
    let number = ask.send_id.0 in
    let l = shown_send e v number x s live in
    let step = changed_send e v number _ (with_ask ask) l.live s o l.found (λ q. refl) (asks_as_kept x l.live ask l.shows takes) in
    let b = bytes_of (change_where (is_send number) (with_ask ask) v.sends) in
    let given : replies_for v.own b from (Given ask) ≡ given_of from ask (option_map (λ (q : LiveSend). q.sent) (send_numbered v number)) =
    givens_give v.own b from ask l.live.sent l.number_is (bytes_there v number (with_ask ask) l.live l.found l.number_is (λ q. refl))
    ∙ sym (ap (λ q. given_of from ask (option_map (λ (z : LiveSend). z.sent) q)) l.found) in
    record {
      own = step.own;
      regions = step.regions;
      leases = step.leases;
      holds = step.holds;
      lives = step.lives;
      peers = step.peers;
      first = step.first;
      posted = step.posted;
      arrived = step.arrived;
      early = step.early;
      sends = step.sends;
      sends_made = step.sends_made;
      receives = step.receives;
      each_receive = step.each_receive;
      receives_made = step.receives_made;
      owed = becomes v.own b ∙ (λ i. step.owed i ++ given i);
      completed = step.completed;
      reserved = step.reserved;
      polled = step.polled;
    }

pub answers_go : AnswersGo
unfolding push_first gives_of
answers_go e v number r x owed s o gives live owes becomes =
    let l = shown_send e v number x s live in
    let step = changed_send e v number _ with_answer l.live s o l.found (λ q. refl) (answers_as_kept x l.live l.shows owes).1 in
    subst (λ o'. Shows (owing owed (with_send number (with_asks with_answer_of x) e)) (record v { owed = drop 1 v.owed; sends = change_where (gives_of o') with_answer v.sends })) (sym gives)
    (record {
      own = step.own;
      regions = step.regions;
      leases = step.leases;
      holds = step.holds;
      lives = step.lives;
      peers = step.peers;
      first = step.first;
      posted = step.posted;
      arrived = step.arrived;
      early = step.early;
      sends = step.sends;
      sends_made = step.sends_made;
      receives = step.receives;
      each_receive = step.each_receive;
      receives_made = step.receives_made;
      owed = becomes v.own (bytes_of (change_where (is_send number) with_answer v.sends)) ∙ ap (drop 1) step.owed;
      completed = step.completed;
      reserved = step.reserved;
      polled = step.polled;
    })
