-- Messages that come to the matcher, are taken, and make something owed.
use Rattle.std.proofs.Common.{◌≡◌, ℕ, ◌+◌, ◌-◌, Bool, true, false, cond, List, [], ◌∷◌, ◌++◌, length, Option, Some, None, refl, sym, ap, ◌∙◌, subst, arith}
use Rattle.std.specs.Prelude.{◌==◌, ◌&&◌, ◌||◌, slice_get, IsSome}
use Rattle.std.proofs.lemmas.Option.{unwrap_or-slice_get}
use Rattle.rdm_lists.specs.Lists.{without_first}
use Rattle.rdm_lists.proofs.Members.{find_member}
use Rattle.rdm_num.specs.Lives.{same_life}
use Rattle.rdm_match.specs.declared.PostedRecv.{PostedRecv}
use Rattle.rdm_match.specs.declared.Arrived.{Arrived}
use Rattle.rdm_match.specs.Matcher.{Pair, accepts, after, after_post, after_arrive}
use Rattle.rdm_match.specs.Kept as Matcher
use Rattle.rdm_match.specs.Waiting.{waiting_after, waiting_in, with_pairs, taken_by, taker_of}
use Rattle.rdm_model.specs.Completions.{is_matched}
use Rattle.rdm_window.specs.Message.{Message}
use Rattle.rdm_window.specs.Early.{Held, message_at, without_message}
use Rattle.rdm_held.specs.Held.{IsEarly, AreEarly, IsHeldIn}
use Rattle.rdm_held.proofs.Leaving.{meets as held_meets}
use Rattle.rdm_life.specs.Kept.{Kept, EarlyMessage, is_receive, change_where}
use Rattle.rdm_life.specs.Landing.{with_message, meet, settle, replies_by, replies_of}
use Rattle.rdm_receives.specs.Shows as Receive
use Rattle.rdm_receives.proofs.Showing.{message_shows}
use Rattle.rdm_answers.proofs.Received.{dues_are_owed}
use Rattle.rdm_sound.specs.Steps.{post_found, arrive_found, without_early}
use Rattle.rdm_shown.specs.Grounds.{ShowsLeases}
use Rattle.rdm_shown.specs.Tables.{AreLike}
use Rattle.rdm_state.specs.Shows.{Shows, bytes_of}
use Rattle.rdm_state.specs.State.{State}
use Rattle.rdm_state.specs.MessageLaws.{Posts, Takes, Arrives, IsTaken, Meets, Owes, taken}
use Rattle.rdm_state.proofs.Changed.{changed}

-- ---- the matcher

-- other receives and messages wait
waits : (e : State) (v : Kept) (m : Matcher.Kept) (ps : List PostedRecv) (as' : List Arrived) → Shows e v → m.waiting.posted ≡ ps → m.waiting.arrived ≡ as'
    → Shows (record e { matcher = m }) (record v { posted = ps; arrived = as' })
waits e v m ps as' s posted arrived =
    record {
      own = s.own;
      regions = s.regions;
      leases = s.leases;
      holds = s.holds;
      lives = s.lives;
      peers = s.peers;
      first = s.first;
      posted = posted;
      arrived = arrived;
      early = s.early;
      sends = s.sends;
      sends_made = s.sends_made;
      receives = s.receives;
      each_receive = s.each_receive;
      receives_made = s.receives_made;
      owed = s.owed;
      completed = s.completed;
      reserved = s.reserved;
      polled = s.polled;
    }

pub posts : Posts
unfolding waiting_after waiting_in with_pairs after after_post taken_by post_found
posts e v p s none =
    let m = with_pairs e.matcher.waiting [] in
    waits e v _ (v.posted ++ p ∷ []) v.arrived s (ap (λ o. (after_post m p o).posted) none ∙ ap (λ ps. ps ++ p ∷ []) s.posted) (ap (λ o. (after_post m p o).arrived) none ∙ s.arrived)

pub takes : Takes
unfolding waiting_after waiting_in with_pairs after after_post taken_by
takes e v p a s some =
    let m = with_pairs e.matcher.waiting [] in
    waits e v _ v.posted (without_first (accepts p) v.arrived) s (ap (λ o. (after_post m p o).posted) some ∙ s.posted) (ap (λ o. (after_post m p o).arrived) some ∙ ap (without_first (accepts p)) s.arrived)

pub arrives : Arrives
unfolding waiting_after waiting_in with_pairs after after_arrive taker_of arrive_found
arrives e v a s none =
    let m = with_pairs e.matcher.waiting [] in
    waits e v _ v.posted (v.arrived ++ a ∷ []) s (ap (λ o. (after_arrive m a o).posted) none ∙ s.posted) (ap (λ o. (after_arrive m a o).arrived) none ∙ ap (λ xs. xs ++ a ∷ []) s.arrived)

pub is_taken : IsTaken
unfolding waiting_after waiting_in with_pairs after after_arrive taker_of
is_taken e v a p s some =
    let m = with_pairs e.matcher.waiting [] in
    waits e v _ (without_first (λ q. accepts q a) v.posted) v.arrived s (ap (λ o. (after_arrive m a o).posted) some ∙ ap (without_first (λ q. accepts q a)) s.posted) (ap (λ o. (after_arrive m a o).arrived) some ∙ s.arrived)

-- ---- a message that is taken

-- one message fewer is early
left : (h : Held) (v : Kept) (p : Pair) → IsHeldIn h v → IsSome (message_at h p.message.life p.message.no)
    → IsHeldIn (without_message h p.message.life p.message.no) (without_early p.message.life p.message.no.0 v)
unfolding meet settle is_matched
left h v p held there =
    let m = held_meets h v p held there in
    record {
      messages = λ life n. subst (λ c. AreEarly (message_at (without_message h p.message.life p.message.no) life n) (cond c None (v.early life n.0))) (or_nothing (same_life p.message.life life && p.message.no.0 == n.0)) (m.messages life n);
      of_lives = λ life. less (same_life p.message.life life) (v.early_of life) ∙ m.of_lives life;
      count = m.count;
    }
  where
    or_nothing : (b : Bool) → (b || false) ≡ b
    or_nothing true = refl
    or_nothing false = refl

    less : (b : Bool) (n : ℕ) → cond b (n - 1) n ≡ n - length (cond b (p ∷ []) [])
    less true n = omega arith
    less false n = omega arith

is_there : {A : Type 0} (a : A) → IsSome (Some a)
is_there a = refl

-- the record's message of one that is held
record Both (h : Held) (v : Kept) (p : Pair) (m : Message) : Type 0 where
  early : EarlyMessage
  is : v.early p.message.life p.message.no.0 ≡ Some early
  same : IsEarly m early

both_by : (h : Held) (v : Kept) (p : Pair) (m : Message) (o : Option EarlyMessage) → v.early p.message.life p.message.no.0 ≡ o → AreEarly (Some m) o → Both h v p m
both_by h v p m None is are = absurd are
both_by h v p m (Some e) is are = record { early = e; is = is; same = are }

pub meets : Meets
unfolding with_message
meets e v p r m s o live none there new =
    let held = both_by e.early v p m _ refl (subst (λ q. AreEarly q (v.early p.message.life p.message.no.0)) there (s.early.messages p.message.life p.message.no)) in
    let is = s.each_receive r (find_member _ r e.receives.list live).0 in
    let early : Receive.IsEarly m.head m.gaps.places m.bytes m.first_part held.early =
    record { head_is = sym held.same.head; came = λ k. held.same.came k ∙ ap (λ b. cond b None (slice_get m.bytes k)) (unwrap_or-slice_get m.gaps.places k true); first_is = sym held.same.first_part } in
    let step = changed e v p.recv.id.0 _ (with_message p (Some held.early)) r s o live new (λ l. refl) (λ l shows. message_shows r l p m.head m.gaps m.bytes m.first_part held.early is none shows held.same.whole early) in
    let fewer = left e.early v p s.early (subst IsSome (sym there) (is_there m)) in
    record {
      own = step.own;
      regions = step.regions;
      leases = subst (λ q. ShowsLeases e.regions (change_where (is_receive p.recv.id.0) (with_message p q) v.receives)) (sym held.is) step.leases;
      holds = step.holds;
      lives = step.lives;
      peers = step.peers;
      first = step.first;
      posted = step.posted;
      arrived = step.arrived;
      early = fewer;
      sends = step.sends;
      sends_made = step.sends_made;
      receives = subst (λ q. AreLike Receive.Shows (taken p.recv.id.0 p m e).receives.list (change_where (is_receive p.recv.id.0) (with_message p q) v.receives)) (sym held.is) step.receives;
      each_receive = step.each_receive;
      receives_made = step.receives_made;
      owed = step.owed;
      completed = step.completed;
      reserved = step.reserved ∙ ap (λ q. length v.sends + length (change_where (is_receive p.recv.id.0) (with_message p q) v.receives)) (sym held.is);
      polled = step.polled;
    }

-- ---- what is owed

pub owes : Owes
unfolding replies_by
owes e v is_new number l m dues owed s found matched are becomes =
    let named : l.receive.number ≡ number = number_is l.receive.number number (find_member (is_receive number) l v.receives found).1 in
    record {
      own = s.own;
      regions = s.regions;
      leases = s.leases;
      holds = s.holds;
      lives = s.lives;
      peers = s.peers;
      first = s.first;
      posted = s.posted;
      arrived = s.arrived;
      early = s.early;
      sends = s.sends;
      sends_made = s.sends_made;
      receives = s.receives;
      each_receive = s.each_receive;
      receives_made = s.receives_made;
      owed = becomes v.own (bytes_of v.sends)
          ∙ (let more = dues_are_owed v.own (bytes_of v.sends) is_new (record { 0 = number }) m dues are
          ∙ (λ i. replies_of v.own is_new (record { 0 = sym named i }) (sym matched i)) in λ i. s.owed i ++ more i);
      completed = s.completed;
      reserved = s.reserved;
      polled = s.polled;
    }
  where
    number_is : (a b : ℕ) → (a == b) ≡ true → a ≡ b
    number_is a b h = grind (arith, h)
