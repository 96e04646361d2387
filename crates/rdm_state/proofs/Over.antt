-- A receive that is over.
use Rattle.std.proofs.Common.{◌≡◌, ℕ, zero, suc, ◌+◌, ◌-◌, ◌<◌, true, false, not, List, [], ◌∷◌, ◌++◌, length, filter, find, map, get_or, Option, Some, None, refl, sym, ap, ◌∙◌, subst, inl, inr, arith}
use Rattle.std.specs.Prelude.{◌==◌, replicate, min, IfSome}
use Rattle.std.proofs.lemmas.List.{length-replicate}
use Rattle.rdm_lists.specs.Lists.{below, without_first}
use Rattle.rdm_lists.proofs.Members.{find_member, member-filter}
use Rattle.rdm_num.specs.declared.completion.Completion.TheVariants.{Recv}
use Rattle.rdm_num.specs.declared.completion.Outcome.{Outcome}
use Rattle.rdm_num.specs.declared.completion.Outcome.TheVariants.{Took, Cancelled, Gone}
use Rattle.rdm_num.specs.declared.request.RecvReq.{RecvReq}
use Rattle.rdm_mr.specs.Part.{Piece}
use Rattle.rdm_match.specs.Matcher.{is_recv, after}
use Rattle.rdm_match.specs.Waiting.{waiting_after, waiting_in, with_pairs}
use Rattle.rdm_regions.specs.Survival.{IsSound}
use Rattle.rdm_life.specs.Kept.{Kept, LiveReceive, Matched, is_receive, receive_numbered}
use Rattle.rdm_life.specs.Forgetting.{zeroed}
use Rattle.rdm_life.specs.Landing.{is_full, completion_of, has_all}
use Rattle.rdm_life.specs.Memory.{with_back}
use Rattle.rdm_life.specs.Receiving.{after_cancel}
use Rattle.rdm_receives.specs.View.{ReceiveView, IsReceive}
use Rattle.rdm_receives.specs.Shows as Receive
use Rattle.rdm_receives.specs.Answers.{AreZeros, excess}
use Rattle.rdm_rx.specs.Receiving.{ReceivingView}
use Rattle.rdm_receives.proofs.Fullness.{full_shows}
use Rattle.rdm_receives.proofs.Backs.{part_shows, bytes_show, excess_shows}
use Rattle.rdm_shown.specs.Tables.{AreLike, IsLike}
use Rattle.rdm_regions.specs.Registry.{after_lease_back}
use Rattle.rdm_shown.specs.Grounds.{IsGround, ShowsRegions, ShowsLeases}
use Rattle.rdm_shown.specs.GroundLaws.{back_home}
use Rattle.rdm_shown.proofs.Leases.{back_shows}
use Rattle.rdm_shown.proofs.Tables.{like_find, like_left}
use Rattle.rdm_sound.specs.Premises.{IsOrderly}
use Rattle.rdm_sound.specs.Forgets.{lose_receive}
use Rattle.rdm_state.specs.State.{State}
use Rattle.rdm_state.specs.Shows.{Shows}
use Rattle.rdm_state.specs.Steps.{without_receive, has_number}
use Rattle.rdm_state.specs.Laws.{Cancels, Loses, Ends}
use Rattle.rdm_state.proofs.Among.{filter_one, one_fewer}

number_is : (a b : ℕ) → (a == b) ≡ true → a ≡ b
number_is a b h = grind (arith, h)

-- zeros everywhere
get_zero : (n k : ℕ) → get_or (replicate {A = ℕ} n 0) k 0 ≡ 0
get_zero zero k = refl
get_zero (suc n) zero = refl
get_zero (suc n) (suc k) = get_zero n k

-- the live receive that a receive of a number shows
pub record Shown (v : Kept) (number : ℕ) (r : ReceiveView) : Type 0 where
  pub live : LiveReceive
  pub found : receive_numbered v number ≡ Some live
  pub shows : Receive.Shows r live
  pub number_is : live.receive.number ≡ number

shown_by : (number : ℕ) (r : ReceiveView) (v : Kept) (o : Option LiveReceive) → receive_numbered v number ≡ o → IsLike Receive.Shows (Some r) o → Shown v number r
shown_by number r v None is like = absurd like
shown_by number r v (Some l) is like = record { live = l; found = is; shows = like; number_is = number_is l.receive.number number (find_member (is_receive number) l v.receives is).1 }

pub shown : (e : State) (v : Kept) (number : ℕ) (r : ReceiveView) → Shows e v → find (has_number number) e.receives.list ≡ Some r → Shown v number r
shown e v number r s live =
    shown_by number r v (receive_numbered v number) refl
    (subst (λ o. IsLike Receive.Shows o (receive_numbered v number)) live
    (like_find (λ (q : ReceiveView). q.number.0) (λ (l : LiveReceive). l.receive.number) Receive.Shows e.receives.list v.receives number (λ x y is. is.number) s.receives))

-- one that is over: its part is back with the bytes of a receive of its number, and it completes
over : (e : State) (v : Kept) (number : ℕ) (r : ReceiveView) (live back : LiveReceive) (piece : Piece) (outcome : Outcome)
    → Shows e v → IsSound e.regions → IsOrderly v
    → receive_numbered v number ≡ Some live → live.receive ≡ back.receive → back.receive.number ≡ number
    → (length piece.bytes ≡ back.receive.req.len) → ((k : ℕ) → k < back.receive.req.len → back.part k ≡ get_or piece.bytes k 0)
    → Shows (without_receive number piece outcome e) (record (back_home back v) { completions = v.completions ++ Recv (record { 0 = number }) outcome ∷ [] })
over e v number r live back piece outcome s sound o found same named long bytes =
    let there : receive_numbered v back.receive.number ≡ Some live = ap (receive_numbered v) named ∙ found in
    let ground = subst (λ n. IsGround (after_lease_back e.regions n piece) (back_home back v)) named
    (back_shows e.regions v live back piece sound (record { regions = s.regions; leases = s.leases; holds = s.holds }) there same long bytes) in
    let fewer = one_fewer (λ (l : LiveReceive). l.receive.number) back.receive.number v.receives live o.once there in
    record {
      own = s.own;
      regions = ground.regions;
      leases = ground.leases;
      holds = ground.holds;
      lives = s.lives;
      peers = s.peers;
      first = s.first;
      posted = s.posted;
      arrived = s.arrived;
      early = s.early;
      sends = s.sends;
      sends_made = s.sends_made;
      receives = like_left (λ (q : ReceiveView). not (has_number number q)) (λ (l : LiveReceive). not (is_receive back.receive.number l)) Receive.Shows e.receives.list v.receives
          (λ x y m is. ap not (ap (λ n. n == number) is.number ∙ ap (λ n. y.receive.number == n) (sym named))) s.receives;
      each_receive = λ q m. s.each_receive q (member-filter (λ (x : ReceiveView). not (has_number number x)) q e.receives.list m).0;
      receives_made = s.receives_made;
      owed = s.owed;
      completed = ap (λ cs. cs ++ Recv (record { 0 = number }) outcome ∷ []) s.completed;
      reserved = (let was = s.reserved in omega (arith, was, fewer));
      polled = s.polled;
    }

-- one that is lost
pub loses : Loses
unfolding lose_receive
loses e v number r piece s sound o live zeros =
    let l = shown e v number r s live in
    let is = s.each_receive r (find_member (has_number number) r e.receives.list live).0 in
    let z = zeros_are r l.live piece is l.shows zeros in
    let step = over e v number r l.live (zeroed l.live) piece Gone s sound o l.found refl l.number_is z.0 z.1 in
    subst (λ x. Shows (without_receive number piece Gone e) (lose_receive x v)) (sym l.found)
    (subst (λ n. Shows (without_receive number piece Gone e) (record (back_home (zeroed l.live) v) { completions = v.completions ++ Recv (record { 0 = n }) Gone ∷ [] })) (sym l.number_is) step)
  where
    zeros_are : (r : ReceiveView) (l : LiveReceive) (p : Piece) → IsReceive r → Receive.Shows r l → AreZeros r.landed.tiles p → (length p.bytes ≡ l.receive.req.len) × ((k : ℕ) → k < l.receive.req.len → 0 ≡ get_or p.bytes k 0)
    zeros_are r l p is shows zeros =
        let long : length p.bytes ≡ l.receive.req.len = ap length zeros.bytes ∙ length-replicate _ 0 ∙ is.places ∙ ap (λ (q : RecvReq). q.len) shows.req in
        (long, λ k lt. sym (ap (λ bytes. get_or bytes k 0) zeros.bytes ∙ get_zero (length r.landed.tiles.cells) k))

-- one that waits is taken back
pub cancels : Cancels
unfolding after_cancel waiting_after waiting_in with_pairs after
cancels e v number r piece s sound o live none all =
    let l = shown e v number r s live in
    let is = s.each_receive r (find_member (has_number number) r e.receives.list live).0 in
    let p = part_shows r l.live piece is l.shows (inl none) all in
    let long = p.0 in
    let step = over e v number r l.live l.live piece Cancelled s sound o l.found refl l.number_is p.0 (λ k lt. p.1 k (omega (arith, long, lt))) in
    let only : filter (is_receive number) v.receives ≡ l.live ∷ [] = filter_one (λ (q : LiveReceive). q.receive.number) number v.receives l.live o.once l.found in
    let one : Recv (record { 0 = l.live.receive.number }) Cancelled ≡ Recv (record { 0 = number }) Cancelled = ap (λ (n : ℕ). Recv (record { 0 = n }) Cancelled) l.number_is in
    record {
      own = step.own;
      regions = subst (λ back. ShowsRegions (after_lease_back e.regions number piece) v.region_count v.region_size (with_back back v.home)) (sym only) step.regions;
      leases = subst (λ n. ShowsLeases (after_lease_back e.regions number piece) (filter (λ (q : LiveReceive). not (is_receive n q)) v.receives)) l.number_is step.leases;
      holds = step.holds;
      lives = step.lives;
      peers = step.peers;
      first = step.first;
      posted = ap (without_first (is_recv number)) s.posted;
      arrived = s.arrived;
      early = step.early;
      sends = step.sends;
      sends_made = step.sends_made;
      receives = subst (λ n. AreLike Receive.Shows (filter (λ (q : ReceiveView). not (has_number number q)) e.receives.list) (filter (λ (q : LiveReceive). not (is_receive n q)) v.receives)) l.number_is step.receives;
      each_receive = step.each_receive;
      receives_made = step.receives_made;
      owed = step.owed;
      completed = step.completed ∙ ap (λ cs. v.completions ++ cs) (ap (λ c. c ∷ []) (sym one) ∙ sym (ap (map (λ (q : LiveReceive). Recv (record { 0 = q.receive.number }) Cancelled)) only));
      reserved = step.reserved ∙ ap (λ n. length v.sends + length (filter (λ (q : LiveReceive). not (is_receive n q)) v.receives)) l.number_is;
      polled = step.polled;
    }

-- the message of a receive that has one
pub with_one : (r : ReceiveView) (l : LiveReceive) (o : Option Matched) → l.matched ≡ o → is_full l.matched ≡ true → (m : Matched) × (l.matched ≡ Some m) × (has_all m ≡ true)
unfolding is_full
with_one r l None is full = absurd (clash (sym (ap is_full is) ∙ full))
  where
    clash : false ≡ true → ⊥
    clash e = cc
with_one r l (Some m) is full = (m, is, sym (ap is_full is) ∙ full)

-- what it completes with
outcome_is : (r : ReceiveView) (l : LiveReceive) (m : Matched) (bytes : List ℕ) (outcome : Outcome) (o : Option ReceivingView)
    → Receive.ShowMatch r.landed o (Some m) → IfSome o (λ x. outcome ≡ Took x.source x.head.tag x.head.cq_data bytes (excess r))
    → bytes ≡ map l.part (below (min l.receive.req.len m.head.length)) → excess r ≡ m.head.length - l.receive.req.len
    → outcome ≡ Took m.source m.head.tag m.head.cq_data (map l.part (below (min l.receive.req.len m.head.length))) (m.head.length - l.receive.req.len)
outcome_is r l m bytes outcome None shows is same more = absurd shows
outcome_is r l m bytes outcome (Some x) shows is same more = is ∙ (λ i. Took (shows.source i) (shows.head i).tag (shows.head i).cq_data (same i) (more i))

pub completes : (l : LiveReceive) (m : Matched) → has_all m ≡ true
    → completion_of l (Some m) ≡ Recv (record { 0 = l.receive.number }) (Took m.source m.head.tag m.head.cq_data (map l.part (below (min l.receive.req.len m.head.length))) (m.head.length - l.receive.req.len)) ∷ []
unfolding completion_of
completes l m all = rw all refl

some_same : {A : Type 0} (a b : A) → Some a ≡ Some b → a ≡ b
some_same a b h = cc

-- one that is full
pub ends : Ends
ends e v number r l piece bytes outcome s sound o live found full all with_bytes =
    let q = shown e v number r s live in
    let shows = subst (Receive.Shows r) (some_same q.live l (sym q.found ∙ found)) q.shows in
    let named : l.receive.number ≡ number = ap (λ (x : LiveReceive). x.receive.number) (sym (some_same q.live l (sym q.found ∙ found))) ∙ q.number_is in
    let is = s.each_receive r (find_member (has_number number) r e.receives.list live).0 in
    let m = with_one r l l.matched refl full in
    let p = part_shows r l piece is shows (inr (full_shows r l shows ∙ full)) all in
    let long = p.0 in
    let step = over e v number r l l piece outcome s sound o found refl named p.0 (λ k lt. p.1 k (omega (arith, long, lt))) in
    let same = bytes_show r l m.0 bytes is shows m.1 m.2 with_bytes.0 with_bytes.1 in
    let what = outcome_is r l m.0 bytes outcome r.message (subst (λ x. Receive.ShowMatch r.landed r.message x) m.1 shows.matched) with_bytes.2 same (excess_shows r l m.0 is shows m.1) in
    let done : Recv (record { 0 = number }) outcome ∷ [] ≡ completion_of l l.matched =
    (let back = sym named in λ i. Recv (record { 0 = back i }) (what i) ∷ []) ∙ sym (ap (completion_of l) m.1 ∙ completes l m.0 m.2) in
    record {
      own = step.own;
      regions = step.regions;
      leases = step.leases;
      holds = step.holds;
      lives = step.lives;
      peers = step.peers;
      first = step.first;
      posted = step.posted;
      arrived = step.arrived;
      early = step.early;
      sends = step.sends;
      sends_made = step.sends_made;
      receives = step.receives;
      each_receive = step.each_receive;
      receives_made = step.receives_made;
      owed = step.owed;
      completed = step.completed ∙ ap (λ cs. v.completions ++ cs) done;
      reserved = step.reserved;
      polled = step.polled;
    }
