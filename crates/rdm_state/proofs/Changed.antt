-- A receive that is changed.
use Rattle.std.proofs.Common.{◌≡◌, ℕ, true, false, cond, List, [], ◌∷◌, find, map, Some, refl, sym, ap, ◌∙◌, subst, inl, inr, arith}
use Rattle.std.specs.Prelude.{◌==◌}
use Rattle.rdm_lists.specs.Lists.{Member}
use Rattle.rdm_lists.proofs.Members.{find_member, member-map}
use Rattle.rdm_life.specs.Kept.{Kept, LiveReceive, is_receive, change_where}
use Rattle.rdm_life.specs.Landing.{with_piece, with_window}
use Rattle.rdm_receives.specs.View.{ReceiveView, IsReceive, filled}
use Rattle.rdm_receives.specs.Shows as Receive
use Rattle.rdm_receives.specs.Answers.{after_grant}
use Rattle.rdm_receives.proofs.Fullness.{grant_shows}
use Rattle.rdm_receives.proofs.Showing.{fill_shows}
use Rattle.rdm_shown.specs.Tables.{AreLike}
use Rattle.rdm_shown.proofs.Grounds.{names_count}
use Rattle.rdm_sound.specs.Premises.{IsOrderly, AreOnce, receive_numbers}
use Rattle.rdm_state.specs.State.{State}
use Rattle.rdm_state.specs.Shows.{Shows}
use Rattle.rdm_state.specs.Steps.{with_receive, has_number}
use Rattle.rdm_state.specs.Laws.{Grants, Fills}
use Rattle.rdm_state.proofs.Among.{found_only, as_many}

-- the numbers of live receives on both sides
pub same_numbers : (xs : List ReceiveView) (ys : List LiveReceive) → AreLike Receive.Shows xs ys → map (λ (r : ReceiveView). r.number.0) xs ≡ receive_numbers ys
same_numbers [] [] like = refl
same_numbers [] (y ∷ ys) like = absurd like
same_numbers (x ∷ xs) [] like = absurd like
same_numbers (x ∷ xs) (y ∷ ys) like = λ i. like.0.number i ∷ same_numbers xs ys like.1 i

number_is : (a b : ℕ) → (a == b) ≡ true → a ≡ b
number_is a b h = grind (arith, h)

-- each receive stays one where the one of a number is changed so that it does
pub each_stays : (e : State) (number : ℕ) (change : ReceiveView → ReceiveView) (r : ReceiveView)
    → ((q : ReceiveView) → Member q e.receives.list → IsReceive q) → AreOnce (map (λ (q : ReceiveView). q.number.0) e.receives.list) → find (has_number number) e.receives.list ≡ Some r → IsReceive (change r)
    → (q : ReceiveView) → Member q (change_where (has_number number) change e.receives.list) → IsReceive q
unfolding change_where
each_stays e number change r each once found new q m =
    let from = member-map (λ (x : ReceiveView). cond (has_number number x) (change x) x) q e.receives.list m in
    subst IsReceive from.2 (by from.0 from.1)
  where
    by : (x : ReceiveView) → Member x e.receives.list → IsReceive (cond (has_number number x) (change x) x)
    by x k =
        elim (has_number number x) as (λ b. has_number number x ≡ b → IsReceive (cond b (change x) x)) [
          | true ↦ λ is. (let same = found_only (λ (q : ReceiveView). q.number.0) number e.receives.list r x once found k (number_is x.number.0 number is) in subst (λ (y : ReceiveView). IsReceive (change y)) (sym same) new)
          | false ↦ λ is. each x k
        ] refl

-- those that are alike stay alike where the one of a number is changed on both sides
both : (number : ℕ) (f : ReceiveView → ReceiveView) (g : LiveReceive → LiveReceive) (r : ReceiveView) (xs : List ReceiveView) (ys : List LiveReceive)
    → ((l : LiveReceive) → Receive.Shows r l → Receive.Shows (f r) (g l)) → ((x : ReceiveView) → Member x xs → x.number.0 ≡ number → x ≡ r)
    → AreLike Receive.Shows xs ys → AreLike Receive.Shows (change_where (has_number number) f xs) (change_where (is_receive number) g ys)
unfolding change_where
both number f g r [] [] shows only like = tt
both number f g r [] (y ∷ ys) shows only like = absurd like
both number f g r (x ∷ xs) [] shows only like = absurd like
both number f g r (x ∷ xs) (y ∷ ys) shows only like = (
  elim (x.number.0 == number) as (λ b. (x.number.0 == number) ≡ b → Receive.Shows (cond (has_number number x) (f x) x) (cond (is_receive number y) (g y) y)) [
    | true ↦ λ is.
        let same = only x (inl refl) (number_is x.number.0 number is) in
        let there : is_receive number y ≡ true = ap (λ n. n == number) (sym like.0.number) ∙ is in
        rw is (rw there (rw same (shows y (subst (λ (q : ReceiveView). Receive.Shows q y) same like.0))))
    | false ↦ λ is.
        let aside : is_receive number y ≡ false = ap (λ n. n == number) (sym like.0.number) ∙ is in
        rw is (rw aside like.0)
  ] refl,
  both number f g r xs ys shows (λ z m is. only z (inr m) is) like.1,
)

-- a receive that is changed alike on both sides
pub changed : (e : State) (v : Kept) (number : ℕ) (f : ReceiveView → ReceiveView) (g : LiveReceive → LiveReceive) (r : ReceiveView)
    → Shows e v → IsOrderly v → find (has_number number) e.receives.list ≡ Some r → IsReceive (f r)
    → ((l : LiveReceive) → (g l).receive ≡ l.receive) → ((l : LiveReceive) → Receive.Shows r l → Receive.Shows (f r) (g l))
    → Shows (with_receive number f e) (record v { receives = change_where (is_receive number) g v.receives })
unfolding change_where
changed e v number f g r s o found new named shows =
    let once = subst AreOnce (sym (same_numbers e.receives.list v.receives s.receives)) o.once in
    let ground = (names_count e.regions v (record { regions = s.regions; leases = s.leases; holds = s.holds })).0 (is_receive number) g named in
    let count = as_many (is_receive number) g v.receives in
    record {
      own = s.own;
      regions = s.regions;
      leases = ground.leases;
      holds = s.holds;
      lives = s.lives;
      peers = s.peers;
      first = s.first;
      posted = s.posted;
      arrived = s.arrived;
      early = s.early;
      sends = s.sends;
      sends_made = s.sends_made;
      receives = both number f g r e.receives.list v.receives shows (λ x m is. found_only (λ (q : ReceiveView). q.number.0) number e.receives.list r x once found m is) s.receives;
      each_receive = each_stays e number f r s.each_receive once found new;
      receives_made = s.receives_made;
      owed = s.owed;
      completed = s.completed;
      reserved = (let was = s.reserved in omega (arith, was, count));
      polled = s.polled;
    }

-- a window
pub grants : Grants
unfolding with_window
grants e v number r l s o live found new =
    let same : number ≡ l.receive.number = sym (number_is l.receive.number number (find_member (is_receive number) l v.receives live).1) in
    subst (λ n. Shows (with_receive number (after_grant e.own.limits) e) (record v { receives = change_where (is_receive n) (with_window v.own) v.receives })) same
    (changed e v number (after_grant e.own.limits) (with_window v.own) r s o found new (λ q. refl) (λ q shows. subst (λ own. Receive.Shows (after_grant own.limits r) (with_window v.own q)) (sym s.own) (grant_shows r q v.own shows)))

-- bytes
pub fills : Fills
fills e v number r at bytes s o live missing new =
    changed e v number (λ q. filled q at bytes) (with_piece (record { offset = at; bytes = bytes })) r s o live new (λ q. refl) (λ q shows. fill_shows r q at bytes (s.each_receive r (find_member (has_number number) r e.receives.list live).0) shows missing)
