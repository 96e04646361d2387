-- What has come, and what that makes owed.
use Rattle.std.proofs.Common.{◌≡◌, ℕ, ◌+◌, ◌<◌, ◌≤◌, Bool, true, false, not, ◌&&◌, ◌++◌, leb, List, [], length, map, Option, Some, None, refl, sym, ap, subst, ◌∙◌, arith, if◌then◌else◌}
use Rattle.std.specs.Prelude.{nat_lt, option_map}
use Rattle.std.proofs.lemmas.Bool.{lt-ltb, le-ltb, le-leb, true≢false}
use Rattle.rdm_lists.specs.Lists.{each_below}
use Rattle.rdm_lists.proofs.Below.{each_below_at, each_below_same, each_below_from}
use Rattle.rdm_num.specs.declared.limits.EpLimits.{EpLimits}
use Rattle.rdm_num.specs.declared.head.Head.{Head}
use Rattle.rdm_num.specs.declared.numbers.MsgNo.{MsgNo}
use Rattle.rdm_num.specs.declared.numbers.OpId.{OpId}
use Rattle.rdm_model.specs.Beginnings.{Own}
use Rattle.rdm_model.specs.Deeds.{Item, Asks}
use Rattle.rdm_model.specs.Grants.{window_of}
use Rattle.rdm_model.specs.Replies.{asks_for, grant_for, end_for}
use Rattle.rdm_mr.proofs.Overlays.{by_lt}
use Rattle.rdm_land.specs.Landed.{Landed}
use Rattle.rdm_land.specs.Arrivals.{waits, has_come, IsFront}
use Rattle.rdm_land.proofs.Order.{lt-leb}
use Rattle.rdm_rx.specs.Receiving.{ReceivingView, window_if}
use Rattle.rdm_life.specs.Kept.{LiveReceive, Matched}
use Rattle.rdm_life.specs.Landing.{with_window, next_window, items_of, has_all, is_full as all_came}
use Rattle.rdm_receives.specs.View.{ReceiveView, IsOfMessage}
use Rattle.rdm_receives.specs.Shows.{Shows, ShowMatch, ShowsMessage}
use Rattle.rdm_receives.specs.Answers.{is_full, has_landed, granted, asks_owed, grant_owed, end_owed}
use Rattle.rdm_receives.specs.Laws.{FullShows, LandedShows, GrantShows, OwesShow}

-- a place below the front has come
comes : (l : Landed) (n k : ℕ) → IsFront l n → k < n → has_come l k ≡ true
comes l n k f lt = ap (λ b. b && not (waits l k)) (lt-ltb k (length l.missing) (omega (arith, f.within))) ∙ ap (λ b. not b) (f.before k lt)

-- the front has not
stays_out : (l : Landed) (n : ℕ) → IsFront l n → has_come l n ≡ false
stays_out l n f =
    by_lt n (length l.missing)
    (λ lt. ap (λ b. b && not (waits l n)) (lt-ltb n (length l.missing) lt) ∙ ap (λ b. not b) (f.here lt))
    (λ le. ap (λ b. b && not (waits l n)) (le-ltb n (length l.missing) le))

-- all places below one have come where it is no later than the front
pub front_each : (l : Landed) (n : ℕ) → IsFront l n → (m : ℕ) → leb m n ≡ each_below (has_come l) m
front_each l n f m =
    by_lt n m
    (λ lt. lt-leb m n lt ∙ sym (elim (each_below (has_come l) m) as (λ b. each_below (has_come l) m ≡ b → b ≡ false) [
      | true ↦ λ e. absurd (true≢false (sym (each_below_at (has_come l) m n e lt) ∙ stays_out l n f))
      | false ↦ λ e. refl
    ] refl))
    (λ le. le-leb m n le ∙ sym (each_below_from (has_come l) m (λ k lt. comes l n k f (omega arith))))

-- the record's places that came
module _ (l : Landed) (r : ReceivingView) (m : Matched) (s : ShowsMessage l r m) where
  pub came_below : (n : ℕ) → each_below (has_come l) n ≡ each_below m.came n
  came_below n = sym (each_below_same m.came (has_come l) n s.came)

  pub full_is : is_full l (Some r) ≡ has_all m
  full_is = came_below r.head.length ∙ ap (λ (h : Head). each_below m.came h.length) s.head

  pub landed_is : has_landed l (Some r) ≡ each_below m.came m.granted
  landed_is = came_below r.granted ∙ ap (each_below m.came) s.granted

  pub window_is : (own : Own) → window_if (has_landed l (Some r)) own.limits r ≡ next_window own m
  unfolding window_if next_window
  window_is own =
      ap (λ b. if b then window_of own.limits r.head r.head.shape r.granted else 0) landed_is
      ∙ ap (λ (h : Head). if each_below m.came m.granted then window_of own.limits h h.shape r.granted else 0) s.head
      ∙ ap (λ g. if each_below m.came m.granted then window_of own.limits m.head m.head.shape g else 0) s.granted

  number_is : r.number ≡ record { 0 = m.number }
  number_is = ap (λ n. record { 0 = n }) s.number

  pub items_are : (own : Own) (is_new : Bool) (number : OpId) → r.recv ≡ number
      → items_of own is_new number m ≡ (if is_new then map Asks (asks_owed (Some r)) else []) ++ grant_owed own own.limits l (Some r) ++ end_owed own l (Some r)
  unfolding items_of
  items_are own is_new number e =
      sym (
      ap (λ (n : OpId). items is_new n (window_if (has_landed l (Some r)) own.limits r) (is_full l (Some r)) r.number r.head) e
      ∙ ap (λ w. items is_new number w (is_full l (Some r)) r.number r.head) (window_is own)
      ∙ ap (λ b. items is_new number (next_window own m) b r.number r.head) full_is
      ∙ ap (λ n. items is_new number (next_window own m) (has_all m) n r.head) number_is
      ∙ ap (λ h. items is_new number (next_window own m) (has_all m) (record { 0 = m.number }) h) s.head)
    where
      items : Bool → OpId → ℕ → Bool → MsgNo → Head → List Item
      items is_new n w full number h = (if is_new then map Asks (asks_for h.shape n) else []) ++ grant_for own h.shape n w ++ (if full then end_for own h.shape h.confirm number n else [])

full_by : (d : Landed) (o : Option ReceivingView) (x : Option Matched) → ShowMatch d o x → is_full d o ≡ all_came x
unfolding all_came
full_by d None None s = refl
full_by d None (Some m) s = absurd s
full_by d (Some r) None s = absurd s
full_by d (Some r) (Some m) s = full_is d r m s

pub full_shows : FullShows
full_shows r l s = full_by r.landed r.message l.matched s.matched

landed_by : (d : Landed) (o : Option ReceivingView) (x : Option Matched) (m : Matched) → ShowMatch d o x → x ≡ Some m → has_landed d o ≡ each_below m.came m.granted
landed_by d None None m s e = absurd (cc)
landed_by d None (Some y) m s e = absurd s
landed_by d (Some r) None m s e = absurd s
landed_by d (Some r) (Some y) m s e = let same : y ≡ m = cc in landed_is d r y s ∙ ap (λ (z : Matched). each_below z.came z.granted) same

pub landed_shows : LandedShows
landed_shows r l m s e = landed_by r.landed r.message l.matched m s.matched e

grant_by : (own : Own) (d : Landed) (o : Option ReceivingView) (x : Option Matched) → ShowMatch d o x → ShowMatch d (granted own.limits d o) (option_map (λ (m : Matched). record m { granted = m.granted + next_window own m }) x)
grant_by own d None None s = tt
grant_by own d None (Some m) s = absurd s
grant_by own d (Some r) None s = absurd s
grant_by own d (Some r) (Some m) s =
    record {
      source = s.source;
      number = s.number;
      head = s.head;
      granted = ap (λ n. n + window_if (has_landed d (Some r)) own.limits r) s.granted ∙ ap (λ w. m.granted + w) (window_is d r m s own);
      came = s.came;
    }

pub grant_shows : GrantShows
unfolding with_window
grant_shows r l own s = record { number = s.number; req = s.req; named = s.named; cells = s.cells; matched = grant_by own r.landed r.message l.matched s.matched }

owes_by : (own : Own) (is_new : Bool) (number : OpId) (d : Landed) (o : Option ReceivingView) (x : Option Matched) (m : Matched) → ShowMatch d o x → IsOfMessage number d o → x ≡ Some m
    → items_of own is_new number m ≡ (if is_new then map Asks (asks_owed o) else []) ++ grant_owed own own.limits d o ++ end_owed own d o
owes_by own is_new number d None None m s is e = absurd (cc)
owes_by own is_new number d None (Some y) m s is e = absurd s
owes_by own is_new number d (Some r) None m s is e = absurd s
owes_by own is_new number d (Some r) (Some y) m s is e = let same : y ≡ m = cc in items_are d r m (subst (ShowsMessage d r) same s) own is_new number is.0

pub owes_show : OwesShow
owes_show r l m own is_new is s e = owes_by own is_new r.number r.landed r.message l.matched m s.matched is.message e
