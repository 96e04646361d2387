-- Where nothing waits, each reply that was owed to a life that is not forgotten was pushed.
use Rattle.std.proofs.Common.{◌≡◌, ℕ, false, not, List, [], ◌∷◌, ◌++◌, length, Some, None, refl, ◌⊎◌, inl, inr, sym, ap, subst}
use Rattle.std.specs.Prelude.{slice_get}
use Rattle.std.specs.List.{list_any}
use Rattle.rdm_lists.specs.Lists.{Member}
use Rattle.rdm_num.specs.Lives.{same_life}
use Rattle.rdm_num.specs.declared.numbers.Life.{Life}
use Rattle.rdm_model.specs.Deeds.{Deed, Did, PushedNote, Pushed, TookNote, Took, Polled, Nothing}
use Rattle.rdm_model.specs.Beginnings.{Own, Messages}
use Rattle.rdm_model.specs.Currents.{forgotten_by, is_forgotten}
use Rattle.rdm_model.specs.Sends.{sends}
use Rattle.rdm_model.specs.Replies.{Reply, replies_by, without_forgotten, without_lives}
use Rattle.rdm_model.specs.Dues.{Replies, progress, after_deed, next_due, reply_due, due}
use Rattle.rdm_model.proofs.Served.{PushedAt}
use Rattle.rdm_law.proofs.Replies.Queue.{owed, popped, pushed_replies}
use Rattle.rdm_lists.proofs.Members.{member-append_left, member-append_right, member-append_cases, filter-member}
use Rattle.std.proofs.lemmas.Bool.{or_parts}

-- the first reply has the due item
pub head_due : (own : Own) (ms : Messages) (log : List Deed) (r : Reply) → slice_get (progress own ms log).replies 0 ≡ Some r → due own ms log ≡ Some (Replies r)
unfolding due next_due reply_due
head_due own ms log r h = rw h refl

-- what waited waits, or was taken by the push
popped_or : (d : Deed) (rs : List Reply) (r : Reply) → Member r rs → Member r (popped d rs) ⊎ ((d ≡ Pushed) × (slice_get rs 0 ≡ Some r))
unfolding popped
popped_or d [] r h = elim h [ ]
popped_or Pushed (x ∷ rs) r (inl is) = inr (refl, ap Some is)
popped_or Pushed (x ∷ rs) r (inr h) = inl h
popped_or (Did i) (x ∷ rs) r h = inl h
popped_or PushedNote (x ∷ rs) r h = inl h
popped_or (TookNote p b) (x ∷ rs) r h = inl h
popped_or (Took l i) (x ∷ rs) r h = inl h
popped_or Polled (x ∷ rs) r h = inl h
popped_or Nothing (x ∷ rs) r h = inl h

-- a reply to a life that is not forgotten stays
kept : (lives : List Life) (rs : List Reply) (r : Reply) → list_any (same_life r.to) lives ≡ false → Member r rs → Member r (without_lives lives rs)
unfolding without_lives
kept lives rs r e h = filter-member (λ (x : Reply). not (list_any (same_life x.to) lives)) r rs h (ap not e)

-- a life that is not forgotten was not before, and is not by the deed
not_forgotten_parts : (d : Deed) (before : List Deed) (life : Life) → is_forgotten (d ∷ before) life ≡ false
    → (is_forgotten before life ≡ false) × (list_any (same_life life) (forgotten_by before d) ≡ false)
unfolding is_forgotten
not_forgotten_parts d before life h = or_parts (is_forgotten before life) (list_any (same_life life) (forgotten_by before d)) h

-- what waits after a deed
waits_after : (own : Own) (ms : Messages) (d : Deed) (before : List Deed) (r : Reply)
    → Member r (without_lives (forgotten_by before d) (popped d (progress own ms before).replies) ++ replies_by own ms.head (sends own ms before) d before)
    → Member r (progress own ms (d ∷ before)).replies
unfolding progress after_deed without_forgotten
waits_after own ms d before r h =
    subst (λ (x : List Reply). Member r (without_lives (forgotten_by before d) x ++ replies_by own ms.head (sends own ms before) d before))
    (sym (pushed_replies own ms before d (progress own ms before))) h

-- each reply that was owed to a life that is not forgotten waits, or was pushed
pub owed_or : (own : Own) (ms : Messages) (log : List Deed) (r : Reply) → Member r (owed own ms log) → is_forgotten log r.to ≡ false
    → Member r (progress own ms log).replies ⊎ ((k : ℕ) × PushedAt own ms (Replies r) k log)
unfolding owed
owed_or own ms [] r h f = elim h [ ]
owed_or own ms (d ∷ before) r h f =
    let parts = not_forgotten_parts d before r.to f in
    let rs = (progress own ms before).replies in
    let new = replies_by own ms.head (sends own ms before) d before in
    let left = without_lives (forgotten_by before d) (popped d rs) in
    elim (member-append_cases r (owed own ms before) new h) [
      | inr now ↦ inl (waits_after own ms d before r (member-append_right r left new now))
      | inl older ↦ elim (owed_or own ms before r older parts.0) [
        | inr pushed ↦ inr (pushed.0, inr pushed.1)
        | inl waits ↦ elim (popped_or d rs r waits) [
          | inl stays ↦ inl (waits_after own ms d before r (member-append_left r left new (kept (forgotten_by before d) (popped d rs) r parts.1 stays)))
          | inr goes ↦ inr (length before, inl (goes.0, head_due own ms before r goes.1, refl))
        ]
      ]
    ]

-- a list with no first element has none
pub none_first : (rs : List Reply) (r : Reply) → slice_get rs 0 ≡ None → Member r rs → ⊥
none_first [] r e h = elim h [ ]
none_first (x ∷ rs) r e h = cc

-- where nothing waits, it was pushed
pub owed_rest : (own : Own) (ms : Messages) (log : List Deed) (r : Reply) → Member r (owed own ms log) → is_forgotten log r.to ≡ false
    → slice_get (progress own ms log).replies 0 ≡ None → (k : ℕ) × PushedAt own ms (Replies r) k log
owed_rest own ms log r h f none =
    elim (owed_or own ms log r h f) [
      | inl waits ↦ absurd (none_first (progress own ms log).replies r none waits)
      | inr pushed ↦ pushed
    ]
