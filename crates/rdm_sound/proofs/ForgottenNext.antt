-- The next receive or send of a life that is forgotten is lost, and then the others.
use Rattle.std.proofs.Common.{◌≡◌, ℕ, Bool, true, false, cond, not, List, [], ◌∷◌, Some, None, map, refl, sym, ◌∙◌, ap, subst}
use Rattle.std.specs.Prelude.{◌==◌, filter, find}
use Rattle.std.proofs.lemmas.Bool.{eqb-true, eq-eqb, false_from_ne_true}
use Rattle.rdm_lists.specs.Lists.{Member}
use Rattle.rdm_lists.proofs.Filters.{filter_all, filter_nothing}
use Rattle.rdm_lists.proofs.Members.{find_member, map-member}
use Rattle.rdm_num.specs.Lives.{same_life}
use Rattle.rdm_num.specs.declared.numbers.Life.{Life}
use Rattle.rdm_life.specs.Kept.{Kept, LiveSend, LiveReceive}
use Rattle.rdm_life.specs.Forgetting.{concerns, forget}
use Rattle.rdm_life.proofs.Back.{found_none}
use Rattle.rdm_sound.specs.Premises.{AreOnce, IsOrderly, receive_numbers, send_numbers}
use Rattle.rdm_sound.specs.Forgets.{lose_receive, lose_receives, lose_send, lose_sends, lose_life, lost_receives, lost_sends}
use Rattle.rdm_sound.proofs.Forgotten.{forgets_each, lost_receive_thins, lost_send_thins}
use Rattle.rdm_sound.proofs.Losses.{found_one}
use Rattle.rdm_sound.proofs.Orderly.{orderly_thinned}

-- those that pass are the first that passes, and those of other numbers that pass
first_passing : {A : Type 0} (key : A → ℕ) (t : A → Bool) (x : A) (xs : List A) → AreOnce (map key xs) → find t xs ≡ Some x
    → filter t xs ≡ x ∷ filter t (filter (λ y. not (key y == key x)) xs)
first_passing key t x [] once found = cc
first_passing {A} key t x (z ∷ zs) once found =
    let q : A → Bool = λ y. not (key y == key x) in
    (elim (t z) as (λ b. t z ≡ b → cond b (Some z) (find t zs) ≡ Some x → cond b (z ∷ filter t zs) (filter t zs) ≡ x ∷ filter t (cond (q z) (z ∷ filter q zs) (filter q zs))) [
      | true ↦ λ on found.
          let is : z ≡ x = cc in
          let off : q z ≡ false = ap not (eq-eqb (key z) (key x) (ap key is)) in
          let others : filter q zs ≡ zs = filter_all q zs (λ y m. ap not (false_from_ne_true (key y == key x) (λ e.
          once.0 (subst (λ (n : ℕ). Member n (map key zs)) (eqb-true (key y) (key x) e ∙ sym (ap key is)) (map-member key y zs m))))) in
          ap (λ (y : A). y ∷ filter t zs) is
          ∙ sym (ap (λ b. x ∷ filter t (cond b (z ∷ filter q zs) (filter q zs))) off ∙ ap (λ ys. x ∷ filter t ys) others)
      | false ↦ λ off found.
          let rest = first_passing key t x zs once.1 found in
          let skip : (b : Bool) → filter t (cond b (z ∷ filter q zs) (filter q zs)) ≡ filter t (filter q zs) = λ b.
          elim b as (λ c. filter t (cond c (z ∷ filter q zs) (filter q zs)) ≡ filter t (filter q zs)) [ true ↦ ap (λ c. cond c (z ∷ filter t (filter q zs)) (filter t (filter q zs))) off | false ↦ refl ] in
          rest ∙ sym (ap (λ ys. x ∷ ys) (skip (q z)))
    ]) refl found

-- a receive that concerns the life
pub forgets_receive : (life : Life) (r : LiveReceive) (v : Kept) → IsOrderly v → find (concerns (life ∷ [])) v.receives ≡ Some r
    → forget (life ∷ []) v ≡ forget (life ∷ []) (lose_receive (Some r) v)
unfolding lose_receive lose_receives
forgets_receive life r v o found =
    let t : LiveReceive → Bool = concerns (life ∷ []) in
    let key : LiveReceive → ℕ = λ x. x.receive.number in
    let w : Kept = lose_receive (Some r) v in
    let numbers : lost_receives life v ≡ key r ∷ lost_receives life w = ap receive_numbers (first_passing key t r v.receives o.once found) in
    let there = (find_member t r v.receives found).0 in
    forgets_each life v o
    ∙ ap (λ ns. lose_life life (lose_sends (lost_sends life v) (lose_receives ns v))) numbers
    ∙ ap (λ x. lose_life life (lose_sends (lost_sends life v) (lose_receives (lost_receives life w) (lose_receive x v)))) (found_one key r v.receives o.once there)
    ∙ sym (forgets_each life w (orderly_thinned v w (lost_receive_thins (Some r) v) o))

-- no receive concerns it
none_lost : (life : Life) (v : Kept) → find (concerns (life ∷ [])) v.receives ≡ None → lost_receives life v ≡ []
none_lost life v none = ap receive_numbers (filter_nothing (concerns (life ∷ [])) v.receives (λ x m. found_none (concerns (life ∷ [])) v.receives x none m))

-- a send to it
pub forgets_send : (life : Life) (s : LiveSend) (v : Kept) → IsOrderly v → find (concerns (life ∷ [])) v.receives ≡ None → find (λ (x : LiveSend). same_life x.sent.to life) v.sends ≡ Some s
    → forget (life ∷ []) v ≡ forget (life ∷ []) (lose_send (Some s) v)
unfolding lose_send lose_sends lose_receives
forgets_send life s v o none found =
    let t : LiveSend → Bool = λ x. same_life x.sent.to life in
    let key : LiveSend → ℕ = λ x. x.sent.number in
    let w : Kept = lose_send (Some s) v in
    let numbers : lost_sends life v ≡ key s ∷ lost_sends life w = ap send_numbers (first_passing key t s v.sends o.sends_once found) in
    let there = (find_member t s v.sends found).0 in
    forgets_each life v o
    ∙ ap (λ ns. lose_life life (lose_sends (lost_sends life v) (lose_receives ns v))) (none_lost life v none)
    ∙ ap (λ ns. lose_life life (lose_sends ns v)) numbers
    ∙ ap (λ x. lose_life life (lose_sends (lost_sends life w) (lose_send x v))) (found_one key s v.sends o.sends_once there)
    ∙ sym (forgets_each life w (orderly_thinned v w (lost_send_thins (Some s) v) o)
    ∙ ap (λ ns. lose_life life (lose_sends (lost_sends life w) (lose_receives ns w))) (none_lost life w none))

-- and then the rest
pub forgets_rest : (life : Life) (v : Kept) → IsOrderly v → find (concerns (life ∷ [])) v.receives ≡ None → find (λ (x : LiveSend). same_life x.sent.to life) v.sends ≡ None
    → forget (life ∷ []) v ≡ lose_life life v
unfolding lose_sends lose_receives
forgets_rest life v o none no_send =
    let t : LiveSend → Bool = λ x. same_life x.sent.to life in
    forgets_each life v o
    ∙ ap (λ ns. lose_life life (lose_sends (lost_sends life v) (lose_receives ns v))) (none_lost life v none)
    ∙ ap (λ ns. lose_life life (lose_sends ns v)) (ap send_numbers (filter_nothing t v.sends (λ x m. found_none t v.sends x no_send m)))
