-- Each end of a handling gives the answer of the definitions, or says that memory was wanted.
use Rattle.std.proofs.Common.{◌≡◌, ◌<◌, ◌≤◌, ℕ, ◌+◌, Bool, true, false, cond, List, [], ◌∷◌, Option, Some, None, refl, ap, ◌∙◌, sym, subst, arith, ◌⊎◌, inl, inr}
use Rattle.std.specs.Prelude.{◌||◌, nat_le, max, remove, slice_get}
use Rattle.std.proofs.lemmas.Bool.{leb-false, le-leb, lt-leb}
use Rattle.rdm_wire.specs.declared.Datagram.{Datagram}
use Rattle.rdm_model.specs.declared.job.Job.{Job}
use Rattle.rdm_model.specs.declared.entry.Entry.{Entry}
use Rattle.rdm_model.specs.declared.entry.Act.TheVariants.{Handle}
use Rattle.rdm_model.specs.declared.answer.Handled.{Handled}
use Rattle.rdm_model.specs.declared.answer.Handled.TheVariants.{AgainEarly, Empty, Worn, Memory}
use Rattle.rdm_model.specs.Classes.{class_of}
use Rattle.rdm_model.specs.Takes.{handled_answer, is_again_early}
use Rattle.rdm_model.specs.Settled.{is_worn_by}
use Rattle.rdm_model.specs.Steps.{stamp_after}
use Rattle.rdm_port.specs.Views.{PortView, IsPortOf, scene_at, logged}
use Rattle.rdm_port.specs.Built.{IsBuiltDatagram}
use Rattle.rdm_port.specs.Handles.{answer_to, is_handling, place_of, after_answer, picked, Answers}
use Rattle.rdm_port.specs.Kept.{Kept, IsKept, entry_of, with_stash}
use Rattle.rdm_port.specs.Machine.{machine_handled, after_handled, waits_in, MachineHandles, handle_counted}
use Rattle.rdm_port.proofs.Counted.{worn_is, logged_is}
use Rattle.rdm_port.proofs.HandleAgrees.{HandleAgrees, handle_agrees}
use Rattle.rdm_port.proofs.HandleCases.{entry_not_early, no_entry_stays, entry_given}
use Rattle.rdm_port.proofs.HandleKept.{handle_kept}

-- the answer is the one that the definitions give, or memory was wanted
abbrev IsExact : PortView → ℕ → Handled → Type 0
IsExact v pick answer = (job : Job) → IsPortOf job v → ((d : Datagram) → picked v pick ≡ Some d → IsBuiltDatagram job v d)
    → (answer ≡ Memory) ⊎ (answer ≡ answer_to job v (picked v pick))

-- an answer that is no entry leaves the port
no_entry : (job : Job) (v : PortView) (place : ℕ) (o : Option Datagram) (answer : Handled) → is_handling answer ≡ false → after_answer job v place o answer ≡ v
unfolding after_answer
no_entry job v place None answer h = refl
no_entry job v place (Some d) answer h = rw h refl

-- such an answer is right where it is exact
stays : (v : PortView) (pick : ℕ) (answer : Handled) → is_handling answer ≡ false → IsExact v pick answer → Answers v v pick answer
stays v pick answer h e = record { exact = e; after = λ job p. sym (no_entry job v (place_of v pick) (picked v pick) answer h) }

-- memory was wanted
pub handle_wants : (v : PortView) (pick : ℕ) → Answers v v pick Memory
unfolding is_handling
handle_wants v pick = stays v pick Memory refl (λ job p b. inl refl)

-- nothing waits in the stash
pub handle_empty : (v : PortView) (pick : ℕ) → v.stash ≡ [] → Answers v v pick Empty
unfolding is_handling answer_to
handle_empty v pick e =
    let none : picked v pick ≡ None = ap (λ (ds : List Datagram). slice_get ds (place_of v pick)) e in
    stays v pick Empty refl (λ job p b. inr (sym (ap (answer_to job v) none)))

-- the datagram waits by what the definitions say where it does by what is kept
agrees_at : (job : Job) (v : PortView) (k : Kept) (pick : ℕ) (d : Datagram) → IsPortOf job v → IsKept v k → picked v pick ≡ Some d
    → ((q : Datagram) → picked v pick ≡ Some q → IsBuiltDatagram job v q) → HandleAgrees (scene_at job v) k d d.body
agrees_at job v k pick d p h q b = handle_agrees job v k d p h (b d q)

-- what is answered to a datagram that waits
early_to : (job : Job) (v : PortView) (d : Datagram) → is_again_early class_of (scene_at job v) d ≡ true → answer_to job v (Some d) ≡ AgainEarly
unfolding answer_to
early_to job v d e = rw e refl

-- the datagram waits for an early place
pub handle_early : (v : PortView) (k : Kept) (pick : ℕ) (d : Datagram) → IsKept v k → picked v pick ≡ Some d → waits_in k.endpoint d ≡ true → Answers v v pick AgainEarly
unfolding is_handling
handle_early v k pick d h q w =
    stays v pick AgainEarly refl (λ job p b.
    let a = agrees_at job v k pick d p h q b in
    inr (sym (ap (answer_to job v) q ∙ early_to job v d (a.early ∙ w))))

-- one of two numbers is no less than that where the greater one is
worn_max : (m a b : ℕ) → m ≤ max a b → (nat_le m a || nat_le m b) ≡ true
worn_max m a b h =
    (elim (nat_le m a) as (λ t. nat_le m a ≡ t → (t || nat_le m b) ≡ true) [
      | true ↦ λ e. refl
      | false ↦ λ e. le-leb m b (let x = leb-false m a e in omega arith)
    ]) refl

-- neither is where the greater one is less
not_worn_max : (m a b : ℕ) → max a b < m → (nat_le m a || nat_le m b) ≡ false
not_worn_max m a b h =
    let x : nat_le m a ≡ false = lt-leb m a (omega arith) in
    let y : nat_le m b ≡ false = lt-leb m b (omega arith) in
    rw (x, y) refl

-- the clock, or the stamp of the datagram, is at its end
worn_by_is : (job : Job) (v : PortView) (k : Kept) (d : Datagram) → IsPortOf job v → IsKept v k
    → is_worn_by job v.log d ≡ (nat_le 9223372036854775807 k.clock || nat_le 9223372036854775807 d.stamp.0)
unfolding is_worn_by
worn_by_is job v k d p h = ap (λ (b : Bool). b || nat_le 9223372036854775807 d.stamp.0) (worn_is job v k p h)

-- what is answered to a datagram that does not wait
late_to : (job : Job) (v : PortView) (d : Datagram) (worn : Bool) → is_again_early class_of (scene_at job v) d ≡ false → is_worn_by job v.log d ≡ worn
    → answer_to job v (Some d) ≡ cond worn Worn (handled_answer class_of (scene_at job v) d)
unfolding answer_to
late_to job v d worn e w = rw (e, w) refl

-- the clock is at its end
pub handle_worn : (v : PortView) (k : Kept) (pick : ℕ) (d : Datagram) → IsKept v k → picked v pick ≡ Some d → waits_in k.endpoint d ≡ false
    → 9223372036854775807 ≤ max k.clock d.stamp.0 → Answers v v pick Worn
unfolding is_handling
handle_worn v k pick d h q w m =
    stays v pick Worn refl (λ job p b.
    let a = agrees_at job v k pick d p h q b in
    inr (sym (ap (answer_to job v) q ∙ late_to job v d true (a.early ∙ w) (worn_by_is job v k d p h ∙ worn_max 9223372036854775807 k.clock d.stamp.0 m))))

-- the answer is no entry: what is kept is what was, and the port stays
pub handle_stays : (v : PortView) (k n : Kept) (pick : ℕ) (d : Datagram) (answer : Handled) → IsKept v k → picked v pick ≡ Some d → MachineHandles k n d answer → is_handling answer ≡ false
    → (n ≡ k) × Answers v v pick answer
handle_stays v k n pick d answer h q a t =
    let s = no_entry_stays k n d answer a t in (
      s.0,
      elim s.1 [
        | inl m ↦ subst (λ (x : Handled). Answers v v pick x) (sym m) (handle_wants v pick)
        | inr w ↦ subst (λ (x : Handled). Answers v v pick x) (sym w.0) (handle_early v k pick d h q w.1)
      ],
    )

-- the entry of a datagram that was handled
abbrev pub handle_entry : PortView → Kept → Datagram → Handled → Entry
handle_entry v k d answer = entry_of v (max k.clock d.stamp.0 + 1) (Handle d answer)

-- the port after that entry
abbrev pub after_handle : PortView → Kept → ℕ → Datagram → Handled → PortView
after_handle v k pick d answer = with_stash v (handle_entry v k d answer ∷ v.log) (remove v.stash (place_of v pick))

-- an answer that is an entry makes it
entered : (job : Job) (v : PortView) (k : Kept) (pick : ℕ) (d : Datagram) (answer : Handled) → IsPortOf job v → IsKept v k → picked v pick ≡ Some d → is_handling answer ≡ true
    → after_handle v k pick d answer ≡ after_answer job v (place_of v pick) (picked v pick) answer
unfolding after_answer stamp_after
entered job v k pick d answer p h q t =
    let l = logged_is job v k (Handle d answer) p h in
    sym (ap (λ (o : Option Datagram). after_answer job v (place_of v pick) o answer) q
    ∙ ap (λ (b : Bool). cond b (record (logged job v (Handle d answer)) { stash = remove v.stash (place_of v pick) }) v) t
    ∙ ap (λ (w : PortView). record w { stash = remove v.stash (place_of v pick) }) l)

-- the answer of the machine is an entry
entry_exact : (v : PortView) (k : Kept) (pick : ℕ) (d : Datagram) (answer : Handled) → IsKept v k → picked v pick ≡ Some d → answer ≡ machine_handled k d d.body → is_handling answer ≡ true
    → max k.clock d.stamp.0 < 9223372036854775807 → IsExact v pick answer
entry_exact v k pick d answer h q a t m = λ job p b.
    let g = agrees_at job v k pick d p h q b in
    let w = entry_not_early k d d.body refl (ap is_handling (sym a) ∙ t) in
    inr (a ∙ sym (g.handled w) ∙ sym (ap (answer_to job v) q ∙ late_to job v d false (g.early ∙ w) (worn_by_is job v k d p h ∙ not_worn_max 9223372036854775807 k.clock d.stamp.0 m)))

-- the datagram was taken or dropped: the port keeps what its log says, and its answer is right
pub handle_goes : (v : PortView) (k n : Kept) (pick : ℕ) (d : Datagram) (answer : Handled) → IsKept v k → picked v pick ≡ Some d → MachineHandles k n d answer → is_handling answer ≡ true
    → max k.clock d.stamp.0 < 9223372036854775807 → IsKept (after_handle v k pick d answer) (handle_counted n d) × Answers v (after_handle v k pick d answer) pick answer
handle_goes v k n pick d answer h q a t m =
    let g = entry_given k n d answer a t in (
      (let kept = handle_kept v k d (remove v.stash (place_of v pick)) h in
          subst (λ (x : Kept). IsKept (after_handle v k pick d answer) (handle_counted x d)) (sym g.1)
          (subst (λ (x : Handled). IsKept (after_handle v k pick d x) (handle_counted (after_handled k d d.body) d)) (sym g.0) kept)),
      record { exact = entry_exact v k pick d answer h q g.0 t m; after = λ job p. entered job v k pick d answer p h q t },
    )
