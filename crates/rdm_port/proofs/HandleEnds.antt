-- What the code knows at each end of a handling is what its contract says.
use Rattle.std.proofs.Common.{◌≡◌, ◌<◌, ◌≤◌, ℕ, ◌+◌, Bool, true, false, List, [], ◌∷◌, ◌++◌, length, get_or, inl, inr, Option, Some, refl, ap, ◌∙◌, sym, subst, arith}
use Rattle.std.specs.Prelude.{◌%◌, max, remove, slice_get}
use Rattle.std.proofs.lemmas.Option.{slice_get-get_or}
use Rattle.std.proofs.lemmas.List.{append-nil}
use Rattle.rdm_num.specs.declared.numbers.PortNo.{PortNo}
use Rattle.rdm_wire.specs.declared.Datagram.{Datagram}
use Rattle.rdm_wire.specs.Flights.{InFlight}
use Rattle.rdm_model.specs.declared.entry.Entry.{Entry}
use Rattle.rdm_model.specs.declared.entry.Act.TheVariants.{Handle}
use Rattle.rdm_model.specs.declared.answer.Handled.{Handled}
use Rattle.rdm_model.specs.declared.answer.Handled.TheVariants.{Memory}
use Rattle.rdm_port.specs.Views.{PortView, stashed}
use Rattle.rdm_port.specs.Handles.{is_handling, place_of, picked, Answers, Fetched, DoesHandle}
use Rattle.rdm_port.specs.Kept.{Kept, IsKept, with_stash}
use Rattle.rdm_port.specs.Machine.{MachineHandles, handle_counted}
use Rattle.rdm_port.proofs.HandleCases.{entry_given}
use Rattle.rdm_port.proofs.HandleKept.{handled_clock}
use Rattle.rdm_port.proofs.HandleDoes.{handle_wants, handle_stays, handle_entry, after_handle, handle_goes}

-- what the code keeps before its port is known
abbrev pub KeepsTo : PortView → Kept → List Entry → List Datagram → ℕ → Handled → Type 0
KeepsTo v k log stash pick answer = IsKept (with_stash v log stash) k × Answers v (with_stash v log stash) pick answer

-- the port as it stands, with the log and the stash of the code
pub as_it_stands : (v : PortView) (k : Kept) (log : List Entry) (stash : List Datagram) (pick : ℕ) (answer : Handled) → v.log ≡ log → v.stash ≡ stash → IsKept v k
    → Answers v v pick answer → KeepsTo v k log stash pick answer
as_it_stands v k log stash pick answer l s h a =
    let same : v ≡ with_stash v log stash = rw (← l, ← s) refl in
    (subst (λ (w : PortView). IsKept w k) same h, subst (λ (w : PortView). Answers v w pick answer) same a)

-- a list of no length is empty
pub empty_is : (ds : List Datagram) → length ds ≡ 0 → ds ≡ []
empty_is [] h = refl
empty_is (d ∷ ds) h = absurd (omega arith)

-- the place of a pick, counted round a list that is not empty
round_is : (n pick : ℕ) → (n ≡ 0 → ⊥) → (pick % max 1 n ≡ pick % n) × (pick % n < n)
round_is n pick h =
    let some : 1 ≤ n = omega (arith, h) in
    let m : max 1 n ≡ n = omega arith in
    (ap (λ (x : ℕ). pick % x) m, omega arith)

-- the place of the pick, as the code counts it
pub place_is : (v : PortView) (stash : List Datagram) (pick count : ℕ) → v.stash ≡ stash → count ≡ length stash → (count ≡ 0 → ⊥) → place_of v pick ≡ pick % count
place_is v stash pick count s n h = let c : length v.stash ≡ count = ap length s ∙ sym n in ap (λ (x : ℕ). pick % max 1 x) c ∙ (round_is count pick h).0

-- the datagram at that place is the one that is picked
pub found : (v : PortView) (stash slice : List Datagram) (pick count : ℕ) (d : Datagram) → v.stash ≡ stash → slice ≡ stash → count ≡ length stash → (count ≡ 0 → ⊥)
    → d ≡ get_or slice (pick % count) d → picked v pick ≡ Some d
found v stash slice pick count d s sl n h is =
    let same : slice ≡ v.stash = sl ∙ sym s in
    let size : count ≡ length v.stash = n ∙ ap length (sym s) in
    let within : pick % count < length v.stash = subst (λ (x : ℕ). pick % count < x) size (round_is count pick h).1 in
    let here : d ≡ get_or v.stash (pick % count) d = is ∙ ap (λ (ds : List Datagram). get_or ds (pick % count) d) same in
    ap (slice_get v.stash) (place_is v stash pick count s n h) ∙ slice_get-get_or v.stash (pick % count) d within ∙ ap Some (sym here)

-- no count passes the end of the clock
pub few : (v : PortView) (k : Kept) (d : Datagram) → IsKept v k → max k.clock d.stamp.0 < 9223372036854775807 → (k.to_other ≤ 9223372036854775807) × (k.from_other ≤ 9223372036854775807)
few v k d h m = let a = h.few_to_other in let b = h.few_from_other in (omega arith, omega arith)

-- the answer is no entry
pub end_stays : (v : PortView) (k n : Kept) (log : List Entry) (stash : List Datagram) (pick : ℕ) (d : Datagram) (answer : Handled) → v.log ≡ log → v.stash ≡ stash → IsKept v k
    → picked v pick ≡ Some d → max k.clock d.stamp.0 < 9223372036854775807 → (k.to_other ≤ 9223372036854775807 → k.from_other ≤ 9223372036854775807 → MachineHandles k n d answer)
    → is_handling answer ≡ false → KeepsTo v n log stash pick answer
end_stays v k n log stash pick d answer l s h q m a t =
    let f = few v k d h m in
    let r = handle_stays v k n pick d answer h q (a f.0 f.1) t in
    subst (λ (x : Kept). KeepsTo v x log stash pick answer) (sym r.0) (as_it_stands v k log stash pick answer l s h r.1)

-- the entry of the code is that of the port
entry_is : (v : PortView) (k : Kept) (number : PortNo) (stamp : ℕ) (d found : Datagram) (answer : Handled) → v.number ≡ number.0 → stamp ≡ max k.clock d.stamp.0 + 1 → found ≡ d
    → record { stamp = record { 0 = stamp }; port = number; act = Handle found answer } ≡ handle_entry v k d answer
entry_is v k number stamp d found answer n t f =
    let p : number ≡ record { 0 = v.number } = ap (λ (x : ℕ). record { 0 = x }) (sym n) in rw (t, f, p) refl

-- the answer is an entry
pub end_goes : (v : PortView) (k n : Kept) (number : PortNo) (stamp place : ℕ) (log before : List Entry) (stash old : List Datagram) (pick : ℕ) (d taken : Datagram) (answer : Handled)
    → v.number ≡ number.0 → v.log ≡ before → v.stash ≡ old → IsKept v k → picked v pick ≡ Some d → max k.clock d.stamp.0 < 9223372036854775807
    → (k.to_other ≤ 9223372036854775807 → k.from_other ≤ 9223372036854775807 → MachineHandles k n d answer) → is_handling answer ≡ true
    → stamp ≡ max k.clock d.stamp.0 + 1 → place_of v pick ≡ place → slice_get old place ≡ Some taken → stash ≡ remove old place
    → log ≡ record { stamp = record { 0 = stamp }; port = number; act = Handle taken answer } ∷ before
    → KeepsTo v (record n { clock = stamp }) log stash pick answer
end_goes v k n number stamp place log before stash old pick d taken answer e l s h q m a t st pl it rest made =
    let f = few v k d h m in
    let as' = a f.0 f.1 in
    let g = entry_given k n d answer as' t in
    let clock : n.clock ≡ k.clock = ap (λ (x : Kept). x.clock) g.1 ∙ handled_clock k d in
    let at : slice_get old place ≡ picked v pick = ap (slice_get old) (sym pl) ∙ ap (λ (ds : List Datagram). slice_get ds (place_of v pick)) (sym s) in
    let both : Some taken ≡ Some d = sym it ∙ at ∙ q in
    let same : taken ≡ d = cc in
    let logs : handle_entry v k d answer ∷ v.log ≡ log =
    ap (λ (x : Entry). x ∷ v.log) (sym (entry_is v k number stamp d taken answer e st same)) ∙ ap (λ (es : List Entry). record { stamp = record { 0 = stamp }; port = number; act = Handle taken answer } ∷ es) l ∙ sym made in
    let stashes : remove v.stash (place_of v pick) ≡ stash = ap (λ (ds : List Datagram). remove ds (place_of v pick)) s ∙ ap (remove old) pl ∙ sym rest in
    let new : after_handle v k pick d answer ≡ with_stash v log stash =
    ap (λ (es : List Entry). with_stash v es (remove v.stash (place_of v pick))) logs ∙ ap (with_stash v log) stashes in
    let kept : handle_counted n d ≡ record n { clock = stamp } =
    ap (λ (x : ℕ). record n { clock = max x d.stamp.0 + 1 }) clock ∙ ap (λ (x : ℕ). record n { clock = x }) (sym st) in
    let r = handle_goes v k n pick d answer h q as' t m in (
      subst (λ (w : PortView). IsKept w (record n { clock = stamp })) new (subst (λ (x : Kept). IsKept (after_handle v k pick d answer) x) kept r.0),
      subst (λ (w : PortView). Answers v w pick answer) new r.1,
    )

-- memory was wanted for the stash
pub port_wants : (in_order : Bool) (v : PortView) (stash : List Datagram) (pick : ℕ) (held : Option InFlight) → stash ≡ v.stash
    → DoesHandle in_order v (record v { stash = stash }) pick Memory held held
port_wants in_order v stash pick held e =
    let same : record v { stash = stash } ≡ stashed v [] = ap (λ (ds : List Datagram). record v { stash = ds }) (e ∙ sym (append-nil v.stash)) in
    record {
      got = [];
      fetched = inr (refl, refl, refl);
      answers = subst (λ (w : PortView). Answers w (record v { stash = stash }) pick Memory) same (handle_wants (record v { stash = stash }) pick);
    }

-- the port fetched, and then answered
pub port_handles : (in_order : Bool) (v new : PortView) (stash got : List Datagram) (pick : ℕ) (answer : Handled) (before after : Option InFlight) → stash ≡ v.stash ++ got
    → Fetched in_order v.number v.inbox got before after → Answers (record v { stash = stash }) new pick answer → DoesHandle in_order v new pick answer before after
port_handles in_order v new stash got pick answer before after e f a =
    record { got = got; fetched = inl f; answers = subst (λ (ds : List Datagram). Answers (record v { stash = ds }) new pick answer) e a }
