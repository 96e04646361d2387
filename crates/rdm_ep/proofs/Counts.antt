-- The pools of a life by its definitions are as full as those of its endpoint.
use Rattle.std.proofs.Common.{◌≡◌, ℕ, zero, suc, ◌+◌, List, [], ◌∷◌, length, drop, arith, refl, ap, ◌∙◌, sym}
use Rattle.std.specs.Prelude.{slice_get}
use Rattle.std.proofs.lemmas.List.{length-map}
use Rattle.std.proofs.Math.Seq.{drop-nil}
use Rattle.rdm_num.specs.declared.completion.Completion.{Completion}
use Rattle.rdm_model.specs.Deeds.{Deed}
use Rattle.rdm_model.specs.Receives.{live_receives}
use Rattle.rdm_model.specs.Regions.{regions}
use Rattle.rdm_model.specs.Dues.{live_sends}
use Rattle.rdm_model.specs.Completions.{tx_count, rx_count, early_count, cq_count, completions, poll_count}
use Rattle.rdm_model.specs.Local.{heard_by}
use Rattle.rdm_ep.specs.View.{EndpointView, cq_in}
use Rattle.rdm_ep.specs.Eager.{IsEager}
use Rattle.rdm_ep.specs.Keeps.{posted_of, outbound_of, Keeps}
use Rattle.rdm_ep.proofs.EarlyCounts.{early_is}
use Rattle.rdm_ep.proofs.Groups.{kept_of}

-- live sends
pub tx_agrees : (log : List Deed) (v : EndpointView) → Keeps log v → tx_count v.own (heard_by v.own.limits.first log) log ≡ length v.outgoing
unfolding tx_count
tx_agrees log v k = sym (ap length k.outgoing_are ∙ length-map (live_sends v.own (heard_by v.own.limits.first log) log) outbound_of)

-- live receives
pub rx_agrees : (log : List Deed) (v : EndpointView) → Keeps log v → rx_count v.own (heard_by v.own.limits.first log).head log ≡ length v.posted
unfolding rx_count
rx_agrees log v k = sym (ap length k.posted_are ∙ length-map (live_receives v.own.limits.first (heard_by v.own.limits.first log).head log) posted_of)

-- messages that wait, for a receive or for those before them
pub early_agrees : (log : List Deed) (v : EndpointView) → IsEager v.own log → Keeps log v
    → early_count v.own (heard_by v.own.limits.first log).head log ≡ length v.arrived + length v.held
unfolding heard_by
early_agrees log v h k =
    let e = early_is v.own log h in
    let c = (kept_of log v k).held.count in
    omega arith

-- places for completions
pub cq_agrees : (log : List Deed) (v : EndpointView) → Keeps log v → cq_count v.own (heard_by v.own.limits.first log) log ≡ cq_in v
unfolding cq_count cq_in
cq_agrees log v k = let a = k.sends_are in let b = k.receives_are in let c = k.polled_are in rw (a, b, c) refl

-- regions
pub regions_agree : (log : List Deed) (v : EndpointView) → Keeps log v → regions v.own.limits.first (heard_by v.own.limits.first log) log ≡ v.regions
regions_agree log v k = sym k.regions_are

-- completions that were polled
pub polls_agree : (log : List Deed) (v : EndpointView) → Keeps log v → poll_count log ≡ v.polled
polls_agree log v k = sym k.polled_are

-- an element at its place is the first one of those from there on
slice_get-drop : {A : Type 0} (k : ℕ) (xs : List A) → slice_get xs k ≡ slice_get (drop k xs) 0
slice_get-drop {A} k [] = ap (λ (ys : List A). slice_get ys 0) (sym (drop-nil {A = A} k))
slice_get-drop zero (x ∷ xs) = refl
slice_get-drop (suc k) (x ∷ xs) = slice_get-drop k xs

-- the next completion
pub completion_agrees : (log : List Deed) (v : EndpointView) → Keeps log v
    → slice_get (completions v.own (heard_by v.own.limits.first log) log) (poll_count log) ≡ slice_get v.completions 0
completion_agrees log v k =
    slice_get-drop (poll_count log) (completions v.own (heard_by v.own.limits.first log) log) ∙ ap (λ (cs : List Completion). slice_get cs 0) (sym k.completions_are)
