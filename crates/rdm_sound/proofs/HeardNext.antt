-- The next message of a life enters, and then the others.
use Rattle.std.proofs.Common.{◌≡◌, ◌<◌, ℕ, zero, suc, ◌+◌, Bool, true, false, cond, refl, arith, sym, ◌∙◌, ap}
use Rattle.rdm_num.proofs.Lives.{same_life-refl}
use Rattle.rdm_num.specs.declared.numbers.Life.{Life}
use Rattle.rdm_life.specs.Kept.{Kept, Peer}
use Rattle.rdm_life.specs.Receiving.{heard_run, entering_in, enter}
use Rattle.rdm_life.proofs.EnteringRow.{run_is}
use Rattle.rdm_sound.specs.Premises.{IsOrderly}
use Rattle.rdm_sound.specs.Heard.{IsHeardEarly, is_next_heard}
use Rattle.rdm_sound.specs.Steps.{times, enter_one}
use Rattle.rdm_sound.proofs.Enters.{enters_each}
use Rattle.rdm_sound.proofs.HeardEnters.{enters_heard}
use Rattle.rdm_sound.proofs.HeardRuns.{times_peers, run_heard, heard_fit, entering_stops}
use Rattle.rdm_sound.proofs.Orderly.{numbered, orderly_thinned}
use Rattle.rdm_sound.proofs.Thinning.{enters_thin}

-- what enters is so many steps
enters_times : (source : Life) (v : Kept) → IsOrderly v → enter source v ≡ times (entering_in v source) (enter_one source) v
enters_times source v o = enters_each source v o.posted_once (numbered v.receives o.once) o.apart

-- none enters where the next was not heard of
no_run : (most : ℕ) (heard : ℕ → Bool) (from : ℕ) → heard from ≡ false → heard_run most heard from ≡ 0
unfolding heard_run
no_run zero heard from off = refl
no_run (suc most) heard from off = rw off refl

pub enters_none : (source : Life) (v : Kept) → IsOrderly v → is_next_heard source v ≡ false → enter source v ≡ v
unfolding times
enters_none source v o off =
    enters_times source v o ∙ ap (λ n. times n (enter_one source) v) (no_run v.early_count (v.peers source).heard (v.peers source).next off)

-- what was heard of a life, after its next message entered
heard_after : (source : Life) (v : Kept) (n : ℕ) → ((enter_one source v).peers source).heard (((enter_one source v).peers source).next + n) ≡ (v.peers source).heard ((v.peers source).next + 1 + n)
unfolding times
heard_after source v n =
    let p = v.peers source in
    ap (λ (ps : Life → Peer). (ps source).heard ((ps source).next + n)) (times_peers 1 source v)
    ∙ ap (λ b. (cond b (record p { next = p.next + 1 }) p).heard ((cond b (record p { next = p.next + 1 }) p).next + n)) (same_life-refl source)

-- one more entered
fewer_enter : (source : Life) (v : Kept) → IsHeardEarly v → is_next_heard source v ≡ true → entering_in v source ≡ entering_in (enter_one source v) source + 1
fewer_enter source v h on =
    let heard = (v.peers source).heard in
    let next = (v.peers source).next in
    let w : Kept = enter_one source v in
    (elim (entering_in v source) as (λ c. entering_in v source ≡ c → c ≡ entering_in w source + 1) [
      | zero ↦ λ e. (let at : next + entering_in v source ≡ next = omega arith in
          let off : heard next ≡ false = ap heard (sym at) ∙ entering_stops source v h in
          let wrong : true ≡ false = sym on ∙ off in
          cc)
      | suc d ↦ λ e.
          let each : (k : ℕ) → k < d → (w.peers source).heard ((w.peers source).next + k) ≡ true = λ k less.
          heard_after source v k ∙ (let at : next + 1 + k ≡ next + suc k = omega arith in ap heard at ∙ run_heard v.early_count heard next (suc k) (omega arith)) in
          let stops : (w.peers source).heard ((w.peers source).next + d) ≡ false =
          heard_after source v d ∙ (let at : next + 1 + d ≡ next + entering_in v source = omega arith in ap heard at ∙ entering_stops source v h) in
          let count : entering_in w source ≡ d = run_is w.early_count (w.peers source).heard (w.peers source).next d each stops (heard_fit source d w (enters_heard source v h on) each) in
          omega arith
    ]) refl

-- the next message enters first
pub enters_next : (source : Life) (v : Kept) → IsOrderly v → IsHeardEarly v → is_next_heard source v ≡ true
    → (enter source v ≡ enter source (enter_one source v)) × (entering_in v source ≡ entering_in (enter_one source v) source + 1)
unfolding times
enters_next source v o h on =
    let w : Kept = enter_one source v in
    let fewer = fewer_enter source v h on in
    let count : entering_in v source ≡ suc (entering_in w source) = omega arith in (
      enters_times source v o ∙ ap (λ n. times n (enter_one source) v) count ∙ sym (enters_times source w (orderly_thinned v w (enters_thin source v) o)),
      fewer,
    )
