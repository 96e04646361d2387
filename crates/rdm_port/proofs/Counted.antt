-- What a port keeps says of its log what the definitions say, in each job of which the port is one.
use Rattle.std.proofs.Common.{◌≡◌, ℕ, List, [], ◌∷◌, Option, Some, None, refl, ap, ◌∙◌, sym, subst}
use Rattle.std.specs.Prelude.{nat_le, slice_get}
use Rattle.rdm_num.specs.declared.numbers.Connid.{Connid}
use Rattle.rdm_model.specs.declared.job.Job.{Job}
use Rattle.rdm_model.specs.declared.job.Rank.{Rank}
use Rattle.rdm_model.specs.declared.entry.Entry.{Entry}
use Rattle.rdm_model.specs.declared.entry.Act.{Act}
use Rattle.rdm_model.specs.Deeds.{deeds, open_life, of_life}
use Rattle.rdm_model.specs.Beginnings.{own_of, life_at}
use Rattle.rdm_model.specs.Scenes.{deeds_at}
use Rattle.rdm_model.specs.Local.{own_scene}
use Rattle.rdm_model.specs.Steps.{clock, stamp_after, count, nexts_by}
use Rattle.rdm_model.specs.Settled.{instruction_left, is_worn}
use Rattle.rdm_ep.specs.View.{EndpointView}
use Rattle.rdm_ep.specs.Keeps.{Keeps}
use Rattle.rdm_ep.specs.Answers.{life_scene}
use Rattle.rdm_ep.proofs.OpenLife.{open_scene}
use Rattle.rdm_port.specs.Views.{PortView, IsPortOf, scene_at, logged}
use Rattle.rdm_port.specs.Kept.{Kept, IsKept, IsOpen, KeepsLife, clock_in, deeds_of, own_at, entry_of, with_log}

-- the clock
clock_by : (job : Job) (start : ℕ) (log : List Entry) → start ≡ job.clock → clock job log ≡ clock_in start log
unfolding clock clock_in
clock_by job start [] e = sym e
clock_by job start (x ∷ log) e = refl

-- the clock of the port
pub clock_is : (job : Job) (v : PortView) (k : Kept) → IsPortOf job v → IsKept v k → clock job v.log ≡ k.clock
clock_is job v k p h = clock_by job v.start v.log p.start_is ∙ sym h.clock

-- the clock is at its end
pub worn_is : (job : Job) (v : PortView) (k : Kept) → IsPortOf job v → IsKept v k → is_worn job v.log ≡ nat_le 9223372036854775807 k.clock
unfolding is_worn
worn_is job v k p h = ap (nat_le 9223372036854775807) (clock_is job v k p h)

-- the deeds of the port
pub deeds_are : (job : Job) (v : PortView) → IsPortOf job v → deeds_at job v.number v.log ≡ deeds_of v
unfolding deeds_at deeds_of
deeds_are job v p = ap (λ (r : Rank). deeds r.ops v.log) (sym p.rank_is)

-- the instruction that is next
pub left_is : (job : Job) (v : PortView) (k : Kept) → IsPortOf job v → IsKept v k → instruction_left job v.number v.log ≡ slice_get v.rank.ops k.done
unfolding instruction_left
left_is job v k p h = ap (λ (r : Rank). slice_get r.ops (count nexts_by v.log)) (sym p.rank_is) ∙ ap (slice_get v.rank.ops) (sym h.done)

-- what the endpoint of a life begins with
pub own_is : (job : Job) (v : PortView) (connid : Connid) → IsPortOf job v → own_of job (life_at v.number (Some connid)) ≡ own_at v connid
unfolding own_of life_at own_at
own_is job v connid p = let r = p.rank_is in let l = p.limits_are in rw (r, l) refl

-- an entry of the port, by the definitions and by its own clock
pub logged_is : (job : Job) (v : PortView) (k : Kept) (act : Act) → IsPortOf job v → IsKept v k
    → logged job v act ≡ with_log v (entry_of v (stamp_after k.clock act) act ∷ v.log)
unfolding logged
logged_is job v k act p h = ap (λ (n : ℕ). with_log v (entry_of v (stamp_after n act) act ∷ v.log)) (clock_is job v k p h)

-- the scene of the port while a life is open
pub scene_is : (job : Job) (v : PortView) (connid : Connid) → IsPortOf job v → open_life (deeds_of v) ≡ Some connid
    → scene_at job v ≡ life_scene v.ports (own_at v connid) (deeds_of v) (of_life connid (deeds_of v))
unfolding scene_at
scene_is job v connid p e =
    let d = deeds_are job v p in
    let o = own_is job v connid p in
    let n = p.ports_are in
    ap (own_scene job v.number) d ∙ open_scene job v.number (deeds_of v) connid e ∙ rw (o, n) refl

-- what is known of the port while a life is open
pub record OpenFacts (v : PortView) (k : Kept) (connid : Connid) (e : EndpointView) : Type 0 where
  pub open_is : open_life (deeds_of v) ≡ Some connid
  pub own_is : e.own ≡ own_at v connid
  pub keeps : Keeps (of_life connid (deeds_of v)) e

-- the endpoint is the one of the life that the log says to be open
facts_by : (v : PortView) (k : Kept) (o : Option Connid) (e : EndpointView) → open_life (deeds_of v) ≡ o → IsOpen v o (Some e) → KeepsLife (deeds_of v) o (Some e)
    → (connid : Connid) × OpenFacts v k connid e
facts_by v k None e q i h = elim i [ ]
facts_by v k (Some connid) e q i h = (connid, record { open_is = q; own_is = i; keeps = h })

-- where an endpoint is kept, its life is open
pub open_facts : (v : PortView) (k : Kept) (e : EndpointView) → IsKept v k → k.endpoint ≡ Some e → (connid : Connid) × OpenFacts v k connid e
open_facts v k e h q =
    facts_by v k (open_life (deeds_of v)) e refl (subst (IsOpen v (open_life (deeds_of v))) q h.open_is)
    (subst (KeepsLife (deeds_of v) (open_life (deeds_of v))) q h.keeps)

-- none is open where no endpoint is kept
none_by : (v : PortView) (o : Option Connid) → IsOpen v o None → o ≡ None
none_by v None i = refl
none_by v (Some connid) i = elim i [ ]

-- where no endpoint is kept, no life is open
pub none_open : (v : PortView) (k : Kept) → IsKept v k → k.endpoint ≡ None → open_life (deeds_of v) ≡ None
none_open v k h q = none_by v (open_life (deeds_of v)) (subst (IsOpen v (open_life (deeds_of v))) q h.open_is)
