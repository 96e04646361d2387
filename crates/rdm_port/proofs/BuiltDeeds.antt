-- What built deeds say of the lives of a port.
use Rattle.std.proofs.Common.{◌≡◌, ◌≤◌, ◌+◌, Bool, true, false, cond, List, [], ◌∷◌, Option, Some, None, refl, ap, subst, arith}
use Rattle.std.specs.Prelude.{not, nat_le, is_some}
use Rattle.std.specs.List.{list_any}
use Rattle.std.proofs.lemmas.Bool.{eqb-true, eq-eqb, leb-true, le-leb, or_parts, and_parts, not-true}
use Rattle.rdm_num.specs.declared.numbers.Connid.{Connid}
use Rattle.rdm_num.specs.declared.numbers.Life.{Life}
use Rattle.rdm_num.specs.declared.request.SendReq.{SendReq}
use Rattle.rdm_pkt.specs.Choice.{eager_room}
use Rattle.rdm_pkt.proofs.EagerRoom.{eager_header_size}
use Rattle.rdm_model.specs.declared.job.Instr.TheVariants.{OpenLife, CloseLife}
use Rattle.rdm_model.specs.Deeds.{Deed, Did, open_after, open_life, is_connid, of_life}
use Rattle.rdm_model.specs.Notes.{opens}
use Rattle.rdm_model.specs.Beginnings.{Own}
use Rattle.rdm_model.specs.Jobs.{spans_length}
use Rattle.rdm_ep.specs.Eager.{FitsOnePacket, IsEager}
use Rattle.rdm_port.specs.Views.{PortView}
use Rattle.rdm_port.specs.Kept.{own_at}
use Rattle.rdm_port.specs.Machine.{header_size, is_built_send}
use Rattle.rdm_port.specs.Built.{AreBuilt, IsBuiltDeed}
use Rattle.rdm_num.proofs.Lives.{connid_is}

-- an identifier that is open is that one
pub open_is_that : (o : Option Connid) (connid : Connid) → is_connid o connid ≡ true → o ≡ Some connid
unfolding is_connid
open_is_that None connid h = cc
open_is_that (Some c) connid h = ap Some (connid_is c connid (eqb-true c.0 connid.0 h))

-- the open identifier is open
pub that_is_open : (connid : Connid) → is_connid (Some connid) connid ≡ true
unfolding is_connid
that_is_open connid = eq-eqb connid.0 connid.0 refl

-- built deeds are eager ones of each life
pub eager_of : (own : Connid → Own) (connid : Connid) (log : List Deed) → AreBuilt own log → IsEager (own connid) (of_life connid log)
unfolding of_life
eager_of own connid [] h = tt
eager_of own connid (d ∷ before) h =
    (elim (is_connid (open_life before) connid) as (λ b. is_connid (open_life before) connid ≡ b → IsEager (own connid) (cond b (d ∷ of_life connid before) (of_life connid before))) [
      | true ↦ λ e. (eager_of own connid before h.0, subst (λ (o : Option Connid). IsBuiltDeed own o before d) (open_is_that (open_life before) connid e) h.1)
      | false ↦ λ e. eager_of own connid before h.0
    ]) refl

-- a deed that does not open the life leaves it closed
stays_closed : (life : Life) (d : Deed) (was : Option Connid) → opens life d ≡ false → is_connid was life.connid ≡ false → is_connid (open_after was d) life.connid ≡ false
unfolding opens open_after is_connid
stays_closed life (Did (OpenLife connid)) was o h = o
stays_closed life (Did CloseLife) was o h = refl
stays_closed life _ was o h = h

-- a life that no deed opened
record IsUnopened (life : Life) (log : List Deed) : Type 0 where
  closed : is_connid (open_life log) life.connid ≡ false
  none : of_life life.connid log ≡ []

-- where no deed opened the life, it is not open and has no deeds
unopened : (life : Life) (log : List Deed) → list_any (opens life) log ≡ false → IsUnopened life log
unfolding open_life of_life is_connid
unopened life [] h = record { closed = refl; none = refl }
unopened life (d ∷ before) h =
    let parts = or_parts (opens life d) (list_any (opens life) before) h in
    let u = unopened life before parts.1 in
    let c = u.closed in
    record { closed = stays_closed life d (open_life before) parts.0 c; none = rw c u.none }

-- a life that no deed opened has no deeds
pub unopened_has_none : (life : Life) (log : List Deed) → list_any (opens life) log ≡ false → of_life life.connid log ≡ []
unopened_has_none life log h = (unopened life log h).none

-- the headers of a message in one packet are longest with a raw address
headers_fit : (tagged cq_data raw : Bool) → 8 + cond tagged 8 0 + cond cq_data 8 0 + cond raw 36 4 ≤ 44 + cond tagged 8 0 + cond cq_data 8 0
headers_fit tagged cq_data true = omega arith
headers_fit tagged cq_data false = omega arith

-- a send that is built fits one packet
pub room_fits : (v : PortView) (connid : Connid) (req : SendReq) → is_built_send v req ≡ true → FitsOnePacket (own_at v connid) req
unfolding own_at eager_room
room_fits v connid req h =
    let p = and_parts (not req.confirm) (nat_le (spans_length req.parts + header_size req) v.limits.mtu) h in (
      not-true req.confirm p.0,
      λ raw.
          let size = eager_header_size (is_some req.tag) (is_some req.cq_data) raw in
          let most = headers_fit (is_some req.tag) (is_some req.cq_data) raw in
          let room : spans_length req.parts + header_size req ≤ v.limits.mtu = leb-true (spans_length req.parts + header_size req) v.limits.mtu p.1 in
          le-leb (spans_length req.parts) _ (rw size (omega arith)),
    )
