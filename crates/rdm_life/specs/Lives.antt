-- Lives that are inserted, met and greeted.
use Rattle.std.specs.Prelude.{Bool, true, not, ◌&&◌, if◌then◌else◌, [], ◌∷◌, ◌++◌, Option, Some, is_none}
use Rattle.rdm_num.specs.declared.numbers.Life.{Life}
use Rattle.rdm_num.specs.declared.numbers.PortNo.{PortNo}
use Rattle.rdm_hdr.specs.Fields.{has_bit}
use Rattle.rdm_model.specs.Currents.{other_life}
use Rattle.rdm_model.specs.Replies.{reply, greeting, confirm_feature}
use Rattle.rdm_model.specs.Worlds.{put_at}
use Rattle.rdm_life.specs.Kept.{Kept, Peer, with_peer}
use Rattle.rdm_life.specs.Forgetting.{forget}

-- the life is the current one of its port
abbrev pub with_current : Life → Kept → Kept
with_current life v = record v { current = put_at life.port.0 (Some life) v.current }

-- a life is met, where it is so, and greeted where it was not met before
unfoldable pub greet : (is_met : Bool) → Life → (raw : Option PortNo) → Kept → Kept
greet is_met life raw v =
    record (with_peer life (λ (p : Peer). record p { met = if is_met then true else p.met }) v) {
      owed = v.owed ++ (if is_met && not (v.peers life).met then reply life (greeting v.own raw) ∷ [] else []);
    }

-- the life is current, and one whose place it takes is forgotten; an own life that can confirm greets it by the raw address
unfoldable pub after_insert : Life → Kept → Kept
after_insert life v =
    greet (has_bit confirm_feature v.own.features) life (Some v.own.life.port) (with_current life (forget (other_life life (v.current life.port.0)) v))

-- the first life of a port that something comes from is current
unfoldable pub with_source : Life → Kept → Kept
with_source life v = record v { current = if is_none (v.current life.port.0) then put_at life.port.0 (Some life) v.current else v.current }
