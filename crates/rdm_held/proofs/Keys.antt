-- The keys of messages, as lives and numbers tell them apart.
use Rattle.std.proofs.Common.{◌≡◌, refl, sym, ap, ◌∙◌, Bool, ◌&&◌, Some, None}
use Rattle.std.specs.Prelude.{◌==◌, cond}
use Rattle.std.specs.Ordering.{nat_cmp, eq_by_cmp, ordering_then}
use Rattle.std.specs.Cmp.{both_tied, unsigned_ties}
use Rattle.std.specs.FinMap as map
use Rattle.rdm_num.specs.Lives.{same_life}
use Rattle.rdm_num.specs.declared.numbers.Life.{Life}
use Rattle.rdm_num.specs.declared.numbers.MsgNo.{MsgNo}
use Rattle.rdm_window.specs.Message.{Message}
use Rattle.rdm_window.specs.Early.{Held, message_order, key_of, message_at, with_message, without_message, is_of_life}
use Rattle.rdm_window.proofs.Messages.{message_order_total}

-- the life and the number are the same
abbrev pub is_at : Life → MsgNo → Life → MsgNo → Bool
is_at life number source at = same_life life source && number.0 == at.0

-- keys tie where lives and numbers are the same
pub key_tie : (life source : Life) (number at : MsgNo) → eq_by_cmp message_order (key_of life number) (key_of source at) ≡ is_at life number source at
unfolding same_life
key_tie life source number at =
    sym (both_tied
    (same_life life source)
    (number.0 == at.0)
    (ordering_then (nat_cmp life.port.0 source.port.0) (nat_cmp life.connid.0 source.connid.0))
    (nat_cmp number.0 at.0)
    (both_tied (life.port.0 == source.port.0) (life.connid.0 == source.connid.0) _ _ (unsigned_ties life.port.0 source.port.0) (unsigned_ties life.connid.0 source.connid.0))
    (unsigned_ties number.0 at.0))

-- a key is of a life where its life is
pub key_life : (life other : Life) (number : MsgNo) → is_of_life life (key_of other number) ≡ same_life other life
unfolding same_life
key_life life other number = refl

-- the messages after one was put in
pub at_with : (h : Held) (source : Life) (at : MsgNo) (m : Message) (life : Life) (number : MsgNo)
    → message_at (with_message h source at m) life number ≡ cond (is_at life number source at) (Some m) (message_at h life number)
at_with h source at m life number =
    map.get-insert message_order_total h.messages (key_of source at) m (key_of life number)
    ∙ ap (λ b. cond b (Some m) (message_at h life number)) (key_tie life source number at)

-- the messages after one was taken
pub at_without : (h : Held) (source : Life) (at : MsgNo) (life : Life) (number : MsgNo)
    → message_at (without_message h source at) life number ≡ cond (is_at life number source at) None (message_at h life number)
at_without h source at life number =
    map.get-remove message_order_total h.messages (key_of source at) (key_of life number)
    ∙ ap (λ b. cond b None (message_at h life number)) (key_tie life source number at)
