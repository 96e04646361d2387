-- Grants of a live send are grants of the record's.
use Rattle.std.proofs.Common.{◌≡◌, ℕ, ◌-◌, Bool, true, length, Option, Some, None, refl, sym, ap, ◌∙◌}
use Rattle.std.specs.Prelude.{nat_lt, not, ◌&&◌, ◌||◌, IsSome}
use Rattle.rdm_lists.specs.Lists.{or_else}
use Rattle.rdm_model.specs.Targets.{is_long}
use Rattle.rdm_tx.specs.Granting as G
use Rattle.rdm_tx.specs.Granting.{Granting, is_other_number}
use Rattle.rdm_life.specs.Kept.{LiveSend}
use Rattle.rdm_life.specs.Facts.{is_wrong_for, is_other_number as is_other}
use Rattle.rdm_life.specs.Sending as life
use Rattle.rdm_sends.specs.declared.protocol.Protocol.{Protocol}
use Rattle.rdm_sends.specs.declared.protocol.Protocol.TheVariants.{Whole, Granted, Read}
use Rattle.rdm_sends.specs.Coming.{takes_grant, granted_more}
use Rattle.rdm_sent.specs.Shows.{IsProtocol}
use Rattle.rdm_sent.specs.Laws.{MayBeGranted, GrantsAsKept}
use Rattle.rdm_sent.proofs.Openers.{read_not_long, long_is}

-- the number is another one
other_same : (n : ℕ) (o : Option ℕ) → is_other_number n o ≡ is_other n o
unfolding is_other_number is_other
other_same n None = refl
other_same n (Some m) = refl

-- whether it takes a grant, by its protocol
taken_by : (p : Protocol) (s : LiveSend) (recv size : ℕ) → IsProtocol p s → takes_grant recv size p ≡ (is_long s.sent.kind && not (is_wrong_for recv size s))
unfolding takes_grant is_wrong_for
taken_by Whole s recv size i = sym (ap (λ (b : Bool). b && not (is_wrong_for recv size s)) i.1)
taken_by (Granted g) s recv size i =
    ap (λ (h : Granting). not (G.is_wrong_for recv size h)) i.1
    ∙ ap (λ (b : Bool). not (nat_lt (length s.sent.message.bytes - s.allowed) size || b)) (other_same recv s.granted_by)
    ∙ sym (ap (λ (b : Bool). b && not (is_wrong_for recv size s)) (ap is_long i.0 ∙ long_is))
taken_by (Read a) s recv size i = sym (ap (λ (b : Bool). b && not (is_wrong_for recv size s)) (read_not_long s.sent.kind i.0))

pub may_be_granted : MayBeGranted
may_be_granted x s recv size i = taken_by x.protocol s recv size i.protocol

-- a receive is named once one has granted
named : (o : Option ℕ) (recv : ℕ) → IsSome (or_else o (Some recv))
unfolding or_else
named None recv = refl
named (Some n) recv = refl

-- a grant, by its protocol
grant_by : (p : Protocol) (s : LiveSend) (recv size : ℕ) → IsProtocol p s → takes_grant recv size p ≡ true → IsProtocol (granted_more recv size p) (life.with_grant recv size s)
unfolding takes_grant granted_more
grant_by Whole s recv size i t = cc
grant_by (Granted g) s recv size i t = (i.0, ap (G.with_grant recv size) i.1, λ less. named s.granted_by recv)
grant_by (Read a) s recv size i t = cc

pub grants_as_kept : GrantsAsKept
grants_as_kept x s recv size i t =
    record { to = i.to; message = i.message; parts = i.parts; total = i.total; ranges = i.ranges; given = i.given; protocol = grant_by x.protocol s recv size i.protocol t }
