-- What the grants of one receive come to.
use Rattle.std.proofs.Common.{◌≡◌, ℕ, zero, suc, ◌+◌, Bool, true, false, [], ◌∷◌, Option, Some, None, refl, arith}
use Rattle.std.specs.Prelude.{nat_lt, sum_by, slice_get, option_map}
use Rattle.std.proofs.lemmas.List.Sums.{sum_by-cons}
use Rattle.std.proofs.lemmas.Bool.Decides.{nat_tests}
use Rattle.rdm_num.specs.declared.numbers.Connid.{Connid}
use Rattle.rdm_num.specs.declared.numbers.OpId.{OpId}
use Rattle.rdm_num.specs.declared.limits.EpLimits.{EpLimits}
use Rattle.rdm_num.specs.declared.head.Head.{Head}
use Rattle.rdm_num.specs.declared.head.Shape.{Shape}
use Rattle.rdm_num.specs.declared.head.Shape.TheVariants.{Eager, Medium, LongCts, LongRead, Runt}
use Rattle.rdm_pkt.specs.declared.Packet.{Packet}
use Rattle.rdm_pkt.specs.declared.Packet.TheVariants.{Cts}
use Rattle.rdm_model.specs.Beginnings.{Own, no_limits}
use Rattle.rdm_model.specs.Deeds.{Spelled}
use Rattle.rdm_model.specs.Grants.{window_of}
use Rattle.rdm_model.specs.Replies.{grant_for}
use Rattle.rdm_rx.specs.Receiving.{ReceivingView, window_if, granted_if}
use Rattle.rdm_rx.specs.Laws.{size_granted, GrantCall, WindowsFollow, GrantsStayWithin}
use Rattle.rdm_rx.proofs.Windows.{next_within}

-- no packet grants no byte
nothing_granted : (packet : Option Packet) → option_map Spelled packet ≡ None → size_granted packet ≡ 0
unfolding size_granted
nothing_granted None e = refl
nothing_granted (Some p) e = absurd (cc)

-- the packet that grants bytes grants all of them
some_granted : (send recv : OpId) (size : ℕ) (connid : Connid) (packet : Option Packet) → option_map Spelled packet ≡ Some (Spelled (Cts send recv size connid)) → size_granted packet ≡ size
unfolding size_granted
some_granted send recv size connid None e = absurd (cc)
some_granted send recv size connid (Some p) e =
    let a : p ≡ Cts send recv size connid = cc in
    rw a refl

-- the packet that grants a long message's window grants all of it
long_granted : (own : Own) (send recv : OpId) (credits size : ℕ) (packet : Option Packet) → option_map Spelled packet ≡ slice_get (grant_for own (LongCts send credits) recv size) 0 → size_granted packet ≡ size
unfolding grant_for
long_granted own send recv credits zero packet e = nothing_granted packet e
long_granted own send recv credits (suc n) packet e =
    let t : nat_lt 0 (suc n) ≡ true = grind (arith, nat_tests) in
    some_granted send recv (suc n) own.life.connid packet (rw t at e)

-- the packet that grants a window grants all of it
window_granted : (own : Own) (limits : EpLimits) (head : Head) (shape : Shape) (recv : OpId) (granted : ℕ) (packet : Option Packet) → option_map Spelled packet ≡ slice_get (grant_for own shape recv (window_of limits head shape granted)) 0 → size_granted packet ≡ window_of limits head shape granted
unfolding grant_for window_of
window_granted own limits head Eager recv granted packet e = nothing_granted packet e
window_granted own limits head Medium recv granted packet e = nothing_granted packet e
window_granted own limits head (LongCts send credits) recv granted packet e = long_granted own send recv credits _ packet e
window_granted own limits head (LongRead send iov) recv granted packet e = nothing_granted packet e
window_granted own limits head (Runt send iov runt) recv granted packet e = nothing_granted packet e

-- where nothing is granted, no packet is
no_window : (own : Own) (shape : Shape) (recv : OpId) (packet : Option Packet) → option_map Spelled packet ≡ slice_get (grant_for own shape recv 0) 0 → size_granted packet ≡ 0
unfolding grant_for
no_window own Eager recv packet e = nothing_granted packet e
no_window own Medium recv packet e = nothing_granted packet e
no_window own (LongCts send credits) recv packet e = nothing_granted packet e
no_window own (LongRead send iov) recv packet e = nothing_granted packet e
no_window own (Runt send iov runt) recv packet e = nothing_granted packet e

-- so does that of the next window
next_granted : (own : Own) (landed : Bool) (limits : EpLimits) (r : ReceivingView) (packet : Option Packet) → option_map Spelled packet ≡ slice_get (grant_for own r.head.shape r.recv (window_if landed limits r)) 0 → size_granted packet ≡ window_if landed limits r
unfolding window_if
next_granted own true limits r packet e = window_granted own limits r.head r.head.shape r.recv r.granted packet e
next_granted own false limits r packet e = no_window own r.head.shape r.recv packet e

-- a life with that identifier
abbrev some_own : Connid → Own
some_own connid = record { life = record { port = record { 0 = 0 }; connid = connid }; features = 0; limits = no_limits }

pub windows_follow : WindowsFollow
windows_follow own limits r [] last h =
    let a : r.granted + sum_by (λ (c : GrantCall). size_granted c.packet) [] ≡ r.granted = omega arith in
    rw (a, h) refl
windows_follow own limits r (c ∷ cs) last (p, h) =
    let s = next_granted (some_own own) c.landed limits r c.packet ((p (some_own own) refl).0) in
    let l = sum_by-cons (λ (d : GrantCall). size_granted d.packet) c cs in
    let t = windows_follow own limits (granted_if c.landed limits r) cs last h in
    let a : r.granted + sum_by (λ (d : GrantCall). size_granted d.packet) (c ∷ cs) ≡ r.granted + window_if c.landed limits r + sum_by (λ (d : GrantCall). size_granted d.packet) cs = omega (arith, s, l) in
    rw a t

pub grants_stay_within : GrantsStayWithin
grants_stay_within own limits r [] last h w = rw h w
grants_stay_within own limits r (c ∷ cs) last (p, h) w =
    let n = next_within c.landed limits r in
    grants_stay_within own limits (granted_if c.landed limits r) cs last h (omega (arith, n, w))
