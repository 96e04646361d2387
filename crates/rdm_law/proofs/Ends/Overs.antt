-- How a send is over.
use Rattle.std.proofs.Common.{◌≡◌, Bool, true, false, cond, List, [], ◌∷◌, ◌++◌, length, refl, ◌⊎◌, inl, inr, sym, subst}
use Rattle.std.specs.Prelude.{◌||◌}
use Rattle.std.specs.List.{list_any}
use Rattle.std.proofs.lemmas.Bool.{or_right}
use Rattle.rdm_num.specs.Pieces.{covers}
use Rattle.rdm_pkt.specs.declared.Packet.{Packet}
use Rattle.rdm_model.specs.Deeds.{Deed}
use Rattle.rdm_model.specs.Currents.{is_forgotten}
use Rattle.rdm_model.specs.Sends.{Sent}
use Rattle.rdm_model.specs.Dues.{pieces_in, ends_send, confirms, is_read, is_pushed, is_complete, is_over}
use Rattle.rdm_model.proofs.SameReceives.{covers_more}
use Rattle.rdm_model.proofs.Opens.{pieces_in-append}

-- a send is complete by its end if it is read, by its receipt if it is confirmed, or else by what was pushed of it
abbrev pub CompleteBy : List Deed → List Packet → Sent → Type 0
CompleteBy log pushed s =
    ((is_read s.kind ≡ true) × (list_any (ends_send s.to s.number) log ≡ true))
    ⊎ (((is_read s.kind ≡ false) × (s.message.confirm ≡ true) × (list_any (confirms s.to s.message.no.0) log ≡ true))
    ⊎ ((is_read s.kind ≡ false) × (s.message.confirm ≡ false) × (is_pushed s pushed ≡ true)))

-- a send that is complete is so by one of these
pub complete_by : (log : List Deed) (pushed : List Packet) (s : Sent) → is_complete log pushed s ≡ true → CompleteBy log pushed s
unfolding is_complete
complete_by log pushed s h =
    let ended = list_any (ends_send s.to s.number) log in
    let confirmed = list_any (confirms s.to s.message.no.0) log in
    (elim (is_read s.kind) as (λ b. is_read s.kind ≡ b → cond b ended (cond s.message.confirm confirmed (is_pushed s pushed)) ≡ true → CompleteBy log pushed s) [
      | true ↦ λ r k. inl (r, k)
      | false ↦ λ r k. (elim s.message.confirm as (λ b. s.message.confirm ≡ b → cond b confirmed (is_pushed s pushed) ≡ true → CompleteBy log pushed s) [
        | true ↦ λ c x. inr (inl (r, c, x))
        | false ↦ λ c x. inr (inr (r, c, x))
      ]) refl k
    ]) refl h

-- and is complete where one of them holds
pub complete_from : (log : List Deed) (pushed : List Packet) (s : Sent) → CompleteBy log pushed s → is_complete log pushed s ≡ true
unfolding is_complete is_pushed
complete_from log pushed s (inl a) = rw a.0 a.1
complete_from log pushed s (inr (inl a)) = rw (a.0, a.1) a.2
complete_from log pushed s (inr (inr a)) = rw (a.0, a.1) a.2

-- a send to a life that was not forgotten is over once it is complete
pub over_by : (log : List Deed) (pushed : List Packet) (s : Sent) → is_over log pushed s ≡ true → is_forgotten log s.to ≡ false → CompleteBy log pushed s
unfolding is_over
over_by log pushed s h f = complete_by log pushed s (subst (λ b. (b || is_complete log pushed s) ≡ true) f h)

-- a send that is complete is over
pub over_from : (log : List Deed) (pushed : List Packet) (s : Sent) → CompleteBy log pushed s → is_over log pushed s ≡ true
unfolding is_over
over_from log pushed s h = or_right (is_forgotten log s.to) (is_complete log pushed s) (complete_from log pushed s h)

-- a read send is complete by its end
pub read_by : (log : List Deed) (pushed : List Packet) (s : Sent) → is_read s.kind ≡ true → CompleteBy log pushed s → list_any (ends_send s.to s.number) log ≡ true
read_by log pushed s r (inl a) = a.1
read_by log pushed s r (inr (inl a)) = (let x = a.0 in cc)
read_by log pushed s r (inr (inr a)) = (let x = a.0 in cc)

-- a pushed message stays so
pub pushed_still : (s : Sent) (ps more : List Packet) → is_pushed s ps ≡ true → is_pushed s (ps ++ more) ≡ true
unfolding is_pushed
pushed_still s [] more h = cc
pushed_still s (p ∷ ps) more h =
    subst (λ x. covers x (length s.message.bytes) ≡ true) (sym (pieces_in-append (p ∷ ps) more)) (covers_more (pieces_in (p ∷ ps)) (pieces_in more) (length s.message.bytes) h)
