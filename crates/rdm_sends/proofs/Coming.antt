-- What room for an ask leaves, and that its bytes are of the message.
use Rattle.std.proofs.Common.{◌≡◌, ◌∙◌, Bool, false, List, ap, length-append, length-drop, ℕ, ◌+◌, ◌-◌, ◌≤◌, length, sym, subst, arith}
use Rattle.rdm_wire.specs.declared.ReadAsk.{ReadAsk}
use Rattle.std.proofs.lemmas.List.{length-replicate, length-take}
use Rattle.rdm_gaps.specs.Places.{with_range}
use Rattle.rdm_tx.specs.Asks.{Asks, with_room, with_reserved_ask}
use Rattle.rdm_sends.specs.declared.protocol.Protocol.{Protocol}
use Rattle.rdm_sends.specs.declared.protocol.Protocol.TheVariants.{Whole, Granted, Read}
use Rattle.rdm_sends.specs.Sending.{length_by}
use Rattle.rdm_sends.specs.Coming.{TakesAsk, HasAskRoom, asks_changed}

-- an ask that may be may still be, and there is room for it
pub asks_in_room : (ask : ReadAsk) (p q : Protocol) → TakesAsk ask p → q ≡ asks_changed with_room p → TakesAsk ask q × HasAskRoom q
unfolding asks_changed
asks_in_room ask Whole q t e = elim t [ ]
asks_in_room ask (Granted g) q t e = elim t [ ]
asks_in_room ask (Read a) q t e = subst (λ (r : Protocol). TakesAsk ask r × HasAskRoom r) (sym e) (t, omega arith)

-- the bytes are of the message
pub ask_within : (ask : ReadAsk) (p : Protocol) (total : ℕ) → TakesAsk ask p → ask.at + ask.length ≤ length_by total p
unfolding length_by
ask_within ask Whole total t = elim t [ ]
ask_within ask (Granted g) total t = elim t [ ]
ask_within ask (Read a) total t =
    let from : a.from ≤ ask.at = t.1 in
    let there : (ask.at - a.from) + ask.length ≤ length a.unasked.places = t.2.0 in
    omega arith

-- places that are taken are no fewer
length_taken : (places : List Bool) (off len : ℕ) → off + len ≤ length places → length (with_range false off len places) ≡ length places
length_taken places off len h = simp (length-append, length-take, length-replicate, length-drop) (omega arith)

-- an ask leaves the length
pub asked_whole : (ask : ReadAsk) (a new : Asks) (p : Protocol) (total : ℕ) → new ≡ with_reserved_ask a ask → p ≡ Read a → TakesAsk ask p → length_by total (Read new) ≡ length_by total p
unfolding length_by
asked_whole ask a new p total h i t =
    let may : TakesAsk ask (Read a) = subst (λ (q : Protocol). TakesAsk ask q) i t in
    ap (λ (k : Asks). length_by total (Read k)) h
    ∙ ap (λ (n : ℕ). a.from + n) (length_taken a.unasked.places (ask.at - a.from) ask.length may.2.0)
    ∙ sym (ap (λ (q : Protocol). length_by total q) i)
