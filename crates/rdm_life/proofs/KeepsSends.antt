-- The sends that are kept are the live sends of the definitions, whatever a life does.
use Rattle.std.proofs.Common.{List, [], ◌∷◌, refl}
use Rattle.rdm_pkt.specs.declared.Packet.TheVariants.{Cts, Eor, Receipt}
use Rattle.rdm_model.specs.declared.job.Instr.TheVariants.{Insert, Send}
use Rattle.rdm_model.specs.Beginnings.{Own}
use Rattle.rdm_model.specs.Deeds.{Deed, Did, Pushed, Took, Spelled, Asks}
use Rattle.rdm_model.specs.Dues.{progress, live_of, live_sends}
use Rattle.rdm_model.specs.Sends.{sends}
use Rattle.rdm_law.proofs.Lives.Lives.{LifeLocal}
use Rattle.rdm_life.specs.Handling.{after}
use Rattle.rdm_life.specs.Kept.{Kept, nothing_kept}
use Rattle.rdm_life.specs.Keeps.{Keeps, KeepsSends}
use Rattle.rdm_life.proofs.SendsEnded.{end_sends_kept, receipt_sends_kept}
use Rattle.rdm_life.proofs.SendsForgotten.{insert_sends}
use Rattle.rdm_life.proofs.SendsGranted.{grant_sends_kept, ask_sends_kept}
use Rattle.rdm_life.proofs.SendsMade.{made_sends}
use Rattle.rdm_life.proofs.SendsPushed.{pushed_sends}
use Rattle.rdm_life.proofs.SendsQuiet.{quiet_sends}

-- before any deed
pub sends_start : (own : Own) → KeepsSends own [] (nothing_kept own)
unfolding live_sends live_of sends progress
sends_start own = record { sends_are = refl }

-- after a deed that the life may do
pub sends_step : (own : Own) (d : Deed) (log : List Deed) (v : Kept) → LifeLocal own (d ∷ log) → Keeps own log v → KeepsSends own (d ∷ log) (after d v)
sends_step own (Did (Insert life)) log v l k = insert_sends own life log v k.lives k.sends
sends_step own (Did (Send req)) log v l k = made_sends own log v req l k
sends_step own Pushed log v l k = pushed_sends own log v l k
sends_step own (Took from (Spelled (Cts send recv size connid))) log v l k = grant_sends_kept own log v from send recv size connid l.1 k.sends
sends_step own (Took from (Spelled (Eor send recv connid))) log v l k = end_sends_kept own log v from send recv connid l.1 k.sends
sends_step own (Took from (Spelled (Receipt number connid))) log v l k = receipt_sends_kept own log v from number connid l.1 k.sends
sends_step own (Took from (Asks ask)) log v l k = ask_sends_kept own log v from ask l.1 k.sends
sends_step own d log v l k = quiet_sends own d log v tt k.sends
