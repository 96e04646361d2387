-- What a right report of a fair job says.
use Rattle.std.proofs.Common.{List, [], ◌∷◌, ◌++◌, subst}
use Rattle.std.specs.Prelude.{IsTrue}
use Rattle.rdm_model.specs.declared.job.Job.{Job}
use Rattle.rdm_model.specs.declared.entry.Entry.{Entry}
use Rattle.rdm_model.specs.Jobs.{is_fair, law_ops}
use Rattle.rdm_model.specs.Lawful.{Lawful}
use Rattle.rdm_model.specs.Wire.{Wire}
use Rattle.rdm_law.specs.Law.{Completes}
use Rattle.rdm_law.specs.Matched.{MatchesPlainly}
use Rattle.rdm_law.specs.Confirmed.{ConfirmedAfterReceived}
use Rattle.rdm_law.specs.Headline.{Headline}
use Rattle.rdm_law.proofs.Classes.ClassLives.{AllFree}
use Rattle.rdm_law.proofs.Central.LawfulPlayed.{lawful_order, lawful_played}
use Rattle.rdm_law.proofs.Matching.Merges.{plainly_paired}
use Rattle.rdm_law.proofs.Matching.ComesAsSent.{comes_as_sent}
use Rattle.rdm_law.proofs.Accounts.SendsAre.{sends_are}
use Rattle.rdm_law.proofs.Ends.PolledEnded.{polled_as_ended}
use Rattle.rdm_law.proofs.Ends.PolledOnce.{polled_once}
use Rattle.rdm_law.proofs.Ends.MessageOnce.{message_once}
use Rattle.rdm_law.proofs.Refusals.DroppedOnly.{lawful_at}
use Rattle.rdm_law.proofs.Central.PolledConfirmed.{confirmed_when_polled}
use Rattle.rdm_law.proofs.Refusals.Counted.{drops_are_other, counts_drops, again_where_full}

-- the wire of a lawful history delivers once
pub lawful_wire : (job : Job) (history : List Entry) → Lawful job history → Wire history
lawful_wire job [] l = tt
lawful_wire job (e ∷ before) l = (lawful_wire job before l.0, l.2)

-- the plain matcher makes the pairs, of what was sent
matches_plainly : (job : Job) (history : List Entry) → IsTrue (is_fair law_ops job) → AllFree job → Lawful job history → MatchesPlainly job history
matches_plainly job history fair free lawful =
    let played = lawful_played job history fair free lawful in
    record { pairs_are = plainly_paired job history; come = comes_as_sent job history played (sends_are job history played) }

-- a confirmed send completes after its receive
confirmed_after_received : (job : Job) (history : List Entry) → Lawful job history → ConfirmedAfterReceived job history
confirmed_after_received job history lawful newer e before split = (lawful_at job newer e before (subst (Lawful job) split lawful)).5

-- the headline, where what settles is complete and what arrives passes each test
pub headline_where : ((job : Job) → IsTrue (is_fair law_ops job) → AllFree job) → Completes → Headline
headline_where free completes job report fair right =
    record {
      in_order = lawful_order job report.history right.lawful;
      wire = lawful_wire job report.history right.lawful;
      matched = matches_plainly job report.history fair (free job fair) right.lawful;
      polled = polled_as_ended job report.history fair (free job fair) right.lawful;
      polled_once = polled_once job report.history fair (free job fair) right.lawful;
      message_once = message_once job report.history fair (free job fair) right.lawful;
      confirmed = confirmed_after_received job report.history right.lawful;
      confirmed_polls = confirmed_when_polled job report.history fair (free job fair) right.lawful;
      drops = drops_are_other job report.history fair right.lawful;
      counted = counts_drops job report right;
      again = again_where_full job report right;
      ends = completes job report.history fair right.lawful right.settled;
    }
