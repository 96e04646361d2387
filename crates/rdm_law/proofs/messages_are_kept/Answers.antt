use Rattle.rdm_law.proofs.messages_are_kept.Goals as goal
use Rattle.rdm_law.proofs.Classes.ClassFree.{all_free}
use Rattle.rdm_law.proofs.Matching.EntersInOrder.{enter_in_order}
use Rattle.rdm_law.proofs.Matching.MatchedOnce.{matched_once}
use Rattle.rdm_law.proofs.Matching.ComesAsSent.{comes_as_sent}
use Rattle.rdm_law.proofs.Accounts.SendsAre.{sends_are}
use Rattle.rdm_law.proofs.Central.LawfulPlayed.{lawful_played}
use Rattle.rdm_law.proofs.Ends.PolledWas.{polled_was_sent}
use Rattle.rdm_law.proofs.Ends.PolledEnded.{polled_as_ended}
use Rattle.rdm_law.proofs.Ends.PolledOnce.{polled_once}
use Rattle.rdm_law.proofs.Ends.MessageOnce.{message_once}

pub returns-clause-in_order : goal.returns-clause-in_order
returns-clause-in_order c = enter_in_order

pub returns-clause-once : goal.returns-clause-once
returns-clause-once c = matched_once

pub returns-clause-as_sent : goal.returns-clause-as_sent
returns-clause-as_sent c job history fair lawful = polled_was_sent job history fair (all_free job) lawful

pub returns-clause-comes : goal.returns-clause-comes
returns-clause-comes c job history fair lawful =
    let played = lawful_played job history fair (all_free job) lawful in
    comes_as_sent job history played (sends_are job history played)

pub returns-clause-ended : goal.returns-clause-ended
returns-clause-ended c job history fair lawful = polled_as_ended job history fair (all_free job) lawful

pub returns-clause-polled_once : goal.returns-clause-polled_once
returns-clause-polled_once c job history fair lawful =
    (polled_once job history fair (all_free job) lawful, message_once job history fair (all_free job) lawful)
