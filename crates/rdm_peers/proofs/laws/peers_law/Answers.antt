use Rattle.rdm_peers.proofs.ShownLaws.{nobody_shows, opening_shows, room_shows, meeting_shows, passing_shows, answering_shows, learning_shows, numbering_shows, hearing_shows, forgetting_shows}
use Rattle.rdm_peers.proofs.laws.peers_law.Goals as goal

pub returns : goal.returns
returns c =
    record {
      nobody = nobody_shows;
      opening = opening_shows;
      room = room_shows;
      meeting = meeting_shows;
      passing = passing_shows;
      answering = answering_shows;
      learning = learning_shows;
      numbering = numbering_shows;
      hearing = hearing_shows;
      forgetting = forgetting_shows;
    }
