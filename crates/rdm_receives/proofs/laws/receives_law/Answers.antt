use Rattle.rdm_receives.proofs.Showing.{new_shows, message_shows, room_shows, fill_shows}
use Rattle.rdm_receives.proofs.laws.receives_law.Goals as goal

pub returns-clause-new : goal.returns-clause-new
returns-clause-new c = new_shows

pub returns-clause-message : goal.returns-clause-message
returns-clause-message c = message_shows

pub returns-clause-room : goal.returns-clause-room
returns-clause-room c = room_shows

pub returns-clause-fill : goal.returns-clause-fill
returns-clause-fill c = fill_shows
