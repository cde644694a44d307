use Rattle.mr_one_text.proofs.Rooms.{legal_has_room}
use Rattle.mr_one_text.proofs.laws.legal_has_room.Goals as goal

pub returns : goal.returns
returns c = legal_has_room
