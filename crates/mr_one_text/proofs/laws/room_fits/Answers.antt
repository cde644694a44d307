use Rattle.mr_one_text.proofs.FewPackets.{room_fits}
use Rattle.mr_one_text.proofs.laws.room_fits.Goals as goal

pub returns : goal.returns
returns c = room_fits
