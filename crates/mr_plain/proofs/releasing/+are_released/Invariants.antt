use Rattle.std.proofs.Common.{length}
use Rattle.mr_plain.proofs.releasing.+are_released.Given as goal

abbrev pub decreases-are_released : goal.decreases-are_released
decreases-are_released l = length l.packets.now
