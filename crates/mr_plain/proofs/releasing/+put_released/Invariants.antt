use Rattle.std.proofs.Common.{length}
use Rattle.mr_plain.proofs.releasing.+put_released.Given as goal

abbrev pub decreases-put_released : goal.decreases-put_released
decreases-put_released l = length l.packets.now
