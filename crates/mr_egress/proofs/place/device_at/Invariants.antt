use Rattle.std.proofs.Common.{◌≡◌, ◌≤◌, ◌+◌, length}
use Rattle.mr_model.specs.VifList.{device_from}
use Rattle.mr_egress.proofs.place.device_at.Given as goal

abbrev pub invariant-devices : goal.invariant-devices
invariant-devices l = record {
  same : device_from l.number l.rest l.addr ≡ device_from 1 l.devices l.addr;
  bound : l.number + length l.rest ≤ 65;
}

abbrev pub decreases-devices : goal.decreases-devices
decreases-devices l = length l.rest
