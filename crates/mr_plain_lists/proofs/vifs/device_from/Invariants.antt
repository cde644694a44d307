use Rattle.std.proofs.Common.{◌≡◌, ◌+◌, drop}
use Rattle.mr_model.specs.VifList.{device_from}
use Rattle.mr_plain_lists.proofs.vifs.device_from.Given as goal

abbrev pub invariant-loop-d : goal.invariant-loop-d
invariant-loop-d l = record {
  counts : l.number ≡ l.d-index + 1;
  same : device_from l.number (drop l.d-index l.devices) l.address ≡ device_from 1 l.devices l.address;
}
