use Rattle.std.proofs.Common.{◌≡◌, ◌≤◌, ◌+◌, length}
use Rattle.mr_scenario.specs.Forms.{device_from}
use Rattle.mr_scenario.proofs.forms.device_of.Given as goal

abbrev pub invariant-devices : goal.invariant-devices
invariant-devices l = record {
  same : device_from l.number l.word l.rest ≡ device_from 1 l.word l.devices;
  bound : l.number + length l.rest ≤ 65;
}

abbrev pub decreases-devices : goal.decreases-devices
decreases-devices l = length l.rest
