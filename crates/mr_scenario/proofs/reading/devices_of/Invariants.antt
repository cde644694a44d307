use Rattle.std.proofs.Common.{◌≡◌, ◌++◌, drop, map}
use Rattle.mr_scenario.specs.Spelled.{address_only}
use Rattle.mr_scenario.proofs.reading.devices_of.Given as goal

abbrev pub invariant-loop-device : goal.invariant-loop-device
invariant-loop-device l = l.list.items ++ map address_only (drop l.device-index l.devices) ≡ map address_only l.devices
