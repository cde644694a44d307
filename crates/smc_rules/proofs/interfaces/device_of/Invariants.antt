use Rattle.std.proofs.Common.{◌≡◌, drop}
use Rattle.smc_rules.specs.Interfaces.{device_from}
use Rattle.smc_rules.proofs.interfaces.device_of.Given as goal

abbrev pub invariant-loop-device : goal.invariant-loop-device
invariant-loop-device l =
    device_from l.number l.name (drop l.device-index l.names) ≡ device_from 1 l.name l.names
