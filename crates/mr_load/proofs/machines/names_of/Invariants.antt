use Rattle.std.proofs.Common.{◌≡◌, ◌++◌, drop, map}
use Rattle.mr_load.proofs.machines.names_of.Given as goal

abbrev pub invariant-loop-device : goal.invariant-loop-device
invariant-loop-device l = l.names.items ++ map (λ device. device.name) (drop l.device-index l.devices) ≡ map (λ device. device.name) l.devices
