-- The limits of a scenario that was loaded are such as the machine takes.
use Rattle.std.proofs.Common.{arith}
use Rattle.mr_base.specs.Outside.{Files}
use Rattle.mr_history.specs.Fits.{FitsLimits}
use Rattle.mr_load.specs.Loads.{IsLoaded}
use Rattle.mr_load.specs.declared.loading.Loaded.{Loaded}
use Rattle.mr_load.proofs.LawLimits.{limits_within}

pub limits_fit : (files : Files) (l : Loaded) → IsLoaded files l → FitsLimits l.limits
limits_fit files l i =
    let within = limits_within files l i in
    record {
      some_entries = omega (arith, within.some_entries);
      entries = omega (arith, within.entries);
      some_unresolved = omega (arith, within.some_unresolved);
      unresolved = omega (arith, within.unresolved);
      some_controls = omega (arith, within.some_controls);
      controls = omega (arith, within.controls);
      phases = omega (arith, within.phases);
      lanes = omega (arith, within.lanes);
      packets = omega (arith, within.packets);
      daemons = omega (arith, within.daemons);
      devices = omega (arith, within.devices);
    }
