-- The limits of no run.
use Rattle.std.specs.Prelude.{[]}
use Rattle.mr_model.specs.declared.limits.Limits.{Limits}

abbrev pub no_limits : Limits
no_limits = record {
  entries = 1;
  unresolved = 1;
  controls = 1;
  phases = 0;
  packets = [];
  admins = [];
  devices = [];
}
