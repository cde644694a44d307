-- Reports (upcalls) of the kernel.
use Rattle.std.specs.Prelude.{true, Option, Some, None, [], ◌∷◌, ◌++◌}
use Rattle.mr_model.specs.declared.message.Kind.{Kind}
use Rattle.mr_model.specs.declared.message.Kind.TheVariants as kind
use Rattle.mr_model.specs.declared.message.Told.{Told}
use Rattle.mr_model.specs.declared.request.Request.{Request}
use Rattle.smc_rules.specs.Reports.{asked_for}
use Rattle.smc_rules.specs.declared.learned.Learned.{Learned}
use Rattle.smc_core.specs.Machine.{Machine, Turn, silent, with_plan}

-- The route is learned with its request, again where it is learned already.
abbrev pub learning : Machine → Option (Request × Learned) → Turn
learning m None = silent m
learning m (Some a) = record {
  machine = with_plan (record m { learned = m.learned ++ a.1 ∷ [] }) 1 true;
  requests = a.0 ∷ [];
  text = [];
}

-- NOCACHE; WRONGVIF and WHOLEPKT do nothing. No report has a text.
abbrev pub report_by : Kind → Machine → Told → Turn
report_by kind.NoCache m told = learning m (asked_for m.settings told)
report_by kind.WrongVif m told = silent m
report_by kind.WholePkt m told = silent m

abbrev pub report : Machine → Told → Turn
report m told = report_by told.kind m told
