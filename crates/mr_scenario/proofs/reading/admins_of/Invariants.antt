use Rattle.std.proofs.Common.{◌≡◌, ◌++◌, drop, map}
use Rattle.mr_scenario.specs.Spelled.{is_admin_kind}
use Rattle.mr_scenario.proofs.reading.admins_of.Given as goal

abbrev pub invariant-loop-kind : goal.invariant-loop-kind
invariant-loop-kind l = l.admins.items ++ map is_admin_kind (drop l.kind-index l.daemons) ≡ map is_admin_kind l.daemons
