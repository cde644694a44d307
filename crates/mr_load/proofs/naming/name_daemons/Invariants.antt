use Rattle.std.proofs.Common.{◌≡◌, drop}
use Rattle.std.specs.List.{fold}
use Rattle.mr_load.specs.Naming.{with_kind}
use Rattle.mr_load.proofs.naming.name_daemons.Given as goal

abbrev pub invariant-loop-kind : goal.invariant-loop-kind
invariant-loop-kind l = fold with_kind l.files.entries (drop l.kind-index l.kinds) ≡ fold with_kind l.initial.files.entries l.kinds
