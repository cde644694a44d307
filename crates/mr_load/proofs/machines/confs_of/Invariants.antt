use Rattle.std.proofs.Common.{◌≡◌, ◌++◌, drop}
use Rattle.mr_load.specs.Kept.{files_kept}
use Rattle.mr_load.proofs.machines.confs_of.Given as goal
use Rattle.smc_daemon.specs.Machines.{confs_in}

abbrev pub invariant-loop-name : goal.invariant-loop-name
invariant-loop-name l = l.confs.items ++ confs_in (files_kept l.kept.entries) (drop l.name-index l.names) ≡ confs_in (files_kept l.kept.entries) l.names
