use Rattle.std.proofs.Common.{◌≡◌, drop}
use Rattle.std.specs.List.{fold}
use Rattle.mr_load.specs.Naming.{as_conf, with_naming}
use Rattle.mr_load.proofs.naming.name_confs.Given as goal

abbrev pub invariant-loop-name : goal.invariant-loop-name
invariant-loop-name l = fold (with_naming as_conf) l.files.entries (drop l.name-index l.names) ≡ fold (with_naming as_conf) l.initial.files.entries l.names
