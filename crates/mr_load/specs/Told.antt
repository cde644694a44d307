-- The files of a store, as what is said of a scenario and its files takes them.
use Rattle.std.specs.Prelude.{◌≡◌, Option, IfSome}
use Rattle.mr_base.specs.Outside.{Files}

-- These are the files of the store where it tells, and may be any files where it does not.
abbrev pub IsTold : Option Files → Files → Type 0
IsTold told files = IfSome told (λ its. its ≡ files)
