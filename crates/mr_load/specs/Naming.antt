-- The files that a scenario names: configurations by its daemons, and traces by its lines.
use Rattle.std.specs.Prelude.{ℕ, ◌+◌, true, false, if◌then◌else◌, Option, Some, None, List, [], ◌∷◌, bytes_eq, fold}
use Rattle.mr_load.specs.declared.naming.Use.{Use}
use Rattle.mr_scenario.specs.declared.scenario.DaemonKind.{DaemonKind}
use Rattle.mr_scenario.specs.declared.scenario.DaemonKind.TheVariants.{Plain, Admin, Smc}
use Rattle.mr_scenario.specs.declared.scenario.Given.{Given}
use Rattle.mr_scenario.specs.declared.scenario.Given.TheVariants.{Bytes, Trace}
use Rattle.mr_scenario.specs.declared.scenario.Item.{Item}
use Rattle.mr_scenario.specs.declared.scenario.Scenario.{Scenario}

-- a file, and what it is named as: as a configuration, and by so many lines as a trace
abbrev pub Naming : Type 0
Naming = List ℕ × Use

abbrev pub as_conf : Use → Use
as_conf u = record u { conf = true }

abbrev pub as_trace : Use → Use
as_trace u = record u { lines = u.lines + 1 }

abbrev pub unused : Use
unused = record { conf = false; lines = 0 }

-- A file is named once more: its use changes where it stands, and a new file goes last.
abbrev pub with_naming : (Use → Use) → List Naming → List ℕ → List Naming
with_naming once [] file = (file, once unused) ∷ []
with_naming once (n ∷ ns) file =
    if bytes_eq file n.0 then (n.0, once n.1) ∷ ns else n ∷ with_naming once ns file

abbrev pub with_kind : List Naming → DaemonKind → List Naming
with_kind ns (Smc files) = fold (with_naming as_conf) ns files
with_kind ns Plain = ns
with_kind ns Admin = ns

abbrev pub with_given : List Naming → Given → List Naming
with_given ns (Bytes bs) = ns
with_given ns (Trace file) = with_naming as_trace ns file

abbrev pub named_on : List Naming → List Item → List Naming
named_on ns is = fold (λ ms i. with_given ms i.given) ns is

-- each file that the scenario names, in the order of their first naming: daemons stand before all phases
abbrev pub named_in : Scenario → List Naming
named_in s = fold (λ ns p. named_on ns p.items) (fold with_kind [] s.daemons) s.phases

-- what a map of the files gives as the use of a file
abbrev pub use_of : Option Use → Use
use_of None = unused
use_of (Some u) = u
