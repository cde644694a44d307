-- What the lines of a scenario ask of a routing machine.
use Rattle.std.specs.Prelude.{ℕ, ◌==◌, if◌then◌else◌, List, [], ◌∷◌, flat_map}
use Rattle.mr_scenario.specs.declared.scenario.Phase.{Phase}
use Rattle.mr_scenario.specs.declared.scenario.Script.{Script}
use Rattle.mr_scenario.specs.declared.scenario.Script.TheVariants as script
use Rattle.mr_scenario.specs.declared.scenario.ScriptLine.{ScriptLine}
use Rattle.smc_core.specs.Driving.{Line, Start, Poll, Tick, Command}

-- The other lines are for daemons without a machine.
abbrev pub driving : Script → List Line
driving script.Start = Start ∷ []
driving (script.Poll n) = Poll n ∷ []
driving (script.Tick ms) = Tick ms ∷ []
driving (script.Words words) = Command words ∷ []
driving s = []

abbrev pub of_daemon : ℕ → ScriptLine → List Line
of_daemon d l = if l.daemon.0 == d then driving l.script else []

-- those among these that are of a daemon, in order
abbrev pub lines_among : ℕ → List ScriptLine → List Line
lines_among d script = flat_map (of_daemon d) script

abbrev pub lines_in : ℕ → Phase → List Line
lines_in d p = lines_among d p.script
