-- `start` and `reload`.
use Rattle.std.specs.Prelude.{ℕ, ◌+◌, true, nat_lt, if◌then◌else◌, Result, Ok}
use Rattle.std.specs.Prelude.{List, [], ◌∷◌, ◌++◌, length, slice_get}
use Rattle.mr_words.specs.Binds.{◌>>=◌}
use Rattle.mr_model.specs.declared.request.Request.TheVariants as request
use Rattle.smc_rules.specs.Settings.{settings_of, makings, clearings}
use Rattle.smc_words.specs.Words.{Word}
use Rattle.smc_core.specs.Machine.{Machine, Turn, asking}
use Rattle.smc_core.specs.Mistakes.{wants}
use Rattle.smc_core.specs.Ranges.{is_none_behind}
use Rattle.smc_core.specs.declared.mistake.Mistake.{Mistake}
use Rattle.smc_core.specs.declared.mistake.Mistake.TheVariants as mistake

-- A configuration takes the place of all interfaces, rules and groups.
abbrev pub taking : Machine → ℕ → Machine
taking m place = record m {
  place = place;
  settings = settings_of m.names (slice_get m.confs place);
}

-- the next configuration; behind the last one it is the last one again
abbrev pub next_place : Machine → ℕ
next_place m = if nat_lt (m.place + 1) (length m.confs) then m.place + 1 else m.place

-- `start`: Init, then vifs and routes; the machine is running, whatever the replies
abbrev pub start : Machine → List Word → Result Turn Mistake
start m ws = do
  _ ← wants (is_none_behind ws) mistake.Usage
  Ok (asking (record m { running = true }) (request.Init ∷ makings m.settings))

abbrev pub reloaded : Machine → Machine
reloaded m = taking (record m { learned = [] }) (next_place m)

-- all is removed, and then made as the next configuration says
abbrev pub reloading : Machine → Turn
reloading m =
    asking (reloaded m) (clearings m.settings m.learned ++ makings (reloaded m).settings)

-- `reload`: the next configuration is taken
abbrev pub reload : Machine → List Word → Result Turn Mistake
reload m ws = do
  _ ← wants (is_none_behind ws) mistake.Usage
  Ok (reloading m)
