-- `flush`, `kill` and `poll`.
use Rattle.std.specs.Prelude.{false, Result, Ok, List, [], ◌∷◌, map}
use Rattle.mr_words.specs.Binds.{◌>>=◌}
use Rattle.mr_model.specs.declared.request.Request.TheVariants as request
use Rattle.smc_core.specs.Machine.{Machine, Turn, asking}
use Rattle.smc_core.specs.Ranges.{is_none_behind}
use Rattle.smc_rules.specs.Requests.{del_learned}
use Rattle.smc_core.specs.Mistakes.{wants}
use Rattle.smc_words.specs.Words.{Word}
use Rattle.smc_core.specs.declared.mistake.Mistake.{Mistake}
use Rattle.smc_core.specs.declared.mistake.Mistake.TheVariants as mistake

-- `flush`: each learned route goes, oldest first
abbrev pub flush : Machine → List Word → Result Turn Mistake
flush m ws = do
  _ ← wants (is_none_behind ws) mistake.Usage
  Ok (asking (record m { learned = [] }) (map del_learned m.learned))

-- `kill`: Finish, and the machine isn't running, whatever the reply; all else stays
abbrev pub kill : Machine → List Word → Result Turn Mistake
kill m ws = do
  _ ← wants (is_none_behind ws) mistake.Usage
  Ok (asking (record m { running = false }) (request.Finish ∷ []))

-- `poll` does nothing by itself
abbrev pub poll : Machine → List Word → Result Turn Mistake
poll m ws = do
  _ ← wants (is_none_behind ws) mistake.Usage
  Ok (asking m [])
