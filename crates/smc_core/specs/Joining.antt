-- `join` and `leave`: they change the set of groups alone.
use Rattle.std.specs.Prelude.{Result, Ok, List, []}
use Rattle.mr_words.specs.Binds.{◌>>=◌}
use Rattle.smc_rules.specs.Groups.{has_group, with_group, without_group}
use Rattle.smc_rules.specs.declared.interface.Interface.{Interface}
use Rattle.smc_rules.specs.declared.key.Key.{Key}
use Rattle.smc_words.specs.Words.{Word}
use Rattle.smc_core.specs.Machine.{Machine, Turn, asking}
use Rattle.smc_core.specs.Mistakes.{wants}
use Rattle.smc_core.specs.Ranges.{range_of, active_key, is_none_behind}
use Rattle.smc_core.specs.declared.mistake.Mistake.{Mistake}
use Rattle.smc_core.specs.declared.mistake.Mistake.TheVariants as mistake

-- the machine with these groups
abbrev pub with_groups : Machine → List Key → Machine
with_groups m gs = record m { settings = record m.settings { groups = gs } }

-- `IF [A[/LEN]] G[/LEN]` with nothing behind it, IF active
abbrev pub group_in : List Interface → List Word → Result Key Mistake
group_in is ws = do
  r ← range_of ws
  _ ← wants (is_none_behind r.behind) mistake.Usage
  k ← active_key is r
  Ok k.1

-- `join IF [A[/LEN]] G[/LEN]`
abbrev pub join : Machine → List Word → Result Turn Mistake
join m ws = do
  k ← group_in m.settings.interfaces ws
  Ok (asking (with_groups m (with_group m.settings.groups k)) [])

-- `leave IF [A[/LEN]] G[/LEN]`
abbrev pub leave : Machine → List Word → Result Turn Mistake
leave m ws = do
  k ← group_in m.settings.interfaces ws
  _ ← wants (has_group m.settings.groups k) mistake.NoGroup
  Ok (asking (with_groups m (without_group m.settings.groups k)) [])
