-- `add` and `remove`.
use Rattle.std.specs.Prelude.{ℕ, ◌==◌, ◌&&◌, Bool, not, if◌then◌else◌, Result, Ok}
use Rattle.std.specs.Prelude.{List, [], ◌∷◌, map, filter}
use Rattle.mr_words.specs.Binds.{◌>>=◌}
use Rattle.mr_model.specs.declared.request.Request.{Request}
use Rattle.smc_rules.specs.Keys.{same_prefix, is_exact}
use Rattle.smc_rules.specs.Requests.{rule_requests, del_route, del_learned}
use Rattle.smc_rules.specs.Rules.{with_rule, has_rule, without_rule}
use Rattle.smc_rules.specs.declared.aim.Aim.TheVariants as aim
use Rattle.smc_rules.specs.declared.key.Key.{Key}
use Rattle.smc_rules.specs.declared.learned.Learned.{Learned}
use Rattle.smc_words.specs.Words.{Word}
use Rattle.smc_core.specs.Machine.{Machine, Turn, asking}
use Rattle.smc_core.specs.Mistakes.{wants}
use Rattle.smc_core.specs.Ranges.{range_of, active_key, is_none_behind, names_from}
use Rattle.smc_core.specs.declared.mistake.Mistake.{Mistake}
use Rattle.smc_core.specs.declared.mistake.Mistake.TheVariants as mistake

abbrev pub with_the_rule : Machine → Key → List Word → Machine
with_the_rule m k outs =
    record m { settings = record m.settings { rules = with_rule m.settings.rules k outs } }

-- the rule is set, and an exact one makes its route
abbrev pub setting : Machine → Key → List Word → Turn
setting m k outs =
    asking (with_the_rule m k outs) (rule_requests aim.Add m.settings.interfaces (k, outs))

-- `add IF [A[/LEN]] G[/LEN] OUT ..`, one output or more, and each name active
abbrev pub add : Machine → List Word → Result Turn Mistake
add m ws = do
  r ← range_of ws
  _ ← wants (not (is_none_behind r.behind)) mistake.Usage
  k ← active_key m.settings.interfaces r
  outs ← names_from m.settings.interfaces [] r.behind
  Ok (setting m k.1 outs)

-- a learned route that the rule of this key made, whose input is vif v
abbrev pub is_of : ℕ → Key → Learned → Bool
is_of v k l = l.vif == v && same_prefix l.source k.source && same_prefix l.group k.group

-- what was made for the rule goes, the learned routes oldest first
abbrev pub undoing : ℕ → Key → List Learned → List Request
undoing v k learned =
    if is_exact k then del_route v k.source.addr k.group.addr ∷ []
    else map del_learned (filter (is_of v k) learned)

-- A learned route leaves the list where its removal is asked; an exact rule has none.
abbrev pub left_by : ℕ → Key → List Learned → List Learned
left_by v k learned = if is_exact k then learned else filter (λ l. not (is_of v k l)) learned

-- the machine without the rule, whose input is vif v
abbrev pub without_the_rule : Machine → ℕ → Key → Machine
without_the_rule m v k = record m {
  settings = record m.settings { rules = without_rule m.settings.rules k };
  learned = left_by v k m.learned;
}

abbrev pub removing : Machine → ℕ → Key → Turn
removing m v k = asking (without_the_rule m v k) (undoing v k m.learned)

-- `remove IF [A[/LEN]] G[/LEN]`
abbrev pub remove : Machine → List Word → Result Turn Mistake
remove m ws = do
  r ← range_of ws
  _ ← wants (is_none_behind r.behind) mistake.Usage
  k ← active_key m.settings.interfaces r
  _ ← wants (has_rule m.settings.rules k.1) mistake.NoRoute
  Ok (removing m k.0 k.1)
