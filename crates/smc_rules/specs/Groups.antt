-- The set of joined groups, in the order of joining. It is shown and does nothing else.
use Rattle.std.specs.Prelude.{Bool, if◌then◌else◌, List, [], ◌∷◌, ◌++◌}
use Rattle.std.specs.List.{list_any}
use Rattle.std.specs.Set.{remove_key}
use Rattle.smc_conf.specs.declared.conf.Group.{Group}
use Rattle.smc_rules.specs.Keys.{same_key}
use Rattle.smc_rules.specs.declared.key.Key.{Key}

abbrev pub has_group : List Key → Key → Bool
has_group gs k = list_any (same_key k) gs

-- a group that is there stays in its place
abbrev pub with_group : List Key → Key → List Key
with_group gs k = if has_group gs k then gs else gs ++ k ∷ []

abbrev pub without_group : List Key → Key → List Key
without_group gs k = remove_key (same_key k) gs

abbrev pub key_of_group : Group → Key
key_of_group g = record { input = g.input; source = g.source; group = g.group }

-- these groups, and those of further lines
abbrev pub groups_from : List Key → List Group → List Key
groups_from gs [] = gs
groups_from gs (l ∷ ls) = groups_from (with_group gs (key_of_group l)) ls
