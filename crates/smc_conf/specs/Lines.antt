-- The lines of a configuration: each by the words behind its first one, tested from the left.
use Rattle.std.specs.Prelude.{ℕ, ◌+◌, Bool, true, false, not, nat_lt, if◌then◌else◌, Result, Ok, Err, List, [], ◌∷◌, ◌++◌, bytes_eq, codes}
use Rattle.std.specs.List.{list_any}
use Rattle.mr_words.specs.Binds.{◌>>=◌}
use Rattle.mr_words.specs.Names.{is_device_name}
use Rattle.smc_conf.specs.Forms.{Word, first_of, keyword, interface_word, threshold_word}
use Rattle.smc_conf.specs.Kinds.{bad, wants}
use Rattle.smc_conf.specs.Ranges.{range_of}
use Rattle.smc_conf.specs.declared.conf.Phyint.{Phyint}
use Rattle.smc_conf.specs.declared.draft.Draft.{Draft}
use Rattle.smc_conf.specs.declared.stop.Kind.{Kind}
use Rattle.smc_conf.specs.declared.stop.Kind.TheVariants as kind

abbrev pub is_named : List Phyint → Word → Bool
is_named phyints w = list_any (λ p. bytes_eq p.name w) phyints

-- `enable` or `disable`, where so many are enabled: at most 32 may be
abbrev pub enabled_word : ℕ → Word → Result Bool Kind
enabled_word enabled w =
    if bytes_eq w (codes "enable") then (if nat_lt enabled 32 then Ok true else Err kind.Interface)
    else (if bytes_eq w (codes "disable") then Ok false
    else Err kind.Word)

-- the end of a line
abbrev pub nothing_behind : List Word → Result (Unit {0}) Kind
nothing_behind [] = Ok tt
nothing_behind (w ∷ ws) = Err kind.Word

abbrev pub threshold_given : List Word → Result ℕ Kind
threshold_given ws = do
  rest ← keyword (codes "ttl-threshold") ws
  n ← first_of rest
  threshold ← threshold_word n.0
  _ ← nothing_behind n.1
  Ok threshold

-- a line's end, or `ttl-threshold N`; 1 where none is given
abbrev pub threshold_in : List Word → Result ℕ Kind
threshold_in [] = Ok 1
threshold_in (w ∷ ws) = threshold_given (w ∷ ws)

abbrev pub with_phyint : Draft → Phyint → Draft
with_phyint d p = record d {
  phyints = d.phyints ++ p ∷ [];
  enabled = if p.enabled then d.enabled + 1 else d.enabled;
}

-- `phyint IF enable` or `phyint IF disable`, then perhaps `ttl-threshold N`; no interface twice
abbrev pub phyint_line : Draft → List Word → Result Draft Kind
phyint_line d ws = do
  i ← interface_word ws
  _ ← wants (not (is_named d.phyints i.0)) kind.Interface
  w ← first_of i.1
  enabled ← enabled_word d.enabled w.0
  threshold ← threshold_in w.1
  Ok (with_phyint d (record { name = i.0; enabled = enabled; threshold = threshold }))

-- `from IF`
abbrev pub from_interface : List Word → Result (Word × List Word) Kind
from_interface ws = do
  rest ← keyword (codes "from") ws
  interface_word rest

-- `mgroup from IF [source A[/LEN]] group G[/LEN]`
abbrev pub group_line : Draft → List Word → Result Draft Kind
group_line d ws = do
  i ← from_interface ws
  r ← range_of i.1
  _ ← nothing_behind r.2
  Ok (record d { groups = d.groups ++ record { input = i.0; source = r.0; group = r.1 } ∷ [] })

-- These interfaces, and further ones.
abbrev pub outs_from : List Word → List Word → Result (List Word) Kind
outs_from outs [] = Ok outs
outs_from outs (w ∷ ws) = do
  _ ← wants (is_device_name w) (bad w kind.Interface)
  outs_from (outs ++ w ∷ []) ws

-- `mroute from IF [source A[/LEN]] group G[/LEN] to IF ..`, one output or more
abbrev pub rule_line : Draft → List Word → Result Draft Kind
rule_line d ws = do
  i ← from_interface ws
  r ← range_of i.1
  rest ← keyword (codes "to") r.2
  _ ← first_of rest
  outs ← outs_from [] rest
  Ok (record d {
    rules = d.rules ++ record { input = i.0; source = r.0; group = r.1; outs = outs } ∷ [];
  })
