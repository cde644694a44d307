-- Sources and groups: `[source A[/LEN]] group G[/LEN]`, in either order. Without `source` it is
-- 0.0.0.0/0.
use Rattle.std.specs.Prelude.{if◌then◌else◌, Result, Ok, Err, List, [], ◌∷◌, bytes_eq, codes}
use Rattle.mr_words.specs.Binds.{◌>>=◌}
use Rattle.smc_conf.specs.Forms.{Word, first_of, keyword, source_word, group_word}
use Rattle.smc_conf.specs.declared.conf.Prefix.{Prefix}
use Rattle.smc_conf.specs.declared.stop.Kind.{Kind}
use Rattle.smc_conf.specs.declared.stop.Kind.TheVariants as kind

-- source, group, and the words behind them
abbrev pub Range : Type 0
Range = Prefix × Prefix × List Word

abbrev pub any_source : Prefix
any_source = record { addr = record { 0 = 0 }; len = 0 }

-- behind `source`
abbrev pub source_first : List Word → Result Range Kind
source_first ws = do
  a ← first_of ws
  source ← source_word a.0
  rest ← keyword (codes "group") a.1
  g ← first_of rest
  group ← group_word g.0
  Ok (source, group, g.1)

abbrev pub source_given : Prefix → List Word → Result Range Kind
source_given group ws = do
  a ← first_of ws
  source ← source_word a.0
  Ok (source, group, a.1)

-- behind a group: perhaps its source
abbrev pub source_behind : Prefix → List Word → Result Range Kind
source_behind group [] = Ok (any_source, group, [])
source_behind group (w ∷ ws) =
    if bytes_eq w (codes "source") then source_given group ws else Ok (any_source, group, w ∷ ws)

-- behind `group`
abbrev pub group_first : List Word → Result Range Kind
group_first ws = do
  g ← first_of ws
  group ← group_word g.0
  source_behind group g.1

abbrev pub range_by_word : Word → List Word → Result Range Kind
range_by_word w ws =
    if bytes_eq w (codes "source") then source_first ws
    else (if bytes_eq w (codes "group") then group_first ws
    else Err kind.Word)

-- the source and the group with which words begin
abbrev pub range_of : List Word → Result Range Kind
range_of ws = do
  w ← first_of ws
  range_by_word w.0 w.1
