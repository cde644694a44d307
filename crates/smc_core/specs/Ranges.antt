-- `IF [A[/LEN]] G[/LEN]`: A is given exactly where the second word after IF is there and begins
-- with a digit.
use Rattle.std.specs.Prelude.{ℕ, Bool, true, false, if◌then◌else◌, Option, Some, None}
use Rattle.std.specs.Prelude.{Result, Ok, Err, List, [], ◌∷◌, ◌++◌}
use Rattle.mr_words.specs.Binds.{◌>>=◌}
use Rattle.mr_words.specs.Numbers.{is_digit}
use Rattle.smc_conf.specs.Forms.{source_word, group_word}
use Rattle.smc_conf.specs.Ranges.{any_source}
use Rattle.smc_conf.specs.declared.conf.Prefix.{Prefix}
use Rattle.smc_conf.specs.declared.stop.Kind.{Kind}
use Rattle.smc_rules.specs.Interfaces.{vif_of}
use Rattle.smc_words.specs.Words.{Word}
use Rattle.smc_rules.specs.declared.interface.Interface.{Interface}
use Rattle.smc_rules.specs.declared.key.Key.{Key}
use Rattle.smc_core.specs.declared.mistake.Mistake.{Mistake}
use Rattle.smc_core.specs.declared.mistake.Mistake.TheVariants as mistake

-- the words of an interface, of a source where one is given, of a group, and those behind them
pub record Range : Type 0 where
  pub input : Word
  pub source : Option Word
  pub group : Word
  pub behind : List Word

abbrev pub begins_with_digit : Word → Bool
begins_with_digit [] = false
begins_with_digit (b ∷ bs) = is_digit b

abbrev pub range_of : List Word → Result Range Mistake
range_of (i ∷ a ∷ g ∷ ws) =
    if begins_with_digit g
    then Ok (record { input = i; source = Some a; group = g; behind = ws })
    else Ok (record { input = i; source = None; group = a; behind = g ∷ ws })
range_of (i ∷ g ∷ []) = Ok (record { input = i; source = None; group = g; behind = [] })
range_of ws = Err mistake.Usage

abbrev pub prefix_in : Result Prefix Kind → Result Prefix Mistake
prefix_in (Ok p) = Ok p
prefix_in (Err k) = Err mistake.Address

-- without A it is 0.0.0.0/0
abbrev pub source_in : Option Word → Result Prefix Mistake
source_in None = Ok any_source
source_in (Some w) = prefix_in (source_word w)

abbrev pub key_in : Range → Result Key Mistake
key_in r = do
  source ← source_in r.source
  group ← prefix_in (group_word r.group)
  Ok (record { input = r.input; source = source; group = group })

abbrev pub vif_in : Option ℕ → Result ℕ Mistake
vif_in (Some v) = Ok v
vif_in None = Err mistake.Interface

-- the vif of an interface that has to be active
abbrev pub active_vif : List Interface → Word → Result ℕ Mistake
active_vif is name = vif_in (vif_of is name)

-- the key that words give, and the vif of its interface
abbrev pub active_key : List Interface → Range → Result (ℕ × Key) Mistake
active_key is r = do
  k ← key_in r
  v ← active_vif is k.input
  Ok (v, k)

-- these names, and further ones, each of which has to be active
abbrev pub names_from : List Interface → List Word → List Word → Result (List Word) Mistake
names_from is outs [] = Ok outs
names_from is outs (w ∷ ws) = do
  _ ← active_vif is w
  names_from is (outs ++ w ∷ []) ws

abbrev pub is_none_behind : List Word → Bool
is_none_behind [] = true
is_none_behind (w ∷ ws) = false
