-- `show`, `show routes`, `show groups` and `show interfaces`.
use Rattle.std.specs.Prelude.{ℕ, ◌+◌, ◌==◌, if◌then◌else◌, Result, Ok, Err}
use Rattle.std.specs.Prelude.{List, [], ◌∷◌, ◌++◌, bytes_eq, codes, decimal, flat_map}
use Rattle.std.specs.List.{join_with_byte}
use Rattle.mr_words.specs.Binds.{◌>>=◌}
use Rattle.smc_conf.specs.declared.conf.Prefix.{Prefix}
use Rattle.smc_rules.specs.Interfaces.{name_of}
use Rattle.smc_rules.specs.Rules.{Rule}
use Rattle.smc_core.specs.Machine.{Machine}
use Rattle.smc_core.specs.Ranges.{is_none_behind}
use Rattle.smc_core.specs.Mistakes.{wants}
use Rattle.smc_words.specs.Words.{Word, address, line, ok_line}
use Rattle.smc_rules.specs.declared.interface.Interface.{Interface}
use Rattle.smc_rules.specs.declared.key.Key.{Key}
use Rattle.smc_rules.specs.declared.learned.Learned.{Learned}
use Rattle.smc_core.specs.declared.mistake.Mistake.{Mistake}
use Rattle.smc_core.specs.declared.mistake.Mistake.TheVariants as mistake

-- `A`, or `A/LEN` where it isn't 32
abbrev pub group_text : Prefix → Word
group_text p = if p.len == 32 then address p.addr else address p.addr ++ 47 ∷ decimal p.len

-- the same, but `*` for all sources
abbrev pub source_text : Prefix → Word
source_text p = if p.len == 0 then codes "*" else group_text p

abbrev pub route_line : Rule → List ℕ
route_line r =
    line (codes "route" ∷ r.0.input ∷ source_text r.0.source ∷ group_text r.0.group
    ∷ join_with_byte 44 r.1 ∷ [])

abbrev pub learned_line : List Interface → Learned → List ℕ
learned_line is l =
    line (codes "learned" ∷ name_of is l.vif ∷ address l.src ∷ address l.dst ∷ [])

abbrev pub group_line : Key → List ℕ
group_line k =
    line (codes "group" ∷ k.input ∷ source_text k.source ∷ group_text k.group ∷ [])

-- a line per interface, of which the first has vif v
abbrev pub interface_lines : ℕ → List Interface → List ℕ
interface_lines v [] = []
interface_lines v (i ∷ is) =
    line (decimal v ∷ i.name ∷ decimal i.threshold ∷ []) ++ interface_lines (v + 1) is

abbrev pub routes_text : Machine → List ℕ
routes_text m =
    flat_map route_line m.settings.rules
    ++ flat_map (learned_line m.settings.interfaces) m.learned ++ ok_line

abbrev pub groups_text : Machine → List ℕ
groups_text m = flat_map group_line m.settings.groups ++ ok_line

abbrev pub interfaces_text : Machine → List ℕ
interfaces_text m = interface_lines 0 m.settings.interfaces ++ ok_line

-- what is shown, by its word
abbrev pub shown : Machine → Word → Result (List ℕ) Mistake
shown m w =
    if bytes_eq w (codes "routes") then Ok (routes_text m)
    else (if bytes_eq w (codes "groups") then Ok (groups_text m)
    else (if bytes_eq w (codes "interfaces") then Ok (interfaces_text m)
    else Err mistake.Usage))

abbrev pub show_text : Machine → List Word → Result (List ℕ) Mistake
show_text m [] = Ok (routes_text m)
show_text m (w ∷ ws) = do
  _ ← wants (is_none_behind ws) mistake.Usage
  shown m w
