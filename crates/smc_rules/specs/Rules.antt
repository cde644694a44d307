-- The list of rules, and which of them serves a packet.
use Rattle.std.specs.Prelude.{◌&&◌, Bool, not, Option, is_some, find, List, [], ◌∷◌, bytes_eq}
use Rattle.std.specs.Map.{lookup, remove_entry}
use Rattle.indexmap.specs.IndexMap.{insert_entry}
use Rattle.mr_model.specs.declared.message.Told.{Told}
use Rattle.smc_conf.specs.declared.conf.Rule.{Rule as Line}
use Rattle.smc_rules.specs.Keys.{same_key, is_exact, is_in}
use Rattle.smc_words.specs.Words.{Word}
use Rattle.smc_rules.specs.declared.key.Key.{Key}

-- Where packets of a key go on: the names of the outputs, as they are given.
abbrev pub Rule : Type 0
Rule = Key × List Word

-- A rule of a key that is there gives its outputs in the old one's place; else it goes last.
abbrev pub with_rule : List Rule → Key → List Word → List Rule
with_rule rs k outs = insert_entry same_key rs k outs

abbrev pub has_rule : List Rule → Key → Bool
has_rule rs k = is_some (lookup (same_key k) rs)

abbrev pub without_rule : List Rule → Key → List Rule
without_rule rs k = remove_entry (same_key k) rs

abbrev pub key_of : Line → Key
key_of l = record { input = l.input; source = l.source; group = l.group }

-- these rules, and those of further lines
abbrev pub rules_from : List Rule → List Line → List Rule
rules_from rs [] = rs
rules_from rs (l ∷ ls) = rules_from (with_rule rs (key_of l) l.outs) ls

-- A rule that isn't exact serves what comes in on its input, of a source and a group that match.
abbrev pub serves : Word → Told → Rule → Bool
serves name told r =
    not (is_exact r.0) && bytes_eq r.0.input name && is_in r.0.source told.src.0
    && is_in r.0.group told.dst.0

-- the first rule in order that serves it
abbrev pub first_serving : Word → Told → List Rule → Option Rule
first_serving name told rs = find (serves name told) rs
