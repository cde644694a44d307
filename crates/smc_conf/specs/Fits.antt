-- What holds of each configuration that is read.
use Rattle.std.specs.Prelude.{◌≡◌, ◌<◌, ◌≤◌, ◌-◌, ◌%◌, ◌^◌, ◌++◌, false, ⊤, List, [], ◌∷◌, length, All, count_by}
use Rattle.smc_conf.specs.Lines.{is_named}
use Rattle.smc_conf.specs.declared.conf.Conf.{Conf}
use Rattle.smc_conf.specs.declared.conf.Group.{Group}
use Rattle.smc_conf.specs.declared.conf.Phyint.{Phyint}
use Rattle.smc_conf.specs.declared.conf.Prefix.{Prefix}
use Rattle.smc_conf.specs.declared.conf.Rule.{Rule}

-- at most 32 bits, and zeros behind them
pub record IsPrefix (p : Prefix) : Type 0 where
  pub len : p.len ≤ 32
  pub zeros : p.addr.0 % 2 ^ (32 - p.len) ≡ 0

-- Each of these interfaces has a name that none before it has, nor the earlier ones.
abbrev pub AreNew : List Phyint → List Phyint → Type 0
AreNew earlier [] = ⊤
AreNew earlier (p ∷ ps) = (is_named earlier p.name ≡ false) × AreNew (earlier ++ p ∷ []) ps

-- No two interfaces have one name, at most 32 are enabled, prefixes are proper ones, and each rule
-- has an output.
pub record Fits (c : Conf) : Type 0 where
  pub names : AreNew [] c.phyints
  pub enabled : count_by (λ p. p.enabled) c.phyints ≤ 32
  pub sources : All (λ (g : Group). IsPrefix g.source) c.groups
  pub groups : All (λ (g : Group). IsPrefix g.group) c.groups
  pub rule_sources : All (λ (r : Rule). IsPrefix r.source) c.rules
  pub rule_groups : All (λ (r : Rule). IsPrefix r.group) c.rules
  pub outs : All (λ (r : Rule). 0 < length r.outs) c.rules
