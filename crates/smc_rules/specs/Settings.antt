-- What a configuration sets, and which requests that makes.
use Rattle.std.specs.Prelude.{Option, Some, None, List, [], ◌++◌, map, flat_map}
use Rattle.mr_model.specs.declared.request.Request.{Request}
use Rattle.smc_conf.specs.declared.conf.Conf.{Conf}
use Rattle.smc_rules.specs.Groups.{groups_from}
use Rattle.smc_rules.specs.Interfaces.{interfaces_from}
use Rattle.smc_rules.specs.Requests.{vif_requests, rule_requests, del_learned}
use Rattle.smc_rules.specs.Rules.{Rule, rules_from}
use Rattle.smc_words.specs.Words.{Word}
use Rattle.smc_rules.specs.declared.aim.Aim.TheVariants as aim
use Rattle.smc_rules.specs.declared.interface.Interface.{Interface}
use Rattle.smc_rules.specs.declared.key.Key.{Key}
use Rattle.smc_rules.specs.declared.learned.Learned.{Learned}

pub record SettingsValue : Type 0 where
  -- the active interfaces; their vifs are 0, 1, ..
  pub interfaces : List Interface
  -- no two have one key
  pub rules : List Rule
  pub groups : List Key

abbrev pub no_settings : SettingsValue
no_settings = record { interfaces = []; rules = []; groups = [] }

-- the settings of a configuration, with devices of these names; none where there is none
abbrev pub settings_of : List Word → Option Conf → SettingsValue
settings_of names None = no_settings
settings_of names (Some c) = record {
  interfaces = interfaces_from names [] c.phyints;
  rules = rules_from [] c.rules;
  groups = groups_from [] c.groups;
}

-- a vif per active interface, then a route per exact rule with an active input, in order
abbrev pub makings : SettingsValue → List Request
makings s =
    vif_requests aim.Add 0 s.interfaces
    ++ flat_map (rule_requests aim.Add s.interfaces) s.rules

-- the routes of exact rules go, then the learned ones, then each vif, rising
abbrev pub clearings : SettingsValue → List Learned → List Request
clearings s learned =
    flat_map (rule_requests aim.Delete s.interfaces) s.rules ++ map del_learned learned
    ++ vif_requests aim.Delete 0 s.interfaces
