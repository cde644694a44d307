-- What a rule asks for a packet that had no route.
use Rattle.std.specs.Prelude.{Option, option_map, option_and_then, List, slice_get}
use Rattle.mr_model.specs.declared.message.Told.{Told}
use Rattle.mr_model.specs.declared.request.Request.{Request}
use Rattle.smc_rules.specs.Requests.{add_route}
use Rattle.smc_rules.specs.Rules.{Rule, first_serving}
use Rattle.smc_rules.specs.Settings.{SettingsValue}
use Rattle.smc_rules.specs.declared.interface.Interface.{Interface}
use Rattle.smc_rules.specs.declared.learned.Learned.{Learned}

-- how the route is learned: by the rule that made it
abbrev pub learned_by : Told → Rule → Learned
learned_by told r = record {
  vif = told.vif;
  src = told.src;
  dst = told.dst;
  source = r.0.source;
  group = r.0.group;
}

-- the route of just this source and group, with the rule's outputs
abbrev pub asked_by : List Interface → Told → Rule → Request × Learned
asked_by is told r = (add_route is told.vif told.src told.dst r.1, learned_by told r)

-- What is asked for it: by the first rule in order that serves what came in on its interface.
abbrev pub asked_for : SettingsValue → Told → Option (Request × Learned)
asked_for s told =
    option_and_then
    (λ i. option_map (asked_by s.interfaces told) (first_serving i.name told s.rules))
    (slice_get s.interfaces told.vif)
