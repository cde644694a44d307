-- The requests for vifs, rules and learned routes.
use Rattle.std.specs.Prelude.{ℕ, ◌+◌, ◌==◌, if◌then◌else◌, Option, Some, None}
use Rattle.std.specs.Prelude.{List, [], ◌∷◌, replicate, slice_set}
use Rattle.std.specs.Option.{option_map_or}
use Rattle.mr_base.specs.declared.numbers.Addr.{Addr}
use Rattle.mr_model.specs.declared.request.Request.{Request}
use Rattle.mr_model.specs.declared.request.Request.TheVariants as request
use Rattle.smc_rules.specs.Interfaces.{vif_of, threshold_of}
use Rattle.smc_rules.specs.Keys.{is_exact}
use Rattle.smc_rules.specs.Rules.{Rule}
use Rattle.smc_words.specs.Words.{Word}
use Rattle.smc_rules.specs.declared.aim.Aim.{Aim}
use Rattle.smc_rules.specs.declared.aim.Aim.TheVariants as aim
use Rattle.smc_rules.specs.declared.interface.Interface.{Interface}
use Rattle.smc_rules.specs.declared.learned.Learned.{Learned}

-- the vif of an interface: it is made by its device's number, or goes
abbrev pub vif_request : Aim → ℕ → Interface → Request
vif_request aim.Add v i = request.AddVif (record { vif = v; flags = 8; local = i.device })
vif_request aim.Delete v i = request.DelVif v

-- one for each interface, of which the first has vif v
abbrev pub vif_requests : Aim → ℕ → List Interface → List Request
vif_requests a v [] = []
vif_requests a v (i ∷ is) = vif_request a v i ∷ vif_requests a (v + 1) is

-- An output is asked with the threshold of its interface; the input and what isn't active are
-- passed over.
abbrev pub with_output : List Interface → ℕ → List ℕ → Option ℕ → List ℕ
with_output is input ttls None = ttls
with_output is input ttls (Some v) =
    if v == input then ttls else slice_set ttls v (threshold_of is v)

abbrev pub outputs_from : List Interface → ℕ → List ℕ → List Word → List ℕ
outputs_from is input ttls [] = ttls
outputs_from is input ttls (w ∷ ws) =
    outputs_from is input (with_output is input ttls (vif_of is w)) ws

-- the threshold that is asked for each of the 32 vifs, 0 for none
abbrev pub outputs : List Interface → ℕ → List Word → List ℕ
outputs is input outs = outputs_from is input (replicate 32 0) outs

-- the route of a source and a group, with the vif of its input as parent
abbrev pub add_route : List Interface → ℕ → Addr → Addr → List Word → Request
add_route is v src dst outs =
    request.AddMfc (record { src = src; dst = dst; parent = v; ttls = outputs is v outs })

abbrev pub del_route : ℕ → Addr → Addr → Request
del_route v src dst = request.DelMfc (record { src = src; dst = dst; parent = v })

abbrev pub del_learned : Learned → Request
del_learned l = del_route l.vif l.src l.dst

-- the route of an exact rule whose input has vif v: it is made, or goes
abbrev pub route_request : Aim → List Interface → Rule → ℕ → Request
route_request aim.Add is r v = add_route is v r.0.source.addr r.0.group.addr r.1
route_request aim.Delete is r v = del_route v r.0.source.addr r.0.group.addr

-- None for a rule that isn't exact, or whose input isn't active.
abbrev pub rule_requests : Aim → List Interface → Rule → List Request
rule_requests a is r =
    if is_exact r.0
    then option_map_or (λ v. route_request a is r v ∷ []) (vif_of is r.0.input) []
    else []
