-- An entry of an admin that is not the owner is static: it alone stays when the owner leaves.
use Rattle.std.specs.Prelude.{true, List, [], ◌∷◌, ◌++◌}
use Rattle.mr_model.specs.declared.ending.Ending.{Ending}
use Rattle.mr_model.specs.declared.ending.Fate.TheVariants.{Flushed}
use Rattle.mr_model.specs.declared.entry.Entry.{Entry}
use Rattle.mr_model.specs.declared.entry.Entry.TheVariants.{EndPhase}
use Rattle.mr_model.specs.declared.limits.Limits.{Limits}
use Rattle.mr_model.specs.declared.outcome.Outcome.TheVariants.{Parked}
use Rattle.mr_model.specs.declared.request.Request.TheVariants.{Finish}
use Rattle.mr_rows.specs.Samples.{addr, source, group, second_group, devices_at, limits_of, add_mfc, good, opening, packet, slow, route, route_totals, fate_line}

abbrev pub limits : Limits
limits = limits_of 5 (1 ∷ []) (true ∷ true ∷ []) (devices_at (0 ∷ 1 ∷ []))

abbrev pub before_leaving : List Entry
before_leaving =
    opening (0 ∷ 1 ∷ [])
    ++ EndPhase
    ∷ good 2 (add_mfc source group 0 ((1, 1) ∷ []))
    ∷ EndPhase
    ∷ good 1 (add_mfc source second_group 0 ((1, 1) ∷ []))
    ∷ EndPhase
    ∷ slow 1 8 (packet 1 (addr 10 0 0 8) group 9) Parked
    ∷ EndPhase ∷ []

abbrev pub history : List Entry
history = before_leaving ++ good 1 Finish ∷ EndPhase ∷ []

abbrev pub tail : Ending
tail = record {
  routes = (record (route 5 source group 0 ((1, 1) ∷ [])) { fixed = true }, route_totals 0 0 0) ∷ [];
  vifs = [];
  fates = fate_line 1 (Flushed 11) ∷ [];
}
