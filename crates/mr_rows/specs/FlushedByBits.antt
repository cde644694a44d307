-- Flushes of static entries, static vifs, the other entries and the other vifs, one after another.
use Rattle.std.specs.Prelude.{true, List, [], ◌∷◌, ◌++◌}
use Rattle.mr_model.specs.declared.ending.Ending.{Ending}
use Rattle.mr_model.specs.declared.ending.Fate.TheVariants.{Flushed, Waiting}
use Rattle.mr_model.specs.declared.entry.Entry.{Entry}
use Rattle.mr_model.specs.declared.entry.Entry.TheVariants.{EndPhase}
use Rattle.mr_model.specs.declared.limits.Limits.{Limits}
use Rattle.mr_model.specs.declared.outcome.Outcome.TheVariants.{Parked}
use Rattle.mr_model.specs.declared.request.Request.TheVariants.{Flush, Init}
use Rattle.mr_rows.specs.Samples.{addr, source, group, second_group, devices_at, limits_of, add_vif, add_mfc, good, packet, slow, route, vif, route_totals, vif_totals, fate_line}

abbrev pub limits : Limits
limits = limits_of 3 (1 ∷ []) (true ∷ true ∷ []) (devices_at (0 ∷ 1 ∷ []))

-- up to the flush of the static vifs
abbrev pub static_gone : List Entry
static_gone =
    good 1 Init
    ∷ good 1 (add_vif 0 8 1)
    ∷ good 2 (add_vif 1 8 2)
    ∷ good 1 (add_mfc source group 0 ((1, 1) ∷ []))
    ∷ good 2 (add_mfc source second_group 0 ((1, 1) ∷ []))
    ∷ EndPhase
    ∷ slow 1 6 (packet 1 (addr 10 0 0 8) group 9) Parked
    ∷ EndPhase
    ∷ good 1 (Flush 16)
    ∷ good 1 (Flush 2)
    ∷ good 1 (Flush 8) ∷ []

abbrev pub history : List Entry
history = static_gone ++ good 1 (Flush 1) ∷ good 1 (Flush 4) ∷ EndPhase ∷ []

-- the ending with the static ones gone
abbrev pub middle : Ending
middle = record {
  routes = (route 4 source group 0 ((1, 1) ∷ []), route_totals 0 0 0) ∷ [];
  vifs = (vif 0 1 2, vif_totals 0 0 0 0) ∷ [];
  fates = fate_line 1 Waiting ∷ [];
}

abbrev pub tail : Ending
tail = record { routes = []; vifs = []; fates = fate_line 1 (Flushed 12) ∷ [] }
