-- Entries and vifs with what they have counted.
use Rattle.std.specs.Prelude.{ℕ, List, flat_map, option_to_list}
use Rattle.mr_base.specs.declared.route.Route.{Route}
use Rattle.mr_base.specs.declared.vif_record.VifRecord.{VifRecord}
use Rattle.mr_model.specs.declared.reply.RouteTotals.{RouteTotals}
use Rattle.mr_model.specs.declared.reply.VifTotals.{VifTotals}
use Rattle.mr_model.specs.Counts.{Met, route_sums, vif_sums}
use Rattle.mr_model.specs.VifList.{vif_at}

abbrev pub route_pair : List Met → Route → Route × RouteTotals
route_pair ms r = (r, route_sums ms r.number)

abbrev pub vif_pair : List Met → VifRecord → VifRecord × VifTotals
vif_pair ms v = (v, vif_sums ms v)

-- the vifs with these indexes
abbrev pub vifs_among : List VifRecord → List ℕ → List VifRecord
vifs_among vifs indexes = flat_map (λ i. option_to_list (vif_at vifs i)) indexes
