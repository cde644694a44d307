-- Entries and vifs with what they have counted.
use Rattle.std.specs.Prelude.{List}
use Rattle.mr_base.specs.declared.route.Route.{Route}
use Rattle.mr_base.specs.declared.vif_record.VifRecord.{VifRecord}
use Rattle.mr_model.specs.declared.entry.Entry.{Entry}
use Rattle.mr_model.specs.declared.reply.RouteTotals.{RouteTotals}
use Rattle.mr_model.specs.declared.reply.VifTotals.{VifTotals}
use Rattle.mr_model.specs.Counts.{route_counts, vif_counts}

abbrev pub route_pair : List Entry → Route → Route × RouteTotals
route_pair h r = (r, route_counts h r.number)

abbrev pub vif_pair : List Entry → VifRecord → VifRecord × VifTotals
vif_pair h v = (v, vif_counts h v)
