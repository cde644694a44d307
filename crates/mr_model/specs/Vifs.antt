-- The vifs after a history, in the order in which they were added.
use Rattle.std.specs.Prelude.{List}
use Rattle.mr_base.specs.declared.vif_record.VifRecord.{VifRecord}
use Rattle.mr_model.specs.declared.entry.Entry.{Entry}
use Rattle.mr_model.specs.declared.limits.Limits.{Limits}
use Rattle.mr_model.specs.State.{state}

abbrev pub vifs : Limits → List Entry → List VifRecord
vifs limits h = (state limits h).tables.vifs
