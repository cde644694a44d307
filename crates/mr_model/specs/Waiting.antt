-- The packets that wait after a history: parked ones, until an entry of their origin and group is made, ten seconds are over, or
-- the owner or a flush drops them.
use Rattle.std.specs.Prelude.{List}
use Rattle.mr_model.specs.declared.entry.Entry.{Entry}
use Rattle.mr_model.specs.declared.limits.Limits.{Limits}
use Rattle.mr_model.specs.State.{state}
use Rattle.mr_model.specs.WaitingList.{Awaiting}

abbrev pub waiting : Limits → List Entry → List Awaiting
waiting limits h = (state limits h).waiting
