-- One phase without a call or a packet.
use Rattle.std.specs.Prelude.{List, [], ◌∷◌}
use Rattle.mr_model.specs.declared.ending.Ending.{Ending}
use Rattle.mr_model.specs.declared.entry.Entry.{Entry}
use Rattle.mr_model.specs.declared.entry.Entry.TheVariants.{EndPhase}
use Rattle.mr_model.specs.declared.limits.Limits.{Limits}
use Rattle.mr_rows.specs.Samples.{usual}

abbrev pub limits : Limits
limits = usual 1 0 []

abbrev pub history : List Entry
history = EndPhase ∷ []

abbrev pub tail : Ending
tail = record { routes = []; vifs = []; fates = [] }
