-- A daemon that asks for reports between its calls, finds none, and leaves: nothing is left.
use Rattle.std.specs.Prelude.{None, List, [], ◌∷◌, ◌++◌}
use Rattle.mr_model.specs.declared.ending.Ending.{Ending}
use Rattle.mr_model.specs.declared.entry.Entry.{Entry}
use Rattle.mr_model.specs.declared.entry.Entry.TheVariants.{EndPhase}
use Rattle.mr_model.specs.declared.limits.Limits.{Limits}
use Rattle.mr_model.specs.declared.request.Request.TheVariants.{Finish}
use Rattle.mr_rows.specs.Samples.{source, group, usual, add_mfc, good, opening, recv}

abbrev pub limits : Limits
limits = usual 1 0 (0 ∷ 1 ∷ [])

abbrev pub history : List Entry
history =
    opening (0 ∷ 1 ∷ [])
    ++ recv None
    ∷ good 1 (add_mfc source group 0 ((1, 1) ∷ []))
    ∷ recv None
    ∷ recv None
    ∷ recv None
    ∷ good 1 Finish
    ∷ EndPhase ∷ []

abbrev pub tail : Ending
tail = record { routes = []; vifs = []; fates = [] }
