-- An entry that is deleted and added again is a new one, with counters of its own.
use Rattle.std.specs.Prelude.{false, List, [], ◌∷◌, ◌++◌, take, drop}
use Rattle.mr_model.specs.declared.change.Change.{Change}
use Rattle.mr_model.specs.declared.change.What.TheVariants.{AddVif, NewRoute, DropRoute}
use Rattle.mr_model.specs.declared.ending.Ending.{Ending}
use Rattle.mr_model.specs.declared.entry.Entry.{Entry}
use Rattle.mr_model.specs.declared.entry.Entry.TheVariants.{EndPhase}
use Rattle.mr_model.specs.declared.limits.Limits.{Limits}
use Rattle.mr_model.specs.declared.reply.Reply.TheVariants.{Sg}
use Rattle.mr_model.specs.declared.request.Request.{Request}
use Rattle.mr_model.specs.declared.request.Request.TheVariants.{DelMfc, SgCount}
use Rattle.mr_rows.specs.Samples.{source, group, usual, thresholds, add_mfc, key, call, good, opening, packet, slow, forward, route, vif, route_totals, vif_totals, fast, settle, change}

abbrev pub limits : Limits
limits = usual 3 1 (0 ∷ 1 ∷ [])

abbrev pub entry_made : Request
entry_made = add_mfc source group 0 ((1, 1) ∷ [])

-- up to the second making of the entry
abbrev pub made_again : List Entry
made_again =
    opening (0 ∷ 1 ∷ [])
    ++ good 1 entry_made
    ∷ EndPhase
    ∷ slow 1 5 (packet 1 source group 9) (forward 4 0 (1 ∷ []))
    ∷ EndPhase
    ∷ good 1 (DelMfc (key source group 0))
    ∷ good 1 entry_made ∷ []

abbrev pub count : Request
count = SgCount source group

abbrev pub history : List Entry
history = made_again ++ call 1 count (Sg (route_totals 0 0 0)) ∷ EndPhase ∷ []

-- the same with plainly forwarded packets that were decided without the lock
abbrev pub fast_history : List Entry
fast_history = take 5 history ++ settle (fast 1 5 (packet 1 source group 9) 4 0 (1 ∷ []) ∷ []) ∷ drop 6 history

abbrev pub tail : Ending
tail = record {
  routes = (route 9 source group 0 ((1, 1) ∷ []), route_totals 0 0 0) ∷ [];
  vifs = (vif 0 1 2, vif_totals 1 0 28 0) ∷ (vif 1 2 3, vif_totals 0 1 0 28) ∷ [];
  fates = [];
}

-- Each vif and each entry is added with its values; the entry that is deleted goes by its number.
abbrev pub changed : List Change
changed =
    change 2 (AddVif 0 1 false false)
    ∷ change 3 (AddVif 1 2 false false)
    ∷ change 4 (NewRoute source group 0 (thresholds 255 ((1, 1) ∷ [])) false)
    ∷ change 8 (DropRoute 4)
    ∷ change 9 (NewRoute source group 0 (thresholds 255 ((1, 1) ∷ [])) false) ∷ []
