-- Packets that were forwarded by what their looks had seen: a vif and an entry that are gone when they are counted.
use Rattle.std.specs.Prelude.{ℕ, List, [], ◌∷◌, ◌++◌, map}
use Rattle.mr_model.specs.declared.ending.Ending.{Ending}
use Rattle.mr_model.specs.declared.entry.Entry.{Entry}
use Rattle.mr_model.specs.declared.entry.Entry.TheVariants.{EndPhase}
use Rattle.mr_model.specs.declared.entry.FastRecord.{FastRecord}
use Rattle.mr_model.specs.declared.flow.Flow.{Flow}
use Rattle.mr_model.specs.declared.limits.Limits.{Limits}
use Rattle.mr_model.specs.declared.reply.Reply.TheVariants.{Sg, Vif}
use Rattle.mr_model.specs.declared.request.Request.{Request}
use Rattle.mr_model.specs.declared.request.Request.TheVariants.{DelMfc, DelVif, SgCount, VifCount}
use Rattle.mr_model.specs.declared.step.Step.{Step}
use Rattle.mr_model.specs.declared.step.Step.TheVariants.{Fast, Kept}
use Rattle.mr_rows.specs.Samples.{source, group, usual, lane, add_vif, add_mfc, key, call, good, opening, packet, vif, route_totals, vif_totals, fast, settle}

abbrev pub limits : Limits
limits = usual 2 2 (0 ∷ 1 ∷ [])

abbrev pub flow : Flow
flow = packet 1 source group 9

abbrev pub entry_made : Request
entry_made = add_mfc source group 0 ((1, 1) ∷ [])

abbrev pub start : List Entry
start = opening (0 ∷ 1 ∷ []) ++ good 1 entry_made ∷ EndPhase ∷ []

-- vif 1 is made again, and the entry is deleted
abbrev pub changes_made : List Entry
changes_made =
    good 1 (DelVif 1)
    ∷ good 1 (add_vif 1 8 2)
    ∷ call 1 (SgCount source group) (Sg (route_totals 0 0 0))
    ∷ good 1 (DelMfc (key source group 0)) ∷ []

-- a packet by what a look had seen
abbrev pub passed : ℕ → ℕ → FastRecord
passed index look = fast index look flow 4 0 (1 ∷ [])

-- One looked before all changes, and one before the last.
abbrev pub counted : Entry
counted = settle (passed 1 5 ∷ passed 2 8 ∷ [])

-- the new vif counts the second packet alone
abbrev pub history : List Entry
history =
    start ++ changes_made
    ++ counted
    ∷ call 1 (VifCount 1) (Vif (vif_totals 0 1 0 28))
    ∷ call 1 (VifCount 0) (Vif (vif_totals 2 0 56 0))
    ∷ EndPhase ∷ []

-- each packet behind the entries that its look had seen
abbrev pub steps : List Step
steps =
    map Kept start
    ++ Fast (lane 1) (passed 1 5)
    ∷ Kept (good 1 (DelVif 1))
    ∷ Kept (good 1 (add_vif 1 8 2))
    ∷ Kept (call 1 (SgCount source group) (Sg (route_totals 0 0 0)))
    ∷ Fast (lane 1) (passed 2 8)
    ∷ Kept (good 1 (DelMfc (key source group 0)))
    ∷ Kept counted
    ∷ Kept (call 1 (VifCount 1) (Vif (vif_totals 0 1 0 28)))
    ∷ Kept (call 1 (VifCount 0) (Vif (vif_totals 2 0 56 0)))
    ∷ Kept EndPhase ∷ []

-- the second packet with a look that has seen the entry go
abbrev pub gone : List Entry
gone = start ++ changes_made ++ settle (passed 1 5 ∷ passed 2 9 ∷ []) ∷ []

-- the second packet with an older look than the first
abbrev pub falling : List Entry
falling = start ++ changes_made ++ settle (passed 1 8 ∷ passed 2 5 ∷ []) ∷ []

abbrev pub tail : Ending
tail = record {
  routes = [];
  vifs = (vif 0 1 2, vif_totals 2 0 56 0) ∷ (vif 1 2 7, vif_totals 0 1 0 28) ∷ [];
  fates = [];
}
