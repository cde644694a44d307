-- A vif that is deleted and added again is a new one, with counters of its own; its entry sends on it as before.
use Rattle.std.specs.Prelude.{List, [], ◌∷◌}
use Rattle.mr_base.specs.declared.errno.Errno.TheVariants.{Invalid}
use Rattle.mr_model.specs.declared.ending.Ending.{Ending}
use Rattle.mr_model.specs.declared.entry.Entry.{Entry}
use Rattle.mr_model.specs.declared.entry.Entry.TheVariants.{EndPhase}
use Rattle.mr_model.specs.declared.flow.Flow.{Flow}
use Rattle.mr_model.specs.declared.limits.Limits.{Limits}
use Rattle.mr_model.specs.declared.reply.Reply.TheVariants.{Sg, Vif}
use Rattle.mr_model.specs.declared.request.Request.TheVariants.{DelVif, Init, SgCount, VifCount}
use Rattle.mr_rows.specs.Samples.{addr, source, group, usual, add_vif, add_mfc, call, good, refused, packet, slow, forward, route, vif, route_totals, vif_totals}

abbrev pub limits : Limits
limits = usual 5 2 (0 ∷ 1 ∷ [])

abbrev pub passing : Flow
passing = packet 1 source group 9

abbrev pub history : List Entry
history =
    good 1 Init
    ∷ good 1 (add_vif 0 8 1)
    ∷ good 1 (add_vif 1 0 (addr 10 0 1 1).0)
    ∷ good 1 (add_mfc source group 0 ((1, 1) ∷ []))
    ∷ EndPhase
    ∷ slow 1 5 passing (forward 4 0 (1 ∷ []))
    ∷ EndPhase
    ∷ call 1 (VifCount 1) (Vif (vif_totals 0 1 0 28))
    ∷ good 1 (DelVif 1)
    ∷ refused 1 (VifCount 1) Invalid
    ∷ good 1 (add_vif 1 8 2)
    ∷ call 1 (VifCount 1) (Vif (vif_totals 0 0 0 0))
    ∷ EndPhase
    ∷ slow 2 13 passing (forward 4 0 (1 ∷ []))
    ∷ EndPhase
    ∷ call 1 (VifCount 1) (Vif (vif_totals 0 1 0 28))
    ∷ call 1 (VifCount 0) (Vif (vif_totals 2 0 56 0))
    ∷ call 1 (SgCount source group) (Sg (route_totals 2 56 0))
    ∷ EndPhase ∷ []

abbrev pub tail : Ending
tail = record {
  routes = (route 4 source group 0 ((1, 1) ∷ []), route_totals 2 56 0) ∷ [];
  vifs = (vif 0 1 2, vif_totals 2 0 56 0) ∷ (vif 1 2 11, vif_totals 0 1 0 28) ∷ [];
  fates = [];
}
