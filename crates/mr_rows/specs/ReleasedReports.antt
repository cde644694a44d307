-- Released packets are judged one after another by the new entry: the first is a copy for the owner, the next two come in on a
-- wrong interface, of which one is reported, and the last has too low a TTL.
use Rattle.std.specs.Prelude.{true, Some, None, List, [], ◌∷◌, ◌++◌, map}
use Rattle.mr_model.specs.declared.ending.Ending.{Ending}
use Rattle.mr_model.specs.declared.ending.Fate.TheVariants.{Released}
use Rattle.mr_model.specs.declared.entry.Entry.{Entry}
use Rattle.mr_model.specs.declared.entry.Entry.TheVariants.{Call, EndPhase}
use Rattle.mr_model.specs.declared.limits.Limits.{Limits}
use Rattle.mr_model.specs.declared.message.Kind.TheVariants.{NoCache, WholePkt, WrongVif}
use Rattle.mr_model.specs.declared.message.MessageId.{MessageId}
use Rattle.mr_model.specs.declared.outcome.Outcome.TheVariants.{Parked, Register, Wrong}
use Rattle.mr_model.specs.declared.outcome.Report.TheVariants.{Quiet, Told}
use Rattle.mr_model.specs.declared.reply.Reply.TheVariants.{Good}
use Rattle.mr_model.specs.declared.request.Request.TheVariants.{Assert}
use Rattle.mr_rows.specs.Samples.{any, source, group, usual, daemon, mask, add_vif, add_mfc, good, opening, recv, report, packet, slow, forward, freed, route, vif, register, route_totals, vif_totals, fate_line}

abbrev pub limits : Limits
limits = usual 3 4 (0 ∷ 1 ∷ [])

abbrev pub before_entry : List Entry
before_entry =
    opening (0 ∷ 1 ∷ [])
    ++ good 1 (add_vif 2 4 any.0)
    ∷ good 1 (Assert 1)
    ∷ EndPhase
    ∷ slow 1 6 (packet 1 source group 9) Parked
    ∷ slow 2 7 (packet 2 source group 9) Parked
    ∷ slow 3 8 (packet 2 source group 9) Parked
    ∷ slow 4 9 (packet 1 source group 1) Parked
    ∷ EndPhase ∷ []

abbrev pub entry_made : Entry
entry_made =
    Call (daemon 1) (add_mfc source group 0 ((1, 1) ∷ (2, 1) ∷ [])) Good
    (freed 1 (Register 12 (Some 0) (mask (1 ∷ 2 ∷ [])) true)
    ∷ freed 2 (Wrong 12 (Some 1) Told)
    ∷ freed 3 (Wrong 12 (Some 1) Quiet)
    ∷ freed 4 (forward 12 0 []) ∷ [])

abbrev pub reports : List MessageId
reports = report NoCache 0 1 ∷ report WholePkt 2 1 ∷ report WrongVif 1 2 ∷ []

abbrev pub history : List Entry
history = before_entry ++ entry_made ∷ map (λ m. recv (Some m)) reports ++ recv None ∷ EndPhase ∷ []

abbrev pub tail : Ending
tail = record {
  routes = (route 12 source group 0 ((1, 1) ∷ (2, 1) ∷ []), route_totals 4 112 2) ∷ [];
  vifs = (vif 0 1 2, vif_totals 2 0 56 0) ∷ (vif 1 2 3, vif_totals 0 1 0 28) ∷ (register 2 4, vif_totals 0 1 0 28) ∷ [];
  fates =
      fate_line 1 (Released 12) ∷ fate_line 2 (Released 12)
      ∷ fate_line 3 (Released 12) ∷ fate_line 4 (Released 12) ∷ [];
}
