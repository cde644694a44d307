-- Two vifs on one device: both send, and a packet that comes in counts as on the higher one.
use Rattle.std.specs.Prelude.{ℕ, Some, List, [], ◌∷◌, ◌++◌, take}
use Rattle.mr_model.specs.declared.ending.Ending.{Ending}
use Rattle.mr_model.specs.declared.ending.Fate.TheVariants.{Waiting}
use Rattle.mr_model.specs.declared.entry.Entry.{Entry}
use Rattle.mr_model.specs.declared.entry.Entry.TheVariants.{EndPhase}
use Rattle.mr_model.specs.declared.entry.FastRecord.{FastRecord}
use Rattle.mr_model.specs.declared.flow.Flow.{Flow}
use Rattle.mr_model.specs.declared.limits.Limits.{Limits}
use Rattle.mr_model.specs.declared.message.Kind.TheVariants.{NoCache}
use Rattle.mr_model.specs.declared.message.MessageId.{MessageId}
use Rattle.mr_model.specs.declared.outcome.Outcome.TheVariants.{Parked}
use Rattle.mr_rows.specs.Samples.{addr, source, group, second_group, usual, add_vif, add_mfc, good, opening, recv, report, packet, slow, forward, route, vif, route_totals, vif_totals, fate_line, fast, settle}

abbrev pub limits : Limits
limits = usual 3 2 (0 ∷ 1 ∷ [])

-- of device 1, with both vifs
abbrev pub missing : Flow
missing = packet 1 source second_group 9

-- the first packet, decided without the lock
abbrev pub passed : ℕ → FastRecord
passed look = fast 1 look (packet 2 (addr 10 0 1 9) group 9) 5 1 (0 ∷ 2 ∷ [])

abbrev pub before_receive : List Entry
before_receive =
    opening (0 ∷ 1 ∷ [])
    ++ good 1 (add_vif 2 8 1)
    ∷ good 1 (add_mfc (addr 10 0 1 9) group 1 ((0, 1) ∷ (2, 1) ∷ []))
    ∷ EndPhase
    ∷ slow 1 6 (packet 2 (addr 10 0 1 9) group 9) (forward 5 1 (0 ∷ 2 ∷ []))
    ∷ slow 2 7 missing Parked
    ∷ EndPhase ∷ []

-- the report of the packet that waits
abbrev pub miss : MessageId
miss = report NoCache 2 2

abbrev pub history : List Entry
history = before_receive ++ recv (Some miss) ∷ EndPhase ∷ []

-- the same with plainly forwarded packets that were decided without the lock
abbrev pub fast_history : List Entry
fast_history =
    take 6 history
    ++ settle (passed 6 ∷ [])
    ∷ slow 2 6 missing Parked
    ∷ EndPhase
    ∷ recv (Some miss)
    ∷ EndPhase ∷ []

abbrev pub tail : Ending
tail = record {
  routes = (route 5 (addr 10 0 1 9) group 1 ((0, 1) ∷ (2, 1) ∷ []), route_totals 1 28 0) ∷ [];
  vifs = (vif 0 1 2, vif_totals 0 1 0 28) ∷ (vif 1 2 3, vif_totals 1 0 28 0) ∷ (vif 2 1 4, vif_totals 0 1 0 28) ∷ [];
  fates = fate_line 2 Waiting ∷ [];
}
