-- With room for one waiting entry: further packets of its source and group join it up to four, and another source finds no room.
use Rattle.std.specs.Prelude.{List, [], ◌∷◌, ◌++◌, map}
use Rattle.mr_model.specs.WaitingList.{Awaiting}
use Rattle.mr_model.specs.declared.ending.Ending.{Ending}
use Rattle.mr_model.specs.declared.ending.Fate.TheVariants.{Waiting}
use Rattle.mr_model.specs.declared.entry.Entry.{Entry}
use Rattle.mr_model.specs.declared.entry.Entry.TheVariants.{EndPhase}
use Rattle.mr_model.specs.declared.flow.Flow.{Flow}
use Rattle.mr_model.specs.declared.limits.Limits.{Limits}
use Rattle.mr_model.specs.declared.outcome.Cause.TheVariants.{Entries, Packets}
use Rattle.mr_model.specs.declared.outcome.Outcome.TheVariants.{Dropped, Parked}
use Rattle.mr_rows.specs.Samples.{addr, source, group, usual, lane, opening, packet, slow, vif, vif_totals, fate_line}

abbrev pub limits : Limits
limits = record (usual 2 6 (0 ∷ [])) { unresolved = 1 }

abbrev pub missing : Flow
missing = packet 1 source group 9

abbrev pub history : List Entry
history =
    opening (0 ∷ [])
    ++ EndPhase
    ∷ slow 1 3 missing Parked
    ∷ slow 2 4 missing Parked
    ∷ slow 3 5 (packet 1 (addr 10 0 0 8) group 9) (Dropped Entries)
    ∷ slow 4 6 missing Parked
    ∷ slow 5 7 missing Parked
    ∷ slow 6 8 missing (Dropped Packets)
    ∷ EndPhase ∷ []

-- the one waiting entry, with its four packets
abbrev pub joined : List Awaiting
joined =
    record {
      src = source;
      dst = group;
      since = 0;
      packets = map (λ i. record { lane = lane 1; index = i; flow = missing }) (1 ∷ 2 ∷ 4 ∷ 5 ∷ []);
    } ∷ []

abbrev pub tail : Ending
tail = record {
  routes = [];
  vifs = (vif 0 1 2, vif_totals 0 0 0 0) ∷ [];
  fates = map (λ i. fate_line i Waiting) (1 ∷ 2 ∷ 4 ∷ 5 ∷ []);
}
