-- With 64 unread reports and no room for a waiting entry: a new source is dropped for want of an entry, and a packet of the source
-- that waits joins it, since it is not reported.
use Rattle.std.specs.Prelude.{ℕ, ◌+◌, true, Some, List, [], ◌∷◌, ◌++◌, map, drop}
use Rattle.mr_model.specs.declared.ending.Ending.{Ending}
use Rattle.mr_model.specs.declared.ending.Fate.TheVariants.{Waiting}
use Rattle.mr_model.specs.declared.entry.Entry.{Entry}
use Rattle.mr_model.specs.declared.entry.Entry.TheVariants.{EndPhase}
use Rattle.mr_model.specs.declared.flow.Flow.{Flow}
use Rattle.mr_model.specs.declared.limits.Limits.{Limits}
use Rattle.mr_model.specs.declared.outcome.Cause.TheVariants.{Entries}
use Rattle.mr_model.specs.declared.outcome.Outcome.TheVariants.{Dropped, Parked, Register}
use Rattle.mr_model.specs.Ending.{indexes}
use Rattle.mr_rows.specs.Samples.{addr, any, source, group, usual, mask, add_vif, add_mfc, good, opening, packet, slow, route, vif, register, route_totals, vif_totals, fate_line}

abbrev pub limits : Limits
limits = record (usual 2 66 (0 ∷ [])) { unresolved = 1 }

abbrev pub missing : Flow
missing = packet 1 (addr 10 0 0 8) group 9

-- the packet with this index, which is entry index + 5
abbrev pub copy : ℕ → Entry
copy index = slow index (index + 4) (packet 1 source group 9) (Register 4 (Some 0) (mask (1 ∷ [])) true)

-- the indexes 2 to 64
abbrev pub copied_indexes : List ℕ
copied_indexes = drop 2 (indexes ++ map (λ i. i + 32) indexes) ++ 64 ∷ []

abbrev pub history : List Entry
history =
    opening (0 ∷ [])
    ++ good 1 (add_vif 1 4 any.0)
    ∷ good 1 (add_mfc source group 0 ((1, 1) ∷ []))
    ∷ EndPhase
    ∷ slow 1 5 missing Parked
    ∷ map copy copied_indexes
    ++ slow 65 69 (packet 1 (addr 10 0 0 7) group 9) (Dropped Entries)
    ∷ slow 66 70 missing Parked
    ∷ EndPhase ∷ []

abbrev pub tail : Ending
tail = record {
  routes = (route 4 source group 0 ((1, 1) ∷ []), route_totals 63 1764 0) ∷ [];
  vifs = (vif 0 1 2, vif_totals 63 0 1764 0) ∷ (register 1 3, vif_totals 0 63 0 1764) ∷ [];
  fates = fate_line 1 Waiting ∷ fate_line 66 Waiting ∷ [];
}
