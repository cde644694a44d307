-- Copies on the register vif are told until 64 reports are unread, and lost from then on; and a packet that misses is then dropped.
use Rattle.std.specs.Prelude.{ℕ, ◌+◌, Bool, true, false, Some, List, [], ◌∷◌, ◌++◌, map, suc}
use Rattle.mr_model.specs.Ending.{indexes}
use Rattle.mr_model.specs.declared.ending.Ending.{Ending}
use Rattle.mr_model.specs.declared.entry.Entry.{Entry}
use Rattle.mr_model.specs.declared.entry.Entry.TheVariants.{EndPhase}
use Rattle.mr_model.specs.declared.flow.Flow.{Flow}
use Rattle.mr_model.specs.declared.limits.Limits.{Limits}
use Rattle.mr_model.specs.declared.outcome.Cause.TheVariants.{Upcall}
use Rattle.mr_model.specs.declared.outcome.Outcome.{Outcome}
use Rattle.mr_model.specs.declared.outcome.Outcome.TheVariants.{Dropped, Register}
use Rattle.mr_rows.specs.Samples.{addr, any, source, group, usual, mask, add_vif, add_mfc, good, opening, packet, slow, route, vif, register, route_totals, vif_totals}

abbrev pub limits : Limits
limits = usual 2 67 (0 ∷ [])

abbrev pub start : List Entry
start =
    opening (0 ∷ [])
    ++ good 1 (add_vif 1 4 any.0)
    ∷ good 1 (add_mfc source group 0 ((1, 1) ∷ []))
    ∷ EndPhase ∷ []

abbrev pub copied : Bool → Outcome
copied told = Register 4 (Some 0) (mask (1 ∷ [])) told

-- the packet with this index, which is entry index + 5
abbrev pub copy : ℕ → Bool → Entry
copy index told = slow index (index + 4) (packet 1 source group 9) (copied told)

-- the indexes of the 64 packets whose copies are told
abbrev pub told_indexes : List ℕ
told_indexes = map suc indexes ++ map (λ i. i + 33) indexes

abbrev pub all_told : List Entry
all_told = start ++ map (λ i. copy i true) told_indexes

abbrev pub missing : Flow
missing = packet 1 (addr 10 0 0 8) group 9

abbrev pub history : List Entry
history =
    all_told
    ++ copy 65 false
    ∷ slow 66 70 missing (Dropped Upcall)
    ∷ slow 67 71 missing (Dropped Upcall)
    ∷ EndPhase ∷ []

abbrev pub tail : Ending
tail = record {
  routes = (route 4 source group 0 ((1, 1) ∷ []), route_totals 65 1820 0) ∷ [];
  vifs = (vif 0 1 2, vif_totals 65 0 1820 0) ∷ (register 1 3, vif_totals 0 65 0 1820) ∷ [];
  fates = [];
}
