-- A lane with 65 packets that are forwarded without the lock: 64 are counted together, and the last one by itself.
use Rattle.std.specs.Prelude.{ℕ, ◌+◌, List, [], ◌∷◌, ◌++◌, map}
use Rattle.mr_model.specs.declared.ending.Ending.{Ending}
use Rattle.mr_model.specs.declared.entry.Entry.{Entry}
use Rattle.mr_model.specs.declared.entry.Entry.TheVariants.{EndPhase}
use Rattle.mr_model.specs.declared.entry.FastRecord.{FastRecord}
use Rattle.mr_model.specs.declared.limits.Limits.{Limits}
use Rattle.mr_model.specs.Ending.{indexes}
use Rattle.mr_rows.specs.Samples.{source, group, usual, add_mfc, good, opening, packet, slow, forward, route, vif, route_totals, vif_totals, fast, settle}

abbrev pub limits : Limits
limits = usual 2 65 (0 ∷ 1 ∷ [])

abbrev pub start : List Entry
start = opening (0 ∷ 1 ∷ []) ++ good 1 (add_mfc source group 0 ((1, 1) ∷ [])) ∷ EndPhase ∷ []

-- the packet with this index
abbrev pub passed : ℕ → ℕ → FastRecord
passed index look = fast index look (packet 1 source group 9) 4 0 (1 ∷ [])

abbrev pub first_records : List FastRecord
first_records = map (λ i. passed (i + 1) 5) indexes ++ map (λ i. passed (i + 33) 5) indexes

abbrev pub history : List Entry
history = start ++ settle first_records ∷ settle (passed 65 6 ∷ []) ∷ EndPhase ∷ []

-- the last one decided under the lock, with a look that has seen the count of the others
abbrev pub slow_after : List Entry
slow_after = start ++ settle first_records ∷ slow 65 6 (packet 1 source group 9) (forward 4 0 (1 ∷ [])) ∷ []

-- all of them together, which are too many
abbrev pub overfull : List Entry
overfull = start ++ settle (first_records ++ passed 65 5 ∷ []) ∷ []

abbrev pub tail : Ending
tail = record {
  routes = (route 4 source group 0 ((1, 1) ∷ []), route_totals 65 1820 0) ∷ [];
  vifs = (vif 0 1 2, vif_totals 65 0 1820 0) ∷ (vif 1 2 3, vif_totals 0 65 0 1820) ∷ [];
  fates = [];
}
