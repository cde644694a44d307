-- Eleven packets of eleven sources: ten make a waiting entry each, and the last is dropped, since no more than ten may wait.
use Rattle.std.specs.Prelude.{ℕ, List, [], ◌∷◌, ◌++◌, map}
use Rattle.mr_model.specs.declared.ending.Ending.{Ending}
use Rattle.mr_model.specs.declared.ending.Fate.TheVariants.{Waiting}
use Rattle.mr_model.specs.declared.entry.Entry.{Entry}
use Rattle.mr_model.specs.declared.entry.Entry.TheVariants.{EndPhase}
use Rattle.mr_model.specs.declared.flow.Flow.{Flow}
use Rattle.mr_model.specs.declared.limits.Limits.{Limits}
use Rattle.mr_model.specs.declared.outcome.Cause.TheVariants.{Entries}
use Rattle.mr_model.specs.declared.outcome.Outcome.TheVariants.{Dropped, Parked}
use Rattle.mr_rows.specs.Samples.{addr, group, usual, opening, packet, slow, vif, vif_totals, fate_line}

abbrev pub limits : Limits
limits = usual 2 11 (0 ∷ 1 ∷ [])

-- to the group from 10.0.0.b
abbrev pub from : ℕ → Flow
from b = packet 1 (addr 10 0 0 b) group 9

abbrev pub ten_wait : List Entry
ten_wait =
    opening (0 ∷ 1 ∷ [])
    ++ EndPhase
    ∷ slow 1 4 (from 11) Parked
    ∷ slow 2 5 (from 12) Parked
    ∷ slow 3 6 (from 13) Parked
    ∷ slow 4 7 (from 14) Parked
    ∷ slow 5 8 (from 15) Parked
    ∷ slow 6 9 (from 16) Parked
    ∷ slow 7 10 (from 17) Parked
    ∷ slow 8 11 (from 18) Parked
    ∷ slow 9 12 (from 19) Parked
    ∷ slow 10 13 (from 20) Parked ∷ []

abbrev pub history : List Entry
history = ten_wait ++ slow 11 14 (from 21) (Dropped Entries) ∷ EndPhase ∷ []

abbrev pub tail : Ending
tail = record {
  routes = [];
  vifs = (vif 0 1 2, vif_totals 0 0 0 0) ∷ (vif 1 2 3, vif_totals 0 0 0 0) ∷ [];
  fates = map (λ i. fate_line i Waiting) (1 ∷ 2 ∷ 3 ∷ 4 ∷ 5 ∷ 6 ∷ 7 ∷ 8 ∷ 9 ∷ 10 ∷ []);
}
