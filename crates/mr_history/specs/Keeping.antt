-- What a journal keeps of its fields.
use Rattle.std.specs.Prelude.{◌≡◌, ℕ, ◌+◌, ◌-◌, ◌*◌, ◌^◌, ◌≤◌, List, length, sum, slice_index}
use Rattle.std.specs.List.{AllByRecursion}
use Rattle.mr_base.specs.declared.numbers.LaneNo.{LaneNo}
use Rattle.mr_model.specs.declared.entry.Entry.{Entry}
use Rattle.mr_model.specs.declared.limits.Limits.{Limits}
use Rattle.mr_model.specs.Counts.{Met, met}
use Rattle.mr_model.specs.Past.{controls, packets, phases}
use Rattle.mr_model.specs.Legal.{IsLane, packets_given}
use Rattle.mr_history.specs.declared.journal.Journal.TheInside.{Inside}
use Rattle.mr_history.specs.declared.store.Spare.{Spare}
use Rattle.mr_history.specs.declared.totals.Totals.{Totals}
use Rattle.mr_history.specs.Fits.{FitsLimits}
use Rattle.mr_history.specs.Journals.{JournalValue}
use Rattle.mr_history.specs.Numbers.{numbers_of}
use Rattle.mr_history.specs.Totals.{AreShort, AreTotals, vif_numbers}

abbrev pub journal_value : Inside → JournalValue
journal_value a = record {
  entries = a.store.entries;
  limits = a.limits;
  routes = numbers_of a.totals.routes.items;
  vifs = vif_numbers a.totals.vifs;
}

-- what is used and what is left make up the limits
pub record IsLeft (limits : Limits) (h : List Entry) (controls_left phases_left : ℕ)
    (packets_left : List ℕ) : Type 0 where
  pub lanes : length packets_left ≡ length limits.packets
  pub controls_are : controls h + controls_left ≡ limits.controls
  pub phases_are : phases h + phases_left ≡ limits.phases
  pub packets_are : (lane : LaneNo) → IsLane limits lane
      → packets lane h + slice_index packets_left (lane.0 - 1) ≡ packets_given limits lane

-- there is room for all that is left, and what is used and left is little
pub record HasSpace (h : List Entry) (spare : Spare) (controls_left phases_left : ℕ)
    (packets_left : List ℕ) : Type 0 where
  pub entries : controls_left + phases_left + sum packets_left ≤ spare.entries
  pub packets : sum packets_left ≤ spare.packets
  pub calls : controls_left ≤ spare.calls
  pub released : 4 * controls_left ≤ spare.released
  pub few_met : length (met h) + sum packets_left + 4 * controls_left ≤ 2 ^ 24
  pub few : length h + controls_left + phases_left + sum packets_left ≤ 2 ^ 24

-- where a packet met an entry, both stand within the first n entries
pub record IsMetWithin (n : ℕ) (m : Met) : Type 0 where
  pub entry : m.entry ≤ n
  pub place : m.place ≤ n

-- the totals that are kept are those of the history
pub record IsCounted (limits : Limits) (h : List Entry) (t : Totals) : Type 0 where
  pub totals : AreTotals t (met h)
  pub short : AreShort (met h)
  pub within : AllByRecursion (IsMetWithin (length h)) (met h)
  pub numbers : AllByRecursion (λ n. n ≤ length h + 1) (numbers_of t.routes.items)
  pub room : t.routes.room ≡ limits.entries
  pub vifs : length t.vifs ≡ 32

pub record IsJournal (a : Inside) : Type 0 where
  pub limits : FitsLimits a.limits
  pub left : IsLeft a.limits a.store.entries a.controls_left a.phases_left a.packets_left.items
  pub space : HasSpace a.store.entries a.store.spare a.controls_left a.phases_left
      a.packets_left.items
  pub counted : IsCounted a.limits a.store.entries a.totals
