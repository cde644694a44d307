-- What contracts see of a journal: the history, and whose totals it keeps.
use Rattle.std.specs.Prelude.{ℕ, ◌≤◌, ◌==◌, Bool, false, if◌then◌else◌, Option, Some, None}
use Rattle.std.specs.Prelude.{option_map, List, [], ◌∷◌, ◌++◌, slice_index_or}
use Rattle.std.specs.List.{list_any}
use Rattle.mr_base.specs.declared.vif_record.VifRecord.{VifRecord}
use Rattle.mr_model.specs.declared.entry.Entry.{Entry}
use Rattle.mr_model.specs.declared.limits.Limits.{Limits}
use Rattle.mr_model.specs.declared.outcome.Outcome.{Outcome}
use Rattle.mr_model.specs.declared.outcome.Outcome.TheVariants.{Forward, Register, Wrong, Parked}
use Rattle.mr_model.specs.declared.outcome.Outcome.TheVariants.{Dropped}
use Rattle.mr_model.specs.declared.reply.RouteTotals.{RouteTotals}
use Rattle.mr_model.specs.declared.reply.VifTotals.{VifTotals}
use Rattle.mr_model.specs.Counts.{route_counts, vif_counts}

pub record JournalValue : Type 0 where
  pub entries : List Entry
  pub limits : Limits
  -- the numbers of the (S,G) entries whose totals are kept, newest first
  pub routes : List ℕ
  -- for each vif index the number of the vif whose totals are kept
  pub vifs : List (Option ℕ)

-- the journal with one more entry
abbrev pub with_entry : JournalValue → Entry → JournalValue
with_entry j e = record j { entries = j.entries ++ e ∷ [] }

abbrev pub has_number : List ℕ → ℕ → Bool
has_number ns n = list_any (λ m. m == n) ns

-- the list without the first of this number
abbrev pub remove_number : List ℕ → ℕ → List ℕ
remove_number [] n = []
remove_number (m ∷ ms) n = if m == n then ms else m ∷ remove_number ms n

-- the number of the vif that is kept at an index
abbrev pub number_at : List (Option ℕ) → ℕ → Option ℕ
number_at vifs vif = slice_index_or vifs vif None

-- A vif's totals depend on its index and its number alone.
abbrev pub numbered_vif : ℕ → ℕ → VifRecord
numbered_vif vif n = record { vif = vif; dev = 0; register = false; fixed = false; number = n }

-- the totals of an entry, where they are kept
abbrev pub route_totals : JournalValue → ℕ → Option RouteTotals
route_totals j n = if has_number j.routes n then Some (route_counts j.entries n) else None

-- the totals of the vif at an index, where they are kept
abbrev pub vif_totals : JournalValue → ℕ → Option VifTotals
vif_totals j vif = option_map (λ n. vif_counts j.entries (numbered_vif vif n))
    (number_at j.vifs vif)

-- the outcome names no (S,G) entry above number n
abbrev pub NamesUpTo : ℕ → Outcome → Type 0
NamesUpTo n (Forward entry input outs) = entry ≤ n
NamesUpTo n (Register entry input outs told) = entry ≤ n
NamesUpTo n (Wrong entry vif report) = entry ≤ n
NamesUpTo n Parked = Unit {0}
NamesUpTo n (Dropped cause) = Unit {0}
