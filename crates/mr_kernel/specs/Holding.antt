-- What the machine keeps of its parts.
use Rattle.std.specs.Prelude.{◌≡◌, ℕ, ◌*◌, ◌<◌, ◌≤◌, Bool, if◌then◌else◌, Option, option_map, List}
use Rattle.std.specs.Prelude.{map}
use Rattle.mr_base.specs.declared.route.Route.{Route}
use Rattle.mr_base.specs.declared.vif_record.VifRecord.{VifRecord}
use Rattle.mr_model.specs.Fate.{fates}
use Rattle.mr_model.specs.Legal.{IsLegal}
use Rattle.mr_model.specs.Past.{controls}
use Rattle.mr_model.specs.State.{state}
use Rattle.mr_model.specs.Tables.{Tables}
use Rattle.mr_model.specs.VifList.{vif_at}
use Rattle.mr_fates.specs.Lines.{FateList}
use Rattle.mr_history.specs.Fits.{FitsLimits}
use Rattle.mr_history.specs.Journals.{JournalValue, number_at}
use Rattle.mr_kernel.specs.declared.live.Live.{Live}
use Rattle.mr_kernel.specs.Flows.{AreHeads}
use Rattle.mr_kernel.specs.Standing.{StandsFor}

-- the journal keeps the totals of just the (S,G) entries and vifs of the tables
pub record CountsFor (t : Tables) (j : JournalValue) : Type 0 where
  pub routes : j.routes ≡ map (λ r. r.number) t.routes
  pub vifs : (i : ℕ) → i < 32 → number_at j.vifs i ≡ option_map (λ v. v.number) (vif_at t.vifs i)

-- The history is legal, and all that the machine knows is what the definitions give of it.
pub record Holds (j : JournalValue) (l : Live) (f : FateList) : Type 0 where
  pub fits : FitsLimits j.limits
  pub legal : IsLegal j.limits j.entries
  pub stands : StandsFor j.limits (state j.limits j.entries) l
  -- no tick is longer than 32 bits tell
  pub early : l.moment ≤ controls j.entries * 4294967295
  pub heads : AreHeads j.entries l.unread
  pub counts : CountsFor l.tables.tables j
  pub fates : f.lines ≡ fates j.limits j.entries
  pub lanes : f.packets ≡ j.limits.packets

-- the numbers of some (S,G) entries
abbrev pub numbers : List Route → List ℕ
numbers routes = map (λ r. r.number) routes

-- kept for each of the 32 vif indexes is the number of its vif, where there is one
abbrev pub CountsVifs : List VifRecord → List (Option ℕ) → Type 0
CountsVifs vifs kept = (i : ℕ) → i < 32
    → number_at kept i ≡ option_map (λ v. v.number) (vif_at vifs i)

-- whether a flush removes an entry or a vif: static ones where `fixed`, the others where `loose`
abbrev pub flushes : Bool → Bool → Bool → Bool
flushes loose fixed static = if static then fixed else loose
