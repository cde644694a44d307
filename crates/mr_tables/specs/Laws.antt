-- What ties the tables as an object to those of a history.
use Rattle.std.specs.Prelude.{◌≡◌, ℕ, ◌+◌, true, not, Some, List, [], ◌∷◌, ◌++◌, length, take, fold}
use Rattle.mr_base.specs.declared.numbers.DaemonNo.{DaemonNo}
use Rattle.mr_model.specs.declared.change.Change.{Change}
use Rattle.mr_model.specs.declared.entry.Entry.{Entry}
use Rattle.mr_model.specs.declared.entry.Entry.TheVariants.{Call}
use Rattle.mr_model.specs.declared.entry.ReleasedId.{ReleasedId}
use Rattle.mr_model.specs.declared.limits.Limits.{Limits}
use Rattle.mr_model.specs.declared.reply.Reply.TheVariants.{Good}
use Rattle.mr_model.specs.declared.request.Request.{Request}
use Rattle.mr_model.specs.Changes.{change_by, changes, up_to}
use Rattle.mr_model.specs.Granting.{what_of}
use Rattle.mr_model.specs.Legal.{IsLegal}
use Rattle.mr_model.specs.State.{state, is_owner}
use Rattle.mr_mfc.specs.Caches.{is_above}
use Rattle.mr_tables.specs.Values.{TablesValue, applied}
use Rattle.mr_tables.specs.Fitting.{FitInTurn}

-- these are the tables after a history
pub record IsAfter (limits : Limits) (h : List Entry) (v : TablesValue) : Type 0 where
  pub tables : v.tables ≡ (state limits h).tables
  pub slots : v.slots ≡ limits.entries
  pub devices : v.devices ≡ limits.devices

-- behind the change that a good call makes they are those after the history with that call
abbrev pub GoodCallApplies : Type 0
GoodCallApplies = (limits : Limits) (h : List Entry) (v : TablesValue) (d : DaemonNo) (r : Request)
    (released : List ReleasedId) (c : Change)
    → IsAfter limits h v
    → what_of v.devices v.tables (not (is_owner (state limits h) d)) r ≡ Some c.what
    → c.number ≡ length h + 1
    → IsAfter limits (h ++ Call d r Good released ∷ []) (applied v c)

-- so are they behind the change that any entry makes, which most make none
abbrev pub EntryApplies : Type 0
EntryApplies = (limits : Limits) (h : List Entry) (v : TablesValue) (e : Entry)
    → IsAfter limits h v
    → IsAfter limits (h ++ e ∷ []) (fold applied v (change_by limits (state limits h) e))

-- the number of the next call is above those of all entries
abbrev pub NumberIsAbove : Type 0
NumberIsAbove = (limits : Limits) (h : List Entry)
    → is_above (length h + 1) (state limits h).tables.routes ≡ true

-- the changes of a history, one after another, make its tables of those before it
abbrev pub ChangesApply : Type 0
ChangesApply = (limits : Limits) (h : List Entry) (v : TablesValue)
    → IsAfter limits [] v → IsAfter limits h (fold applied v (changes limits h))

-- and those up to n the tables of its first n entries
abbrev pub FirstChangesApply : Type 0
FirstChangesApply = (limits : Limits) (h : List Entry) (n : ℕ) (v : TablesValue)
    → IsAfter limits [] v → IsAfter limits (take n h) (fold applied v (up_to n (changes limits h)))

-- the changes of a legal history fit, one after another
abbrev pub LegalChangesFit : Type 0
LegalChangesFit = (limits : Limits) (h : List Entry) (v : TablesValue)
    → IsLegal limits h → IsAfter limits [] v → FitInTurn v (changes limits h)
