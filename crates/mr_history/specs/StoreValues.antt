-- What contracts see of the entries as they are kept.
use Rattle.std.specs.Prelude.{ℕ, ◌+◌, ◌≤◌, List}
use Rattle.mr_model.specs.declared.entry.Entry.{Entry}
use Rattle.mr_history.specs.declared.store.Spare.{Spare}

pub record StoreValue : Type 0 where
  pub entries : List Entry
  -- how much there is room for
  pub spare : Spare

-- no more room was taken than this
pub record LeavesRoom (old new : Spare) (entries packets calls released : ℕ) : Type 0 where
  pub entries_left : old.entries ≤ new.entries + entries
  pub packets_left : old.packets ≤ new.packets + packets
  pub calls_left : old.calls ≤ new.calls + calls
  pub released_left : old.released ≤ new.released + released
