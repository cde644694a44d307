-- An entry that is seen in place is the entry.
use Rattle.std.specs.Prelude.{◌≤◌, length}
use Rattle.mr_history.specs.declared.most.TheConstants.{MOST_RELEASED}
use Rattle.mr_model.specs.declared.entry.Entry.{Entry}
use Rattle.mr_model.specs.declared.entry.Entry.TheVariants as kept
use Rattle.mr_history.specs.declared.view.EntryView.{EntryView}
use Rattle.mr_history.specs.declared.view.EntryView.TheVariants.{Call, Slow, Settle, Tick, Recv}
use Rattle.mr_history.specs.declared.view.EntryView.TheVariants.{EndPhase}

abbrev pub entry_seen : EntryView → Entry
entry_seen (Call d r reply released) = kept.Call d r.now reply released.now
entry_seen (Slow lane index look flow o) = kept.Slow lane index look flow o
entry_seen (Settle lane records) = kept.Settle lane records
entry_seen (Tick d ms) = kept.Tick d ms
entry_seen (Recv d message) = kept.Recv d message
entry_seen EndPhase = kept.EndPhase

-- a call released few packets
abbrev pub HasFew : EntryView → Type 0
HasFew (Call d r reply released) = length released.now ≤ MOST_RELEASED
HasFew _ = Unit {0}
