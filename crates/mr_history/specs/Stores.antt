-- How the entries are kept.
use Rattle.std.specs.Prelude.{ℕ, ◌+◌, ◌-◌, ◌^◌, ◌<◌, ◌≤◌, min, Option, Some, None, List, length}
use Rattle.std.specs.Prelude.{map, take, drop, slice_get}
use Rattle.std.specs.List.{AllByRecursion}
use Rattle.std.specs.Vec.{vec_capacity}
use Rattle.mr_base.specs.declared.numbers.LaneNo.{LaneNo}
use Rattle.mr_model.specs.declared.entry.Entry.{Entry}
use Rattle.mr_model.specs.declared.entry.Entry.TheVariants as entry
use Rattle.mr_model.specs.declared.entry.FastRecord.{FastRecord}
use Rattle.mr_model.specs.declared.entry.ReleasedId.{ReleasedId}
use Rattle.mr_model.specs.declared.outcome.Outcome.TheVariants as outcome
use Rattle.mr_history.specs.declared.most.TheConstants.{MOST_RELEASED}
use Rattle.mr_history.specs.declared.store.Kept.{Kept}
use Rattle.mr_history.specs.declared.store.Kept.TheVariants.{Call, Forward, Slow, Settle, Tick}
use Rattle.mr_history.specs.declared.store.Kept.TheVariants.{Recv, EndPhase}
use Rattle.mr_history.specs.declared.store.KeptSlow.{KeptSlow}
use Rattle.mr_history.specs.declared.store.KeptCall.{KeptCall}
use Rattle.mr_history.specs.declared.store.Store.TheInside.{Inside}
use Rattle.mr_history.specs.StoreValues.{StoreValue}
use Rattle.mr_history.specs.Small.{fast_of}

-- the lists in which entries name what is large
pub record Lists : Type 0 where
  pub records : List FastRecord
  pub slows : List KeptSlow
  pub calls : List KeptCall
  pub released : List ReleasedId

-- the part of a list
abbrev pub part : {A : Type 0} → List A → ℕ → ℕ → List A
part xs first count = take count (drop first xs)

abbrev pub call_of : Option KeptCall → List ReleasedId → Entry
call_of None released = entry.EndPhase
call_of (Some c) released = entry.Call c.daemon c.request c.reply released

abbrev pub forward_of : LaneNo → Option FastRecord → Entry
forward_of lane None = entry.EndPhase
forward_of lane (Some r) = entry.Slow lane r.index r.look r.flow
    (outcome.Forward r.entry r.input r.outs)

abbrev pub slow_of : Option KeptSlow → Entry
slow_of None = entry.EndPhase
slow_of (Some s) = entry.Slow s.lane s.index s.look s.flow s.outcome

-- the entry that is kept; its places stand in the lists
abbrev pub entry_of : Lists → Kept → Entry
entry_of l (Call call first count) = call_of (slice_get l.calls call) (part l.released first count)
entry_of l (Forward lane i) = forward_of lane (slice_get l.records i)
entry_of l (Slow i) = slow_of (slice_get l.slows i)
entry_of l (Settle lane first count) = entry.Settle lane (part l.records first count)
entry_of l (Tick d ms) = entry.Tick d ms
entry_of l (Recv d message) = entry.Recv d message
entry_of l EndPhase = entry.EndPhase

-- the places that an entry names stand in the lists
abbrev pub IsWithin : Lists → Kept → Type 0
IsWithin l (Call call first count) = (call < length l.calls)
    × (first + count ≤ length l.released) × (count ≤ MOST_RELEASED)
IsWithin l (Forward lane i) = i < length l.records
IsWithin l (Slow i) = i < length l.slows
IsWithin l (Settle lane first count) = first + count ≤ length l.records
IsWithin l _ = Unit {0}

abbrev pub entries_of : Lists → List Kept → List Entry
entries_of l ks = map (entry_of l) ks

abbrev pub lists_of : Inside → Lists
lists_of a = record {
  records = map fast_of a.records.items;
  slows = a.slows.items;
  calls = a.calls.items;
  released = a.released.items;
}

abbrev pub store_value : Inside → StoreValue
store_value a = record {
  entries = entries_of (lists_of a) a.kept.items;
  spare = record {
    entries = vec_capacity a.kept - length a.kept.items;
    packets = min (vec_capacity a.records - length a.records.items)
        (vec_capacity a.slows - length a.slows.items);
    calls = vec_capacity a.calls - length a.calls.items;
    released = vec_capacity a.released - length a.released.items;
  };
}

pub record IsStore (a : Inside) : Type 0 where
  pub within : AllByRecursion (IsWithin (lists_of a)) a.kept.items
  pub entries : length a.kept.items ≤ vec_capacity a.kept
  pub most_entries : vec_capacity a.kept < 2 ^ 32
  pub records : length a.records.items ≤ vec_capacity a.records
  pub most_records : vec_capacity a.records < 2 ^ 32
  pub slows : length a.slows.items ≤ vec_capacity a.slows
  pub most_slows : vec_capacity a.slows < 2 ^ 32
  pub calls : length a.calls.items ≤ vec_capacity a.calls
  pub most_calls : vec_capacity a.calls < 2 ^ 32
  pub released : length a.released.items ≤ vec_capacity a.released
  pub most_released : vec_capacity a.released < 2 ^ 32
