use Rattle.std.proofs.Common.{◌≡◌, take}
use Rattle.mr_history.proofs.walking.all_entries.Given as goal

abbrev pub invariant-loop-place : goal.invariant-loop-place
invariant-loop-place l = l.entries.items ≡ take l.place l.store.entries
