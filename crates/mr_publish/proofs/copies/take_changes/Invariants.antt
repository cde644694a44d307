use Rattle.std.specs.Prelude.{◌≡◌, drop, fold}
use Rattle.mr_publish.specs.Copies.{taken}
use Rattle.mr_publish.proofs.copies.take_changes.Given as goal

-- the changes that are left make of the tables what all make of the first
abbrev pub invariant-loop-change : goal.invariant-loop-change
invariant-loop-change l =
    fold taken l.tables (drop l.change-index l.fn.changes) ≡ fold taken l.fn.tables l.fn.changes
