use Rattle.std.proofs.Common.{ℕ, ◌≡◌, drop, fold}
use Rattle.mr_model.specs.declared.entry.FastRecord.{FastRecord}
use Rattle.mr_plain.proofs.past.last_of.Given as goal

abbrev pub invariant-loop-r : goal.invariant-loop-r
invariant-loop-r l = fold (λ (b : ℕ) (r : FastRecord). r.index) l.last (drop l.r-index l.records) ≡ fold (λ (b : ℕ) (r : FastRecord). r.index) l.before l.records
