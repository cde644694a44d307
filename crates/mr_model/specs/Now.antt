-- The moment: the sum of all ticks, in milliseconds.
use Rattle.std.specs.Prelude.{ℕ, List, sum_by}
use Rattle.mr_model.specs.declared.entry.Entry.{Entry}
use Rattle.mr_model.specs.declared.entry.Entry.TheVariants.{Tick}

abbrev pub milliseconds : Entry → ℕ
milliseconds (Tick d ms) = ms
milliseconds _ = 0

abbrev pub now : List Entry → ℕ
now h = sum_by milliseconds h
