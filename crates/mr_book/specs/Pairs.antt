-- Numbers with their authors.
use Rattle.std.specs.Prelude.{ℕ}
use Rattle.mr_book.specs.declared.pairs.Pair.{Pair}

abbrev pub pair : ℕ → ℕ → Pair
pair author number = record { author = author; number = number }

abbrev pub pair_author : Pair → ℕ
pair_author p = p.author
