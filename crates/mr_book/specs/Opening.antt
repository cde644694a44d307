-- A book as it is opened.
use Rattle.std.specs.Prelude.{ℕ}
use Rattle.atomic_table.specs.Seated.{TableId}

-- the table of its count, and how many numbers it deals
pub record Opening : Type 0 where
  pub table : TableId
  pub callers : ℕ

-- the numbers that are not dealt yet: the first of them, and how many there are
pub record Numbers : Type 0 where
  pub next : ℕ
  pub left : ℕ
