-- The higher of two vifs.
use Rattle.std.specs.Prelude.{ℕ, Option, Some, None}
use Rattle.mr_model.specs.VifList.{higher}

-- the higher of two, where there are two
abbrev pub joined : Option ℕ → Option ℕ → Option ℕ
joined None b = b
joined (Some i) b = higher i b
