-- How values under numbers are kept: by rising numbers.
use Rattle.std.specs.Prelude.{ℕ, ◌<◌, List, [], ◌∷◌}
use Rattle.std.specs.List.{AllByRecursion}

abbrev pub AreRising : {T : Type 0} → List (ℕ × T) → Type 0
AreRising [] = Unit {0}
AreRising (p ∷ ps) = AllByRecursion (λ q. p.0 < q.0) ps × AreRising ps
