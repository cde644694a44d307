-- Values kept under numbers, newest first: the numbers fall, so no number stands twice.
use Rattle.std.specs.Prelude.{refl, ℕ, ◌<◌, ◌==◌, if◌then◌else◌, Option, Some, None, List, [], ◌∷◌}
use Rattle.std.specs.Prelude.{map}
use Rattle.std.specs.Coded.{Coded, code_by, coded×, coded_ℕ, coded_list}
use Rattle.std.specs.List.{AllByRecursion}

-- what is kept, newest first, and how many values there is room for
pub record NumberedValue (T : Type 0) : Type 0 where
  pub items : List (ℕ × T)
  pub room : ℕ

abbrev pub numbered_code : {T : Type 0} → Coded T → Coded (NumberedValue T)
numbered_code {T} code =
    code_by (List (ℕ × T) × ℕ) (coded× (coded_list (coded× coded_ℕ code)) coded_ℕ)
    (λ v. (v.items, v.room))
    (λ p. record { items = p.0; room = p.1 }) (λ _. refl)

-- the value of a number
abbrev pub value_of : {T : Type 0} → List (ℕ × T) → ℕ → Option T
value_of [] n = None
value_of (p ∷ ps) n = if p.0 == n then Some p.1 else value_of ps n

-- the list with another value at a number
abbrev pub with_value : {T : Type 0} → List (ℕ × T) → ℕ → T → List (ℕ × T)
with_value [] n v = []
with_value (p ∷ ps) n v = if p.0 == n then (n, v) ∷ ps else p ∷ with_value ps n v

-- the list without a number
abbrev pub without_value : {T : Type 0} → List (ℕ × T) → ℕ → List (ℕ × T)
without_value [] n = []
without_value (p ∷ ps) n = if p.0 == n then ps else p ∷ without_value ps n

-- all numbers are below n
abbrev pub AreBelow : {T : Type 0} → ℕ → List (ℕ × T) → Type 0
AreBelow n ps = AllByRecursion (λ p. p.0 < n) ps

-- each number is above all behind it
abbrev pub AreFalling : {T : Type 0} → List (ℕ × T) → Type 0
AreFalling [] = Unit {0}
AreFalling (p ∷ ps) = AreBelow p.0 ps × AreFalling ps

abbrev pub numbers_of : {T : Type 0} → List (ℕ × T) → List ℕ
numbers_of ps = map (λ p. p.0) ps
