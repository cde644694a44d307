-- Numbers of entries lie within the history.
use Rattle.std.proofs.Common.{◌≡◌, ℕ, ◌+◌, ◌-◌, ◌≤◌, List, [], ◌∷◌, length, take, Bool, true, false, refl, arith, length-take, if◌then◌else◌}
use Rattle.mr_base.specs.declared.numbers.LaneNo.{LaneNo}
use Rattle.mr_model.specs.declared.entry.Entry.{Entry}
use Rattle.mr_model.specs.Past.{is_end, is_of_lane, last_from, last_own, last_end, ends_short, own_before_slow}

either_within : (b : Bool) (n before m : ℕ) → n ≤ m → before ≤ m → (if b then n else before) ≤ m
either_within true n before m x y = x
either_within false n before m x y = y

last_from_within : (test : Entry → Bool) (before n m : ℕ) (g : List Entry) → before ≤ m → n + length g ≤ m + 1 → last_from test before n g ≤ m
last_from_within test before n m [] low le = low
last_from_within test before n m (e ∷ g) low le =
    last_from_within test (if test e then n else before) (n + 1) m g (either_within (test e) n before m (omega arith) low) (omega arith)

pub last_end_within : (g : List Entry) → last_end g ≤ length g
last_end_within g = last_from_within is_end 0 1 (length g) g (omega arith) (omega arith)

last_own_within : (lane : LaneNo) (g : List Entry) → last_own lane g ≤ length g
last_own_within lane g = last_from_within (is_of_lane lane) 0 1 (length g) g (omega arith) (omega arith)

before_short : (lane : LaneNo) (g : List Entry) (b : Bool) → (if b then last_own lane (take (length g - 1) g) else last_own lane g) ≤ length g
before_short lane g true = let w = last_own_within lane (take (length g - 1) g) in omega (arith, length-take (length g - 1) g)
before_short lane g false = last_own_within lane g

pub own_before_slow_within : (lane : LaneNo) (g : List Entry) → own_before_slow lane g ≤ length g
own_before_slow_within lane g = before_short lane g (ends_short lane g)
