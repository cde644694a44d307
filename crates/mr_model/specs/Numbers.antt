-- Numbers of changes, which rise, and of entries of the tables, which fall from the newest on.
use Rattle.std.specs.Prelude.{ℕ, ◌<◌, List, [], ◌∷◌}
use Rattle.mr_base.specs.declared.route.Route.{Route}
use Rattle.mr_model.specs.declared.change.Change.{Change}

-- each number is above n and above that of the change before
abbrev pub NumbersRise : ℕ → List Change → Type 0
NumbersRise n [] = Unit {0}
NumbersRise n (c ∷ cs) = (n < c.number) × NumbersRise c.number cs

-- each number is below n and below that of the entry before, which is newer
abbrev pub NumbersFall : ℕ → List Route → Type 0
NumbersFall n [] = Unit {0}
NumbersFall n (r ∷ rs) = (r.number < n) × NumbersFall r.number rs
