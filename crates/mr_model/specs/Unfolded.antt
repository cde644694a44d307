-- A history with each fast record as a step of its own, behind the entries that its look had seen.
use Rattle.std.specs.Prelude.{ℕ, ◌+◌, ◌==◌, List, [], ◌∷◌, ◌++◌, filter, flat_map, map}
use Rattle.mr_model.specs.declared.entry.Entry.{Entry}
use Rattle.mr_model.specs.declared.entry.Entry.TheVariants.{Settle}
use Rattle.mr_model.specs.declared.step.Step.{Step}
use Rattle.mr_model.specs.declared.step.Step.TheVariants.{Fast, Kept}

-- the records of an entry that look at the first n entries
abbrev pub fast_in : ℕ → Entry → List Step
fast_in n (Settle lane records) = map (λ r. Fast lane r) (filter (λ r. r.look == n) records)
fast_in n _ = []

-- those of a history, in settle order
abbrev pub fast_at : ℕ → List Entry → List Step
fast_at n h = flat_map (fast_in n) h

-- the steps of the entries es of h, the first n entries being passed
abbrev pub unfolded_from : List Entry → ℕ → List Entry → List Step
unfolded_from h n [] = fast_at n h
unfolded_from h n (e ∷ es) = fast_at n h ++ Kept e ∷ unfolded_from h (n + 1) es

abbrev pub unfolded : List Entry → List Step
unfolded h = unfolded_from h 0 h
