-- One change more, with a number above those of all others.
use Rattle.std.proofs.Common.{◌≡◌, ℕ, ◌<◌, List, [], ◌∷◌, ◌++◌, refl}
use Rattle.mr_model.specs.declared.change.Change.{Change}
use Rattle.mr_model.specs.Numbers.{NumbersRise}
use Rattle.mr_publish.specs.Lists.{last_number}

pub one_more_rises : (n : ℕ) (cs : List Change) (c : Change)
    → NumbersRise n cs → last_number n cs < c.number
    → NumbersRise n (cs ++ c ∷ [])
one_more_rises n [] c rise above = (above, tt)
one_more_rises n (d ∷ cs) c rise above = (rise.0, one_more_rises d.number cs c rise.1 above)

pub one_more_last : (n : ℕ) (cs : List Change) (c : Change)
    → last_number n (cs ++ c ∷ []) ≡ c.number
one_more_last n [] c = refl
one_more_last n (d ∷ cs) c = one_more_last d.number cs c
