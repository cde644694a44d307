-- What lines and words that were read say of their parts.
use Rattle.std.proofs.Common.{◌≡◌, Bool, true, false, Option, Some, None, Result, Ok, Err, refl}
use Rattle.std.specs.Prelude.{IfSome, IfOk}
use Rattle.std.proofs.lemmas.Result.{IfOk-at_ok}
use Rattle.mr_scenario.specs.Answers.{Steps}
use Rattle.mr_scenario.specs.Kinds.{or_bad, wants}
use Rattle.mr_scenario.specs.declared.stop.Mistake.{Mistake}
use Rattle.mr_scenario.specs.declared.stop.Stop.{Stop}
use Rattle.mr_words.specs.Binds.{◌>>=◌}

pub wanted : {B : Type 0} (test : Bool) (m : Mistake) (f : Unit {0} → Result B Mistake) (Q : B → Type 0) → (test ≡ true → IfOk (f tt) Q) → IfOk (wants test m >>= f) Q
wanted true m f Q g = g refl
wanted false m f Q g = tt

pub ok_bad : {A : Type 0} (o : Option A) (m : Mistake) (P : A → Type 0) → IfSome o P → IfOk (or_bad o m) P
ok_bad None m P f = tt
ok_bad (Some x) m P f = f

-- the value in front, which holds this and is there, and then the value behind
pub ok_at : {A B : Type 0} (r : Result A Mistake) (f : A → Result B Mistake) (P : A → Type 0) (Q : B → Type 0) → IfOk r P → ((x : A) → r ≡ Ok x → P x → IfOk (f x) Q) → IfOk (r >>= f) Q
ok_at (Ok x) f P Q a g = g x refl a
ok_at (Err e) f P Q a g = tt

-- what holds of all that a line may leave holds of what it left
pub after_step : {A B : Type 0} (r : Result A Stop) (done : A) (new : B) (value : Result B Mistake) (P : B → Type 0) → r ≡ Ok done → Steps r new value → IfOk value P → P new
after_step (Ok x) done new value P is steps f = IfOk-at_ok P steps f
after_step (Err e) done new value P is steps f = absurd (cc is)
