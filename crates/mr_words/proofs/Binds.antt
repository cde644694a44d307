-- What options, results and tests say of their parts.
use Rattle.std.proofs.Common.{◌≡◌, Bool, true, false, Option, Some, None, Result, Ok, Err, refl}
use Rattle.std.specs.Prelude.{if◌then◌else◌, IfSome, IfOk, unwrap_or}
use Rattle.mr_words.specs.Binds.{◌>>=◌}

-- what holds of the value in front, and then of the value behind
pub ok_then : {A B E : Type 0} (r : Result A E) (f : A → Result B E) (P : A → Type 0) (Q : B → Type 0) → IfOk r P → ((x : A) → P x → IfOk (f x) Q) → IfOk (r >>= f) Q
ok_then (Ok x) f P Q a g = g x a
ok_then (Err e) f P Q a g = tt

-- where nothing is asked of the value in front
pub then_ok : {A B E : Type 0} (r : Result A E) (f : A → Result B E) (Q : B → Type 0) → ((x : A) → IfOk (f x) Q) → IfOk (r >>= f) Q
then_ok (Ok x) f Q g = g x
then_ok (Err e) f Q g = tt

-- the value in front of one that is there
pub bind_ok : {A B E : Type 0} (r : Result A E) (f : A → Result B E) (y : B) → (r >>= f) ≡ Ok y → (x : A) × (r ≡ Ok x) × (f x ≡ Ok y)
bind_ok (Ok x) f y e = (x, refl, e)
bind_ok (Err d) f y e = absurd (cc)

pub same_ok : {A E : Type 0} (x y : A) → ◌≡◌ {A = Result A E} (Ok x) (Ok y) → x ≡ y
same_ok x y e = cc

pub ok_if : {A E : Type 0} (test : Bool) (r q : Result A E) (P : A → Type 0) → IfOk r P → IfOk q P → IfOk (if test then r else q) P
ok_if true r q P f g = f
ok_if false r q P f g = g

pub some_if : {A : Type 0} (test : Bool) (x : A) (P : A → Type 0) → (test ≡ true → P x) → IfSome (if test then Some x else None) P
some_if true x P f = f refl
some_if false x P f = tt

pub unwrapped : {A : Type 0} (o : Option A) (x : A) (P : A → Type 0) → IfSome o P → P x → P (unwrap_or o x)
unwrapped None x P f p = p
unwrapped (Some y) x P f p = f

-- the value that a test lets through
pub passed : {A E : Type 0} (test : Bool) (x y : A) (d : E) → (if test then Ok x else Err d) ≡ Ok y → x ≡ y
passed true x y d e = cc
passed false x y d e = absurd (cc)

-- the result that a test lets through
pub let_through : {A E : Type 0} (test : Bool) (r : Result A E) (y : A) (d : E) → (if test then r else Err d) ≡ Ok y → r ≡ Ok y
let_through true r y d e = e
let_through false r y d e = absurd (cc)

pub at_true : {A : Type 0} (test : Bool) (x y z : A) → test ≡ true → (if test then x else y) ≡ z → x ≡ z
at_true true x y z e p = p
at_true false x y z e p = absurd (cc)

pub at_false : {A : Type 0} (test : Bool) (x y z : A) → test ≡ false → (if test then x else y) ≡ z → y ≡ z
at_false true x y z e p = absurd (cc)
at_false false x y z e p = p
