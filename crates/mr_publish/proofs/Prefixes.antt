-- Beginnings of one list of changes whose numbers rise.
use Rattle.std.proofs.Common.{◌≡◌, ℕ, ◌<◌, ◌≤◌, nat_le, Bool, true, false, MatchBool}
use Rattle.std.proofs.Common.{List, [], ◌∷◌, length, length-append}
use Rattle.std.proofs.Common.{refl, ap, subst, sym, ◌∙◌, arith}
use Rattle.std.proofs.lemmas.Bool.Decides.{nat_tests}
use Rattle.std.specs.Bool.{⊤}
use mathlib.Core.List.{IsPrefix}
use Rattle.mr_model.specs.declared.change.Change.{Change}
use Rattle.mr_model.specs.Numbers.{NumbersRise}
use Rattle.mr_publish.specs.Lists.{last_number}

-- each list begins with itself
pub prefix_self : (xs : List Change) → IsPrefix xs xs
prefix_self [] = ([], refl)
prefix_self (x ∷ xs) = let p = prefix_self xs in (p.0, ap (λ ys. x ∷ ys) p.1)

-- a beginning as long as the whole is the whole
prefix_whole : (xs ys : List Change) → IsPrefix xs ys → length ys ≤ length xs → xs ≡ ys
prefix_whole [] [] p le = refl
prefix_whole [] (y ∷ ys) p le = absurd (omega arith)
prefix_whole (x ∷ xs) [] p le = absurd (cc (p.1))
prefix_whole (x ∷ xs) (y ∷ ys) p le =
    let rest = prefix_whole xs ys (p.0, cc (p.1)) (omega arith) in cc (p.1, rest)

prefix_length : (xs ys : List Change) → IsPrefix xs ys → length xs ≤ length ys
prefix_length xs ys p = omega (arith, sym (ap length p.1) ∙ length-append xs p.0)

-- the last number is no less than the one before the first
least_last : (n : ℕ) (cs : List Change) → NumbersRise n cs → n ≤ last_number n cs
least_last n [] rise = omega arith
least_last n (c ∷ cs) rise = let further = least_last c.number cs rise.1 in omega (arith, rise.0)

-- numbers rise in a beginning as in the whole
prefix_rises : (n : ℕ) (xs ys : List Change) → IsPrefix xs ys → NumbersRise n ys → NumbersRise n xs
prefix_rises n [] ys p rise = tt
prefix_rises n (x ∷ xs) [] p rise = absurd (cc (p.1))
prefix_rises n (x ∷ xs) (y ∷ ys) p rise =
    let same : y ≡ x = cc (p.1) in
    let first = subst (λ (c : Change). (n < c.number) × NumbersRise c.number ys) same rise in
    (first.0, prefix_rises x.number xs ys (p.0, cc (p.1)) first.1)

-- of two beginnings of one list that with the lower last number begins the other
pub lower_begins : (n : ℕ) (xs ys zs : List Change)
    → NumbersRise n zs → IsPrefix xs zs → IsPrefix ys zs
    → last_number n xs ≤ last_number n ys → IsPrefix xs ys
lower_begins n [] ys zs rise p q le = (ys, refl)
lower_begins n (x ∷ xs) [] zs rise p q le =
    let rises = prefix_rises n (x ∷ xs) zs p rise in
    let least = least_last x.number xs rises.1 in
    absurd (omega (arith, rises.0))
lower_begins n (x ∷ xs) (y ∷ ys) [] rise p q le = absurd (cc (p.1))
lower_begins n (x ∷ xs) (y ∷ ys) (z ∷ zs) rise p q le =
    let x_is : x ≡ z = cc (p.1) in
    let y_is : y ≡ z = cc (q.1) in
    let le' : last_number z.number xs ≤ last_number z.number ys =
    subst (λ (c : Change). last_number c.number xs ≤ last_number z.number ys) x_is
    (subst (λ (c : Change). last_number x.number xs ≤ last_number c.number ys) y_is le) in
    let rest = lower_begins z.number xs ys zs rise.1 (p.0, cc (p.1)) (q.0, cc (q.1)) le' in
    (rest.0, cc (x_is, y_is, rest.1))

-- by the test of their last numbers m and n
pub begins_by : (m n : ℕ) (xs ys zs : List Change) → m ≡ last_number 0 xs → n ≡ last_number 0 ys
    → NumbersRise 0 zs → IsPrefix xs zs → IsPrefix ys zs
    → (b : Bool) → nat_le m n ≡ b
    → MatchBool b (IsPrefix xs ys) ⊤ × MatchBool b ⊤ (IsPrefix ys xs)
begins_by m n xs ys zs m_is n_is rise p q true is =
    let le : last_number 0 xs ≤ last_number 0 ys = grind (arith, nat_tests, m_is, n_is) in
    (lower_begins 0 xs ys zs rise p q le, tt)
begins_by m n xs ys zs m_is n_is rise p q false is =
    let le : last_number 0 ys ≤ last_number 0 xs = grind (arith, nat_tests, m_is, n_is) in
    (tt, lower_begins 0 ys xs zs rise q p le)

-- of two beginnings of one list with the same last number the one is the other
pub same_last : (xs ys zs : List Change) → NumbersRise 0 zs → IsPrefix xs zs → IsPrefix ys zs
    → last_number 0 xs ≡ last_number 0 ys → xs ≡ ys
same_last xs ys zs rise p q is =
    let begins = lower_begins 0 xs ys zs rise p q (omega arith) in
    let begun = lower_begins 0 ys xs zs rise q p (omega arith) in
    prefix_whole xs ys begins (prefix_length ys xs begun)
