-- Rows of items, and the items of lines, behind others: their numbers go on.
use Rattle.std.proofs.Common.{◌≡◌, ◌≤◌, ℕ, ◌+◌, ◌==◌, Bool, true, false, List, [], ◌∷◌, ◌++◌, length, map, add-zero, refl, sym, ap, ◌∙◌, arith}
use Rattle.std.proofs.lemmas.List.{append-nil, append_assoc, length-append, map-append}
use Rattle.std.proofs.lemmas.List.Sums.{sum_by-append, sum_by-cons}
use Rattle.std.specs.List.{AllByRecursion}
use Rattle.std.specs.Prelude.{if◌then◌else◌}
use Rattle.mr_load.specs.Items.{Content, in_row, numbered, items_by, all_items}
use Rattle.mr_scenario.specs.declared.scenario.Given.{Given}
use Rattle.mr_scenario.specs.declared.scenario.Item.{Item}

pub all_append : {A : Type 0} (P : A → Type 0) (xs ys : List A) → AllByRecursion P xs → AllByRecursion P ys → AllByRecursion P (xs ++ ys)
all_append P [] ys a b = b
all_append P (x ∷ xs) ys a b = (a.0, all_append P xs ys a.1 b)

pub all_weaker : {A : Type 0} (P Q : A → Type 0) → ((x : A) → P x → Q x) → (xs : List A) → AllByRecursion P xs → AllByRecursion Q xs
all_weaker P Q w [] a = tt
all_weaker P Q w (x ∷ xs) a = (w x a.0, all_weaker P Q w xs a.1)

pub row_append : {A : Type 0} (f : ℕ → Content → List A) (n : ℕ) (cs ds : List Content) → in_row f n (cs ++ ds) ≡ in_row f n cs ++ in_row f (n + length cs) ds
row_append f n [] ds = rw (add-zero n) refl
row_append f n (c ∷ cs) ds =
    let number : n + 1 + length cs ≡ n + length (c ∷ cs) = omega arith in
    ap (λ l. f n c ++ l) (row_append f (n + 1) cs ds)
    ∙ sym (append_assoc (f n c) (in_row f (n + 1) cs) (in_row f (n + 1 + length cs) ds))
    ∙ ap (λ k. (f n c ++ in_row f (n + 1) cs) ++ in_row f k ds) number

-- items of a lane are counted line by line
pub items_one : (C : Given → List Content) (lane : ℕ) (x : Item) (xs : List Item) → items_by C lane (x ∷ xs) ≡ (if x.lane.0 == lane then length (C x.given) else 0) + items_by C lane xs
items_one C lane x xs = sum_by-cons (λ (i : Item). if i.lane.0 == lane then length (C i.given) else 0) x xs

pub left_items : (C : Given → List Content) (lane : ℕ) (i : Item) (is : List Item) → (i.lane.0 == lane) ≡ false → items_by C lane (i ∷ is) ≡ items_by C lane is
left_items C lane i is e =
    let first : ◌≡◌ {A = ℕ} (if i.lane.0 == lane then length (C i.given) else 0) 0 = rw e refl in
    omega (arith, items_one C lane i is, first)

pub first_items : (C : Given → List Content) (lane : ℕ) (i : Item) (is : List Item) → (i.lane.0 == lane) ≡ true → items_by C lane (i ∷ is) ≡ length (C i.given) + items_by C lane is
first_items C lane i is e =
    let first : ◌≡◌ {A = ℕ} (if i.lane.0 == lane then length (C i.given) else 0) (length (C i.given)) = rw e refl in
    omega (arith, items_one C lane i is, first)

pub items_append : (C : Given → List Content) (lane : ℕ) (xs ys : List Item) → items_by C lane (xs ++ ys) ≡ items_by C lane xs + items_by C lane ys
items_append C lane xs ys = sum_by-append (λ (i : Item). if i.lane.0 == lane then length (C i.given) else 0) xs ys

pub all_one : (C : Given → List Content) (x : Item) (xs : List Item) → all_items C (x ∷ xs) ≡ length (C x.given) + all_items C xs
all_one C x xs = sum_by-cons (λ (i : Item). length (C i.given)) x xs

pub all_items_append : (C : Given → List Content) (xs ys : List Item) → all_items C (xs ++ ys) ≡ all_items C xs + all_items C ys
all_items_append C xs ys = sum_by-append (λ (i : Item). length (C i.given)) xs ys

some_or_none : (b : Bool) (k n m : ℕ) → n ≤ m → (if b then k else 0) + n ≤ k + m
some_or_none true k n m l = omega (arith, l)
some_or_none false k n m l = omega (arith, l)

-- no more items of a lane than of all lanes
pub items_most : (C : Given → List Content) (lane : ℕ) (xs : List Item) → items_by C lane xs ≤ all_items C xs
items_most C lane [] = omega arith
items_most C lane (x ∷ xs) =
    omega (arith, items_one C lane x xs, all_one C x xs, some_or_none (x.lane.0 == lane) (length (C x.given)) (items_by C lane xs) (all_items C xs) (items_most C lane xs))

-- what numbered items give, by a test of the first line
numbered_by : {A : Type 0} (b : Bool) (f : ℕ → List A) (first : List A) (n m k : ℕ) (long short long_on short_on : List A)
    → long ≡ long_on ++ f (n + m + k) → short ≡ short_on ++ f (n + k)
    → (if b then first ++ long else short) ≡ (if b then first ++ long_on else short_on) ++ f (n + ((if b then m else 0) + k))
numbered_by true f first n m k long short long_on short_on e d =
    let same : n + (m + k) ≡ n + m + k = omega arith in
    rw (same, e) (sym (append_assoc first long_on _))
numbered_by false f first n m k long short long_on short_on e d =
    let same : n + (0 + k) ≡ n + k = omega arith in
    rw same d

pub numbered_append : {A : Type 0} (f : Item → ℕ → Content → List A) (C : Given → List Content) (lane n : ℕ) (xs ys : List Item)
    → numbered f C lane n (xs ++ ys) ≡ numbered f C lane n xs ++ numbered f C lane (n + items_by C lane xs) ys
numbered_append f C lane n [] ys = rw (add-zero n) refl
numbered_append f C lane n (x ∷ xs) ys =
    rw (items_one C lane x xs)
    (numbered_by (x.lane.0 == lane) (λ m. numbered f C lane m ys) (in_row (f x) n (C x.given)) n (length (C x.given)) (items_by C lane xs) _ _ _ _
    (numbered_append f C lane (n + length (C x.given)) xs ys) (numbered_append f C lane n xs ys))

-- what is made of what each item gives

row_map : {A B : Type 0} (g : A → B) (f : ℕ → Content → List A) (h : ℕ → Content → List B) → ((n : ℕ) (c : Content) → map g (f n c) ≡ h n c) → (n : ℕ) (cs : List Content)
    → map g (in_row f n cs) ≡ in_row h n cs
row_map g f h e n [] = refl
row_map g f h e n (c ∷ cs) = map-append g (f n c) (in_row f (n + 1) cs) ∙ rw (e n c, row_map g f h e (n + 1) cs) refl

map_by : {A B : Type 0} (g : A → B) (b : Bool) (first long short : List A) (one more less : List B) → map g first ≡ one → map g long ≡ more → map g short ≡ less
    → map g (if b then first ++ long else short) ≡ (if b then one ++ more else less)
map_by g true first long short one more less f l s = map-append g first long ∙ rw (f, l) refl
map_by g false first long short one more less f l s = s

pub numbered_map : {A B : Type 0} (g : A → B) (f : Item → ℕ → Content → List A) (h : Item → ℕ → Content → List B) → ((i : Item) (n : ℕ) (c : Content) → map g (f i n c) ≡ h i n c)
    → (C : Given → List Content) (lane n : ℕ) (is : List Item) → map g (numbered f C lane n is) ≡ numbered h C lane n is
numbered_map g f h e C lane n [] = refl
numbered_map g f h e C lane n (i ∷ is) =
    map_by g (i.lane.0 == lane) (in_row (f i) n (C i.given)) (numbered f C lane (n + length (C i.given)) is) (numbered f C lane n is) _ _ _
    (row_map g (f i) (h i) (e i) n (C i.given)) (numbered_map g f h e C lane (n + length (C i.given)) is) (numbered_map g f h e C lane n is)

-- what is true of all that each item gives

row_all : {A : Type 0} (P : A → Type 0) (f : ℕ → Content → List A) → ((n : ℕ) (c : Content) → AllByRecursion P (f n c)) → (n : ℕ) (cs : List Content) → AllByRecursion P (in_row f n cs)
row_all P f e n [] = tt
row_all P f e n (c ∷ cs) = all_append P (f n c) (in_row f (n + 1) cs) (e n c) (row_all P f e (n + 1) cs)

all_by : {A : Type 0} (P : A → Type 0) (b : Bool) (first long short : List A) → AllByRecursion P first → AllByRecursion P long → AllByRecursion P short
    → AllByRecursion P (if b then first ++ long else short)
all_by P true first long short f l s = all_append P first long f l
all_by P false first long short f l s = s

pub numbered_all : {A : Type 0} (P : A → Type 0) (Q : Item → Type 0) (f : Item → ℕ → Content → List A) → ((i : Item) → Q i → (n : ℕ) (c : Content) → AllByRecursion P (f i n c))
    → (C : Given → List Content) (lane n : ℕ) (is : List Item) → AllByRecursion Q is → AllByRecursion P (numbered f C lane n is)
numbered_all P Q f e C lane n [] a = tt
numbered_all P Q f e C lane n (i ∷ is) a =
    all_by P (i.lane.0 == lane) (in_row (f i) n (C i.given)) (numbered f C lane (n + length (C i.given)) is) (numbered f C lane n is)
    (row_all P (f i) (e i a.0) n (C i.given)) (numbered_all P Q f e C lane (n + length (C i.given)) is a.1) (numbered_all P Q f e C lane n is a.1)

-- how many they are, where each item gives one of the two

row_both : {A B : Type 0} (f : ℕ → Content → List A) (g : ℕ → Content → List B) → ((n : ℕ) (c : Content) → length (f n c) + length (g n c) ≡ 1) → (n : ℕ) (cs : List Content)
    → length (in_row f n cs) + length (in_row g n cs) ≡ length cs
row_both f g e n [] = refl
row_both f g e n (c ∷ cs) =
    omega (arith, length-append (f n c) (in_row f (n + 1) cs), length-append (g n c) (in_row g (n + 1) cs), e n c, row_both f g e (n + 1) cs)

both_by : {A B : Type 0} (b : Bool) (p long short : List A) (s more rest : List B) (m k : ℕ) → length p + length s ≡ m → length long + length more ≡ k → length short + length rest ≡ k
    → length (if b then p ++ long else short) + length (if b then s ++ more else rest) ≡ (if b then m else 0) + k
both_by true p long short s more rest m k one e f = omega (arith, length-append p long, length-append s more, one, e)
both_by false p long short s more rest m k one e f = omega (arith, f)

pub numbered_both : {A B : Type 0} (f : Item → ℕ → Content → List A) (g : Item → ℕ → Content → List B) → ((i : Item) (n : ℕ) (c : Content) → length (f i n c) + length (g i n c) ≡ 1)
    → (C : Given → List Content) (lane n : ℕ) (is : List Item) → length (numbered f C lane n is) + length (numbered g C lane n is) ≡ items_by C lane is
numbered_both f g e C lane n [] = refl
numbered_both f g e C lane n (i ∷ is) =
    (both_by (i.lane.0 == lane) (in_row (f i) n (C i.given)) (numbered f C lane (n + length (C i.given)) is) (numbered f C lane n is)
    (in_row (g i) n (C i.given)) (numbered g C lane (n + length (C i.given)) is) (numbered g C lane n is) (length (C i.given)) (items_by C lane is)
    (row_both (f i) (g i) (e i) n (C i.given)) (numbered_both f g e C lane (n + length (C i.given)) is) (numbered_both f g e C lane n is))
    ∙ sym (items_one C lane i is)
