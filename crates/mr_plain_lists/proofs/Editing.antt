-- What becomes of the entries that are there where a place changes.
use Rattle.std.proofs.Common.{◌≡◌, ◌∙◌, refl, sym, ap, subst, ℕ, zero, suc, ◌+◌, ◌-◌, ◌<◌, ◌≤◌, Some, Bool, true, false, not, ◌&&◌, ◌==◌, if◌then◌else◌, List, [], ◌∷◌, ◌++◌, length, map, filter, take, drop, reverse, get_or, set, slice_get, arith}
use Rattle.std.proofs.lemmas.Grind.{common_steps}
use Rattle.std.proofs.lemmas.List.{reverse-append, set-get_or, append_assoc, length-reverse, drop-set-lt, map-append, length-append}
use Rattle.std.proofs.lemmas.List.Elements.{filter-append}
use Rattle.std.proofs.lemmas.Option.{slice_get-get_or, get_or_from_slice_get}
use Rattle.std.proofs.Math.Seq.{drop-cons, take-suc, take-suc-set}
use Rattle.std.specs.List.{AllByRecursion}
use Rattle.mr_base.specs.declared.route.Route.{Route}
use Rattle.mr_model.specs.RouteList.{has_number, change_first, remove_first, routes_left}
use Rattle.mr_plain_lists.specs.declared.slots.Slot.{Slot}
use Rattle.mr_plain_lists.specs.Indexed.{oldest_first, newest_first, NoneOf, IsNewest, flushed}
use Rattle.mr_plain_lists.proofs.Walking.{newest_append}

all_append : (P : Route → Type 0) (xs ys : List Route) → AllByRecursion P xs → AllByRecursion P ys → AllByRecursion P (xs ++ ys)
all_append P [] ys first second = second
all_append P (x ∷ xs) ys first second = (first.0, all_append P xs ys first.1 second)

pub differs : (a b : ℕ) → (a ≡ b → ⊥) → (a == b) ≡ false
differs a b apart = grind (arith, common_steps)

equal : (a b : ℕ) → a ≡ b → (a == b) ≡ true
equal a b same = grind (arith, common_steps)

pub newest_here : (number : ℕ) (slots : List Slot) (n : ℕ) (d : Slot) → 0 < n → n ≤ length slots → (get_or slots (n - 1) d).live ≡ true
    → (get_or slots (n - 1) d).route.number ≡ number → NoneOf number (drop n slots) → IsNewest number slots (n - 1)
newest_here number slots n d some fits live named none = record {
  within = omega (arith, some, fits);
  live = λ x at. sym (ap (λ (y : Slot). y.live) (get_or_from_slice_get slots (n - 1) x d at)) ∙ live;
  named = λ x at. sym (ap (λ (y : Slot). has_number number y.route) (get_or_from_slice_get slots (n - 1) x d at)) ∙ equal _ _ named;
  later = subst (λ (i : ℕ). NoneOf number (drop i slots)) (next n some) none;
}
  where
    next : (n : ℕ) → 0 < n → n ≡ suc (n - 1)
    next n some = omega (arith, some)

one_fails : (number : ℕ) (x : Slot) → (x.live ≡ true → has_number number x.route ≡ false) → NoneOf number (x ∷ [])
one_fails number x fails = by x.live fails
  where
    by : (b : Bool) → (b ≡ true → has_number number x.route ≡ false) → AllByRecursion (λ r. has_number number r ≡ false) (reverse (if b then x.route ∷ [] else []))
    by true fails = (fails refl, tt)
    by false fails = tt

pub none_on : (number : ℕ) (slots : List Slot) (n : ℕ) (d : Slot) → 0 < n → n ≤ length slots
    → ((get_or slots (n - 1) d).live ≡ true → has_number number (get_or slots (n - 1) d).route ≡ false)
    → NoneOf number (drop n slots) → NoneOf number (drop (n - 1) slots)
none_on number slots n d some fits fails none =
    let x : Slot = get_or slots (n - 1) d in
    let here : drop (n - 1) slots ≡ x ∷ drop (suc (n - 1)) slots = drop-cons slots (n - 1) d (omega (arith, some, fits)) in
    let next : suc (n - 1) ≡ n = omega (arith, some) in
    let all : drop (n - 1) slots ≡ x ∷ drop n slots = here ∙ ap (λ (i : ℕ). x ∷ drop i slots) next in
    subst (λ (rs : List Route). AllByRecursion (λ r. has_number number r ≡ false) rs)
    (sym (ap newest_first all ∙ newest_append (x ∷ []) (drop n slots)))
    (all_append (λ r. has_number number r ≡ false) (newest_first (drop n slots)) (newest_first (x ∷ [])) none (one_fails number x fails))

set_split : (slots : List Slot) (i : ℕ) (y : Slot) → i < length slots → set slots i y ≡ take i slots ++ y ∷ drop (suc i) slots
set_split [] i y within = absurd (omega (arith, within))
set_split (x ∷ slots) zero y within = refl
set_split (x ∷ slots) (suc i) y within = ap (λ (xs : List Slot). x ∷ xs) (set_split slots i y (omega (arith, within)))

pub newest_set : (slots : List Slot) (i : ℕ) (y : Slot) → i < length slots
    → newest_first (set slots i y) ≡ newest_first (drop (suc i) slots) ++ (newest_first (y ∷ []) ++ newest_first (take i slots))
newest_set slots i y within =
    ap newest_first (set_split slots i y within) ∙ newest_append (take i slots) (y ∷ drop (suc i) slots)
    ∙ ap (λ (rs : List Route). rs ++ newest_first (take i slots)) (newest_append (y ∷ []) (drop (suc i) slots))
    ∙ append_assoc (newest_first (drop (suc i) slots)) (newest_first (y ∷ [])) (newest_first (take i slots))

newest_at : (slots : List Slot) (i : ℕ) (d : Slot) → i < length slots
    → newest_first slots ≡ newest_first (drop (suc i) slots) ++ (newest_first (get_or slots i d ∷ []) ++ newest_first (take i slots))
newest_at slots i d within =
    ap newest_first (sym (set-get_or slots i d)) ∙ newest_set slots i (get_or slots i d) within

remove_there : (p : Route → Bool) (front : List Route) (r : Route) (bs : List Route) → AllByRecursion (λ x. p x ≡ false) front → p r ≡ true
    → remove_first p (front ++ r ∷ bs) ≡ front ++ bs
remove_there p [] r bs fails passes = rw passes refl
remove_there p (a ∷ front) r bs fails passes = rw fails.0 (ap (λ (rs : List Route). a ∷ rs) (remove_there p front r bs fails.1 passes))

change_there : (p : Route → Bool) (f : Route → Route) (front : List Route) (r : Route) (bs : List Route) → AllByRecursion (λ x. p x ≡ false) front → p r ≡ true
    → change_first p f (front ++ r ∷ bs) ≡ front ++ f r ∷ bs
change_there p f [] r bs fails passes = rw passes refl
change_there p f (a ∷ front) r bs fails passes = rw fails.0 (ap (λ (rs : List Route). a ∷ rs) (change_there p f front r bs fails.1 passes))

is_live : (x : Slot) → x.live ≡ true → newest_first (x ∷ []) ≡ x.route ∷ []
is_live x live = by x.live live
  where
    by : (b : Bool) → b ≡ true → reverse (if b then x.route ∷ [] else []) ≡ x.route ∷ []
    by true live = refl
    by false live = absurd cc

is_dead : (x : Slot) → x.live ≡ false → newest_first (x ∷ []) ≡ []
is_dead x live = by x.live live
  where
    by : (b : Bool) → b ≡ false → reverse (if b then x.route ∷ [] else []) ≡ []
    by true live = absurd cc
    by false live = refl

at_newest : (number : ℕ) (slots : List Slot) (i : ℕ) (d : Slot) → IsNewest number slots i
    → newest_first slots ≡ newest_first (drop (suc i) slots) ++ (get_or slots i d).route ∷ newest_first (take i slots)
at_newest number slots i d is =
    newest_at slots i d is.within
    ∙ ap (λ (rs : List Route). newest_first (drop (suc i) slots) ++ (rs ++ newest_first (take i slots)))
    (is_live (get_or slots i d) (is.live (get_or slots i d) (slice_get-get_or slots i d is.within)))

pub removed_at : (number : ℕ) (slots : List Slot) (i : ℕ) (d y : Slot) → IsNewest number slots i → y.live ≡ false
    → newest_first (set slots i y) ≡ remove_first (has_number number) (newest_first slots)
removed_at number slots i d y is gone =
    newest_set slots i y is.within
    ∙ ap (λ (rs : List Route). newest_first (drop (suc i) slots) ++ (rs ++ newest_first (take i slots))) (is_dead y gone)
    ∙ sym (remove_there (has_number number) (newest_first (drop (suc i) slots)) (get_or slots i d).route (newest_first (take i slots)) is.later
    (is.named (get_or slots i d) (slice_get-get_or slots i d is.within)))
    ∙ sym (ap (remove_first (has_number number)) (at_newest number slots i d is))

pub removed_count : (number : ℕ) (slots : List Slot) (i : ℕ) (d y : Slot) → IsNewest number slots i → y.live ≡ false
    → length (oldest_first slots) ≡ length (oldest_first (set slots i y)) + 1
removed_count number slots i d y is gone =
    let later : List Route = newest_first (drop (suc i) slots) in
    let before : List Route = newest_first (take i slots) in
    let old : length (newest_first slots) ≡ length later + suc (length before) =
    ap length (at_newest number slots i d is) ∙ length-append later ((get_or slots i d).route ∷ before) in
    let new : length (newest_first (set slots i y)) ≡ length later + length before =
    ap length (newest_set slots i y is.within ∙ ap (λ (rs : List Route). later ++ (rs ++ before)) (is_dead y gone)) ∙ length-append later before in
    sum _ _ _ _ _ _ (length-reverse (oldest_first slots)) (length-reverse (oldest_first (set slots i y))) old new
  where
    sum : (a b n m l k : ℕ) → n ≡ a → m ≡ b → n ≡ l + suc k → m ≡ l + k → a ≡ b + 1
    sum a b n m l k first second old new = omega (arith, first, second, old, new)

pub changed_at : (number : ℕ) (f : Route → Route) (slots : List Slot) (i : ℕ) (d y : Slot) → IsNewest number slots i
    → y.live ≡ (get_or slots i d).live → y.route ≡ f (get_or slots i d).route
    → newest_first (set slots i y) ≡ change_first (has_number number) f (newest_first slots)
changed_at number f slots i d y is same becomes =
    let at : slice_get slots i ≡ Some (get_or slots i d) = slice_get-get_or slots i d is.within in
    newest_set slots i y is.within
    ∙ ap (λ (rs : List Route). newest_first (drop (suc i) slots) ++ (rs ++ newest_first (take i slots)))
    (is_live y (same ∙ is.live (get_or slots i d) at) ∙ ap (λ (r : Route). r ∷ []) becomes)
    ∙ sym (change_there (has_number number) f (newest_first (drop (suc i) slots)) (get_or slots i d).route (newest_first (take i slots)) is.later
    (is.named (get_or slots i d) at))
    ∙ sym (ap (change_first (has_number number) f) (at_newest number slots i d is))

pub changed_count : (number : ℕ) (f : Route → Route) (slots : List Slot) (i : ℕ) (d y : Slot) → IsNewest number slots i
    → y.live ≡ (get_or slots i d).live → y.route ≡ f (get_or slots i d).route
    → length (oldest_first slots) ≡ length (oldest_first (set slots i y))
changed_count number f slots i d y is same becomes =
    sym (length-reverse (oldest_first slots)) ∙ sym (change_length (has_number number) f (newest_first slots))
    ∙ sym (ap length (changed_at number f slots i d y is same becomes)) ∙ length-reverse (oldest_first (set slots i y))
  where
    change_length : (p : Route → Bool) (f : Route → Route) (rs : List Route) → length (change_first p f rs) ≡ length rs
    change_length p f [] = refl
    change_length p f (r ∷ rs) = by (p r) (change_length p f rs)
      where
        by : (b : Bool) → length (change_first p f rs) ≡ length rs → length (if b then f r ∷ rs else r ∷ change_first p f rs) ≡ suc (length rs)
        by true more = refl
        by false more = ap suc more

remove_fails : (p : Route → Bool) (rs : List Route) → AllByRecursion (λ x. p x ≡ false) rs → remove_first p rs ≡ rs
remove_fails p [] fails = refl
remove_fails p (r ∷ rs) fails = rw fails.0 (ap (λ (xs : List Route). r ∷ xs) (remove_fails p rs fails.1))

change_fails : (p : Route → Bool) (f : Route → Route) (rs : List Route) → AllByRecursion (λ x. p x ≡ false) rs → change_first p f rs ≡ rs
change_fails p f [] fails = refl
change_fails p f (r ∷ rs) fails = rw fails.0 (ap (λ (xs : List Route). r ∷ xs) (change_fails p f rs fails.1))

pub removed_none : (number : ℕ) (slots : List Slot) → NoneOf number slots → newest_first slots ≡ remove_first (has_number number) (newest_first slots)
removed_none number slots none = sym (remove_fails (has_number number) (newest_first slots) none)

pub changed_none : (number : ℕ) (f : Route → Route) (slots : List Slot) → NoneOf number slots → newest_first slots ≡ change_first (has_number number) f (newest_first slots)
changed_none number f slots none = sym (change_fails (has_number number) f (newest_first slots) none)

oldest_flushed : (loose fixed : Bool) (slots : List Slot)
    → oldest_first (map (flushed loose fixed) slots) ≡ routes_left loose fixed (oldest_first slots)
oldest_flushed loose fixed [] = refl
oldest_flushed loose fixed (x ∷ slots) = by x.live (if x.route.fixed then fixed else loose) refl (oldest_flushed loose fixed slots)
  where
    by : (b goes : Bool) → (if x.route.fixed then fixed else loose) ≡ goes → oldest_first (map (flushed loose fixed) slots) ≡ routes_left loose fixed (oldest_first slots)
        → (if b && not goes then x.route ∷ oldest_first (map (flushed loose fixed) slots) else oldest_first (map (flushed loose fixed) slots))
        ≡ routes_left loose fixed (if b then x.route ∷ oldest_first slots else oldest_first slots)
    by true true is more = rw is more
    by true false is more = rw is (ap (λ (rs : List Route). x.route ∷ rs) more)
    by false true is more = more
    by false false is more = more

left_reversed : (p : Route → Bool) (rs : List Route) → reverse (filter p rs) ≡ filter p (reverse rs)
left_reversed p [] = refl
left_reversed p (r ∷ rs) = sym (ap (filter p) (reverse-append (r ∷ []) rs) ∙ filter-append p (reverse rs) (r ∷ []) ∙ by (p r) (left_reversed p rs))
  where
    by : (b : Bool) → reverse (filter p rs) ≡ filter p (reverse rs)
        → filter p (reverse rs) ++ (if b then r ∷ [] else []) ≡ reverse (if b then r ∷ filter p rs else filter p rs)
    by true more = sym (reverse-append (r ∷ []) (filter p rs) ∙ ap (λ (xs : List Route). xs ++ r ∷ []) more)
    by false more = append_nil (filter p (reverse rs)) ∙ sym more
      where
        append_nil : (xs : List Route) → xs ++ [] ≡ xs
        append_nil [] = refl
        append_nil (x ∷ xs) = ap (λ (ys : List Route). x ∷ ys) (append_nil xs)

pub newest_flushed : (loose fixed : Bool) (slots : List Slot)
    → newest_first (map (flushed loose fixed) slots) ≡ routes_left loose fixed (newest_first slots)
newest_flushed loose fixed slots =
    ap reverse (oldest_flushed loose fixed slots) ∙ left_reversed (λ r. not (if r.fixed then fixed else loose)) (oldest_first slots)

-- one place more is gone over
pub gone_over : (f : Slot → Slot) (xs zs : List Slot) (i : ℕ) (x : Slot) → i < length zs → length xs ≡ length zs → x ≡ get_or xs i x
    → take i xs ≡ map f (take i zs) → drop i xs ≡ drop i zs
    → (take (i + 1) (set xs i (f x)) ≡ map f (take (i + 1) zs)) × (drop (i + 1) (set xs i (f x)) ≡ drop (i + 1) zs)
gone_over f xs zs i x within size is done rest =
    let next : i + 1 ≡ suc i = omega arith in
    let there : i < length xs = omega (arith, within, size) in
    let both : get_or xs i x ∷ drop (suc i) xs ≡ get_or zs i x ∷ drop (suc i) zs = sym (drop-cons xs i x there) ∙ rest ∙ drop-cons zs i x within in
    let same : x ≡ get_or zs i x = is ∙ ap (λ (ys : List Slot). get_or ys 0 x) both in (
      rw next (take-suc-set xs i (f x) there ∙ ap (λ (ys : List Slot). ys ++ f x ∷ []) done ∙ ap (λ (y : Slot). map f (take i zs) ++ f y ∷ []) same
          ∙ sym (ap (map f) (take-suc zs i x within) ∙ map-append f (take i zs) (get_or zs i x ∷ []))),
      rw next (drop-set-lt (suc i) xs i (f x) (omega arith) ∙ ap (λ (ys : List Slot). drop 1 ys) both),
    )
