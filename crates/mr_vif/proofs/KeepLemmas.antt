-- Lists of vifs stay so by one vif more that is free, and by one less.
use Rattle.std.proofs.Common.{◌≡◌, refl, ℕ, ◌+◌, ◌<◌, ◌≤◌, ◌==◌, Bool, true, false, None, List, [], ◌∷◌, ◌++◌, length, filter, get_or, take, drop, length-take-le, ◌∙◌, arith, IsTrue, IsNone}
use Rattle.std.proofs.lemmas.Grind.{common_steps}
use Rattle.std.proofs.lemmas.List.{append_assoc, drop_more}
use Rattle.std.specs.List.{AllByRecursion, IsDistinct}
use Rattle.mr_base.specs.declared.vif_record.VifRecord.{VifRecord}
use Rattle.mr_model.specs.VifList.{has_vif, register_vif}
use Rattle.mr_vif.specs.Rules.{AreVifs}
use Rattle.mr_vif.specs.Keeping.{AreAnswers}
use Rattle.mr_vif.specs.declared.answers.Answers.{Answers}
use Rattle.mr_vif.proofs.VifLemmas.{filled_lt, at_free}

all_out : (P : VifRecord → Type 0) (xs ys : List VifRecord) (v : VifRecord) → AllByRecursion P (xs ++ v ∷ ys) → AllByRecursion P (xs ++ ys)
all_out P [] ys v all = all.1
all_out P (x ∷ xs) ys v all = (all.0, all_out P xs ys v all.1)

all_at : (P : VifRecord → Type 0) (xs ys : List VifRecord) (v : VifRecord) → AllByRecursion P (xs ++ v ∷ ys) → P v
all_at P [] ys v all = all.0
all_at P (x ∷ xs) ys v all = all_at P xs ys v all.1

all_push : (P : VifRecord → Type 0) (xs : List VifRecord) (v : VifRecord) → AllByRecursion P xs → P v → AllByRecursion P (xs ++ v ∷ [])
all_push P [] v all here = (here, tt)
all_push P (x ∷ xs) v all here = (all.0, all_push P xs v all.1 here)

distinct_out : (xs ys : List VifRecord) (v : VifRecord) → IsDistinct (λ v w. v.vif == w.vif) (xs ++ v ∷ ys) → IsDistinct (λ v w. v.vif == w.vif) (xs ++ ys)
unfolding IsDistinct
distinct_out [] ys v distinct = distinct.1
distinct_out (x ∷ xs) ys v distinct = (all_out (λ y. (x.vif == y.vif) ≡ false) xs ys v distinct.0, distinct_out xs ys v distinct.1)

free_in_front : (xs ys : List VifRecord) (v : VifRecord) → IsDistinct (λ v w. v.vif == w.vif) (xs ++ v ∷ ys) → has_vif xs v.vif ≡ false
unfolding IsDistinct
free_in_front [] ys v distinct = refl
free_in_front (x ∷ xs) ys v distinct =
    let here : (x.vif == v.vif) ≡ false = all_at (λ y. (x.vif == y.vif) ≡ false) xs ys v distinct.0 in
    let behind : has_vif xs v.vif ≡ false = free_in_front xs ys v distinct.1 in
    grind (arith, common_steps)

-- no vif has the index of one that is free
others_differ : (xs : List VifRecord) (v : VifRecord) (x : VifRecord) → (x.vif == v.vif) ≡ false → AllByRecursion (λ y. (x.vif == y.vif) ≡ false) xs → AllByRecursion (λ y. (x.vif == y.vif) ≡ false) (xs ++ v ∷ [])
others_differ xs v x here all = all_push (λ y. (x.vif == y.vif) ≡ false) xs v all here

distinct_push : (xs : List VifRecord) (v : VifRecord) → IsDistinct (λ v w. v.vif == w.vif) xs → has_vif xs v.vif ≡ false → IsDistinct (λ v w. v.vif == w.vif) (xs ++ v ∷ [])
unfolding IsDistinct
distinct_push [] v distinct free = (tt, tt)
distinct_push (x ∷ xs) v distinct free =
    let here : (x.vif == v.vif) ≡ false = grind (arith, common_steps) in
    let behind : has_vif xs v.vif ≡ false = grind (arith, common_steps) in
    (others_differ xs v x here distinct.0, distinct_push xs v distinct.1 behind)

single_out : (xs ys : List VifRecord) (v : VifRecord) → length (filter (λ v. v.register) (xs ++ ys)) ≤ length (filter (λ v. v.register) (xs ++ v ∷ ys))
single_out [] ys v = grind (arith, common_steps)
single_out (x ∷ xs) ys v = grind (arith, common_steps, single_out xs ys v)

register_counts : (xs ys : List VifRecord) (v : VifRecord) → v.register ≡ true → 1 ≤ length (filter (λ v. v.register) (xs ++ v ∷ ys))
register_counts [] ys v is = grind (arith, common_steps)
register_counts (x ∷ xs) ys v is = grind (arith, common_steps, register_counts xs ys v is)

none_in_front : (xs ys : List VifRecord) (v : VifRecord) → length (filter (λ v. v.register) (xs ++ v ∷ ys)) ≤ 1 → v.register ≡ true → register_vif xs ≡ None
none_in_front [] ys v single is = refl
none_in_front (x ∷ xs) ys v single is = grind (arith, common_steps, none_in_front xs ys v, register_counts xs ys v is)

single_push : (xs : List VifRecord) (v : VifRecord) → (IsTrue v.register → IsNone (register_vif xs)) → length (filter (λ v. v.register) xs) ≤ 1 → length (filter (λ v. v.register) (xs ++ v ∷ [])) ≤ 1
single_push [] v one single = grind (arith, common_steps)
single_push (x ∷ xs) v one single = grind (arith, common_steps, single_push xs v)

pub no_vifs : AreVifs []
unfolding IsDistinct
no_vifs = record { small = tt; distinct = tt; single = omega arith }

pub vifs_push : (xs : List VifRecord) (v : VifRecord) → AreVifs xs → v.vif < 32 → has_vif xs v.vif ≡ false →
    (IsTrue v.register → IsNone (register_vif xs)) → AreVifs (xs ++ v ∷ [])
vifs_push xs v are small free one = record {
  small = all_push (λ v. v.vif < 32) xs v are.small small;
  distinct = distinct_push xs v are.distinct free;
  single = single_push xs v one are.single;
}

pub vifs_out : (xs ys : List VifRecord) (v : VifRecord) → AreVifs (xs ++ v ∷ ys) → AreVifs (xs ++ ys)
vifs_out xs ys v are = record {
  small = all_out (λ v. v.vif < 32) xs ys v are.small;
  distinct = distinct_out xs ys v are.distinct;
  single = omega (arith, are.single, single_out xs ys v);
}

-- what stands behind may be added to what stands in front
pub small_behind : (xs ys : List VifRecord) (v : VifRecord) → AreVifs (xs ++ v ∷ ys) → v.vif < 32
small_behind xs ys v are = all_at (λ v. v.vif < 32) xs ys v are.small

pub free_behind : (xs ys : List VifRecord) (v : VifRecord) → AreVifs (xs ++ v ∷ ys) → has_vif xs v.vif ≡ false
free_behind xs ys v are = free_in_front xs ys v are.distinct

pub register_behind : (xs ys : List VifRecord) (v : VifRecord) → AreVifs (xs ++ v ∷ ys) → IsTrue v.register → IsNone (register_vif xs)
register_behind xs ys v are is =
    let none : register_vif xs ≡ None = none_in_front xs ys v are.single is in grind (arith, common_steps)

-- where a vif is free there is room
pub room : (records : List VifRecord) (count : ℕ) (answers : Answers) (v : VifRecord) →
    length answers.at ≡ 32 → count ≤ length records → v.vif < 32 →
    has_vif (take count records) v.vif ≡ false → AreAnswers answers (take count records) → count < 32
room records count answers v long within small free are =
    let empty : get_or answers.at v.vif None ≡ None
    = are.each v.vif small ∙ at_free (take count records) v.vif free in
    omega (
      arith,
      filled_lt answers.at v.vif v (omega arith) empty,
      are.filled,
      length-take-le count records within,
    )

-- a record of nothing
abbrev pub blank : VifRecord
blank = record { vif = 0; dev = 0; register = false; fixed = false; number = 0 }

-- A walk over xs at index i, with what is left of those in front: the next may be added, and stays or is left out.
pub walk_cut : (left xs : List VifRecord) (i : ℕ) (d : VifRecord) → i < length xs → AreVifs (left ++ drop i xs) → AreVifs (left ++ get_or xs i d ∷ drop (i + 1) xs)
walk_cut left xs i d within are = rw (drop_more xs i d within) at are

pub walk_free : (left xs : List VifRecord) (i : ℕ) (d : VifRecord) → i < length xs → AreVifs (left ++ drop i xs) → has_vif left (get_or xs i d).vif ≡ false
walk_free left xs i d within are = free_behind left (drop (i + 1) xs) (get_or xs i d) (walk_cut left xs i d within are)

pub walk_register : (left xs : List VifRecord) (i : ℕ) (d : VifRecord) → i < length xs → AreVifs (left ++ drop i xs) →
    IsTrue (get_or xs i d).register → IsNone (register_vif left)
walk_register left xs i d within are = register_behind left (drop (i + 1) xs) (get_or xs i d) (walk_cut left xs i d within are)

pub walk_out : (left xs : List VifRecord) (i : ℕ) (d : VifRecord) → i < length xs → AreVifs (left ++ drop i xs) → AreVifs (left ++ drop (i + 1) xs)
walk_out left xs i d within are = vifs_out left (drop (i + 1) xs) (get_or xs i d) (walk_cut left xs i d within are)

pub walk_kept : (left xs : List VifRecord) (i : ℕ) (d : VifRecord) → i < length xs → AreVifs (left ++ drop i xs) →
    AreVifs ((left ++ get_or xs i d ∷ []) ++ drop (i + 1) xs)
walk_kept left xs i d within are = rw append_assoc (walk_cut left xs i d within are)

pub filter_out : (p : VifRecord → Bool) (left xs : List VifRecord) (i : ℕ) (d : VifRecord) → i < length xs → p (get_or xs i d) ≡ false →
    left ++ filter p (drop (i + 1) xs) ≡ left ++ filter p (drop i xs)
filter_out p left xs i d within fails = rw (drop_more xs i d within, fails) refl

pub filter_kept : (p : VifRecord → Bool) (left xs : List VifRecord) (i : ℕ) (d : VifRecord) → i < length xs → p (get_or xs i d) ≡ true →
    (left ++ get_or xs i d ∷ []) ++ filter p (drop (i + 1) xs) ≡ left ++ filter p (drop i xs)
filter_kept p left xs i d within passes = rw (drop_more xs i d within, passes) (append_assoc left (get_or xs i d ∷ []) (filter p (drop (i + 1) xs)))
