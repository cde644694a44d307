-- What one vif more does to the answers.
use Rattle.std.proofs.Common.{◌≡◌, refl, ℕ, ◌+◌, ◌<◌, ◌≤◌, ◌==◌, max, Bool, true, false, Option, Some, None, List, [], ◌∷◌, ◌++◌, length, count_by, sum_by, cond, is_some, get_or, set, ◌∙◌, ap, arith, if◌then◌else◌, IsTrue, IsNone, IfSome}
use Rattle.std.proofs.lemmas.Grind.{common_steps}
use Rattle.std.proofs.lemmas.List.Sums.{count_by-le-length, sum_by-set}
use Rattle.std.proofs.lemmas.Bool.{cases_eq}
use Rattle.std.proofs.lemmas.List.{length-set, get_or-set_same, get_or-set_other}
use Rattle.std.specs.List.{AllByRecursion}
use Rattle.mr_base.specs.declared.vif_record.VifRecord.{VifRecord}
use Rattle.mr_vif.specs.Keeping.{AreHighest}
use Rattle.mr_model.specs.VifList.{vif_at, has_vif, register_vif, higher, vif_on, max_vif}

-- the higher of two vifs, where there are two
abbrev pub joined : Option ℕ → Option ℕ → Option ℕ
joined None b = b
joined (Some i) b = higher i b

-- a vif is there where one is found
pub has_from_at : (vifs : List VifRecord) (i : ℕ) → has_vif vifs i ≡ is_some (vif_at vifs i)
has_from_at [] i = refl
has_from_at (v ∷ vs) i = grind (arith, common_steps, has_from_at vs i)

pub at_free : (vifs : List VifRecord) (i : ℕ) → has_vif vifs i ≡ false → vif_at vifs i ≡ None
at_free [] i free = refl
at_free (v ∷ vs) i free = grind (arith, common_steps, at_free vs i)

-- one more vif, at its own index and at the others
pub at_push_same : (vifs : List VifRecord) (v : VifRecord) → has_vif vifs v.vif ≡ false → vif_at (vifs ++ v ∷ []) v.vif ≡ Some v
at_push_same [] v free = grind (arith, common_steps)
at_push_same (w ∷ ws) v free = grind (arith, common_steps, at_push_same ws v)

pub at_push_other : (vifs : List VifRecord) (v : VifRecord) (i : ℕ) → (v.vif == i) ≡ false → vif_at (vifs ++ v ∷ []) i ≡ vif_at vifs i
at_push_other [] v i other = grind (arith, common_steps)
at_push_other (w ∷ ws) v i other = grind (arith, common_steps, at_push_other ws v i other)

-- the higher of three
pub higher_twice : (i j : ℕ) (o : Option ℕ) → higher i (higher j o) ≡ higher j (higher i o)
higher_twice i j None = grind (arith, common_steps)
higher_twice i j (Some k) = grind (arith, common_steps)

pub on_push_same : (vifs : List VifRecord) (v : VifRecord) (d : ℕ) → (v.dev == d) ≡ true → vif_on (vifs ++ v ∷ []) d ≡ higher v.vif (vif_on vifs d)
on_push_same [] v d on = grind (arith, common_steps)
on_push_same (w ∷ ws) v d on = grind (arith, common_steps, on_push_same ws v d on, higher_twice w.vif v.vif (vif_on ws d))

pub on_push_other : (vifs : List VifRecord) (v : VifRecord) (d : ℕ) → (v.dev == d) ≡ false → vif_on (vifs ++ v ∷ []) d ≡ vif_on vifs d
on_push_other [] v d off = grind (arith, common_steps)
on_push_other (w ∷ ws) v d off = grind (arith, common_steps, on_push_other ws v d off)

pub max_push : (vifs : List VifRecord) (v : VifRecord) → max_vif (vifs ++ v ∷ []) ≡ max (max_vif vifs) (v.vif + 1)
max_push [] v = omega arith
max_push (w ∷ ws) v = rw (max_push ws v) (omega arith)

pub register_push : (vifs : List VifRecord) (v : VifRecord) → (IsTrue v.register → IsNone (register_vif vifs)) →
    register_vif (vifs ++ v ∷ []) ≡ (if v.register then Some v.vif else register_vif vifs)
register_push [] v one = grind (arith, common_steps)
register_push (w ∷ ws) v one = grind (arith, common_steps, register_push ws v)

-- one more place is filled
pub filled_set : (at : List (Option VifRecord)) (i : ℕ) (v : VifRecord) → i < length at → get_or at i None ≡ None →
    count_by is_some (set at i (Some v)) ≡ count_by is_some at + 1
filled_set at i v within free =
    let sums : sum_by (λ o. cond (is_some o) 1 0) (set at i (Some v)) + cond (is_some (get_or at i None)) 1 0 ≡ sum_by (λ o. cond (is_some o) 1 0) at + 1
    = sum_by-set (λ o. cond (is_some o) 1 0) at i (Some v) None within in
    let at_none : sum_by (λ o. cond (is_some o) 1 0) (set at i (Some v)) + 0 ≡ sum_by (λ o. cond (is_some o) 1 0) at + 1 = rw free at sums in
    omega arith

-- where a place is free for a vif, not all are filled
pub filled_lt : (at : List (Option VifRecord)) (i : ℕ) (v : VifRecord) → i < length at → get_or at i None ≡ None → count_by is_some at < length at
filled_lt at i v within free =
    omega (arith, filled_set at i v within free, count_by-le-length is_some (set at i (Some v)), length-set at i (Some v))

-- the answers of one vif more, place by place
pub at_set : (at : List (Option VifRecord)) (vifs : List VifRecord) (v : VifRecord) → length at ≡ 32 → v.vif < 32 → has_vif vifs v.vif ≡ false →
    ((i : ℕ) → i < 32 → get_or at i None ≡ vif_at vifs i) → (i : ℕ) → i < 32 → get_or (set at v.vif (Some v)) i None ≡ vif_at (vifs ++ v ∷ []) i
at_set at vifs v long small free each i within =
    grind (
      arith,
      common_steps,
      cases_eq i v.vif,
      get_or-set_same at v.vif (Some v) None,
      get_or-set_other at v.vif i (Some v) None,
      each i within,
      at_push_same vifs v free,
      at_push_other vifs v i,
    )

pub on_set : (highest : List (Option ℕ)) (vifs : List VifRecord) (v : VifRecord) → length highest ≡ 65 → v.dev < 65 → AreHighest highest vifs →
    AreHighest (set highest v.dev (higher v.vif (get_or highest v.dev None))) (vifs ++ v ∷ [])
on_set highest vifs v long small are d within =
    grind (
      arith,
      common_steps,
      cases_eq d v.dev,
      get_or-set_same highest v.dev (higher v.vif (get_or highest v.dev None)) None,
      get_or-set_other highest v.dev d (higher v.vif (get_or highest v.dev None)) None,
      are d within,
      are v.dev small,
      on_push_same vifs v d,
      on_push_other vifs v d,
    )

pub on_unset : (highest : List (Option ℕ)) (vifs : List VifRecord) (v : VifRecord) → 65 ≤ v.dev → AreHighest highest vifs → AreHighest highest (vifs ++ v ∷ [])
on_unset highest vifs v far are d within = grind (arith, common_steps, are d within, on_push_other vifs v d)

-- no vif has an index of 32 or more
pub at_far : (vifs : List VifRecord) (i : ℕ) → AllByRecursion (λ v. v.vif < 32) vifs → 32 ≤ i → vif_at vifs i ≡ None
at_far [] i small far = refl
at_far (v ∷ vs) i small far = grind (arith, common_steps, at_far vs i small.1 far, small.0)

small_higher : (i : ℕ) (o : Option ℕ) → i < 32 → IfSome o (λ j. j < 32) → IfSome (higher i o) (λ j. j < 32)
small_higher i None here others = here
small_higher i (Some j) here others = omega (arith, here, others)

small_either : (i : ℕ) (o : Option ℕ) (b : Bool) → i < 32 → IfSome o (λ j. j < 32) → IfSome (if b then higher i o else o) (λ j. j < 32)
small_either i o true here others = small_higher i o here others
small_either i o false here others = others

pub on_small : (vifs : List VifRecord) (d : ℕ) → AllByRecursion (λ v. v.vif < 32) vifs → IfSome (vif_on vifs d) (λ j. j < 32)
on_small [] d small = tt
on_small (v ∷ vs) d small = small_either v.vif (vif_on vs d) (v.dev == d) small.0 (on_small vs d small.1)

pub register_small : (vifs : List VifRecord) → AllByRecursion (λ v. v.vif < 32) vifs → IfSome (register_vif vifs) (λ j. j < 32)
register_small [] small = tt
register_small (v ∷ vs) small = grind (arith, common_steps, register_small vs small.1, small.0)

pub max_small : (vifs : List VifRecord) → AllByRecursion (λ v. v.vif < 32) vifs → max_vif vifs ≤ 32
max_small [] small = omega arith
max_small (v ∷ vs) small = omega (arith, max_small vs small.1, small.0)

pub has_far : (vifs : List VifRecord) (i : ℕ) → AllByRecursion (λ v. v.vif < 32) vifs → 32 ≤ i → has_vif vifs i ≡ false
has_far vifs i small far = has_from_at vifs i ∙ ap is_some (at_far vifs i small far)
