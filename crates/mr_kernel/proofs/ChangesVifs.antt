-- What a change makes of the vif at an index.
use Rattle.std.proofs.Common.{◌≡◌, ◌∙◌, ap, refl, sym, subst, ℕ, ◌<◌, ◌==◌, Bool, true, false}
use Rattle.std.proofs.Common.{if◌then◌else◌, is_some, Option, Some, None, option_map, List, []}
use Rattle.std.proofs.Common.{◌∷◌, ◌++◌, arith}
use Rattle.std.proofs.lemmas.Grind.{common_steps}
use Rattle.std.proofs.lemmas.Bool.{eqb-true}
use Rattle.std.specs.List.{AllByRecursion, IsDistinct}
use Rattle.mr_base.specs.declared.vif_record.VifRecord.{VifRecord}
use Rattle.mr_model.specs.declared.change.What.TheVariants.{AddVif}
use Rattle.mr_model.specs.VifList.{has_vif, vif_at, vifs_left, without_vif}
use Rattle.mr_vif.proofs.VifLemmas.{at_push_same, at_push_other, has_from_at}
use Rattle.mr_tables.specs.Fitting.{vif_fits}
use Rattle.mr_history.specs.Journals.{number_at}
use Rattle.mr_kernel.specs.Holding.{CountsVifs, flushes}

-- the number of a vif, where there is one
abbrev pub number_of : Option VifRecord → Option ℕ
number_of o = option_map (λ v. v.number) o

-- each vif has an index of its own
abbrev pub AreOwn : List VifRecord → Type 0
AreOwn vifs = IsDistinct (λ v w. v.vif == w.vif) vifs

-- a vif that is there has an index below 32
pub there_small : (vifs : List VifRecord) (i : ℕ) → AllByRecursion (λ v. v.vif < 32) vifs
    → has_vif vifs i ≡ true → i < 32
there_small [] i small there = absurd cc
there_small (v ∷ vs) i small there =
    grind (arith, common_steps, there_small vs i small.1, small.0)

-- a vif that may be added has a free index
pub fitting_free : (vifs : List VifRecord) (vif dev : ℕ) (register fixed : Bool)
    → vif_fits vifs (AddVif vif dev register fixed) ≡ true → has_vif vifs vif ≡ false
fitting_free vifs vif dev register fixed fits = grind (arith, common_steps)

some_number : (o : Option VifRecord) → is_some (number_of o) ≡ is_some o
some_number None = refl
some_number (Some v) = refl

-- kept is a number where a vif is there
pub number_kept : (vifs : List VifRecord) (vif : ℕ) (kept : List (Option ℕ))
    → has_vif vifs vif ≡ true → number_at kept vif ≡ number_of (vif_at vifs vif)
    → is_some (number_at kept vif) ≡ true
number_kept vifs vif kept there counts =
    ap (λ (o : Option ℕ). is_some o) counts
    ∙ some_number (vif_at vifs vif)
    ∙ sym (has_from_at vifs vif)
    ∙ there

-- without a vif
at_without_same : (vifs : List VifRecord) (i : ℕ) → vif_at (without_vif vifs i) i ≡ None
at_without_same [] i = refl
at_without_same (v ∷ vs) i = grind (arith, common_steps, at_without_same vs i)

at_without_other : (vifs : List VifRecord) (i j : ℕ) → (i == j) ≡ false
    → vif_at (without_vif vifs i) j ≡ vif_at vifs j
at_without_other [] i j other = refl
at_without_other (v ∷ vs) i j other =
    grind (arith, common_steps, at_without_other vs i j other)

-- the numbers that are kept behind a new vif
pub counts_push : (vifs : List VifRecord) (v : VifRecord) (kept new : List (Option ℕ))
    → has_vif vifs v.vif ≡ false → CountsVifs vifs kept → number_at new v.vif ≡ Some v.number
    → ((i : ℕ) → (v.vif == i) ≡ false → number_at new i ≡ number_at kept i)
    → CountsVifs (vifs ++ v ∷ []) new
counts_push vifs v kept new free counts here elsewhere i within = by (v.vif == i) refl
  where
    by : (b : Bool) → (v.vif == i) ≡ b
        → number_at new i ≡ number_of (vif_at (vifs ++ v ∷ []) i)
    by true so =
        subst (λ (k : ℕ). number_at new k ≡ number_of (vif_at (vifs ++ v ∷ []) k))
        (eqb-true v.vif i so) (here ∙ ap number_of (sym (at_push_same vifs v free)))
    by false so =
        elsewhere i so ∙ counts i within ∙ ap number_of (sym (at_push_other vifs v i so))

-- and without a vif
pub counts_without : (vifs : List VifRecord) (vif : ℕ) (kept new : List (Option ℕ))
    → CountsVifs vifs kept → number_at new vif ≡ None
    → ((i : ℕ) → (vif == i) ≡ false → number_at new i ≡ number_at kept i)
    → CountsVifs (without_vif vifs vif) new
counts_without vifs vif kept new counts here elsewhere i within = by (vif == i) refl
  where
    by : (b : Bool) → (vif == i) ≡ b
        → number_at new i ≡ number_of (vif_at (without_vif vifs vif) i)
    by true so =
        subst (λ (k : ℕ). number_at new k ≡ number_of (vif_at (without_vif vifs vif) k))
        (eqb-true vif i so) (here ∙ ap number_of (sym (at_without_same vifs vif)))
    by false so =
        elsewhere i so ∙ counts i within
        ∙ ap number_of (sym (at_without_other vifs vif i so))

-- where no vif has an index none has it behind a flush
free_left : (loose fixed : Bool) (vifs : List VifRecord) (i : ℕ)
    → AllByRecursion (λ w. (i == w.vif) ≡ false) vifs
    → vif_at (vifs_left loose fixed vifs) i ≡ None
free_left loose fixed [] i free = refl
free_left loose fixed (v ∷ vs) i free =
    grind (arith, common_steps, free_left loose fixed vs i free.1, free.0)

-- what a flush leaves of a vif
abbrev left_of : Bool → Bool → Option VifRecord → Option VifRecord
left_of loose fixed None = None
left_of loose fixed (Some v) = if flushes loose fixed v.fixed then None else Some v

at_left : (loose fixed : Bool) (vifs : List VifRecord) (i : ℕ) → AreOwn vifs
    → vif_at (vifs_left loose fixed vifs) i ≡ left_of loose fixed (vif_at vifs i)
unfolding IsDistinct
at_left loose fixed [] i own = refl
at_left loose fixed (v ∷ vs) i own =
    grind (
      arith,
      common_steps,
      at_left loose fixed vs i own.1,
      free_left loose fixed vs v.vif own.0,
    )

left_at : (loose fixed : Bool) (vifs : List VifRecord) (i : ℕ) (o : Option VifRecord)
    → AreOwn vifs → o ≡ vif_at vifs i
    → number_of (left_of loose fixed o) ≡ number_of (vif_at (vifs_left loose fixed vifs) i)
left_at loose fixed vifs i o own is =
    ap (λ (o : Option VifRecord). number_of (left_of loose fixed o)) is
    ∙ ap number_of (sym (at_left loose fixed vifs i own))

-- the number that is kept behind a flush: of a vif that goes, of one that stays, and of none
pub gone_left : (loose fixed : Bool) (vifs : List VifRecord) (i : ℕ) (v : VifRecord)
    (kept : List (Option ℕ)) → AreOwn vifs → Some v ≡ vif_at vifs i
    → flushes loose fixed v.fixed ≡ true → number_at kept i ≡ None
    → number_at kept i ≡ number_of (vif_at (vifs_left loose fixed vifs) i)
gone_left loose fixed vifs i v kept own is goes here =
    here
    ∙ ap (λ (b : Bool). number_of (if b then None else Some v)) (sym goes)
    ∙ left_at loose fixed vifs i (Some v) own is

pub kept_left : (loose fixed : Bool) (vifs : List VifRecord) (i : ℕ) (v : VifRecord)
    (kept : List (Option ℕ)) → AreOwn vifs → Some v ≡ vif_at vifs i
    → flushes loose fixed v.fixed ≡ false → number_at kept i ≡ number_of (vif_at vifs i)
    → number_at kept i ≡ number_of (vif_at (vifs_left loose fixed vifs) i)
kept_left loose fixed vifs i v kept own is stays here =
    here
    ∙ ap number_of (sym is)
    ∙ ap (λ (b : Bool). number_of (if b then None else Some v)) (sym stays)
    ∙ left_at loose fixed vifs i (Some v) own is

pub none_left : (loose fixed : Bool) (vifs : List VifRecord) (i : ℕ) (kept : List (Option ℕ))
    → AreOwn vifs → None ≡ vif_at vifs i → number_at kept i ≡ number_of (vif_at vifs i)
    → number_at kept i ≡ number_of (vif_at (vifs_left loose fixed vifs) i)
none_left loose fixed vifs i kept own is here =
    here ∙ ap number_of (sym is) ∙ left_at loose fixed vifs i None own is
