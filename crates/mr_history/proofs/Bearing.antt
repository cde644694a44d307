-- Entries and vifs whose totals begin or end to be kept.
use Rattle.std.proofs.Common.{◌≡◌, refl, sym, ap, ◌∙◌, ℕ, zero, suc, ◌+◌, ◌<◌, ◌≤◌, ◌==◌, ◌&&◌}
use Rattle.std.proofs.Common.{◌||◌, Bool, true, false, nat_le, if◌then◌else◌, Option, Some, None}
use Rattle.std.proofs.Common.{IsSome, option_map, List, [], ◌∷◌, length, count_by, sum_by, arith}
use Rattle.std.proofs.Common.{slice_set, subst, inl, inr}
use Rattle.std.proofs.lemmas.Bool.{eqb-true, eqb-false, ne_eqb, cases_lt, lt-leb}
use Rattle.std.proofs.lemmas.Grind.{common_steps}
use Rattle.std.specs.List.{AllByRecursion}
use Rattle.mr_model.specs.declared.entry.Entry.{Entry}
use Rattle.mr_model.specs.declared.reply.RouteTotals.{RouteTotals}
use Rattle.mr_model.specs.declared.reply.VifTotals.{VifTotals}
use Rattle.mr_model.specs.Counts.{Met, met, route_sums, vif_sums, route_counts, vif_counts}
use Rattle.mr_model.specs.Counts.{counts_in, counts_out}
use Rattle.mr_model.specs.Verdict.{is_in, is_vif}
use Rattle.mr_history.specs.declared.totals.VifKept.{VifKept}
use Rattle.mr_history.specs.Journals.{has_number, remove_number, number_at, numbered_vif}
use Rattle.mr_history.specs.Keeping.{IsMetWithin}
use Rattle.mr_history.specs.Numbers.{value_of, without_value, numbers_of, AreBelow}
use Rattle.mr_history.specs.Totals.{vif_at, vif_numbers, IsIn, IsOut, AreRoutes}
use Rattle.mr_history.proofs.Summing.{vif_set, vif_other}

pub numbers_of_set : (ks : List (Option VifKept)) (i : ℕ) (k : Option VifKept)
    → vif_numbers (slice_set ks i k) ≡ slice_set (vif_numbers ks) i (option_map (λ x. x.number) k)
numbers_of_set [] i k = refl
numbers_of_set (x ∷ ks) zero k = refl
numbers_of_set (x ∷ ks) (suc i) k =
    ap (λ ns. option_map (λ y. y.number) x ∷ ns) (numbers_of_set ks i k)

number_of_vif : (ks : List (Option VifKept)) (i : ℕ)
    → number_at (vif_numbers ks) i ≡ option_map (λ x. x.number) (vif_at ks i)
number_of_vif [] i = refl
number_of_vif (x ∷ ks) zero = refl
number_of_vif (x ∷ ks) (suc i) = number_of_vif ks i

abbrev vif_of : ℕ → ℕ → ℕ → ℕ → VifTotals
vif_of a b c d = record { packets_in = a; packets_out = b; bytes_in = c; bytes_out = d }

vif_same : {a b c d e f g h : ℕ} → a ≡ e → b ≡ f → c ≡ g → d ≡ h → vif_of a b c d ≡ vif_of e f g h
vif_same p q r s = rw (p, q, r, s) refl

vif_counted : (ms : List Met) (i : ℕ) (k : VifKept) → IsIn i ms (Some k) → IsOut i ms (Some k)
    → k.totals ≡ vif_sums ms (numbered_vif i k.number)
vif_counted ms i k is_in is_out = vif_same is_in.0 is_out.0 is_in.1 is_out.1

abbrev pub no_vif : Option VifKept
no_vif = None

abbrev pub no_totals : Option VifTotals
no_totals = None

-- the totals of the vif at an index
pub vif_found : (h : List Entry) (ks : List (Option VifKept)) (i : ℕ) (k : VifKept)
    → Some k ≡ vif_at ks i → IsIn i (met h) (vif_at ks i) → IsOut i (met h) (vif_at ks i) →
    Some k.totals ≡ option_map (λ n. vif_counts h (numbered_vif i n))
    (number_at (vif_numbers ks) i)
vif_found h ks i k is came went =
    rw (number_of_vif ks i, ← is)
    (ap (λ t. Some t) (vif_counted (met h) i k (subst (λ x. IsIn i (met h) x) (sym is) came)
    (subst (λ x. IsOut i (met h) x) (sym is) went)))

pub vif_missing : (h : List Entry) (ks : List (Option VifKept)) (i : ℕ) → no_vif ≡ vif_at ks i →
    no_totals ≡ option_map (λ n. vif_counts h (numbered_vif i n)) (number_at (vif_numbers ks) i)
vif_missing h ks i is = rw (number_of_vif ks i, ← is) refl

pub route_found : (h : List Entry) (ps : List (ℕ × RouteTotals)) (n : ℕ) → AreRoutes ps (met h) →
    value_of ps n ≡ (if has_number (numbers_of ps) n then Some (route_counts h n) else None)
route_found h [] n are = refl
route_found h (p ∷ ps) n are = by (p.0 == n) refl (route_found h ps n are.1)
  where
    by : (b : Bool) → (p.0 == n) ≡ b
        → value_of ps n ≡ (if has_number (numbers_of ps) n then Some (route_counts h n)
        else None) →
        (if b then Some p.1 else value_of ps n)
        ≡ (if b || has_number (numbers_of ps) n then Some (route_counts h n) else None)
    by true same more = ap (λ t. Some t) (are.0 ∙ ap (λ m. route_counts h m) (eqb-true p.0 n same))
    by false other more = more

pub below_new : {T : Type 0} (ps : List (ℕ × T)) (n : ℕ)
    → AllByRecursion (λ m. m ≤ n) (numbers_of ps) → has_number (numbers_of ps) n ≡ false
    → AreBelow n ps
below_new [] n most new = tt
below_new (p ∷ ps) n most new = by (p.0 == n) refl new (below_new ps n most.1)
  where
    by : (b : Bool) → (p.0 == n) ≡ b → (b || has_number (numbers_of ps) n) ≡ false
        → (has_number (numbers_of ps) n ≡ false → AreBelow n ps) → AreBelow n (p ∷ ps)
    by true same new more = absurd cc
    by false other new more =
        let differ : p.0 ≡ n → ⊥ = eqb-false p.0 n other in
        let least : p.0 ≤ n = most.0 in (
          elim (cases_lt p.0 n) [
            | inl less ↦ less
            | inr greater ↦ absurd (differ (omega (arith, least, greater)))
          ],
          more new,
        )

count_none : (p : Met → Bool) (ms : List Met) → AllByRecursion (λ m. p m ≡ false) ms
    → count_by p ms ≡ 0
count_none p [] none = refl
count_none p (m ∷ ms) none = let more = count_none p ms none.1 in
    grind (arith, common_steps, more, none.0)

sum_none : (p : Met → Bool) (ms : List Met) → AllByRecursion (λ m. p m ≡ false) ms
    → sum_by (λ m. if p m then m.length else 0) ms ≡ 0
sum_none p [] none = refl
sum_none p (m ∷ ms) none = let more = sum_none p ms none.1 in
    grind (arith, common_steps, more, none.0)

all_fail : (n : ℕ) (p : Met → Bool) → ((m : Met) → IsMetWithin n m → p m ≡ false)
    → (ms : List Met) → AllByRecursion (IsMetWithin n) ms → AllByRecursion (λ m. p m ≡ false) ms
all_fail n p fails [] within = tt
all_fail n p fails (m ∷ ms) within = (fails m within.0, all_fail n p fails ms within.1)

abbrev route_of : ℕ → ℕ → ℕ → RouteTotals
route_of p b w = record { packets = p; bytes = b; wrong = w }

route_same : {p q b c w v : ℕ} → p ≡ q → b ≡ c → w ≡ v → route_of p b w ≡ route_of q c v
route_same e f g = rw (e, f, g) refl

pub no_route_yet : (t : RouteTotals) → t.packets ≡ 0 → t.bytes ≡ 0 → t.wrong ≡ 0
    → t ≡ record { packets = 0; bytes = 0; wrong = 0 }
no_route_yet t p b w = route_same p b w

pub no_vif_yet : (t : VifTotals) → t.packets_in ≡ 0 → t.packets_out ≡ 0 → t.bytes_in ≡ 0
    → t.bytes_out ≡ 0 →
    t ≡ record { packets_in = 0; packets_out = 0; bytes_in = 0; bytes_out = 0 }
no_vif_yet t a b c d = vif_same a b c d

-- no packet met an entry that is made next
pub route_zero : (ms : List Met) (n : ℕ) → AllByRecursion (IsMetWithin n) ms
    → route_sums ms (n + 1) ≡ record { packets = 0; bytes = 0; wrong = 0 }
route_zero ms n within =
    route_same (count_none (λ m. m.entry == n + 1) ms
    (all_fail n (λ m. m.entry == n + 1) (λ m w. other m w) ms within))
    (sum_none (λ m. m.entry == n + 1) ms
    (all_fail n (λ m. m.entry == n + 1) (λ m w. other m w) ms within))
    (count_none (λ m. m.entry == n + 1 && m.wrong) ms
    (all_fail n (λ m. m.entry == n + 1 && m.wrong) (λ m w. rw (other m w) refl) ms within))
  where
    other : (m : Met) → IsMetWithin n m → (m.entry == n + 1) ≡ false
    other m w = ne_eqb m.entry (n + 1) (λ same. omega (arith, w.entry, same))

-- and none counts for a vif that is made next
in_late : (i n : ℕ) (m : Met) → IsMetWithin n m → counts_in (numbered_vif i (n + 1)) m ≡ false
in_late i n m w = rw (late m w) (by (is_vif m.input i))
  where
    late : (m : Met) → IsMetWithin n m → nat_le (n + 1) m.place ≡ false
    late m w = lt-leb (n + 1) m.place (omega (arith, w.place))

    by : (b : Bool) → (b && false) ≡ false
    by true = refl
    by false = refl

out_late : (i n : ℕ) (m : Met) → IsMetWithin n m → counts_out (numbered_vif i (n + 1)) m ≡ false
out_late i n m w = rw (late m w) (by (is_in m.outs i))
  where
    late : (m : Met) → IsMetWithin n m → nat_le (n + 1) m.place ≡ false
    late m w = lt-leb (n + 1) m.place (omega (arith, w.place))

    by : (b : Bool) → (b && false) ≡ false
    by true = refl
    by false = refl

abbrev pub newborn : ℕ → Option VifKept
newborn n = Some (record {
  number = n;
  totals = record { packets_in = 0; packets_out = 0; bytes_in = 0; bytes_out = 0 };
})

in_zero : (ms : List Met) (i n : ℕ) → AllByRecursion (IsMetWithin n) ms
    → IsIn i ms (newborn (n + 1))
in_zero ms i n within =
    let late = all_fail n (counts_in (numbered_vif i (n + 1)))
    (λ m w. in_late i n m w) ms within in (
      sym (count_none (counts_in (numbered_vif i (n + 1))) ms late),
      sym (sum_none (counts_in (numbered_vif i (n + 1))) ms late),
    )

out_zero : (ms : List Met) (i n : ℕ) → AllByRecursion (IsMetWithin n) ms
    → IsOut i ms (newborn (n + 1))
out_zero ms i n within =
    let late = all_fail n (counts_out (numbered_vif i (n + 1)))
    (λ m w. out_late i n m w) ms within in (
      sym (count_none (counts_out (numbered_vif i (n + 1))) ms late),
      sym (sum_none (counts_out (numbered_vif i (n + 1))) ms late),
    )

pub born_in : (ms : List Met) (ks : List (Option VifKept)) (i n : ℕ) → i < length ks
    → AllByRecursion (IsMetWithin n) ms → ((j : ℕ) → IsIn j ms (vif_at ks j)) →
    (j : ℕ) → IsIn j ms (vif_at (slice_set ks i (newborn (n + 1))) j)
born_in ms ks i n inside within are j = by (i == j) refl
  where
    by : (b : Bool) → (i == j) ≡ b → IsIn j ms (vif_at (slice_set ks i (newborn (n + 1))) j)
    by true same = subst (λ x. IsIn x ms (vif_at (slice_set ks i (newborn (n + 1))) x))
        (eqb-true i j same)
        (subst (λ k. IsIn i ms k) (sym (vif_set ks i (newborn (n + 1)) inside))
        (in_zero ms i n within))
    by false other = subst (λ k. IsIn j ms k)
        (sym (vif_other ks i j (newborn (n + 1)) (eqb-false i j other))) (are j)

pub born_out : (ms : List Met) (ks : List (Option VifKept)) (i n : ℕ) → i < length ks
    → AllByRecursion (IsMetWithin n) ms → ((j : ℕ) → IsOut j ms (vif_at ks j)) →
    (j : ℕ) → IsOut j ms (vif_at (slice_set ks i (newborn (n + 1))) j)
born_out ms ks i n inside within are j = by (i == j) refl
  where
    by : (b : Bool) → (i == j) ≡ b → IsOut j ms (vif_at (slice_set ks i (newborn (n + 1))) j)
    by true same = subst (λ x. IsOut x ms (vif_at (slice_set ks i (newborn (n + 1))) x))
        (eqb-true i j same)
        (subst (λ k. IsOut i ms k) (sym (vif_set ks i (newborn (n + 1)) inside))
        (out_zero ms i n within))
    by false other = subst (λ k. IsOut j ms k)
        (sym (vif_other ks i j (newborn (n + 1)) (eqb-false i j other))) (are j)

pub has_value : {T : Type 0} (ps : List (ℕ × T)) (n : ℕ) → has_number (numbers_of ps) n ≡ true
    → IsSome (value_of ps n)
has_value [] n has = absurd cc
has_value (p ∷ ps) n has = by (p.0 == n) has (has_value ps n)
  where
    by : (b : Bool) → (b || has_number (numbers_of ps) n) ≡ true
        → (has_number (numbers_of ps) n ≡ true → IsSome (value_of ps n))
        → IsSome (if b then Some p.1 else value_of ps n)
    by true has more = refl
    by false has more = more has

pub numbers_left : {T : Type 0} (ps : List (ℕ × T)) (n : ℕ)
    → numbers_of (without_value ps n) ≡ remove_number (numbers_of ps) n
numbers_left [] n = refl
numbers_left (p ∷ ps) n = by (p.0 == n) (numbers_left ps n)
  where
    by : (b : Bool) → numbers_of (without_value ps n) ≡ remove_number (numbers_of ps) n →
        numbers_of (if b then ps else p ∷ without_value ps n)
        ≡ (if b then numbers_of ps else p.0 ∷ remove_number (numbers_of ps) n)
    by true more = refl
    by false more = ap (λ ns. p.0 ∷ ns) more

pub all_left : {T : Type 0} (P : ℕ × T → Type 0) (ps : List (ℕ × T)) (n : ℕ)
    → AllByRecursion P ps → AllByRecursion P (without_value ps n)
all_left P [] n all = tt
all_left P (p ∷ ps) n all = by (p.0 == n) (all_left P ps n all.1)
  where
    by : (b : Bool) → AllByRecursion P (without_value ps n)
        → AllByRecursion P (if b then ps else p ∷ without_value ps n)
    by true more = all.1
    by false more = (all.0, more)

pub most_left : (ns : List ℕ) (n m : ℕ) → AllByRecursion (λ k. k ≤ m) ns
    → AllByRecursion (λ k. k ≤ m) (remove_number ns n)
most_left [] n m all = tt
most_left (k ∷ ns) n m all = by (k == n) (most_left ns n m all.1)
  where
    by : (b : Bool) → AllByRecursion (λ k. k ≤ m) (remove_number ns n)
        → AllByRecursion (λ k. k ≤ m) (if b then ns else k ∷ remove_number ns n)
    by true more = all.1
    by false more = (all.0, more)
