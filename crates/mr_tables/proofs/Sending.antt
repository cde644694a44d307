-- The thresholds by which an entry sends.
use Rattle.std.proofs.Common.{◌≡◌, ℕ, zero, suc, ◌<◌, ◌≤◌, ◌==◌, Bool, true, nat_lt, if◌then◌else◌, List, [], ◌∷◌, length, filter, slice_index_or, slice_set, refl, ap, arith}
use Rattle.std.proofs.lemmas.Grind.{common_steps}
use Rattle.std.specs.List.{list_all}
use Rattle.mr_base.specs.declared.route.Route.{Route}
use Rattle.mr_base.specs.declared.vif_record.VifRecord.{VifRecord}
use Rattle.mr_model.specs.VifList.{vif_on}
use Rattle.mr_model.specs.Verdict.{sends_on, outs_of}
use Rattle.mr_vif.specs.Masks.{mask_of, vifs_below}

-- vifs that pass one test are those that pass another, where the tests agree
filter_same : (p q : ℕ → Bool) (vifs : List VifRecord) → ((i : ℕ) → p i ≡ q i)
    → filter (λ v. p v.vif) vifs ≡ filter (λ v. q v.vif) vifs
filter_same p q [] same = refl
filter_same p q (v ∷ vs) same =
    rw (same v.vif, filter_same p q vs same) refl

-- thresholds that send where an entry sends give its outputs
pub outs_by : (vifs : List VifRecord) (r : Route) (dev ttl : ℕ) (ttls : List ℕ) →
    ((i : ℕ) → nat_lt (slice_index_or ttls i 255) ttl ≡ sends_on r (vif_on vifs dev) ttl i)
    → mask_of (vifs_below ttls ttl vifs) ≡ outs_of vifs r dev ttl
outs_by vifs r dev ttl ttls same =
    let below : ℕ → Bool = λ i. nat_lt (slice_index_or ttls i 255) ttl in
    let sends : ℕ → Bool = λ i. sends_on r (vif_on vifs dev) ttl i in
    ap (λ (vs : List VifRecord). mask_of vs) (filter_same below sends vifs same)

-- thresholds of which none is below 255
no_ttls : (xs : List ℕ) (i : ℕ) → list_all (λ x. x == 255) xs ≡ true → slice_index_or xs i 255 ≡ 255
no_ttls [] i all = grind (arith, common_steps)
no_ttls (x ∷ xs) zero all = grind (arith, common_steps)
no_ttls (x ∷ xs) (suc i) all = grind (arith, common_steps, no_ttls xs i)

-- all but one of them are none
pub one_ttl : (xs ttls : List ℕ) (j i : ℕ) → list_all (λ x. x == 255) xs ≡ true
    → j < length xs → j < length ttls
    → slice_index_or (slice_set xs j (slice_index_or ttls j 0)) i 255
    ≡ (if j == i then slice_index_or ttls i 255 else 255)
one_ttl xs ttls j i all within there = grind (arith, common_steps, no_ttls xs i all)

pub no_ttl : (xs ttls : List ℕ) (j i : ℕ) → list_all (λ x. x == 255) xs ≡ true → length ttls ≤ j
    → slice_index_or xs i 255 ≡ (if j == i then slice_index_or ttls i 255 else 255)
no_ttl xs ttls j i all outside = grind (arith, common_steps, no_ttls xs i all)
