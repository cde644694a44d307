-- Masks by their bits.
use Rattle.std.proofs.Common.{◌≡◌, ◌≢◌, refl, ℕ, ◌/◌, ◌%◌, ◌^◌, ◌<◌, ◌≤◌, zero, suc, ◌==◌, ◌&&◌, ◌||◌, nat_lt, Bool, false, List, [], ◌∷◌, length, map, fold, filter, bit_and, bit_or, get_or, arith, ◌∙◌}
use Rattle.std.proofs.lemmas.Grind.{common_steps}
use Rattle.std.proofs.lemmas.List.Elements.{filter_agree}
use Rattle.std.proofs.lemmas.Nat.Bits.{bit_at_and, bit_at_or, bit_at-lt, bit_at-zero, bit_at-pow_same, bit_at-pow_other, same_from_bits}
use Rattle.std.proofs.lemmas.List.{length-map}
use Rattle.std.proofs.lemmas.Nat.{and_mask}
use Rattle.std.proofs.lemmas.Simd.{bit_mask_l, mask_l-mod}
use lib.Lanes.{mask_l}
use Rattle.mr_base.specs.declared.numbers.Mask.{Mask}
use Rattle.mr_base.specs.declared.route.Route.{Route}
use Rattle.mr_base.specs.declared.vif_record.VifRecord.{VifRecord}
use Rattle.mr_model.specs.VifList.{has_vif, vif_on}
use Rattle.mr_model.specs.Verdict.{is_in, sends_on, outs_of}
use Rattle.mr_vif.specs.Masks.{mask_of, vifs_below}

-- a bit is set where it is 1
abbrev bit_in : ℕ → ℕ → Bool
bit_in n i = n / 2 ^ i % 2 == 1

or_bit : (a b i : ℕ) → bit_in (bit_or a b) i ≡ (bit_in a i || bit_in b i)
or_bit a b i = grind (arith, common_steps, bit_at_or a b i, bit_at-lt a i, bit_at-lt b i)

and_bit : (a b i : ℕ) → bit_in (bit_and a b) i ≡ (bit_in a i && bit_in b i)
and_bit a b i = grind (arith, common_steps, bit_at_and a b i, bit_at-lt a i, bit_at-lt b i)

pow_bit : (k i : ℕ) → bit_in (2 ^ k) i ≡ (k == i)
pow_bit k i = grind (arith, common_steps, bit_at-pow_same k, bit_at-pow_other k i)

-- numbers with the same bits are one
same_bits : (a b : ℕ) → ((i : ℕ) → bit_in a i ≡ bit_in b i) → a ≡ b
same_bits a b same = same_from_bits a b (λ i. grind (arith, common_steps, same i, bit_at-lt a i, bit_at-lt b i))

fold_bit : (vifs : List VifRecord) (m i : ℕ) → bit_in (fold (λ m v. bit_or m (2 ^ v.vif)) m vifs) i ≡ (bit_in m i || has_vif vifs i)
fold_bit [] m i = grind (arith, common_steps)
fold_bit (v ∷ vs) m i = grind (arith, common_steps, fold_bit vs (bit_or m (2 ^ v.vif)) i, or_bit m (2 ^ v.vif) i, pow_bit v.vif i)

zero_bit : (i : ℕ) → bit_in 0 i ≡ false
zero_bit i = grind (arith, common_steps, bit_at-zero i)

-- the bits of the mask of some vifs are their indexes
pub mask_bit : (vifs : List VifRecord) (i : ℕ) → is_in (mask_of vifs) i ≡ has_vif vifs i
mask_bit vifs i = grind (arith, common_steps, fold_bit vifs 0 i, zero_bit i)

-- a vif is among those that pass where it is there and passes
pass_has : (test : ℕ → Bool) (vifs : List VifRecord) (i : ℕ) → has_vif (filter (λ v. test v.vif) vifs) i ≡ (test i && has_vif vifs i)
pass_has test [] i = grind (arith, common_steps)
pass_has test (v ∷ vs) i = grind (arith, common_steps, pass_has test vs i)

pub meet : (test : ℕ → Bool) (m : Mask) (vifs : List VifRecord) → ((i : ℕ) → is_in m i ≡ test i) →
    bit_and m.0 (mask_of vifs).0 ≡ (mask_of (filter (λ v. test v.vif) vifs)).0
meet test m vifs passes = same_bits _ _ (λ i.
    and_bit m.0 (mask_of vifs).0 i
    ∙ grind (arith, common_steps, passes i, mask_bit vifs i, mask_bit (filter (λ v. test v.vif) vifs) i, pass_has test vifs i))

-- where there is an origin only the thresholds count
pub origin : (vifs : List VifRecord) (r : Route) (dev ttl : ℕ) → r.src.0 ≢ 0 → outs_of vifs r dev ttl ≡ mask_of (vifs_below r.ttls ttl vifs)
origin vifs r dev ttl some = rw (filter_agree (λ v. sends_on r (vif_on vifs dev) ttl v.vif) (λ v. nat_lt (get_or r.ttls v.vif 255) ttl) (λ v. grind (arith, common_steps)) vifs)

-- what stands at an index of a list of tests; behind its end no TTL exceeds 255
test_at : (ttls : List ℕ) (ttl i : ℕ) → ttl < 256 → get_or (map (λ t. nat_lt t ttl) ttls) i false ≡ nat_lt (get_or ttls i 255) ttl
test_at [] ttl i small = grind (arith, common_steps)
test_at (t ∷ ts) ttl zero small = refl
test_at (t ∷ ts) ttl (suc i) small = test_at ts ttl i small

-- 32 tests as the bits of a number
pub below_bit : (ttls : List ℕ) (ttl i : ℕ) → length ttls ≡ 32 → ttl < 256 →
    is_in (record { 0 = bit_and (mask_l (map (λ t. nat_lt t ttl) ttls)) 4294967295 }) i ≡ nat_lt (get_or ttls i 255) ttl
below_bit ttls ttl i long small =
    let few : length (map (λ t. nat_lt t ttl) ttls) ≤ 32 = omega (arith, length-map ttls (λ t. nat_lt t ttl)) in
    let whole : bit_and (mask_l (map (λ t. nat_lt t ttl) ttls)) 4294967295 ≡ mask_l (map (λ t. nat_lt t ttl) ttls)
    = and_mask (mask_l (map (λ t. nat_lt t ttl) ttls)) 32 ∙ mask_l-mod (map (λ t. nat_lt t ttl) ttls) 32 few in
    rw whole (grind (arith, common_steps, bit_mask_l (map (λ t. nat_lt t ttl) ttls) i, test_at ttls ttl i small))
