-- Laws of masks as words.
use Rattle.std.proofs.Common.{◌≡◌, ℕ, zero, suc, ◌+◌, ◌-◌, ◌*◌, ◌/◌, ◌%◌, ◌^◌, ◌<◌, ◌≤◌, ◌==◌, Bool, true, false, List, [], ◌∷◌, map, filter, Option, Some, None, option_map, decimal, codes, bytes_eq, nat_le, refl, sym, ap, ◌∙◌, arith, lit<, lit≤, inl, inr, subst, eq-eqb, ne_eqb, eqb-true, le-leb, leb-true, pow-add, pow_mono, shr-shr, pow-suc, div-one, mul-zero, mul-add, mul_assoc, mul_right_comm, mul_comm, add-zero, le_refl, zero-add, suc-add}
use Rattle.std.proofs.lemmas.Bool.{and_from, cases_Bool, eqb-false}
use Rattle.std.specs.List.{list_all, join_with_byte}
use Rattle.std.specs.Prelude.{if◌then◌else◌}
use Rattle.mr_base.specs.declared.numbers.Mask.{Mask}
use Rattle.mr_model.specs.Ending.{indexes}
use Rattle.mr_model.specs.Verdict.{is_in}
use Rattle.mr_words.specs.Numbers.{number_of}
use Rattle.mr_words.specs.Parts.{parts_of}
use Rattle.mr_lines.specs.Fit.{MaskFits}
use Rattle.mr_lines.specs.Forms.{Word, mask}
use Rattle.mr_lines.specs.Laws.{is_free, are_free}
use Rattle.mr_lines.specs.Words.{with_vifs, to_mask, mask_of}
use Rattle.mr_lines.proofs.FieldLaws.{IsWord, bound}
use Rattle.mr_lines.proofs.NumberLaws.{number_takes, number_again, same_bytes, decimal_digits, digits_lack}
use Rattle.mr_lines.proofs.WordLaws.{pick, number8_word}
use Rattle.mr_lines.proofs.PartLaws.{all_lack, joined_parts, parts_joined, joined_free}

-- the set bits of q as numbers from i on
unfoldable bits_from : ℕ → ℕ → ℕ → List ℕ
bits_from zero i q = []
bits_from (suc k) i q = if q % 2 == 1 then i ∷ bits_from k (i + 1) (q / 2) else bits_from k (i + 1) (q / 2)

-- k numbers from i on
abbrev rising : ℕ → ℕ → List ℕ
rising zero i = []
rising (suc k) i = i ∷ rising k (i + 1)

halved : (m i : ℕ) → m / 2 ^ (i + 1) ≡ m / 2 ^ i / 2
halved m i = sym (shr-shr m i 1)

filter_bits : (m : Mask) (k i : ℕ) → filter (is_in m) (rising k i) ≡ bits_from k i (m.0 / 2 ^ i)
unfolding bits_from
filter_bits m zero i = refl
filter_bits m (suc k) i =
    ap (λ l. if is_in m i then i ∷ l else l) (filter_bits m k (i + 1) ∙ ap (bits_from k (i + 1)) (halved m.0 i))

filter_all : (m : Mask) → filter (is_in m) indexes ≡ bits_from 32 0 m.0
filter_all m = filter_bits m 32 0 ∙ ap (bits_from 32 0) (div-one m.0)

bits_none : (k i : ℕ) → bits_from k i 0 ≡ []
unfolding bits_from
bits_none zero i = refl
bits_none (suc k) i = bits_none k (i + 1)

bits_even : (k i x : ℕ) → bits_from (suc k) i (x * 2) ≡ bits_from k (i + 1) x
unfolding bits_from
bits_even k i x =
    let half : x * 2 / 2 ≡ x = omega arith in
    let even : (x * 2 % 2 == 1) ≡ false = ne_eqb (x * 2 % 2) 1 (λ e. omega (arith, e)) in
    rw (even, half) refl

bits_odd : (k i x : ℕ) → bits_from (suc k) i (x * 2 + 1) ≡ i ∷ bits_from k (i + 1) x
unfolding bits_from
bits_odd k i x =
    let half : (x * 2 + 1) / 2 ≡ x = omega arith in
    let odd : ((x * 2 + 1) % 2 == 1) ≡ true = eq-eqb ((x * 2 + 1) % 2) 1 (omega arith) in
    rw (odd, half) refl

bits_skip : (d k i q : ℕ) → bits_from (d + k) i (2 ^ d * q) ≡ bits_from k (i + d) q
bits_skip zero k i q =
    let one : 2 ^ 0 * q ≡ q = omega arith in
    let here : i + 0 ≡ i = omega arith in
    let all : 0 + k ≡ k = zero-add k in
    rw (one, here, all) refl
bits_skip (suc d) k i q =
    let twice : 2 ^ suc d * q ≡ 2 ^ d * q * 2 = ap (λ x. x * q) (pow-suc 2 d) ∙ mul_right_comm (2 ^ d) 2 q in
    let next : i + 1 + d ≡ i + suc d = omega arith in
    ap (λ n. bits_from n i (2 ^ suc d * q)) (suc-add d k) ∙ ap (bits_from (suc (d + k)) i) twice ∙ bits_even (d + k) i (2 ^ d * q) ∙ bits_skip d k (i + 1) q ∙ ap (λ n. bits_from k n q) next

-- the value that a test lets through
let_through : {A : Type 0} (test : Bool) (o : Option A) (y : A) → (if test then o else None) ≡ Some y → (test ≡ true) × (o ≡ Some y)
let_through true o y e = (refl, e)
let_through false o y e = absurd (cc)

next_is : (mask i d q : ℕ) → mask + 2 ^ (i + d) + 2 ^ (i + d + 1) * q ≡ mask + 2 ^ i * (2 ^ d * (q * 2 + 1))
next_is mask i d q =
    let far : 2 ^ (i + d) ≡ 2 ^ i * 2 ^ d = pow-add 2 i d in
    let further : 2 ^ (i + d + 1) ≡ 2 ^ (i + d) * 2 = pow-add 2 (i + d) 1 in
    let twice : 2 ^ (i + d + 1) * q ≡ 2 ^ (i + d) * (q * 2) = ap (λ x. x * q) further ∙ mul_assoc (2 ^ (i + d)) 2 q ∙ ap (λ x. 2 ^ (i + d) * x) (mul_comm 2 q) in
    let all : 2 ^ (i + d) * (q * 2 + 1) ≡ 2 ^ (i + d) * (q * 2) + 2 ^ (i + d) * 1 = mul-add (2 ^ (i + d)) (q * 2) 1 in
    let whole : 2 ^ i * (2 ^ d * (q * 2 + 1)) ≡ 2 ^ (i + d) * (q * 2 + 1) = sym (mul_assoc (2 ^ i) (2 ^ d) (q * 2 + 1)) ∙ ap (λ x. x * (q * 2 + 1)) (sym far) in
    omega (arith, twice, all, whole)

-- What vifs from i on add to a mask are bits, and the words are theirs.
record Added (ws : List Word) (k i mask m : ℕ) : Type 0 where
  q : ℕ
  is : m ≡ mask + 2 ^ i * q
  words : ws ≡ map decimal (bits_from k i q)

vifs_take : (ws : List Word) (k i mask m : ℕ) → i + k ≡ 32 → with_vifs i mask ws ≡ Some m → Added ws k i mask m
unfolding with_vifs
vifs_take [] k i mask m all e = record {
  q = 0;
  is = cc (e, mul-zero (2 ^ i), add-zero mask);
  words = sym (ap (map decimal) (bits_none k i));
}
vifs_take (w ∷ ws) k i mask m all e =
    let read = bound (λ v. if nat_le i v then with_vifs (v + 1) (mask + 2 ^ v) ws else None) (number_of 31 w) m e in
    let v = read.0 in
    let number = number_takes 31 (lit< tt) w v read.1 in
    let through = let_through (nat_le i v) (with_vifs (v + 1) (mask + 2 ^ v) ws) m read.2 in
    let low : i ≤ v = leb-true i v through.0 in
    let inner = vifs_take ws (31 - v) (v + 1) (mask + 2 ^ v) m (omega (arith, number.1)) through.1 in
    let d = v - i in
    let at : i + d ≡ v = omega arith in
    let long : k ≡ d + suc (31 - v) = omega (arith, number.1) in
    let value : mask + 2 ^ v + 2 ^ (v + 1) * inner.q ≡ mask + 2 ^ i * (2 ^ d * (inner.q * 2 + 1)) = ap (λ x. mask + 2 ^ x + 2 ^ (x + 1) * inner.q) (sym at) ∙ next_is mask i d inner.q in
    record {
      q = 2 ^ d * (inner.q * 2 + 1);
      is = inner.is ∙ value;
      words = (λ j. number.0 j ∷ inner.words j)
          ∙ ap (map decimal) (sym (ap (λ x. bits_from x i (2 ^ d * (inner.q * 2 + 1))) long ∙ bits_skip d (suc (31 - v)) i (inner.q * 2 + 1) ∙ ap (λ x. bits_from (suc (31 - v)) x (inner.q * 2 + 1)) at ∙ bits_odd (31 - v) v inner.q));
    }

pub vifs_small : (ws : List Word) (i mask m : ℕ) → i ≤ 32 → mask < 2 ^ i → with_vifs i mask ws ≡ Some m → m < 2 ^ 32
unfolding with_vifs
vifs_small [] i mask m within small e =
    let same : mask ≡ m = cc e in
    omega (arith, pow_mono {i = i} {j = 32} within)
vifs_small (w ∷ ws) i mask m within small e =
    let read = bound (λ v. if nat_le i v then with_vifs (v + 1) (mask + 2 ^ v) ws else None) (number_of 31 w) m e in
    let v = read.0 in
    let number = number_takes 31 (lit< tt) w v read.1 in
    let through = let_through (nat_le i v) (with_vifs (v + 1) (mask + 2 ^ v) ws) m read.2 in
    let low : i ≤ v = leb-true i v through.0 in
    vifs_small ws (v + 1) (mask + 2 ^ v) m (omega (arith, number.1)) (omega (arith, pow_mono {i = i} {j = v} low, pow-add 2 v 1)) through.1

-- Where the first vif is above i + 1, it is above i.
vifs_lower : (ws : List Word) (i mask m : ℕ) → with_vifs (i + 1) mask ws ≡ Some m → with_vifs i mask ws ≡ Some m
unfolding with_vifs
vifs_lower [] i mask m e = e
vifs_lower (w ∷ ws) i mask m e =
    let read = bound (λ v. if nat_le (i + 1) v then with_vifs (v + 1) (mask + 2 ^ v) ws else None) (number_of 31 w) m e in
    let through = let_through (nat_le (i + 1) read.0) (with_vifs (read.0 + 1) (mask + 2 ^ read.0) ws) m read.2 in
    let low : i + 1 ≤ read.0 = leb-true (i + 1) read.0 through.0 in
    rw (read.1, le-leb i read.0 (omega arith)) through.1

vifs_again : (k i q mask : ℕ) → i + k ≡ 32 → q < 2 ^ k → with_vifs i mask (map decimal (bits_from k i q)) ≡ Some (mask + 2 ^ i * q)
unfolding with_vifs bits_from
vifs_again zero i q mask all small =
    let none : q ≡ 0 = omega arith in
    ap Some (sym (ap (λ x. mask + 2 ^ i * x) none ∙ ap (λ x. mask + x) (mul-zero (2 ^ i)) ∙ add-zero mask))
vifs_again (suc k) i q mask all small = by_case (q % 2 == 1) refl (λ n. vifs_again k (i + 1) (q / 2) n (omega arith) (omega (arith, pow-suc 2 k)))
  where
    twice : 2 ^ (i + 1) * (q / 2) ≡ 2 ^ i * (q / 2 * 2)
    twice = ap (λ x. x * (q / 2)) (pow-add 2 i 1) ∙ mul_assoc (2 ^ i) 2 (q / 2) ∙ ap (λ x. 2 ^ i * x) (mul_comm 2 (q / 2))

    by_case : (t : Bool) → (q % 2 == 1) ≡ t → ((n : ℕ) → with_vifs (i + 1) n (map decimal (bits_from k (i + 1) (q / 2))) ≡ Some (n + 2 ^ (i + 1) * (q / 2))) →
        with_vifs i mask (map decimal (bits_from (suc k) i q)) ≡ Some (mask + 2 ^ i * q)
    by_case true odd inner =
        let one : q ≡ q / 2 * 2 + 1 = omega (arith, eqb-true (q % 2) 1 odd) in
        let value : mask + 2 ^ i + 2 ^ (i + 1) * (q / 2) ≡ mask + 2 ^ i * q = omega (arith, twice, mul-add (2 ^ i) (q / 2 * 2) 1, ap (λ x. 2 ^ i * x) one) in
        rw (odd, number_again 31 i (lit< tt) (omega arith), le-leb i i (le_refl i)) (inner (mask + 2 ^ i) ∙ ap Some value)
    by_case false even inner =
        let half : q ≡ q / 2 * 2 = omega (arith, eqb-false (q % 2) 1 even) in
        let value : mask + 2 ^ (i + 1) * (q / 2) ≡ mask + 2 ^ i * q = omega (arith, twice, ap (λ x. 2 ^ i * x) half) in
        rw even (vifs_lower (map decimal (bits_from k (i + 1) (q / 2))) i mask _ (inner mask) ∙ ap Some value)

-- the bits of a mask are numbers of vifs
bits_lack : (k i q : ℕ) → i + k ≡ 32 → all_lack 44 (map decimal (bits_from k i q)) ≡ true
unfolding bits_from
bits_lack zero i q all = refl
bits_lack (suc k) i q all = by_case (q % 2 == 1) refl (bits_lack k (i + 1) (q / 2) (omega arith))
  where
    by_case : (t : Bool) → (q % 2 == 1) ≡ t → all_lack 44 (map decimal (bits_from k (i + 1) (q / 2))) ≡ true → all_lack 44 (map decimal (bits_from (suc k) i q)) ≡ true
    by_case true odd inner = rw odd (and_from _ _ (digits_lack 44 (inl (lit< tt)) (decimal i) (decimal_digits i (omega arith))) inner)
    by_case false even inner = rw even inner

bits_free : (k i q : ℕ) → i + k ≡ 32 → are_free (map decimal (bits_from k i q)) ≡ true
unfolding bits_from
bits_free zero i q all = refl
bits_free (suc k) i q all = by_case (q % 2 == 1) refl (bits_free k (i + 1) (q / 2) (omega arith))
  where
    by_case : (t : Bool) → (q % 2 == 1) ≡ t → are_free (map decimal (bits_from k (i + 1) (q / 2))) ≡ true → are_free (map decimal (bits_from (suc k) i q)) ≡ true
    by_case true odd inner = rw odd (and_from _ _ (number8_word.clean i (omega arith)) inner)
    by_case false even inner = rw even inner

-- The bits of what is not 0 are some.
bits_some : (k i q : ℕ) → q < 2 ^ k → bits_from k i q ≡ [] → q ≡ 0
unfolding bits_from
bits_some zero i q small none = omega arith
bits_some (suc k) i q small none = by_case (q % 2 == 1) refl (bits_some k (i + 1) (q / 2) (omega (arith, pow-suc 2 k)))
  where
    by_case : (t : Bool) → (q % 2 == 1) ≡ t → (bits_from k (i + 1) (q / 2) ≡ [] → q / 2 ≡ 0) → q ≡ 0
    by_case true odd inner = let some : i ∷ bits_from k (i + 1) (q / 2) ≡ [] = rw odd at none in absurd (cc some)
    by_case false even inner = let left : bits_from k (i + 1) (q / 2) ≡ [] = rw even at none in omega (arith, inner left, eqb-false (q % 2) 1 even)

-- the word of a mask that is not empty
mask_joined : (m : Mask) → (m.0 == 0) ≡ false → mask m ≡ join_with_byte 44 (map decimal (bits_from 32 0 m.0))
unfolding mask
mask_joined m some = rw some (ap (λ is. join_with_byte 44 (map decimal is)) (filter_all m))

mask_empty : mask (to_mask 0) ≡ codes "-"
unfolding mask
mask_empty = refl

some_parts : (w : Word) (n : ℕ) → with_vifs 0 0 (parts_of 44 w) ≡ Some n → (w ≡ mask (to_mask n)) × MaskFits (to_mask n)
some_parts w n e =
    let added = vifs_take (parts_of 44 w) 32 0 0 n refl e in
    let small : n < 2 ^ 32 = vifs_small (parts_of 44 w) 0 0 n (lit≤ tt) (lit< tt) e in
    let is : n ≡ added.q = omega (arith, added.is) in
    let parts : parts_of 44 w ≡ map decimal (bits_from 32 0 n) = added.words ∙ ap (λ x. map decimal (bits_from 32 0 x)) (sym is) in
    let some : (n == 0) ≡ false = ne_eqb n 0 (λ zero. absurd (cc (parts, ap (λ x. map decimal (bits_from 32 0 x)) zero, ap (map decimal) (bits_none 32 0)))) in
    (sym (joined_parts 44 w) ∙ ap (join_with_byte 44) parts ∙ sym (mask_joined (to_mask n) some), omega arith)

mask_takes : (w : Word) (m : Mask) → mask_of w ≡ Some m → (w ≡ mask m) × MaskFits m
mask_takes w m e = pick w (codes "-") (Some (to_mask 0)) (option_map to_mask (with_vifs 0 0 (parts_of 44 w))) (Some m) none (some (with_vifs 0 0 (parts_of 44 w)) refl) e
  where
    none : w ≡ codes "-" → Some (to_mask 0) ≡ Some m → (w ≡ mask m) × MaskFits m
    none same given =
        let is : to_mask 0 ≡ m = cc given in
        (same ∙ sym mask_empty ∙ ap mask is, subst MaskFits is (lit≤ tt))

    some : (o : Option ℕ) → with_vifs 0 0 (parts_of 44 w) ≡ o → option_map to_mask o ≡ Some m → (w ≡ mask m) × MaskFits m
    some None reads given = absurd (cc)
    some (Some n) reads given =
        let is : to_mask n ≡ m = cc given in
        subst (λ x. (w ≡ mask x) × MaskFits x) is (some_parts w n reads)

dash_none : (i : ℕ) → with_vifs i 0 (parts_of 44 (codes "-")) ≡ None
unfolding with_vifs
dash_none i = refl

-- The word of a mask that is not empty is no `-`.
not_dash : (k i q : ℕ) → i + k ≡ 32 → q < 2 ^ k → (q ≡ 0 → ⊥) → bytes_eq (join_with_byte 44 (map decimal (bits_from k i q))) (codes "-") ≡ false
not_dash k i q all small some = by_list (bits_from k i q) refl
  where
    by_list : (is : List ℕ) → bits_from k i q ≡ is → bytes_eq (join_with_byte 44 (map decimal (bits_from k i q))) (codes "-") ≡ false
    by_list [] e = absurd (some (bits_some k i q small e))
    by_list (v ∷ vs) e = elim (cases_Bool (bytes_eq (join_with_byte 44 (map decimal (bits_from k i q))) (codes "-"))) [
      | inr other ↦ other
      | inl same ↦
          let word : join_with_byte 44 (map decimal (bits_from k i q)) ≡ codes "-" = same_bytes _ _ same in
          let parts : parts_of 44 (join_with_byte 44 (map decimal (v ∷ vs))) ≡ map decimal (v ∷ vs) = parts_joined 44 (decimal v) (map decimal vs) (rw e at (bits_lack k i q all)) in
          let first : with_vifs i 0 (parts_of 44 (codes "-")) ≡ Some (0 + 2 ^ i * q) = ap (λ w. with_vifs i 0 (parts_of 44 w)) (sym word ∙ ap (λ is. join_with_byte 44 (map decimal is)) e) ∙ ap (with_vifs i 0) (parts ∙ ap (map decimal) (sym e)) ∙ vifs_again k i q 0 all small in
          absurd (cc (first, dash_none i))
    ]

mask_again : (m : Mask) → MaskFits m → mask_of (mask m) ≡ Some m
mask_again m fits = elim (cases_Bool (m.0 == 0)) [
  | inl nil ↦
      let is : to_mask 0 ≡ m = ap to_mask (sym (eqb-true m.0 0 nil)) in
      ap (λ x. mask_of (mask x)) (sym is) ∙ ap mask_of mask_empty ∙ ap Some is
  | inr some ↦
      let word = mask_joined m some in
      let small : m.0 < 2 ^ 32 = omega arith in
      let apart : m.0 ≡ 0 → ⊥ = λ e. omega (arith, eqb-false m.0 0 some, e) in
      let dash = not_dash 32 0 m.0 refl small apart in
      let cut = cut_again m.0 small apart in
      let read : with_vifs 0 0 (parts_of 44 (mask m)) ≡ Some m.0 = ap (λ w. with_vifs 0 0 (parts_of 44 w)) word ∙ ap (with_vifs 0 0) cut ∙ vifs_again 32 0 m.0 0 refl small ∙ ap Some (omega arith) in
      rw (ap (λ w. bytes_eq w (codes "-")) word ∙ dash, read) refl
]
  where
    cut_again : (q : ℕ) → q < 2 ^ 32 → (q ≡ 0 → ⊥) → parts_of 44 (join_with_byte 44 (map decimal (bits_from 32 0 q))) ≡ map decimal (bits_from 32 0 q)
    cut_again q small some = by_list (bits_from 32 0 q) refl
      where
        by_list : (is : List ℕ) → bits_from 32 0 q ≡ is → parts_of 44 (join_with_byte 44 (map decimal (bits_from 32 0 q))) ≡ map decimal (bits_from 32 0 q)
        by_list [] e = absurd (some (bits_some 32 0 q small e))
        by_list (v ∷ vs) e = rw e (parts_joined 44 (decimal v) (map decimal vs) (rw e at (bits_lack 32 0 q refl)))

mask_clean : (m : Mask) → MaskFits m → list_all is_free (mask m) ≡ true
mask_clean m fits = elim (cases_Bool (m.0 == 0)) [
  | inl nil ↦ ap (λ n. list_all is_free (mask (to_mask n))) (eqb-true m.0 0 nil) ∙ ap (list_all is_free) mask_empty
  | inr some ↦ ap (list_all is_free) (mask_joined m some) ∙ joined_free 44 refl (map decimal (bits_from 32 0 m.0)) (bits_free 32 0 m.0 refl)
]

pub mask_is : IsWord mask_of mask MaskFits
mask_is = record { takes = mask_takes; again = mask_again; clean = mask_clean }
