-- Texts in an array that grow from their end.
use Rattle.std.proofs.Common.{◌≡◌, ℕ, Bool, true, false, List, [], ◌∷◌, ◌++◌, map, filter, decimal, length, drop, set, get_or, zero, suc, ◌<◌, ◌≤◌, ◌+◌, ◌-◌, ◌/◌, ◌%◌, ◌^◌, arith, refl, sym, ap, ◌∙◌, append-nil, append_assoc, append-nil, drop-cons, length-drop}
use Rattle.std.proofs.Math.Nat.{div-eq_of_lt, div-one, div-div-eq-div-mul, pow-suc}
use Rattle.std.proofs.Math.Pow.{pow_mono}
use Rattle.std.proofs.lemmas.Bool.{eqb-false, ne_eqb}
use Rattle.std.proofs.lemmas.List.{drop-set}
use Rattle.std.proofs.lemmas.List.Folds.{flat_map-map}
use Rattle.std.specs.Prelude.{flat_map, if◌then◌else◌}
use Rattle.std.specs.List.{join_with_byte}
use Rattle.mr_base.specs.declared.numbers.Mask.{Mask}
use Rattle.mr_model.specs.Ending.{indexes}
use Rattle.mr_model.specs.Verdict.{is_in}
use Rattle.mr_lines.specs.Forms.{mask}

-- joined words are the first, and the others behind their bytes
pub joined : (c : ℕ) (w : List ℕ) (ws : List (List ℕ)) → join_with_byte c (w ∷ ws) ≡ w ++ flat_map (λ v. c ∷ v) ws
joined c w [] = sym (append-nil w)
joined c w (v ∷ ws) = ap (λ x. w ++ c ∷ x) (joined c v ws)

-- k numbers from i on
abbrev pub rising : ℕ → ℕ → List ℕ
rising zero i = []
rising (suc k) i = i ∷ rising k (i + 1)

-- the numbers from i to 31
abbrev pub vifs_from : ℕ → List ℕ
vifs_from i = rising (32 - i) i

vifs_on : (i : ℕ) → i < 32 → vifs_from i ≡ i ∷ vifs_from (i + 1)
vifs_on i l = ap (λ k. rising k i) (more i l)
  where
    more : (i : ℕ) → i < 32 → 32 - i ≡ suc (32 - (i + 1))
    more i l = omega arith

-- a mask has no vif where its higher bits are 0
none_from : (k i : ℕ) (outs : Mask) → outs.0 < 2 ^ i → filter (is_in outs) (rising k i) ≡ []
none_from zero i outs l = refl
none_from (suc k) i outs l =
    let e : outs.0 / 2 ^ i ≡ 0 = div-eq_of_lt l in
    let m : 2 ^ i ≤ 2 ^ (i + 1) = pow_mono (omega arith) in
    let n : outs.0 < 2 ^ (i + 1) = omega (arith, l, m) in
    rw e (none_from k (i + 1) outs n)

-- the vifs of a mask among given ones, each behind a comma
abbrev pub behind_commas : Mask → List ℕ → List ℕ
behind_commas outs is = flat_map (λ v. 44 ∷ decimal v) (filter (is_in outs) is)

-- one more vif
behind_on : (outs : Mask) (i : ℕ) (is : List ℕ) → behind_commas outs (i ∷ is) ≡ (if is_in outs i then 44 ∷ decimal i else []) ++ behind_commas outs is
behind_on outs i is = by_case (is_in outs i) refl
  where
    by_case : (b : Bool) → is_in outs i ≡ b → behind_commas outs (i ∷ is) ≡ (if b then 44 ∷ decimal i else []) ++ behind_commas outs is
    by_case true e = rw e refl
    by_case false e = rw e refl

-- a step down over the vifs of a mask
pub items_down : (outs : Mask) (i u : ℕ) (o p q : List ℕ) → i < 32 → u ≡ i + 1 → p ≡ (if is_in outs i then 44 ∷ decimal i else []) ++ o → o ≡ behind_commas outs (vifs_from u) ++ q
    → p ≡ behind_commas outs (vifs_from i) ++ q
items_down outs i u o p q l e f g =
    rw (f, g, e) (sym (append_assoc (if is_in outs i then 44 ∷ decimal i else []) (behind_commas outs (vifs_from (i + 1))) q)
    ∙ ap (λ x. x ++ q) (sym (behind_on outs i (vifs_from (i + 1))) ∙ ap (behind_commas outs) (sym (vifs_on i l))))

-- no vif of a mask is at its top or above
pub items_top : (outs : Mask) (i : ℕ) (q : List ℕ) → outs.0 < 2 ^ i → q ≡ behind_commas outs (vifs_from i) ++ q
items_top outs i q l = ap (λ x. flat_map (λ v. 44 ∷ decimal v) x ++ q) (sym (none_from (32 - i) i outs l))

-- all vifs are put
pub items_done : (outs : Mask) (i : ℕ) (o q : List ℕ) → i ≤ 0 → o ≡ behind_commas outs (vifs_from i) ++ q → o ≡ behind_commas outs indexes ++ q
items_done outs i o q l e =
    let z : i ≡ 0 = omega arith in
    e ∙ ap (λ j. behind_commas outs (vifs_from j) ++ q) z

-- vifs behind commas are a comma and joined vifs, where there is one
pub one_comma : (vs : List ℕ) (v : ℕ) (us : List ℕ) → vs ≡ v ∷ us → flat_map (λ w. 44 ∷ decimal w) vs ≡ 44 ∷ join_with_byte 44 (map decimal vs)
one_comma vs v us e = rw e (ap (λ x. 44 ∷ x) (ap (λ x. decimal v ++ x) (sym (flat_map-map (λ w. 44 ∷ w) decimal us)) ∙ sym (joined 44 (decimal v) (map decimal us))))

half : (m i : ℕ) → m / 2 ^ (i + 1) ≡ m / 2 ^ i / 2
half m i =
    let e : i + 1 ≡ suc i = omega arith in
    ap (λ k. m / 2 ^ k) e ∙ ap (λ p. m / p) (pow-suc 2 i) ∙ sym (div-div-eq-div-mul m (2 ^ i) 2)

-- a mask with a vif from i on gives one
some_from : (k i : ℕ) (m : Mask) → m.0 / 2 ^ (i + k) ≡ 0 → (m.0 / 2 ^ i ≡ 0 → ⊥) → (v : ℕ) × (us : List ℕ) × (filter (is_in m) (rising k i) ≡ v ∷ us)
some_from zero i m e h =
    let f : i + 0 ≡ i = omega arith in
    absurd (h (sym (ap (λ k. m.0 / 2 ^ k) f) ∙ e))
some_from (suc k) i m e h =
    let f : i + suc k ≡ i + 1 + k = omega arith in
    by_case (is_in m i) refl (λ g. some_from k (i + 1) m (sym (ap (λ j. m.0 / 2 ^ j) f) ∙ e) (further g))
  where
    further : is_in m i ≡ false → m.0 / 2 ^ (i + 1) ≡ 0 → ⊥
    further g z =
        let low : m.0 / 2 ^ i / 2 ≡ 0 = sym (half m.0 i) ∙ z in
        let even : (m.0 / 2 ^ i % 2 ≡ 1 → ⊥) = eqb-false _ _ g in
        h (omega (arith, low, even))

    by_case : (b : Bool) → is_in m i ≡ b → (is_in m i ≡ false → (v : ℕ) × (us : List ℕ) × (filter (is_in m) (rising k (i + 1)) ≡ v ∷ us)) → (v : ℕ) × (us : List ℕ) × (filter (is_in m) (rising (suc k) i) ≡ v ∷ us)
    by_case true g rest = (i, filter (is_in m) (rising k (i + 1)), rw g refl)
    by_case false g rest = let r = rest g in (r.0, r.1, rw g r.2)

-- a mask that isn't 0 has a vif
pub some_vif : (m : Mask) → m.0 < 2 ^ 32 → (m.0 ≡ 0 → ⊥) → (v : ℕ) × (us : List ℕ) × (filter (is_in m) indexes ≡ v ∷ us)
some_vif m l h =
    let whole : m.0 / 2 ^ 0 ≡ m.0 = div-one m.0 in
    some_from 32 0 m (div-eq_of_lt l) (λ z. h (sym whole ∙ z))

-- the byte in front of a text is another one
pub put_over : (xs : List ℕ) (i y z : ℕ) (ys : List ℕ) → drop i xs ≡ y ∷ ys → (i < length xs) × (drop i (set xs i z) ≡ z ∷ ys)
put_over xs i y z ys e =
    let long : length xs - i ≡ suc (length ys) = sym (length-drop i xs) ∙ ap length e in
    let l : i < length xs = omega (arith, long) in
    let f : get_or xs i 0 ∷ drop (suc i) xs ≡ y ∷ ys = sym (drop-cons xs i 0 l) ∙ e in
    let next : i + 1 ≡ suc i = omega arith in
    (l, drop-set xs i z l ∙ ap (λ x. z ∷ x) (ap (λ k. drop k xs) next ∙ ap (drop 1) f))

-- a nonempty mask's text behind its space
pub mask_over : (m : Mask) (xs q : List ℕ) (i t : ℕ) → m.0 < 2 ^ t → t ≤ 32 → (m.0 ≡ 0 → ⊥) → drop i xs ≡ behind_commas m indexes ++ q
    → (i < length xs) × (drop i (set xs i 32) ≡ 32 ∷ (join_with_byte 44 (map decimal (filter (is_in m) indexes)) ++ q))
mask_over m xs q i t l u h e =
    let w : 2 ^ t ≤ 2 ^ 32 = pow_mono u in
    let r = some_vif m (omega (arith, l, w)) h in
    put_over xs i 44 32 (join_with_byte 44 (map decimal (filter (is_in m) indexes)) ++ q) (e ∙ ap (λ x. x ++ q) (one_comma (filter (is_in m) indexes) r.0 r.1 r.2))

-- the text of a mask that isn't 0
pub mask_is : (m : Mask) → (m.0 ≡ 0 → ⊥) → mask m ≡ join_with_byte 44 (map decimal (filter (is_in m) indexes))
unfolding mask
mask_is m h = rw (ne_eqb m.0 0 h) refl
