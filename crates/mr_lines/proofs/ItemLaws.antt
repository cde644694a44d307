-- Laws of the items `V:T` of a request.
use Rattle.std.proofs.Common.{◌≡◌, ℕ, zero, suc, ◌+◌, ◌<◌, ◌≤◌, ◌==◌, Bool, true, false, List, [], ◌∷◌, ◌++◌, Option, Some, None, length, drop, slice_index, decimal, codes, refl, sym, ap, ◌∙◌, arith, lit<, inl, inr, eqb-true, eq-eqb, ne_eqb, append_assoc, subst, append-nil, take, set, take_all, take-suc-set, add-one, ◌-◌}
use Rattle.std.proofs.lemmas.Bool.{and_from, cases_Bool}
use Rattle.std.specs.List.{list_all, join_with_byte}
use Rattle.std.specs.Prelude.{if◌then◌else◌}
use Rattle.mr_words.specs.Items.{pair_of, item_parts, item_of}
use Rattle.mr_words.specs.Numbers.{number_of}
use Rattle.mr_words.specs.Parts.{parts_of}
use Rattle.mr_lines.specs.Forms.{Word, thresholds}
use Rattle.mr_lines.specs.Laws.{is_free, are_free}
use Rattle.mr_lines.specs.Words.{asked_for, first_for, onto, ttls_from}
use Rattle.mr_lines.proofs.NumberLaws.{number_takes, number_again, decimal_digits, digits_lack, digits_free}
use Rattle.mr_lines.proofs.PartLaws.{joined_parts, parts_joined, joined_free}

-- `V:T`
abbrev pub item : ℕ → ℕ → Word
item v t = decimal v ++ 58 ∷ decimal t

parts_take : (ps : List Word) (p : ℕ × ℕ) → item_parts ps ≡ Some p → (join_with_byte 58 ps ≡ item p.0 p.1) × (p.1 ≤ 255)
parts_take (v ∷ t ∷ []) p e = by_case (number_of 31 v) (number_of 255 t) refl refl e
  where
    by_case : (a b : Option ℕ) → number_of 31 v ≡ a → number_of 255 t ≡ b → pair_of a b ≡ Some p → (join_with_byte 58 (v ∷ t ∷ []) ≡ item p.0 p.1) × (p.1 ≤ 255)
    by_case None b reads reads_on given = absurd (cc)
    by_case (Some a) None reads reads_on given = absurd (cc)
    by_case (Some a) (Some b) reads reads_on given =
        let is : ◌≡◌ {A = ℕ × ℕ} (a, b) p = cc given in
        let vif = number_takes 31 (lit< tt) v a reads in
        let ttl = number_takes 255 (lit< tt) t b reads_on in
        subst (λ q. (join_with_byte 58 (v ∷ t ∷ []) ≡ item q.0 q.1) × (q.1 ≤ 255)) is (rw (vif.0, ttl.0) refl, ttl.1)
parts_take [] p e = absurd (cc)
parts_take (v ∷ []) p e = absurd (cc)
parts_take (v ∷ t ∷ x ∷ ps) p e = absurd (cc)

item_takes : (w : Word) (p : ℕ × ℕ) → item_of w ≡ Some p → (w ≡ item p.0 p.1) × (p.1 ≤ 255)
item_takes w p e = let parts = parts_take (parts_of 58 w) p e in (sym (joined_parts 58 w) ∙ parts.0, parts.1)

item_again : (v t : ℕ) → v ≤ 31 → t ≤ 255 → item_of (item v t) ≡ Some (v, t)
item_again v t small fits =
    let lack = and_from _ _ (digits_lack 58 (inr (lit< tt)) (decimal v) (decimal_digits v (omega arith))) (and_from _ _ (digits_lack 58 (inr (lit< tt)) (decimal t) (decimal_digits t (omega arith))) refl) in
    ap item_parts (parts_joined 58 (decimal v) (decimal t ∷ []) lack) ∙ rw (number_again 31 v (lit< tt) small, number_again 255 t (lit< tt) fits) refl

item_free : (v t : ℕ) → v ≤ 31 → t ≤ 255 → list_all is_free (item v t) ≡ true
item_free v t small fits =
    joined_free 58 refl (decimal v ∷ decimal t ∷ [])
    (and_from _ _ (digits_free (decimal v) (decimal_digits v (omega arith))) (and_from _ _ (digits_free (decimal t) (decimal_digits t (omega arith))) refl))

-- The first word asks for vif i.
first_takes : (i : ℕ) (ws : List Word) → (first_for i ws == 0) ≡ false → (ws ≡ item i (first_for i ws) ∷ drop 1 ws) × (first_for i ws ≤ 255)
first_takes i [] some = absurd (cc)
first_takes i (w ∷ ws) some = by_case (item_of w) refl some
  where
    by_case : (o : Option (ℕ × ℕ)) → item_of w ≡ o → (asked_for i o == 0) ≡ false → (w ∷ ws ≡ item i (first_for i (w ∷ ws)) ∷ ws) × (first_for i (w ∷ ws) ≤ 255)
    by_case None reads some = absurd (cc)
    by_case (Some p) reads some = elim (cases_Bool (p.0 == i)) [
      | inr other ↦ let none : (asked_for i (Some p) == 0) ≡ true = rw other refl in absurd (cc)
      | inl same ↦
          let is : p.0 ≡ i = eqb-true p.0 i same in
          let taken = item_takes w p reads in
          let ttl : first_for i (w ∷ ws) ≡ p.1 = ap (asked_for i) reads ∙ rw same refl in
          rw ttl (ap (λ v. v ∷ ws) (taken.0 ∙ ap (λ v. item v p.1) is), taken.1)
    ]

-- Thresholds that are read are spelled so.
pub ttls_take : (k i : ℕ) (ws : List Word) → ws ≡ thresholds i (ttls_from k i ws).0 ++ (ttls_from k i ws).1
unfolding ttls_from
ttls_take zero i ws = refl
ttls_take (suc k) i ws = by_case (first_for i ws == 0) refl (λ rest. ttls_take k (i + 1) rest)
  where
    by_case : (b : Bool) → (first_for i ws == 0) ≡ b → ((rest : List Word) → rest ≡ thresholds (i + 1) (ttls_from k (i + 1) rest).0 ++ (ttls_from k (i + 1) rest).1) →
        ws ≡ thresholds i (ttls_from (suc k) i ws).0 ++ (ttls_from (suc k) i ws).1
    by_case true none inner = rw none (inner ws)
    by_case false some inner = rw some ((first_takes i ws some).0 ∙ ap (λ v. item i (first_for i ws) ∷ v) (inner (drop 1 ws)))

pub ttls_long : (k i : ℕ) (ws : List Word) → length (ttls_from k i ws).0 ≡ k
unfolding ttls_from
ttls_long zero i ws = refl
ttls_long (suc k) i ws = ap suc (ttls_long k (i + 1) (if first_for i ws == 0 then ws else drop 1 ws))

pub ttls_small : (k i : ℕ) (ws : List Word) (j : ℕ) → slice_index (ttls_from k i ws).0 j ≤ 255
unfolding ttls_from
ttls_small zero i ws j = omega arith
ttls_small (suc k) i ws zero = elim (cases_Bool (first_for i ws == 0)) [
  | inl none ↦ omega (arith, eqb-true (first_for i ws) 0 none)
  | inr some ↦ (first_takes i ws some).1
]
ttls_small (suc k) i ws (suc j) = ttls_small k (i + 1) (if first_for i ws == 0 then ws else drop 1 ws) j

-- No item in front asks for a lower vif.
none_first : (ts : List ℕ) (i j : ℕ) (rest : List Word) → j < i → i + length ts ≤ 32 → ((n : ℕ) → slice_index ts n ≤ 255) → first_for j (thresholds i ts ++ codes "=" ∷ rest) ≡ 0
none_first [] i j rest low fits small = refl
none_first (t ∷ ts) i j rest low fits small = elim (cases_Bool (t == 0)) [
  | inl none ↦ rw none (none_first ts (i + 1) j rest (omega arith) (omega arith) (λ n. small (suc n)))
  | inr some ↦
      let other : (i == j) ≡ false = ne_eqb i j (λ same. omega (arith, same)) in
      rw some (ap (asked_for j) (item_again i t (omega arith) (small 0)) ∙ rw other refl)
]

first_again : (t : ℕ) (ts : List ℕ) (i : ℕ) (rest : List Word) → i + length (t ∷ ts) ≤ 32 → ((n : ℕ) → slice_index (t ∷ ts) n ≤ 255) → first_for i (thresholds i (t ∷ ts) ++ codes "=" ∷ rest) ≡ t
first_again t ts i rest fits small = elim (cases_Bool (t == 0)) [
  | inl none ↦ rw none (none_first ts (i + 1) i rest (omega arith) (omega arith) (λ n. small (suc n)) ∙ sym (eqb-true t 0 none))
  | inr some ↦
      let same : (i == i) ≡ true = eq-eqb i i refl in
      rw some (ap (asked_for i) (item_again i t (omega arith) (small 0)) ∙ rw same refl)
]

-- Thresholds are read from their items, as far as the word `=`.
pub ttls_again : (ts : List ℕ) (i : ℕ) (rest : List Word) → i + length ts ≤ 32 → ((n : ℕ) → slice_index ts n ≤ 255) →
    ttls_from (length ts) i (thresholds i ts ++ codes "=" ∷ rest) ≡ (ts, codes "=" ∷ rest)
unfolding ttls_from
ttls_again [] i rest fits small = refl
ttls_again (t ∷ ts) i rest fits small = by_case (t == 0) refl (first_again t ts i rest fits small) (ttls_again ts (i + 1) rest (omega arith) (λ n. small (suc n)))
  where
    by_case : (b : Bool) → (t == 0) ≡ b → first_for i (thresholds i (t ∷ ts) ++ codes "=" ∷ rest) ≡ t →
        ttls_from (length ts) (i + 1) (thresholds (i + 1) ts ++ codes "=" ∷ rest) ≡ (ts, codes "=" ∷ rest) →
        ttls_from (length (t ∷ ts)) i (thresholds i (t ∷ ts) ++ codes "=" ∷ rest) ≡ (t ∷ ts, codes "=" ∷ rest)
    by_case true none first inner = rw (first, none) (ap (onto t) inner)
    by_case false some first inner = rw (first, some) (ap (onto t) inner)

pub ttls_clean : (ts : List ℕ) (i : ℕ) → i + length ts ≤ 32 → ((n : ℕ) → slice_index ts n ≤ 255) → are_free (thresholds i ts) ≡ true
ttls_clean [] i fits small = refl
ttls_clean (t ∷ ts) i fits small = by_case (t == 0) refl (ttls_clean ts (i + 1) (omega arith) (λ n. small (suc n)))
  where
    by_case : (b : Bool) → (t == 0) ≡ b → are_free (thresholds (i + 1) ts) ≡ true → are_free (thresholds i (t ∷ ts)) ≡ true
    by_case true none inner = rw none inner
    by_case false some inner = rw some (and_from _ _ (item_free i t (omega arith) (small 0)) inner)

-- One threshold more is read.
pub ttls_step : (i t : ℕ) (ts whole : List ℕ) (ws more rest : List Word) → i < 32 → length ts ≡ 32 → t ≡ first_for i ws → more ≡ (if first_for i ws == 0 then ws else drop 1 ws) →
    take i ts ++ (ttls_from (32 - i) i ws).0 ≡ whole → (ttls_from (32 - i) i ws).1 ≡ rest →
    (take (i + 1) (set ts i t) ++ (ttls_from (32 - (i + 1)) (i + 1) more).0 ≡ whole) × ((ttls_from (32 - (i + 1)) (i + 1) more).1 ≡ rest)
unfolding ttls_from
ttls_step i t ts whole ws more rest within long first left done others =
    let less : 32 - i ≡ suc (32 - (i + 1)) = omega arith in
    let cut : ttls_from (32 - i) i ws ≡ onto t (ttls_from (32 - (i + 1)) (i + 1) more) = ap (λ k. ttls_from k i ws) less ∙ (λ j. onto (sym first j) (ttls_from (32 - (i + 1)) (i + 1) (sym left j))) in
    let next : i + 1 ≡ suc i = add-one i in
    let front : take (i + 1) (set ts i t) ≡ take i ts ++ t ∷ [] = ap (λ n. take n (set ts i t)) next ∙ take-suc-set ts i t (omega (arith, long)) in (
      ap (λ l. l ++ (ttls_from (32 - (i + 1)) (i + 1) more).0) front ∙ append_assoc (take i ts) (t ∷ []) (ttls_from (32 - (i + 1)) (i + 1) more).0 ∙ ap (λ x. take i ts ++ x.0) (sym cut) ∙ done,
      ap (λ x. x.1) (sym cut) ∙ others,
    )

-- All thresholds are read.
pub ttls_done : (i : ℕ) (ts whole : List ℕ) (ws rest : List Word) → 32 ≤ i → length ts ≡ 32 → take i ts ++ (ttls_from (32 - i) i ws).0 ≡ whole → (ttls_from (32 - i) i ws).1 ≡ rest → (ts ≡ whole) × (ws ≡ rest)
unfolding ttls_from
ttls_done i ts whole ws rest over long done others =
    let none : 32 - i ≡ 0 = omega arith in
    let end : ttls_from (32 - i) i ws ≡ ([], ws) = ap (λ k. ttls_from k i ws) none in
    let short : length ts ≤ i = omega (arith, long) in
    (sym (append-nil ts) ∙ ap (λ l. l ++ []) (sym (take_all i ts short)) ∙ ap (λ x. take i ts ++ x.0) (sym end) ∙ done, ap (λ x. x.1) (sym end) ∙ others)
