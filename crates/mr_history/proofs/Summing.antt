-- One packet more in the sums.
use Rattle.std.proofs.Common.{◌≡◌, refl, sym, ap, ℕ, zero, suc, ◌+◌, ◌*◌, ◌<◌, ◌≤◌, ◌^◌, ◌==◌}
use Rattle.std.proofs.Common.{◌&&◌, Bool, true, false, nat_le, if◌then◌else◌, Option, Some, None}
use Rattle.std.proofs.Common.{List, [], ◌∷◌, ◌++◌, length, count_by, sum_by, arith, slice_set}
use Rattle.std.proofs.Common.{eq-eqb, subst, option_map, nat_lt, inl, inr}
use Rattle.std.proofs.lemmas.Bool.{eqb-true, eqb-false, ne_eqb, cases_lt, lt-ltb, le-ltb}
use Rattle.std.proofs.lemmas.Grind.{common_steps}
use Rattle.std.proofs.lemmas.List.{length-append}
use Rattle.std.specs.List.{AllByRecursion}
use Rattle.mr_model.specs.declared.reply.RouteTotals.{RouteTotals}
use Rattle.mr_model.specs.Counts.{Met, route_sums, counts_in, counts_out}
use Rattle.mr_model.specs.Verdict.{is_in, is_vif}
use Rattle.mr_history.specs.declared.totals.VifKept.{VifKept}
use Rattle.mr_history.specs.Journals.{numbered_vif}
use Rattle.mr_history.specs.Numbers.{value_of, with_value, AreBelow, AreFalling, numbers_of}
use Rattle.mr_history.specs.Totals.{sum_64, vif_at, vif_numbers, route_with, with_in, with_out}
use Rattle.mr_history.specs.Totals.{IsIn, IsOut, AreRoutes, AreFew}
use Rattle.mr_history.proofs.Numbering.{all_push_parts}

one_if : Bool → ℕ
one_if true = 1
one_if false = 0

length_if : Bool → ℕ → ℕ
length_if true n = n
length_if false n = 0

pub count_push : (p : Met → Bool) (ms : List Met) (m : Met)
    → count_by p (ms ++ m ∷ []) ≡ count_by p ms + (if p m then 1 else 0)
count_push p [] m = grind (arith, common_steps)
count_push p (x ∷ ms) m = let more = count_push p ms m in grind (arith, common_steps, more)

pub sum_push : (f : Met → ℕ) (ms : List Met) (m : Met)
    → sum_by f (ms ++ m ∷ []) ≡ sum_by f ms + f m
sum_push f [] m = grind (arith, common_steps)
sum_push f (x ∷ ms) m = let more = sum_push f ms m in grind (arith, common_steps, more)

count_bound : (p : Met → Bool) (ms : List Met) → count_by p ms ≤ length ms
count_bound p [] = grind (arith, common_steps)
count_bound p (x ∷ ms) = let more = count_bound p ms in grind (arith, common_steps, more)

sum_bound : (p : Met → Bool) (ms : List Met) → AllByRecursion (λ m. m.length < 2 ^ 16) ms
    → sum_by (λ m. if p m then m.length else 0) ms ≤ 65535 * length ms
sum_bound p [] short = grind (arith, common_steps)
sum_bound p (x ∷ ms) short = let more = sum_bound p ms short.1 in
    grind (arith, common_steps, more, short.0)

-- before one packet more no sum is near its end
pub record HasRoom (ms : List Met) (m : Met) : Type 0 where
  pub counts : (p : Met → Bool) → count_by p ms < 2 ^ 32
  pub sums : (p : Met → Bool) → sum_by (λ x. if p x then x.length else 0) ms < 2 ^ 48
  pub short : m.length < 2 ^ 16

pub has_room : (ms : List Met) (m : Met) → AreFew (ms ++ m ∷ []) → HasRoom ms m
has_room ms m few =
    let parts = all_push_parts (λ x. x.length < 2 ^ 16) ms m few.short in
    let less : length ms < 2 ^ 32 = omega (arith, few.few, length-append ms (m ∷ [])) in
    record {
      counts = λ p. omega (arith, less, count_bound p ms);
      sums = λ p. omega (arith, less, sum_bound p ms parts.0);
      short = parts.1;
    }

sum_of : (a b : ℕ) → a < 2 ^ 48 → b < 2 ^ 16 → sum_64 a b ≡ a + b
sum_of a b less short = omega arith

-- the totals of three or of two sums
abbrev routes_of : ℕ → ℕ → ℕ → RouteTotals
routes_of p b w = record { packets = p; bytes = b; wrong = w }

small_room : (p : Met → Bool) (ms : List Met) (m : Met) → HasRoom ms m → (n : ℕ) → n < 2
    → sum_64 (count_by p ms) n ≡ count_by p ms + n
small_room p ms m room n less = let few : count_by p ms < 2 ^ 32 = room.counts p in
    omega (arith, few, less)

pub count_any : (p : Met → Bool) (ms : List Met) (m : Met) → HasRoom ms m
    → sum_64 (count_by p ms) (if p m then 1 else 0) ≡ count_by p (ms ++ m ∷ [])
count_any p ms m room = rw (count_push p ms m) (by (p m))
  where
    by : (b : Bool) → sum_64 (count_by p ms) (if b then 1 else 0)
        ≡ count_by p ms + (if b then 1 else 0)
    by true = small_room p ms m room 1 (omega arith)
    by false = small_room p ms m room 0 (omega arith)

pub count_add : (p : Met → Bool) (ms : List Met) (m : Met) → HasRoom ms m → p m ≡ true
    → sum_64 (count_by p ms) 1 ≡ count_by p (ms ++ m ∷ [])
count_add p ms m room is = subst
    (λ b. sum_64 (count_by p ms) (if b then 1 else 0) ≡ count_by p (ms ++ m ∷ [])) is
    (count_any p ms m room)

pub count_same : (p : Met → Bool) (ms : List Met) (m : Met) → p m ≡ false
    → count_by p (ms ++ m ∷ []) ≡ count_by p ms
count_same p ms m is = rw (count_push p ms m, is) (omega arith)

pub sum_add : (p : Met → Bool) (ms : List Met) (m : Met) → HasRoom ms m → p m ≡ true →
    sum_64 (sum_by (λ x. if p x then x.length else 0) ms) m.length
    ≡ sum_by (λ x. if p x then x.length else 0) (ms ++ m ∷ [])
sum_add p ms m room is =
    rw (sum_push (λ x. if p x then x.length else 0) ms m, is)
    (sum_of (sum_by (λ x. if p x then x.length else 0) ms) m.length (room.sums p) room.short)

pub sum_same : (p : Met → Bool) (ms : List Met) (m : Met) → p m ≡ false →
    sum_by (λ x. if p x then x.length else 0) (ms ++ m ∷ [])
    ≡ sum_by (λ x. if p x then x.length else 0) ms
sum_same p ms m is = rw (sum_push (λ x. if p x then x.length else 0) ms m, is) (omega arith)

pub route_met : (ms : List Met) (m : Met) → HasRoom ms m
    → route_with m (route_sums ms m.entry) ≡ route_sums (ms ++ m ∷ []) m.entry
route_met ms m room =
    let same : (m.entry == m.entry) ≡ true = eq-eqb m.entry m.entry refl in
    let wrong : sum_64 (count_by (λ x. x.entry == m.entry && x.wrong) ms)
    (if m.wrong then 1 else 0) ≡ count_by (λ x. x.entry == m.entry && x.wrong) (ms ++ m ∷ []) =
    rw same at (count_any (λ x. x.entry == m.entry && x.wrong) ms m room) in
    totals_same (count_add (λ x. x.entry == m.entry) ms m room same)
    (sum_add (λ x. x.entry == m.entry) ms m room same) wrong
  where
    totals_same : {p q b c w v : ℕ} → p ≡ q → b ≡ c → w ≡ v → routes_of p b w ≡ routes_of q c v
    totals_same e f g = rw (e, f, g) refl

pub route_not_met : (ms : List Met) (m : Met) (n : ℕ) → (m.entry == n) ≡ false
    → route_sums (ms ++ m ∷ []) n ≡ route_sums ms n
route_not_met ms m n other =
    totals_same (count_same (λ x. x.entry == n) ms m other)
    (sum_same (λ x. x.entry == n) ms m other)
    (count_same (λ x. x.entry == n && x.wrong) ms m (rw other refl))
  where
    totals_same : {p q b c w v : ℕ} → p ≡ q → b ≡ c → w ≡ v → routes_of p b w ≡ routes_of q c v
    totals_same e f g = rw (e, f, g) refl

-- no entry below is the one that the packet met
routes_below : (ps : List (ℕ × RouteTotals)) (ms : List Met) (m : Met) → AreBelow m.entry ps
    → AreRoutes ps ms → AreRoutes ps (ms ++ m ∷ [])
routes_below [] ms m below are = tt
routes_below (p ∷ ps) ms m below are =
    let less : p.0 < m.entry = below.0 in (
      rw (route_not_met ms m p.0 (ne_eqb m.entry p.0 (λ same. omega (arith, less, same)))) are.0,
      routes_below ps ms m below.1 are.1,
    )

-- what is kept with one packet more
pub routes_step : (ps : List (ℕ × RouteTotals)) (ms : List Met) (m : Met) (t : RouteTotals)
    → HasRoom ms m → AreFalling ps → AreRoutes ps ms →
    value_of ps m.entry ≡ Some t → AreRoutes (with_value ps m.entry (route_with m t))
    (ms ++ m ∷ [])
routes_step [] ms m t room falling are is = absurd cc
routes_step (p ∷ ps) ms m t room falling are is =
    by (p.0 == m.entry) refl is (λ other. routes_step ps ms m t room falling.1 are.1 other)
  where
    by : (b : Bool) → (p.0 == m.entry) ≡ b
        → (if b then Some p.1 else value_of ps m.entry) ≡ Some t →
        (value_of ps m.entry ≡ Some t
        → AreRoutes (with_value ps m.entry (route_with m t)) (ms ++ m ∷ [])) →
        AreRoutes (if b then (m.entry, route_with m t) ∷ ps
        else p ∷ with_value ps m.entry (route_with m t)) (ms ++ m ∷ [])
    by true same is more =
        let number : p.0 ≡ m.entry = eqb-true p.0 m.entry same in
        let value : p.1 ≡ t = cc in (
          rw (← value, are.0, number) (route_met ms m room),
          routes_below ps ms m (rw number at falling.0) are.1,
        )
    by false other is more = (
      rw (route_not_met ms m p.0 (ne_eqb m.entry p.0
          (λ same. eqb-false p.0 m.entry other (sym same)))) are.0,
      more is,
    )

pub routes_none : (ps : List (ℕ × RouteTotals)) (ms : List Met) (m : Met) → AreRoutes ps ms
    → value_of ps m.entry ≡ None → AreRoutes ps (ms ++ m ∷ [])
routes_none [] ms m are is = tt
routes_none (p ∷ ps) ms m are is =
    by (p.0 == m.entry) refl is (λ other. routes_none ps ms m are.1 other)
  where
    by : (b : Bool) → (p.0 == m.entry) ≡ b → (if b then Some p.1 else value_of ps m.entry) ≡ None
        → (value_of ps m.entry ≡ None → AreRoutes ps (ms ++ m ∷ [])) →
        AreRoutes (p ∷ ps) (ms ++ m ∷ [])
    by true same is more = absurd cc
    by false other is more = (
      rw (route_not_met ms m p.0 (ne_eqb m.entry p.0
          (λ same. eqb-false p.0 m.entry other (sym same)))) are.0,
      more is,
    )

pub numbers_kept : {T : Type 0} (ps : List (ℕ × T)) (n : ℕ) (v : T)
    → numbers_of (with_value ps n v) ≡ numbers_of ps
numbers_kept [] n v = refl
numbers_kept (p ∷ ps) n v = by (p.0 == n) refl (numbers_kept ps n v)
  where
    by : (b : Bool) → (p.0 == n) ≡ b → numbers_of (with_value ps n v) ≡ numbers_of ps
        → numbers_of (if b then (n, v) ∷ ps else p ∷ with_value ps n v) ≡ p.0 ∷ numbers_of ps
    by true same more = rw (eqb-true p.0 n same) refl
    by false other more = ap (λ ns. p.0 ∷ ns) more

-- a vif with one packet more keeps its number
pub in_number : (m : Met) (k : Option VifKept)
    → option_map (λ x. x.number) (with_in m k) ≡ option_map (λ x. x.number) k
in_number m None = refl
in_number m (Some k) = by (nat_le k.number m.place)
  where
    by : (b : Bool) → option_map (λ x. x.number) (if b then Some (record {
      number = k.number;
      totals = record k.totals {
        packets_in = sum_64 k.totals.packets_in 1;
        bytes_in = sum_64 k.totals.bytes_in m.length;
      };
    }) else Some k) ≡ Some k.number
    by true = refl
    by false = refl

pub out_number : (m : Met) (k : Option VifKept)
    → option_map (λ x. x.number) (with_out m k) ≡ option_map (λ x. x.number) k
out_number m None = refl
out_number m (Some k) = by (nat_le k.number m.place)
  where
    by : (b : Bool) → option_map (λ x. x.number) (if b then Some (record {
      number = k.number;
      totals = record k.totals {
        packets_out = sum_64 k.totals.packets_out 1;
        bytes_out = sum_64 k.totals.bytes_out m.length;
      };
    }) else Some k) ≡ Some k.number
    by true = refl
    by false = refl

pub numbers_set : (ks : List (Option VifKept)) (i : ℕ) (k : Option VifKept)
    → option_map (λ x. x.number) k ≡ option_map (λ x. x.number) (vif_at ks i) →
    vif_numbers (slice_set ks i k) ≡ vif_numbers ks
numbers_set [] i k same = refl
numbers_set (x ∷ ks) zero k same = rw same refl
numbers_set (x ∷ ks) (suc i) k same =
    ap (λ ns. option_map (λ y. y.number) x ∷ ns) (numbers_set ks i k same)

-- the vif at an index, where one of them has changed
pub vif_set : (ks : List (Option VifKept)) (i : ℕ) (k : Option VifKept) → i < length ks
    → vif_at (slice_set ks i k) i ≡ k
vif_set [] i k within = absurd (omega arith)
vif_set (x ∷ ks) zero k within = refl
vif_set (x ∷ ks) (suc i) k within = vif_set ks i k (omega (arith, within))

pub vif_other : (ks : List (Option VifKept)) (i j : ℕ) (k : Option VifKept) → (i ≡ j → ⊥)
    → vif_at (slice_set ks i k) j ≡ vif_at ks j
vif_other [] i j k other = refl
vif_other (x ∷ ks) zero zero k other = absurd (other refl)
vif_other (x ∷ ks) zero (suc j) k other = refl
vif_other (x ∷ ks) (suc i) zero k other = refl
vif_other (x ∷ ks) (suc i) (suc j) k other = vif_other ks i j k (λ same. other (ap suc same))

-- the vifs below n are counted, where the packet went out there
abbrev pub OutBelow : Met → ℕ → List (Option VifKept) → List (Option VifKept) → Type 0
OutBelow m n old new = (i : ℕ)
    → vif_at new i ≡ (if nat_lt i n && is_in m.outs i then with_out m (vif_at old i)
    else vif_at old i)

pub out_went : (m : Met) (n : ℕ) (old ks : List (Option VifKept)) → n < length ks
    → is_in m.outs n ≡ true → OutBelow m n old ks →
    OutBelow m (n + 1) old (slice_set ks n (with_out m (vif_at ks n)))
out_went m n old ks within went below i = elim (cases_lt i n) [
  | inl less ↦ rw (
    vif_other ks n i (with_out m (vif_at ks n))
        (λ same. omega (arith, less, same)),
    below i,
    lt-ltb i n less,
    lt-ltb i (n + 1) (omega (arith, less)),
  ) refl
  | inr least ↦ elim (cases_lt n i) [
    | inl more ↦ rw (
      vif_other ks n i (with_out m (vif_at ks n))
          (λ same. omega (arith, more, same)),
      below i,
      le-ltb i n least,
      le-ltb i (n + 1) (omega (arith, more)),
    ) refl
    | inr most ↦ (let same : n ≡ i = omega (arith, least, most) in
        subst (λ j. vif_at (slice_set ks n (with_out m (vif_at ks n))) j
        ≡ (if nat_lt j (n + 1) && is_in m.outs j then with_out m (vif_at old j)
        else vif_at old j)) same
        (rw (
          vif_set ks n (with_out m (vif_at ks n)) within,
          below n,
          le-ltb n n (omega arith),
          lt-ltb n (n + 1) (omega arith),
          went,
        ) refl))
  ]
]

pub out_stayed : (m : Met) (n : ℕ) (old ks : List (Option VifKept)) → is_in m.outs n ≡ false
    → OutBelow m n old ks → OutBelow m (n + 1) old ks
out_stayed m n old ks stayed below i = elim (cases_lt i n) [
  | inl less ↦ rw (below i, lt-ltb i n less, lt-ltb i (n + 1) (omega (arith, less))) refl
  | inr least ↦ elim (cases_lt n i) [
    | inl more ↦ rw (below i, le-ltb i n least, le-ltb i (n + 1) (omega (arith, more))) refl
    | inr most ↦ (let same : n ≡ i = omega (arith, least, most) in
        subst (λ j. vif_at ks j ≡ (if nat_lt j (n + 1) && is_in m.outs j
        then with_out m (vif_at old j) else vif_at old j)) same
        (rw (below n, le-ltb n n (omega arith), lt-ltb n (n + 1) (omega arith), stayed) refl))
  ]
]

vif_past : (ks : List (Option VifKept)) (i : ℕ) → length ks ≤ i → vif_at ks i ≡ None
vif_past [] i past = refl
vif_past (x ∷ ks) zero past = absurd (omega arith)
vif_past (x ∷ ks) (suc i) past = vif_past ks i (omega (arith, past))

abbrev no_vif : Option VifKept
no_vif = None

-- all of them are counted, since there are no more
pub out_all : (m : Met) (old ks : List (Option VifKept)) → length old ≡ 32 → OutBelow m 32 old ks
    → (i : ℕ) →
    vif_at ks i ≡ (if is_in m.outs i then with_out m (vif_at old i) else vif_at old i)
out_all m old ks long below i = elim (cases_lt i 32) [
  | inl less ↦ rw (below i, lt-ltb i 32 less) refl
  | inr past ↦ (let none : vif_at old i ≡ None = vif_past old i (omega (arith, long, past)) in
      rw (below i, le-ltb i 32 past, none) (by (is_in m.outs i)))
]
  where
    by : (b : Bool) → no_vif ≡ (if b then no_vif else no_vif)
    by true = refl
    by false = refl

in_more : (i : ℕ) (ms : List Met) (m : Met) (k : VifKept) → HasRoom ms m → IsIn i ms (Some k)
    → (b d : Bool) → is_vif m.input i ≡ b → nat_le k.number m.place ≡ d →
    IsIn i (ms ++ m ∷ []) (if b then (if d then Some (record {
      number = k.number;
      totals = record k.totals {
        packets_in = sum_64 k.totals.packets_in 1;
        bytes_in = sum_64 k.totals.bytes_in m.length;
      };
    }) else Some k) else Some k)
in_more i ms m k room is true true came made =
    let counts : counts_in (numbered_vif i k.number) m ≡ true = rw (came, made) refl in (
      rw is.0 (count_add (counts_in (numbered_vif i k.number)) ms m room counts),
      rw is.1 (sum_add (counts_in (numbered_vif i k.number)) ms m room counts),
    )
in_more i ms m k room is true false came made =
    let counts : counts_in (numbered_vif i k.number) m ≡ false = rw (came, made) refl in (
      rw (count_same (counts_in (numbered_vif i k.number)) ms m counts) is.0,
      rw (sum_same (counts_in (numbered_vif i k.number)) ms m counts) is.1,
    )
in_more i ms m k room is false d came made =
    let counts : counts_in (numbered_vif i k.number) m ≡ false = rw came refl in (
      rw (count_same (counts_in (numbered_vif i k.number)) ms m counts) is.0,
      rw (sum_same (counts_in (numbered_vif i k.number)) ms m counts) is.1,
    )

out_more : (i : ℕ) (ms : List Met) (m : Met) (k : VifKept) → HasRoom ms m → IsOut i ms (Some k)
    → (b d : Bool) → is_in m.outs i ≡ b → nat_le k.number m.place ≡ d →
    IsOut i (ms ++ m ∷ []) (if b then (if d then Some (record {
      number = k.number;
      totals = record k.totals {
        packets_out = sum_64 k.totals.packets_out 1;
        bytes_out = sum_64 k.totals.bytes_out m.length;
      };
    }) else Some k) else Some k)
out_more i ms m k room is true true went made =
    let counts : counts_out (numbered_vif i k.number) m ≡ true = rw (went, made) refl in (
      rw is.0 (count_add (counts_out (numbered_vif i k.number)) ms m room counts),
      rw is.1 (sum_add (counts_out (numbered_vif i k.number)) ms m room counts),
    )
out_more i ms m k room is true false went made =
    let counts : counts_out (numbered_vif i k.number) m ≡ false = rw (went, made) refl in (
      rw (count_same (counts_out (numbered_vif i k.number)) ms m counts) is.0,
      rw (sum_same (counts_out (numbered_vif i k.number)) ms m counts) is.1,
    )
out_more i ms m k room is false d went made =
    let counts : counts_out (numbered_vif i k.number) m ≡ false = rw went refl in (
      rw (count_same (counts_out (numbered_vif i k.number)) ms m counts) is.0,
      rw (sum_same (counts_out (numbered_vif i k.number)) ms m counts) is.1,
    )

pub in_step : (i : ℕ) (ms : List Met) (m : Met) (k : Option VifKept) → HasRoom ms m → IsIn i ms k
    → IsIn i (ms ++ m ∷ []) (if is_vif m.input i then with_in m k else k)
in_step i ms m None room is = by (is_vif m.input i)
  where
    by : (b : Bool) → IsIn i (ms ++ m ∷ []) (if b then None else None)
    by true = tt
    by false = tt
in_step i ms m (Some k) room is =
    in_more i ms m k room is (is_vif m.input i) (nat_le k.number m.place) refl refl

pub out_step : (i : ℕ) (ms : List Met) (m : Met) (k : Option VifKept) → HasRoom ms m
    → IsOut i ms k → IsOut i (ms ++ m ∷ []) (if is_in m.outs i then with_out m k else k)
out_step i ms m None room is = by (is_in m.outs i)
  where
    by : (b : Bool) → IsOut i (ms ++ m ∷ []) (if b then None else None)
    by true = tt
    by false = tt
out_step i ms m (Some k) room is =
    out_more i ms m k room is (is_in m.outs i) (nat_le k.number m.place) refl refl

-- what went out is the same where a packet came in, and the other way round
pub in_keeps_out : (i : ℕ) (ms : List Met) (m : Met) (b : Bool) (k : Option VifKept)
    → IsOut i ms k → IsOut i ms (if b then with_in m k else k)
in_keeps_out i ms m false k is = is
in_keeps_out i ms m true None is = tt
in_keeps_out i ms m true (Some k) is = by (nat_le k.number m.place)
  where
    by : (d : Bool) → IsOut i ms (if d then Some (record {
      number = k.number;
      totals = record k.totals {
        packets_in = sum_64 k.totals.packets_in 1;
        bytes_in = sum_64 k.totals.bytes_in m.length;
      };
    }) else Some k)
    by true = is
    by false = is

pub out_keeps_in : (i : ℕ) (ms : List Met) (m : Met) (b : Bool) (k : Option VifKept)
    → IsIn i ms k → IsIn i ms (if b then with_out m k else k)
out_keeps_in i ms m false k is = is
out_keeps_in i ms m true None is = tt
out_keeps_in i ms m true (Some k) is = by (nat_le k.number m.place)
  where
    by : (d : Bool) → IsIn i ms (if d then Some (record {
      number = k.number;
      totals = record k.totals {
        packets_out = sum_64 k.totals.packets_out 1;
        bytes_out = sum_64 k.totals.bytes_out m.length;
      };
    }) else Some k)
    by true = is
    by false = is
