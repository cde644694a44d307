-- From an entry to the next older one of its source and group.
use Rattle.std.proofs.Common.{◌≡◌, ◌∙◌, refl, ap, subst, ℕ, zero, suc, ◌-◌, ◌<◌, ◌≤◌, Some, Bool, true, false, ◌&&◌, ◌==◌, if◌then◌else◌, List, [], ◌∷◌, ◌++◌, length, take, find, reverse, get_or, slice_get, inl, inr, arith}
use Rattle.std.proofs.lemmas.Bool.{cases_lt, and_parts, and_from, eqb-true}
use Rattle.std.proofs.lemmas.List.{reverse-append}
use Rattle.std.proofs.lemmas.Option.{slice_get_within, get_or_from_slice_get, slice_get-get_or}
use Rattle.std.proofs.Math.Seq.{take-suc}
use Rattle.mr_base.specs.declared.numbers.Addr.{Addr}
use Rattle.mr_base.specs.declared.route.Route.{Route}
use Rattle.mr_model.specs.RouteList.{is_entry}
use Rattle.mr_plain_lists.specs.declared.slots.Slot.{Slot}
use Rattle.mr_plain_lists.specs.Indexed.{oldest_first, newest_first, Leads, AreLinked}

pub oldest_append : (xs ys : List Slot) → oldest_first (xs ++ ys) ≡ oldest_first xs ++ oldest_first ys
oldest_append [] ys = refl
oldest_append (x ∷ xs) ys = by x.live (oldest_append xs ys)
  where
    by : (b : Bool) → oldest_first (xs ++ ys) ≡ oldest_first xs ++ oldest_first ys
        → (if b then x.route ∷ oldest_first (xs ++ ys) else oldest_first (xs ++ ys))
        ≡ (if b then x.route ∷ oldest_first xs else oldest_first xs) ++ oldest_first ys
    by true more = ap (λ (rs : List Route). x.route ∷ rs) more
    by false more = more

pub newest_append : (xs ys : List Slot) → newest_first (xs ++ ys) ≡ newest_first ys ++ newest_first xs
newest_append xs ys = ap reverse (oldest_append xs ys) ∙ reverse-append (oldest_first xs) (oldest_first ys)

-- the newest of the first places
pub seen_next : (slots : List Slot) (j : ℕ) (x : Slot) → slice_get slots j ≡ Some x
    → newest_first (take (suc j) slots) ≡ newest_first (x ∷ []) ++ newest_first (take j slots)
seen_next slots j x at =
    let next : take (suc j) slots ≡ take j slots ++ x ∷ [] =
    take-suc slots j x (slice_get_within slots j x at) ∙ ap (λ (y : Slot). take j slots ++ y ∷ []) (get_or_from_slice_get slots j x x at) in
    ap newest_first next ∙ newest_append (take j slots) (x ∷ [])

-- what is found once it is looked at
pub find_next : (p : Route → Bool) (x : Slot) (rs : List Route)
    → find p (newest_first (x ∷ []) ++ rs) ≡ (if x.live then (if p x.route then Some x.route else find p rs) else find p rs)
find_next p x rs = by x.live
  where
    by : (b : Bool) → find p (reverse (if b then x.route ∷ [] else []) ++ rs)
        ≡ (if b then (if p x.route then Some x.route else find p rs) else find p rs)
    by true = look (p x.route)
      where
        look : (b : Bool) → (if b then Some x.route else find p rs) ≡ (if b then Some x.route else find p rs)
        look b = refl
    by false = refl

passed : (p : Route → Bool) (x : Slot) (rs : List Route) → (x.live ≡ true → p x.route ≡ false)
    → (if x.live then (if p x.route then Some x.route else find p rs) else find p rs) ≡ find p rs
passed p x rs none = by x.live none
  where
    by : (b : Bool) → (b ≡ true → p x.route ≡ false)
        → (if b then (if p x.route then Some x.route else find p rs) else find p rs) ≡ find p rs
    by true none = rw (none refl) refl
    by false none = refl

second_false : (a b : Bool) → b ≡ false → (a && b) ≡ false
second_false true b none = none
second_false false b none = refl

pub there : (slots : List Slot) (i : ℕ) → i < length slots → (x : Slot) × (slice_get slots i ≡ Some x)
there [] i within = absurd (omega arith)
there (x ∷ slots) zero within = (x, refl)
there (x ∷ slots) (suc i) within = there slots i (omega arith)

-- places without an entry of the source and group that is there are left out
pub skips : (slots : List Slot) (n i : ℕ) (src dst : Addr) (t : Route → Bool) → Leads slots n i src dst → i ≤ length slots
    → find (λ r. is_entry src dst r && t r) (newest_first (take i slots)) ≡ find (λ r. is_entry src dst r && t r) (newest_first (take n slots))
skips slots n zero src dst t leads fits =
    let none : n ≡ 0 = omega (arith, leads.within) in
    rw none refl
skips slots n (suc i) src dst t leads fits = elim (cases_lt n (suc i)) [
  | inl below ↦
      let p : Route → Bool = λ r. is_entry src dst r && t r in
      let x = there slots i (omega arith) in
      let rest : find p (newest_first (take i slots)) ≡ find p (newest_first (take n slots)) =
      skips slots n i src dst t (record { within = omega arith; last = leads.last; none = λ j y low high at live. leads.none j y low (omega arith) at live }) (omega arith) in
      ap (find p) (seen_next slots i x.0 x.1) ∙ find_next p x.0 (newest_first (take i slots))
      ∙ passed p x.0 (newest_first (take i slots)) (λ live. ap (λ (b : Bool). b && t x.0.route) (leads.none i x.0 (omega arith) (omega arith) x.1 live)) ∙ rest
  | inr above ↦
      let same : n ≡ suc i = omega (arith, leads.within) in
      rw same refl
]

pub same_address : (a b : Addr) → a.0 ≡ b.0 → a ≡ b
same_address a b same = ap (λ (n : ℕ). record { 0 = n }) same

-- an entry of a source and group leads to the older ones of these
pub leads_on : (slots : List Slot) (j : ℕ) (x : Slot) (src dst : Addr) → AreLinked slots → slice_get slots j ≡ Some x
    → is_entry src dst x.route ≡ true → Leads slots x.older j src dst
leads_on slots j x src dst linked at so =
    let both = and_parts (x.route.src.0 == src.0) (x.route.dst.0 == dst.0) so in
    let first : x.route.src ≡ src = same_address x.route.src src (eqb-true x.route.src.0 src.0 both.0) in
    let second : x.route.dst ≡ dst = same_address x.route.dst dst (eqb-true x.route.dst.0 dst.0 both.1) in
    subst (λ (a : Addr). Leads slots x.older j a dst) first
    (subst (λ (a : Addr). Leads slots x.older j x.route.src a) second (linked j x at))

-- the last of the first n places, where there is one
pub at_last : (slots : List Slot) (n : ℕ) (d : Slot) → 0 < n → n ≤ length slots → slice_get slots (n - 1) ≡ Some (get_or slots (n - 1) d)
at_last slots n d some fits = slice_get-get_or slots (n - 1) d (omega arith)

seen_last : (slots : List Slot) (n : ℕ) (x : Slot) → 0 < n → slice_get slots (n - 1) ≡ Some x
    → newest_first (take n slots) ≡ newest_first (x ∷ []) ++ newest_first (take (n - 1) slots)
seen_last slots n x some at =
    let next : n ≡ suc (n - 1) = omega arith in
    ap (λ (i : ℕ). newest_first (take i slots)) next ∙ seen_next slots (n - 1) x at

-- an entry that is gone, or that fails, is left out
pub walk_on : (slots : List Slot) (n : ℕ) (x : Slot) (src dst : Addr) (t : Route → Bool) → AreLinked slots → 0 < n → n ≤ length slots
    → slice_get slots (n - 1) ≡ Some x → is_entry src dst x.route ≡ true → (x.live ≡ true → t x.route ≡ false)
    → find (λ r. is_entry src dst r && t r) (newest_first (take n slots)) ≡ find (λ r. is_entry src dst r && t r) (newest_first (take x.older slots))
walk_on slots n x src dst t linked some fits at of fails =
    let p : Route → Bool = λ r. is_entry src dst r && t r in
    let before : List Route = newest_first (take (n - 1) slots) in
    ap (find p) (seen_last slots n x some at) ∙ find_next p x before
    ∙ passed p x before (λ live. second_false (is_entry src dst x.route) (t x.route) (fails live))
    ∙ skips slots x.older (n - 1) src dst t (leads_on slots (n - 1) x src dst linked at of) (omega arith)

-- one that is there and passes is the first
pub walk_ends : (slots : List Slot) (n : ℕ) (x : Slot) (src dst : Addr) (t : Route → Bool) → 0 < n
    → slice_get slots (n - 1) ≡ Some x → is_entry src dst x.route ≡ true → x.live ≡ true → t x.route ≡ true
    → find (λ r. is_entry src dst r && t r) (newest_first (take n slots)) ≡ Some x.route
walk_ends slots n x src dst t some at of live passes =
    let p : Route → Bool = λ r. is_entry src dst r && t r in
    let before : List Route = newest_first (take (n - 1) slots) in
    ap (find p) (seen_last slots n x some at) ∙ find_next p x before ∙ rw (live, and_from (is_entry src dst x.route) (t x.route) of passes) refl
