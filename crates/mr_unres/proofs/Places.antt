-- Entries at places, and the index that leads to them.
use Rattle.std.proofs.Common.{◌≡◌, ℕ, zero, suc, ◌<◌, ◌==◌, ◌&&◌, Bool, true, false, Option, Some, None, List, [], ◌∷◌, ◌++◌, length, slice_get, slice_set, is_some, filter, ◌⊎◌, inl, inr, refl, sym, ap, ◌∙◌, arith, subst, nat_eq}
use Rattle.std.proofs.lemmas.Bool.{cases_lt, and_parts, and_from, eqb-true, eq-eqb}
use Rattle.std.proofs.lemmas.Option.{slice_get_within, same_Some}
use Rattle.std.specs.HashMap.{get}
use Rattle.std.specs.Prelude.{option_and_then}
use Rattle.mr_base.specs.declared.numbers.Addr.{Addr}
use Rattle.mr_unres.specs.declared.unresolved.Unresolved.{Unresolved}
use Rattle.mr_unres.specs.Entries.{is_for}
use Rattle.mr_unres.specs.Slots.{somes, Index, key_of, same_key, Leads, AreApart, AllFail, StandsAt, entry_in}

abbrev pub Slot : Type 0
Slot = Option Unresolved

-- what fails at each place fails of all
pub all_fail : (p : Unresolved → Bool) (slots : List Slot)
    → ((i : ℕ) (e : Unresolved) → slice_get slots i ≡ Some (Some e) → p e ≡ false) → AllFail p (somes slots)
all_fail p [] none = tt
all_fail p (None ∷ slots) none = all_fail p slots (λ i e at. none (suc i) e at)
all_fail p (Some e ∷ slots) none = (none 0 e refl, all_fail p slots (λ i e at. none (suc i) e at))

-- what fails of all fails at each place
pub fails_at : (p : Unresolved → Bool) (slots : List Slot) → AllFail p (somes slots)
    → (i : ℕ) (e : Unresolved) → slice_get slots i ≡ Some (Some e) → p e ≡ false
fails_at p [] none i e at = absurd (cc)
fails_at p (None ∷ slots) none zero e at = absurd (cc)
fails_at p (Some f ∷ slots) none zero e at = let same : f ≡ e = cc in subst (λ (x : Unresolved). p x ≡ false) same none.0
fails_at p (None ∷ slots) none (suc i) e at = fails_at p slots none i e at
fails_at p (Some f ∷ slots) none (suc i) e at = fails_at p slots none.1 i e at

-- a test is false where it cannot be true
pub false_where : (b : Bool) → (b ≡ true → ⊥) → b ≡ false
false_where true never = absurd (never refl)
false_where false never = refl

-- the only entry that passes
pub stands_at : (p : Unresolved → Bool) (slots : List Slot) (i : ℕ) (e : Unresolved) → slice_get slots i ≡ Some (Some e) → p e ≡ true
    → ((j : ℕ) (f : Unresolved) → slice_get slots j ≡ Some (Some f) → p f ≡ true → j ≡ i) → StandsAt p slots i
stands_at p [] i e at passes only = absurd (cc)
stands_at p (s ∷ slots) zero e at passes only =
    let here : s ≡ Some e = cc in
    record {
      before = [];
      entry = e;
      after = slots;
      whole = ap (λ (x : Slot). x ∷ slots) here;
      place = refl;
      passes = passes;
      none_before = tt;
      none_after = all_fail p slots (λ j f there. false_where (p f) (λ so. let far : suc j ≡ 0 = only (suc j) f there so in omega arith));
    }
stands_at p (s ∷ slots) (suc i) e at passes only =
    let rest : StandsAt p slots i = stands_at p slots i e at passes
    (λ j f there so. let next : suc j ≡ suc i = only (suc j) f there so in omega arith) in
    record {
      before = s ∷ rest.before;
      entry = rest.entry;
      after = rest.after;
      whole = ap (λ (xs : List Slot). s ∷ xs) rest.whole;
      place = ap suc rest.place;
      passes = rest.passes;
      none_before = front s rest.before rest.none_before (λ f so. only 0 f so);
      none_after = rest.none_after;
    }
  where
    front : (s : Slot) (before : List Slot) → AllFail p (somes before)
        → ((f : Unresolved) → Some s ≡ Some (Some f) → p f ≡ true → 0 ≡ suc i) → AllFail p (somes (s ∷ before))
    front None before none never = none
    front (Some f) before none never = (false_where (p f) (λ so. let far : 0 ≡ suc i = never f refl so in omega arith), none)

-- a source and group as a key
abbrev pub key : Addr → Addr → ℕ × ℕ
key src dst = (src.0, dst.0)

pub key_is : (src dst : Addr) (e : Unresolved) → is_for src dst e ≡ true → key_of e ≡ key src dst
key_is src dst e so =
    let both = and_parts (e.src.0 == src.0) (e.dst.0 == dst.0) so in
    let first : e.src.0 ≡ src.0 = eqb-true e.src.0 src.0 both.0 in
    let second : e.dst.0 ≡ dst.0 = eqb-true e.dst.0 dst.0 both.1 in
    cc

pub key_for : (src dst : Addr) (e : Unresolved) → key src dst ≡ key_of e → is_for src dst e ≡ true
key_for src dst e same =
    let first : e.src.0 ≡ src.0 = ap (λ (k : ℕ × ℕ). k.0) (sym same) in
    let second : e.dst.0 ≡ dst.0 = ap (λ (k : ℕ × ℕ). k.1) (sym same) in
    and_from (e.src.0 == src.0) (e.dst.0 == dst.0) (eq-eqb e.src.0 src.0 first) (eq-eqb e.dst.0 dst.0 second)

pub same_keys : (a b : ℕ × ℕ) → same_key a b ≡ true → a ≡ b
same_keys a b so =
    let both = and_parts (nat_eq a.0 b.0) (nat_eq a.1 b.1) so in
    let first : a.0 ≡ b.0 = eqb-true a.0 b.0 both.0 in
    let second : a.1 ≡ b.1 = eqb-true a.1 b.1 both.1 in
    ap (λ (x : ℕ). (x, a.1)) first ∙ ap (λ (y : ℕ). (b.0, y)) second

-- the place of an entry of this source and group is where the index leads
pub led : (slots : List Slot) (index : Index) (src dst : Addr) → Leads (length slots) slots index
    → (i : ℕ) (e : Unresolved) → slice_get slots i ≡ Some (Some e) → is_for src dst e ≡ true
    → get same_key index (key src dst) ≡ Some i
led slots index src dst leads i e at so =
    let same : key_of e ≡ key src dst = key_is src dst e so in
    subst (λ (k : ℕ × ℕ). get same_key index k ≡ Some i) same (leads i e (slice_get_within slots i (Some e) at) at)

-- an entry that is found where the index leads is the only one
pub finds : (slots : List Slot) (index : Index) (src dst : Addr) → Leads (length slots) slots index
    → (i : ℕ) (e : Unresolved) → get same_key index (key src dst) ≡ Some i → slice_get slots i ≡ Some (Some e)
    → is_for src dst e ≡ true → StandsAt (is_for src dst) slots i
finds slots index src dst leads i e to at so =
    stands_at (is_for src dst) slots i e at so
    (λ j f there same. same_Some j i (sym (led slots index src dst leads j f there same) ∙ to))

-- there is none where the index leads to none
pub misses : (slots : List Slot) (index : Index) (src dst : Addr) → Leads (length slots) slots index
    → ((i : ℕ) (e : Unresolved) → get same_key index (key src dst) ≡ Some i → slice_get slots i ≡ Some (Some e)
    → is_for src dst e ≡ true → ⊥)
    → AllFail (is_for src dst) (somes slots)
misses slots index src dst leads never =
    all_fail (is_for src dst) slots
    (λ i e at. false_where (is_for src dst e) (λ so. never i e (led slots index src dst leads i e at so) at so))

-- what stands at a place once another thing was put at a place
pub get_set : (slots : List Slot) (i j : ℕ) (s : Slot) (e : Unresolved) → slice_get (slice_set slots i s) j ≡ Some (Some e)
    → ((j ≡ i) × (s ≡ Some e)) ⊎ (slice_get slots j ≡ Some (Some e))
get_set [] i j s e at = absurd (cc)
get_set (t ∷ slots) zero zero s e at = inl (refl, cc)
get_set (t ∷ slots) zero (suc j) s e at = inr at
get_set (t ∷ slots) (suc i) zero s e at = inr at
get_set (t ∷ slots) (suc i) (suc j) s e at = elim (get_set slots i j s e at) [
  | inl here ↦ inl (ap suc here.0, here.1)
  | inr there ↦ inr there
]

-- an entry may change where its key stays
pub leads_set : (slots : List Slot) (index : Index) (n i : ℕ) (e f : Unresolved) → slice_get slots i ≡ Some (Some e)
    → key_of f ≡ key_of e → Leads n slots index → Leads n (slice_set slots i (Some f)) index
leads_set slots index n i e f at same leads j g below there = elim (get_set slots i j (Some f) g there) [
  | inl here ↦
      let is : f ≡ g = same_Some f g here.1 in
      let keys : key_of e ≡ key_of g = sym same ∙ ap (λ (x : Unresolved). key_of x) is in
      let old : get same_key index (key_of e) ≡ Some j = subst (λ (k : ℕ). get same_key index (key_of e) ≡ Some k) (sym here.0)
      (leads i e (subst (λ (k : ℕ). k < n) here.0 below) at) in
      subst (λ (k : ℕ × ℕ). get same_key index k ≡ Some j) keys old
  | inr stays ↦ leads j g below stays
]

-- what stands at a place of a longer list
pub get_push : (slots : List Slot) (j : ℕ) (s t : Slot) → slice_get (slots ++ s ∷ []) j ≡ Some t
    → ((j ≡ length slots) × (s ≡ t)) ⊎ (slice_get slots j ≡ Some t)
get_push [] zero s t at = inl (refl, cc)
get_push [] (suc j) s t at = absurd (cc)
get_push (u ∷ slots) zero s t at = inr at
get_push (u ∷ slots) (suc j) s t at = elim (get_push slots j s t at) [
  | inl here ↦ inl (ap suc here.0, here.1)
  | inr there ↦ inr there
]

-- one more entry, whose key no other has
pub leads_push : (slots : List Slot) (old new : Index) (e : Unresolved) → Leads (length slots) slots old
    → AllFail (is_for e.src e.dst) (somes slots)
    → get same_key new (key e.src e.dst) ≡ Some (length slots)
    → ((q : ℕ × ℕ) → same_key (key e.src e.dst) q ≡ false → get same_key new q ≡ get same_key old q)
    → (n : ℕ) → Leads n (slots ++ Some e ∷ []) new
leads_push slots old new e leads none to others n j f below at = elim (get_push slots j (Some e) (Some f) at) [
  | inl here ↦
      let is : e ≡ f = same_Some e f here.1 in
      subst (λ (x : Unresolved). get same_key new (key_of x) ≡ Some j) is
      (subst (λ (k : ℕ). get same_key new (key_of e) ≡ Some k) (sym here.0) to)
  | inr there ↦
      let apart : same_key (key e.src e.dst) (key_of f) ≡ false = false_where (same_key (key e.src e.dst) (key_of f))
      (λ so. differ (key_for e.src e.dst f (same_keys (key e.src e.dst) (key_of f) so)) (fails_at (is_for e.src e.dst) slots none j f there)) in
      others (key_of f) apart ∙ leads j f (slice_get_within slots j (Some f) there) there
]
  where
    differ : {b : Bool} → b ≡ true → b ≡ false → ⊥
    differ is_true is_false = cc

-- entries that the index leads to have keys of their own
pub apart_from : (slots : List Slot) (index : Index) → Leads (length slots) slots index → AreApart slots
apart_from slots index leads i j e f at there so =
    let same : key_of e ≡ key_of f = same_keys (key_of e) (key_of f) so in
    let first : get same_key index (key_of e) ≡ Some i = leads i e (slice_get_within slots i (Some e) at) at in
    let second : get same_key index (key_of f) ≡ Some j = leads j f (slice_get_within slots j (Some f) there) there in
    same_Some i j (sym first ∙ (ap (λ (k : ℕ × ℕ). get same_key index k) same ∙ second))

-- where an entry stands once the gaps are closed, it stood somewhere before
abbrev pub Stood : List Slot → Unresolved → Type 0
Stood slots e = (k : ℕ) × (slice_get slots k ≡ Some (Some e))

pub stood : (slots : List Slot) (i : ℕ) (e : Unresolved) → slice_get (filter is_some slots) i ≡ Some (Some e) → Stood slots e
stood [] i e at = absurd (cc)
stood (None ∷ slots) i e at = let k = stood slots i e at in (suc k.0, k.1)
stood (Some f ∷ slots) zero e at = (0, at)
stood (Some f ∷ slots) (suc i) e at = let k = stood slots i e at in (suc k.0, k.1)

-- two entries keep their order
abbrev pub StoodInOrder : List Slot → Unresolved → Unresolved → Type 0
StoodInOrder slots e f = (k : ℕ) × (m : ℕ) × (k < m) × (slice_get slots k ≡ Some (Some e)) × (slice_get slots m ≡ Some (Some f))

pub stood_in_order : (slots : List Slot) (i j : ℕ) (e f : Unresolved) → i < j → slice_get (filter is_some slots) i ≡ Some (Some e)
    → slice_get (filter is_some slots) j ≡ Some (Some f) → StoodInOrder slots e f
stood_in_order [] i j e f below at there = absurd (cc)
stood_in_order (None ∷ slots) i j e f below at there =
    let k = stood_in_order slots i j e f below at there in (suc k.0, suc k.1, omega (arith, k.2), k.3, k.4)
stood_in_order (Some g ∷ slots) i zero e f below at there = absurd (omega arith)
stood_in_order (Some g ∷ slots) zero (suc j) e f below at there =
    let k = stood slots j f there in (0, suc k.0, omega arith, at, k.1)
stood_in_order (Some g ∷ slots) (suc i) (suc j) e f below at there =
    let k = stood_in_order slots i j e f (omega arith) at there in (suc k.0, suc k.1, omega (arith, k.2), k.3, k.4)

-- keys differ still once the gaps are closed
pub apart_filter : (slots : List Slot) → AreApart slots → AreApart (filter is_some slots)
apart_filter slots apart i j e f at there so = elim (cases_lt i j) [
  | inl below ↦
      let k = stood_in_order slots i j e f below at there in
      let same : k.0 ≡ k.1 = apart k.0 k.1 e f k.3 k.4 so in
      absurd (omega (arith, k.2))
  | inr above ↦ elim (cases_lt j i) [
    | inl below ↦
        let k = stood_in_order slots j i f e below there at in
        let same : k.1 ≡ k.0 = apart k.1 k.0 e f k.4 k.3 so in
        absurd (omega (arith, k.2))
    | inr over ↦ omega arith
  ]
]

-- an entry at a place
pub entry_there : (slots : List Slot) (i : ℕ) (e : Unresolved) → entry_in slots i ≡ Some e → slice_get slots i ≡ Some (Some e)
entry_there slots i e at = inner (slice_get slots i) at
  where
    inner : (o : Option Slot) → option_and_then (λ s. s) o ≡ Some e → o ≡ Some (Some e)
    inner None at = absurd (cc)
    inner (Some s) at = ap (λ (x : Slot). Some x) at

-- what the index leads to decides whether there is an entry
pub misses_none : (slots : List Slot) (index : Index) (src dst : Addr) → Leads (length slots) slots index
    → None ≡ get same_key index (key src dst) → AllFail (is_for src dst) (somes slots)
misses_none slots index src dst leads none = misses slots index src dst leads (λ i e to at so. differ i to)
  where
    differ : (i : ℕ) → get same_key index (key src dst) ≡ Some i → ⊥
    differ i to = cc

pub misses_gap : (slots : List Slot) (index : Index) (src dst : Addr) → Leads (length slots) slots index
    → (i : ℕ) → Some i ≡ get same_key index (key src dst) → None ≡ entry_in slots i → AllFail (is_for src dst) (somes slots)
misses_gap slots index src dst leads i led gap =
    misses slots index src dst leads (λ j e to at so. differ j e (same_Some i j (led ∙ to)) at)
  where
    differ : (j : ℕ) (e : Unresolved) → i ≡ j → slice_get slots j ≡ Some (Some e) → ⊥
    differ j e same at =
        let there : entry_in slots i ≡ Some e = ap (λ (k : ℕ). entry_in slots k) same ∙ ap (λ (o : Option Slot). option_and_then (λ s. s) o) at in
        cc

pub misses_other : (slots : List Slot) (index : Index) (src dst : Addr) → Leads (length slots) slots index
    → (i : ℕ) (f : Unresolved) → Some i ≡ get same_key index (key src dst) → Some f ≡ entry_in slots i
    → is_for src dst f ≡ false → AllFail (is_for src dst) (somes slots)
misses_other slots index src dst leads i f led there other =
    misses slots index src dst leads (λ j e to at so. differ j e (same_Some i j (led ∙ to)) at so)
  where
    differ : (j : ℕ) (e : Unresolved) → i ≡ j → slice_get slots j ≡ Some (Some e) → is_for src dst e ≡ true → ⊥
    differ j e same at so =
        let here : entry_in slots i ≡ Some e = ap (λ (k : ℕ). entry_in slots k) same ∙ ap (λ (o : Option Slot). option_and_then (λ s. s) o) at in
        let is : f ≡ e = same_Some f e (there ∙ here) in
        let wrong : is_for src dst e ≡ false = subst (λ (x : Unresolved). is_for src dst x ≡ false) is other in
        cc

-- both tests pass, or not both do
pub first_false : (a b : Bool) → a ≡ false → (a && b) ≡ false
first_false a b none = rw none refl

pub second_false : (a b : Bool) → b ≡ false → (a && b) ≡ false
second_false true b none = none
second_false false b none = refl
