-- Entries keep their places while the lists beside them grow.
use Rattle.std.proofs.Common.{◌≡◌, refl, ap, ℕ, suc, zero, ◌+◌, ◌<◌, ◌≤◌, Some, List, [], ◌∷◌}
use Rattle.std.proofs.Common.{◌++◌, length, map, take, arith, slice_get, sym, append-nil, get_or}
use Rattle.std.proofs.Common.{◌∙◌}
use Rattle.std.proofs.lemmas.List.{length-append, length-map}
use Rattle.std.specs.List.{AllByRecursion}
use Rattle.mr_base.specs.declared.numbers.LaneNo.{LaneNo}
use Rattle.mr_model.specs.declared.entry.Entry.TheVariants as entry
use Rattle.mr_model.specs.declared.entry.FastRecord.{FastRecord}
use Rattle.mr_model.specs.declared.entry.ReleasedId.{ReleasedId}
use Rattle.mr_history.specs.declared.small.KeptRecord.{KeptRecord}
use Rattle.mr_history.specs.Small.{fast_of}
use Rattle.mr_history.specs.declared.store.Kept.{Kept}
use Rattle.mr_history.specs.declared.store.Kept.TheVariants.{Call, Forward, Slow, Settle}
use Rattle.mr_history.specs.declared.store.KeptSlow.{KeptSlow}
use Rattle.mr_history.specs.declared.store.KeptCall.{KeptCall}
use Rattle.mr_history.specs.Stores.{Lists, part, call_of, forward_of, slow_of, entry_of, IsWithin}
use Rattle.mr_history.specs.Stores.{entries_of}
use Rattle.mr_history.proofs.Numbering.{all_push, all_weaker}

pub record Extends (l m : Lists) : Type 0 where
  pub more_records : List FastRecord
  pub records_are : m.records ≡ l.records ++ more_records
  pub more_slows : List KeptSlow
  pub slows_are : m.slows ≡ l.slows ++ more_slows
  pub more_calls : List KeptCall
  pub calls_are : m.calls ≡ l.calls ++ more_calls
  pub more_released : List ReleasedId
  pub released_are : m.released ≡ l.released ++ more_released

get_left : {A : Type 0} (xs ys : List A) (i : ℕ) → i < length xs
    → slice_get (xs ++ ys) i ≡ slice_get xs i
get_left [] ys i within = absurd (omega arith)
get_left (x ∷ xs) ys zero within = refl
get_left (x ∷ xs) ys (suc i) within = get_left xs ys i (omega (arith, within))

pub get_end : {A : Type 0} (xs : List A) (y : A) → slice_get (xs ++ y ∷ []) (length xs) ≡ Some y
get_end [] y = refl
get_end (x ∷ xs) y = get_end xs y

take_left : {A : Type 0} (xs ys : List A) (n : ℕ) → n ≤ length xs → take n (xs ++ ys) ≡ take n xs
take_left xs ys zero within = refl
take_left [] ys (suc n) within = absurd (omega arith)
take_left (x ∷ xs) ys (suc n) within =
    ap (λ zs. x ∷ zs) (take_left xs ys n (omega (arith, within)))

part_left : {A : Type 0} (xs ys : List A) (first count : ℕ) → first + count ≤ length xs
    → part (xs ++ ys) first count ≡ part xs first count
part_left xs ys zero count within = take_left xs ys count (omega (arith, within))
part_left [] ys (suc first) count within = absurd (omega arith)
part_left (x ∷ xs) ys (suc first) count within =
    part_left xs ys first count (omega (arith, within))

pub part_end : {A : Type 0} (xs ys : List A) → part (xs ++ ys) (length xs) (length ys) ≡ ys
part_end [] [] = refl
part_end [] (y ∷ ys) = ap (λ zs. y ∷ zs) (part_end [] ys)
part_end (x ∷ xs) ys = part_end xs ys

pub entry_grown : (l m : Lists) (k : Kept) → Extends l m → IsWithin l k
    → entry_of m k ≡ entry_of l k
entry_grown l m (Call call first count) e within =
    rw (
      e.calls_are,
      e.released_are,
      get_left l.calls e.more_calls call within.0,
      part_left l.released e.more_released first count within.1,
    ) refl
entry_grown l m (Forward lane at) e within =
    rw (e.records_are, get_left l.records e.more_records at within) refl
entry_grown l m (Slow at) e within = rw (e.slows_are, get_left l.slows e.more_slows at within) refl
entry_grown l m (Settle lane first count) e within =
    rw (e.records_are, part_left l.records e.more_records first count within) refl
entry_grown l m k e within = refl

pub within_grown : (l m : Lists) (k : Kept) → Extends l m → IsWithin l k → IsWithin m k
within_grown l m (Call call first count) e within =
    rw (e.calls_are, e.released_are, length-append, length-append)
    (omega (arith, within), omega (arith, within), within.2)
within_grown l m (Forward lane at) e within =
    rw (e.records_are, length-append) (omega (arith, within))
within_grown l m (Slow at) e within = rw (e.slows_are, length-append) (omega (arith, within))
within_grown l m (Settle lane first count) e within =
    rw (e.records_are, length-append) (omega (arith, within))
within_grown l m k e within = tt

pub entries_pushed : (l m : Lists) (ks : List Kept) (k : Kept) → Extends l m
    → AllByRecursion (IsWithin l) ks →
    entries_of m (ks ++ k ∷ []) ≡ entries_of l ks ++ entry_of m k ∷ []
entries_pushed l m [] k e within = refl
entries_pushed l m (x ∷ ks) k e within =
    rw (entry_grown l m x e within.0)
    (ap (λ es. entry_of l x ∷ es) (entries_pushed l m ks k e within.1))

pub within_pushed : (l m : Lists) (ks : List Kept) (k : Kept) → Extends l m
    → AllByRecursion (IsWithin l) ks → IsWithin m k →
    AllByRecursion (IsWithin m) (ks ++ k ∷ [])
within_pushed l m ks k e within one =
    all_push (IsWithin m) ks k (all_weaker (IsWithin l) (IsWithin m)
    (λ x w. within_grown l m x e w) ks within) one

-- the lists with more records, one more slow, or one more call and what it released
abbrev pub with_records : Lists → List FastRecord → Lists
with_records l rs = record {
  records = l.records ++ rs;
  slows = l.slows;
  calls = l.calls;
  released = l.released;
}

abbrev pub with_slow : Lists → KeptSlow → Lists
with_slow l s = record {
  records = l.records;
  slows = l.slows ++ s ∷ [];
  calls = l.calls;
  released = l.released;
}

abbrev pub with_call : Lists → KeptCall → List ReleasedId → Lists
with_call l x xs = record {
  records = l.records;
  slows = l.slows;
  calls = l.calls ++ x ∷ [];
  released = l.released ++ xs;
}

extends_records : (l : Lists) (rs : List FastRecord) → Extends l (with_records l rs)
extends_records l rs = record {
  more_records = rs;
  records_are = refl;
  more_slows = [];
  slows_are = sym (append-nil _);
  more_calls = [];
  calls_are = sym (append-nil _);
  more_released = [];
  released_are = sym (append-nil _);
}

extends_slow : (l : Lists) (s : KeptSlow) → Extends l (with_slow l s)
extends_slow l s = record {
  more_records = [];
  records_are = sym (append-nil _);
  more_slows = s ∷ [];
  slows_are = refl;
  more_calls = [];
  calls_are = sym (append-nil _);
  more_released = [];
  released_are = sym (append-nil _);
}

extends_call : (l : Lists) (x : KeptCall) (xs : List ReleasedId) → Extends l (with_call l x xs)
extends_call l x xs = record {
  more_records = [];
  records_are = sym (append-nil _);
  more_slows = [];
  slows_are = sym (append-nil _);
  more_calls = x ∷ [];
  calls_are = refl;
  more_released = xs;
  released_are = refl;
}

pub forward_pushed : (l : Lists) (ks : List Kept) (lane : LaneNo) (at : ℕ) (r : FastRecord)
    → AllByRecursion (IsWithin l) ks → at ≡ length l.records →
    entries_of (with_records l (r ∷ [])) (ks ++ Forward lane at ∷ [])
    ≡ entries_of l ks ++ forward_of lane (Some r) ∷ []
forward_pushed l ks lane at r within is =
    rw (
      entries_pushed l (with_records l (r ∷ [])) ks (Forward lane at)
          (extends_records l (r ∷ [])) within,
      is,
      get_end l.records r,
    ) refl

pub slow_pushed : (l : Lists) (ks : List Kept) (at : ℕ) (s : KeptSlow)
    → AllByRecursion (IsWithin l) ks → at ≡ length l.slows →
    entries_of (with_slow l s) (ks ++ Slow at ∷ []) ≡ entries_of l ks ++ slow_of (Some s) ∷ []
slow_pushed l ks at s within is =
    rw (
      entries_pushed l (with_slow l s) ks (Slow at) (extends_slow l s) within,
      is,
      get_end l.slows s,
    ) refl

pub slow_within : (l : Lists) (ks : List Kept) (at : ℕ) (s : KeptSlow)
    → AllByRecursion (IsWithin l) ks → at ≡ length l.slows →
    AllByRecursion (IsWithin (with_slow l s)) (ks ++ Slow at ∷ [])
slow_within l ks at s within is =
    within_pushed l (with_slow l s) ks (Slow at) (extends_slow l s) within
    (rw length-append (omega (arith, is)))

pub settle_pushed : (l : Lists) (ks : List Kept) (lane : LaneNo) (first count : ℕ)
    (rs : List FastRecord) → AllByRecursion (IsWithin l) ks →
    first ≡ length l.records → count ≡ length rs →
    entries_of (with_records l rs) (ks ++ Settle lane first count ∷ [])
    ≡ entries_of l ks ++ entry.Settle lane rs ∷ []
settle_pushed l ks lane first count rs within is counted =
    rw (
      entries_pushed l (with_records l rs) ks (Settle lane first count)
          (extends_records l rs) within,
      is,
      counted,
      part_end l.records rs,
    ) refl

pub call_pushed : (l : Lists) (ks : List Kept) (call first count : ℕ) (x : KeptCall)
    (xs : List ReleasedId) → AllByRecursion (IsWithin l) ks →
    call ≡ length l.calls → first ≡ length l.released → count ≡ length xs →
    entries_of (with_call l x xs) (ks ++ Call call first count ∷ [])
    ≡ entries_of l ks ++ call_of (Some x) xs ∷ []
call_pushed l ks call first count x xs within is first_is counted =
    rw (
      entries_pushed l (with_call l x xs) ks (Call call first count) (extends_call l x xs) within,
      is,
      first_is,
      counted,
      get_end l.calls x,
      part_end l.released xs,
    ) refl

pub kept_length : (xs ys : List KeptRecord) (rs : List FastRecord)
    → map fast_of ys ≡ map fast_of xs ++ rs → length ys ≡ length xs + length rs
kept_length xs ys rs is =
    let lengths : length (map fast_of ys) ≡ length (map fast_of xs ++ rs) = ap length is in
    omega (
      arith,
      lengths,
      length-map ys fast_of,
      length-map xs fast_of,
      length-append (map fast_of xs) rs,
    )

pub entry_at : (l : Lists) (ks : List Kept) (i : ℕ) (k : Kept) → i < length (entries_of l ks)
    → k ≡ get_or ks i k →
    slice_get (entries_of l ks) i ≡ Some (entry_of l k)
entry_at l [] i k within is = absurd (omega arith)
entry_at l (x ∷ ks) zero k within is = ap (λ y. Some (entry_of l y)) (sym is)
entry_at l (x ∷ ks) (suc i) k within is = entry_at l ks i k (omega (arith, within)) is

map_take : {A B : Type 0} (f : A → B) (xs : List A) (n : ℕ) → take n (map f xs) ≡ map f (take n xs)
map_take f xs zero = refl
map_take f [] (suc n) = refl
map_take f (x ∷ xs) (suc n) = ap (λ ys. f x ∷ ys) (map_take f xs n)

pub map_part : {A B : Type 0} (f : A → B) (xs : List A) (first count : ℕ)
    → part (map f xs) first count ≡ map f (part xs first count)
map_part f xs zero count = map_take f xs count
map_part f [] (suc first) count = map_take f [] count
map_part f (x ∷ xs) (suc first) count = map_part f xs first count

-- the entry at a place where j is kept
pub seen_at : (l : Lists) (ks : List Kept) (i : ℕ) (k j : Kept) → i < length (entries_of l ks)
    → k ≡ get_or ks i k → k ≡ j →
    slice_get (entries_of l ks) i ≡ Some (entry_of l j)
seen_at l ks i k j within is same = rw same at (entry_at l ks i k within is)

pub settle_at : (l : Lists) (ks : List Kept) (i : ℕ) (k : Kept) (lane : LaneNo) (first count : ℕ)
    (xs ys : List KeptRecord) (rs : List FastRecord) →
    i < length (entries_of l ks) → k ≡ get_or ks i k → k ≡ Settle lane first count →
    l.records ≡ map fast_of xs → ys ≡ part xs first count → rs ≡ map fast_of ys →
    slice_get (entries_of l ks) i ≡ Some (entry.Settle lane rs)
settle_at l ks i k lane first count xs ys rs within is same records_are part_is rs_are =
    seen_at l ks i k (Settle lane first count) within is same
    ∙ ap (λ zs. Some (entry.Settle lane zs))
    (rw (records_are, map_part fast_of xs first count, ← part_is) (sym rs_are))
