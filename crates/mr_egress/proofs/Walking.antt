-- A walk over the entries writes the copies of the unfolded history.
use Rattle.std.proofs.Common.{◌≡◌, refl, sym, ap, ◌∙◌, ℕ, zero, suc, ◌+◌, ◌<◌, ◌≤◌, ◌==◌, Bool, true, false, Some, List, [], ◌∷◌, ◌++◌, length, map, filter, flat_map, take, drop, slice_get, arith, if◌then◌else◌, append-nil, append_assoc, add-one, subst, ◌^◌}
use Rattle.std.proofs.lemmas.List.{length-take-le}
use Rattle.std.proofs.lemmas.List.Concat.{flat_map-append}
use Rattle.std.proofs.lemmas.List.Elements.{filter-append}
use Rattle.mr_base.specs.declared.vif_record.VifRecord.{VifRecord}
use Rattle.mr_egress.proofs.Listing.{take_found}
use Rattle.mr_load.specs.Dues.{LaneValue}
use Rattle.mr_model.specs.declared.entry.Entry.{Entry}
use Rattle.mr_model.specs.declared.entry.Entry.TheVariants.{Settle}
use Rattle.mr_model.specs.declared.entry.FastRecord.{FastRecord}
use Rattle.mr_model.specs.declared.limits.Limits.{Limits}
use Rattle.mr_model.specs.declared.step.Step.{Step}
use Rattle.mr_model.specs.declared.step.Step.TheVariants.{Fast, Kept}
use Rattle.mr_model.specs.Unfolded.{fast_in, fast_at, unfolded_from}
use Rattle.mr_model.specs.Vifs.{vifs}
use Rattle.mr_egress.specs.declared.fast.FastSent.{FastSent}
use Rattle.mr_egress.specs.Copies.{copies, copies_from, copies_in, copies_of}
use Rattle.mr_egress.specs.FastOrder.{fast_of, fast_sent, sees, SameFrom}
use Rattle.mr_egress.specs.Files.{records_of}
use Rattle.mr_egress.specs.Places.{Place, place_of}
use Rattle.mr_model.specs.Legal.{IsLegal, Agrees}
use Rattle.mr_model.proofs.Pushing.{legal_at, state_count}
use Rattle.mr_egress.proofs.CopiesWritten.{records-append, records_flat}

-- the copies of a fast packet
abbrev pub of_sent : List LaneValue → ℕ → List VifRecord → FastSent → List (List ℕ)
of_sent lanes dev vs p = copies_of lanes dev vs p.lane p.index p.outs

abbrev seen : Limits → List LaneValue → ℕ → List Entry → ℕ → List FastSent → List (List ℕ)
seen limits lanes dev g n ps = flat_map (of_sent lanes dev (vifs limits g)) (filter (sees n) ps)

-- the copies of the records of one entry with look n, and of the steps behind them
entry_seen : (limits : Limits) (lanes : List LaneValue) (dev : ℕ) (g : List Entry) (n : ℕ) (e : Entry) (steps : List Step)
    → copies_from limits lanes dev g (fast_in n e ++ steps)
    ≡ seen limits lanes dev g n (fast_of e) ++ copies_from limits lanes dev g steps
entry_seen limits lanes dev g n (Settle lane records) steps = of records
  where
    of : (rs : List FastRecord) → copies_from limits lanes dev g (map (λ r. Fast lane r) (filter (λ r. r.look == n) rs) ++ steps)
        ≡ seen limits lanes dev g n (map (fast_sent lane) rs) ++ copies_from limits lanes dev g steps
    of [] = refl
    of (r ∷ rs) = by (r.look == n) (of rs)
      where
        by : (b : Bool) → copies_from limits lanes dev g (map (λ x. Fast lane x) (filter (λ x. x.look == n) rs) ++ steps)
            ≡ seen limits lanes dev g n (map (fast_sent lane) rs) ++ copies_from limits lanes dev g steps →
            copies_from limits lanes dev g (map (λ x. Fast lane x) (if b then r ∷ filter (λ x. x.look == n) rs
            else filter (λ x. x.look == n) rs) ++ steps)
            ≡ flat_map (of_sent lanes dev (vifs limits g)) (if b then fast_sent lane r ∷ filter (sees n) (map (fast_sent lane) rs)
            else filter (sees n) (map (fast_sent lane) rs)) ++ copies_from limits lanes dev g steps
        by true more =
            ap (λ cs. of_sent lanes dev (vifs limits g) (fast_sent lane r) ++ cs) more
            ∙ sym (append_assoc (of_sent lanes dev (vifs limits g) (fast_sent lane r)) _ _)
        by false more = more
entry_seen limits lanes dev g n e steps = refl

-- those of all records with look n
all_seen : (limits : Limits) (lanes : List LaneValue) (dev : ℕ) (g : List Entry) (n : ℕ) (h : List Entry) (steps : List Step)
    → copies_from limits lanes dev g (fast_at n h ++ steps)
    ≡ seen limits lanes dev g n (flat_map fast_of h) ++ copies_from limits lanes dev g steps
all_seen limits lanes dev g n [] steps = refl
all_seen limits lanes dev g n (e ∷ h) steps =
    let of = of_sent lanes dev (vifs limits g) in
    ap (λ ss. copies_from limits lanes dev g ss) (append_assoc (fast_in n e) (fast_at n h) steps)
    ∙ entry_seen limits lanes dev g n e (fast_at n h ++ steps)
    ∙ ap (λ cs. seen limits lanes dev g n (fast_of e) ++ cs) (all_seen limits lanes dev g n h steps)
    ∙ sym (append_assoc (seen limits lanes dev g n (fast_of e)) (seen limits lanes dev g n (flat_map fast_of h)) _)
    ∙ ap (λ cs. cs ++ copies_from limits lanes dev g steps)
    (sym (ap (λ ps. flat_map of ps) (filter-append (sees n) (fast_of e) (flat_map fast_of h))
    ∙ flat_map-append of (filter (sees n) (fast_of e)) (filter (sees n) (flat_map fast_of h))))

drop_found : {A : Type 0} (xs : List A) (i : ℕ) (x : A) → slice_get xs i ≡ Some x → drop i xs ≡ x ∷ drop (suc i) xs
drop_found [] i x is = absurd cc
drop_found (y ∷ ys) zero x is = some_head y x ys is
  where
    some_head : {A : Type 0} (y x : A) (ys : List A) → Some y ≡ Some x → y ∷ ys ≡ x ∷ ys
    some_head y x ys is = cc
drop_found (y ∷ ys) (suc i) x is = drop_found ys i x is

-- what is written, and the copies of what is left, are those of the whole history
abbrev pub AreSoFar : Limits → List LaneValue → ℕ → List Entry → List ℕ → ℕ → List ℕ → Type 0
AreSoFar limits lanes dev h before i bytes =
    bytes ++ records_of (copies_from limits lanes dev (take i h) (unfolded_from h i (drop i h)))
    ≡ before ++ records_of (copies limits lanes h dev)

-- the fast packets that saw the entries so far, and one entry more
pub walk_more : (limits : Limits) (lanes : List LaneValue) (dev : ℕ) (h : List Entry) (before : List ℕ) (i : ℕ) (e : Entry)
    (bytes : List ℕ) (rest : List FastSent) → slice_get h i ≡ Some e → SameFrom i rest (flat_map fast_of h)
    → AreSoFar limits lanes dev h before i bytes
    → AreSoFar limits lanes dev h before (i + 1)
    ((bytes ++ records_of (flat_map (of_sent lanes dev (vifs limits (take i h))) (filter (sees i) rest)))
    ++ records_of (copies_in lanes dev (vifs limits (take i h)) e))
walk_more limits lanes dev h before i e bytes rest is same so_far =
    let g = take i h in
    let left : List Step = unfolded_from h (i + 1) (drop (i + 1) h) in
    let next : drop i h ≡ e ∷ drop (i + 1) h = rw add-one (drop_found h i e is) in
    let fast : List (List ℕ) = flat_map (of_sent lanes dev (vifs limits g)) (filter (sees i) rest) in
    let kept : List (List ℕ) = copies_in lanes dev (vifs limits g) e in
    let more : List (List ℕ) = copies_from limits lanes dev (take (i + 1) h) left in
    let split : copies_from limits lanes dev g (unfolded_from h i (drop i h)) ≡ fast ++ (kept ++ more) =
    ap (λ es. copies_from limits lanes dev g (unfolded_from h i es)) next
    ∙ all_seen limits lanes dev g i h (Kept e ∷ left)
    ∙ ap (λ ps. flat_map (of_sent lanes dev (vifs limits g)) ps ++ (kept ++ copies_from limits lanes dev (g ++ e ∷ []) left))
    (sym (same i (omega arith)))
    ∙ ap (λ k. fast ++ (kept ++ copies_from limits lanes dev k left)) (sym (take_found h i e is)) in
    let bytes_split : records_of (fast ++ (kept ++ more)) ≡ records_of fast ++ (records_of kept ++ records_of more) =
    records-append fast (kept ++ more) ∙ ap (λ bs. records_of fast ++ bs) (records-append kept more) in
    append_assoc (bytes ++ records_of fast) (records_of kept) (records_of more)
    ∙ append_assoc bytes (records_of fast) (records_of kept ++ records_of more)
    ∙ ap (λ bs. bytes ++ bs) (sym bytes_split)
    ∙ ap (λ cs. bytes ++ records_of cs) (sym split)
    ∙ so_far

drop_past : {A : Type 0} (xs : List A) (i : ℕ) → length xs ≤ i → drop i xs ≡ []
drop_past [] zero past = refl
drop_past [] (suc i) past = refl
drop_past (x ∷ xs) zero past = absurd (omega arith)
drop_past (x ∷ xs) (suc i) past = drop_past xs i (omega (arith, past))

-- and those that saw all entries
pub walk_last : (limits : Limits) (lanes : List LaneValue) (dev : ℕ) (h : List Entry) (before : List ℕ) (i : ℕ)
    (bytes : List ℕ) (rest : List FastSent) → length h ≤ i → SameFrom i rest (flat_map fast_of h)
    → AreSoFar limits lanes dev h before i bytes
    → bytes ++ records_of (flat_map (of_sent lanes dev (vifs limits (take i h))) (filter (sees i) rest))
    ≡ before ++ records_of (copies limits lanes h dev)
walk_last limits lanes dev h before i bytes rest past same so_far =
    let g = take i h in
    let fast : List (List ℕ) = flat_map (of_sent lanes dev (vifs limits g)) (filter (sees i) rest) in
    let all : copies_from limits lanes dev g (unfolded_from h i (drop i h)) ≡ fast =
    ap (λ es. copies_from limits lanes dev g (unfolded_from h i es)) (drop_past h i past)
    ∙ ap (λ ss. copies_from limits lanes dev g ss) (sym (append-nil (fast_at i h)))
    ∙ all_seen limits lanes dev g i h []
    ∙ append-nil (seen limits lanes dev g i (flat_map fast_of h))
    ∙ ap (λ ps. flat_map (of_sent lanes dev (vifs limits g)) ps) (sym (same i (omega arith))) in
    ap (λ cs. bytes ++ records_of cs) (sym all) ∙ so_far

-- one turn of the walk, as its parts are written
pub walk_step : (limits : Limits) (lanes : List LaneValue) (dev : ℕ) (h : List Entry) (before : List ℕ) (i : ℕ) (e : Entry)
    (bytes mid new : List ℕ) (rest : List FastSent) (at : Place) → slice_get h i ≡ Some e
    → SameFrom i rest (flat_map fast_of h) → at ≡ place_of limits dev (take i h)
    → mid ≡ bytes ++ flat_map (λ p. records_of (of_sent lanes at.device at.vifs p)) (filter (sees i) rest)
    → new ≡ mid ++ records_of (copies_in lanes at.device at.vifs e)
    → AreSoFar limits lanes dev h before i bytes → AreSoFar limits lanes dev h before (i + 1) new
walk_step limits lanes dev h before i e bytes mid new rest at is same at_is mid_is new_is so_far =
    let g = take i h in
    let fast : List FastSent = filter (sees i) rest in
    let first : mid ≡ bytes ++ records_of (flat_map (of_sent lanes dev (vifs limits g)) fast) =
    mid_is ∙ ap (λ (p : Place). bytes ++ flat_map (λ x. records_of (of_sent lanes p.device p.vifs x)) fast) at_is
    ∙ ap (λ bs. bytes ++ bs) (records_flat (of_sent lanes dev (vifs limits g)) fast) in
    let second : new ≡ (bytes ++ records_of (flat_map (of_sent lanes dev (vifs limits g)) fast))
    ++ records_of (copies_in lanes dev (vifs limits g) e) =
    new_is ∙ ap (λ (p : Place). mid ++ records_of (copies_in lanes p.device p.vifs e)) at_is
    ∙ ap (λ bs. bs ++ records_of (copies_in lanes dev (vifs limits g) e)) first in
    ap (λ bs. bs ++ records_of (copies_from limits lanes dev (take (i + 1) h) (unfolded_from h (i + 1) (drop (i + 1) h)))) second
    ∙ walk_more limits lanes dev h before i e bytes rest is same so_far

-- the end of the walk
pub walk_end : (limits : Limits) (lanes : List LaneValue) (dev : ℕ) (h : List Entry) (before : List ℕ) (i n : ℕ)
    (bytes new : List ℕ) (rest : List FastSent) (at : Place) → n ≡ i → length h ≤ i
    → SameFrom i rest (flat_map fast_of h) → at ≡ place_of limits dev (take i h)
    → new ≡ bytes ++ flat_map (λ p. records_of (of_sent lanes at.device at.vifs p)) (filter (sees n) rest)
    → AreSoFar limits lanes dev h before i bytes → new ≡ before ++ records_of (copies limits lanes h dev)
walk_end limits lanes dev h before i n bytes new rest at last past same at_is new_is so_far =
    let g = take i h in
    new_is ∙ ap (λ k. bytes ++ flat_map (λ x. records_of (of_sent lanes at.device at.vifs x)) (filter (sees k) rest)) last
    ∙ ap (λ (p : Place). bytes ++ flat_map (λ x. records_of (of_sent lanes p.device p.vifs x)) (filter (sees i) rest)) at_is
    ∙ ap (λ bs. bytes ++ bs) (records_flat (of_sent lanes dev (vifs limits g)) (filter (sees i) rest))
    ∙ walk_last limits lanes dev h before i bytes rest past same so_far

split_at : {A : Type 0} (xs : List A) (i : ℕ) (x : A) → slice_get xs i ≡ Some x → xs ≡ take i xs ++ x ∷ drop (suc i) xs
split_at [] i x is = absurd cc
split_at (y ∷ ys) zero x is = same y x ys is
  where
    same : {A : Type 0} (y x : A) (ys : List A) → Some y ≡ Some x → y ∷ ys ≡ x ∷ ys
    same y x ys is = cc
split_at (y ∷ ys) (suc i) x is = ap (λ zs. y ∷ zs) (split_at ys i x is)

-- an entry of a legal history agrees with those before it
pub agrees_at : (limits : Limits) (h : List Entry) (i : ℕ) (e : Entry) → IsLegal limits h → slice_get h i ≡ Some e
    → Agrees limits (take i h) e
agrees_at limits h i e legal is =
    legal_at limits (take i h) e (drop (suc i) h) (subst (λ (k : List Entry). IsLegal limits k) (split_at h i e is) legal)

pub count_at : (limits : Limits) (dev : ℕ) (h : List Entry) (i : ℕ) (at : Place) → at ≡ place_of limits dev (take i h)
    → i < length h → length h ≤ 2 ^ 24 → at.count < 2 ^ 24
count_at limits dev h i at is within few =
    let count : at.count ≡ i = ap (λ (p : Place). p.count) is ∙ state_count limits (take i h)
    ∙ length-take-le i h (omega (arith, within)) in
    omega (arith, count, within, few)
