-- What the router does for each of its lanes and daemons, one after another.
use Rattle.std.proofs.Common.{◌≡◌, ℕ, zero, suc, ◌+◌, ◌-◌, ◌<◌, ◌≤◌, Option, Some, None, MatchOption, option_to_list, ap₂, List, [], ◌∷◌, ◌++◌, length, map, take, drop, set, get_or, All, Contains, refl, sym, ap, subst, ◌∙◌, arith, append_assoc, add-one}
use Rattle.std.proofs.lemmas.List.Elements.{All-more, All-weaker, All-get_or, All-contains, All-contains_itself, All-cons, Contains-append_left, Contains-append_right}
use mathlib.Core.List.{IsPrefix}
use Rattle.mr_book.specs.declared.view.Known.{Known}
use Rattle.mr_book.specs.Opening.{Numbers}
use Rattle.mr_book.specs.Rule.{OwnEntries}
use Rattle.mr_book.specs.Views.{met}
use Rattle.mr_book.proofs.Prefixes.{prefix_self, prefix_more}
use Rattle.mr_model.specs.declared.entry.Entry.{Entry}
use Rattle.mr_model.specs.declared.entry.Entry.TheVariants.{EndPhase}
use Rattle.mr_model.specs.declared.limits.Limits.{Limits}
use Rattle.mr_model.specs.Legal.{IsLegal}
use Rattle.mr_authors.specs.Authors.{author, own}
use Rattle.mr_router.specs.Callers.{LaneValue, DaemonValue, new_lane, new_lanes, new_daemon, new_daemons}
use Rattle.mr_router.specs.Histories.{GoesOn, Ends}
use Rattle.mr_router.proofs.Holding.{first_is}
use Rattle.mr_router.specs.Seats.{IsSeatOf, HoldsRouter, AddsEnd, KnowsAll, KnowsCaller}

-- the first i of them changed
abbrev pub changed_to : {X : Type 0} → (X → X) → ℕ → List X → List X
changed_to f i xs = map f (take i xs) ++ drop i xs

pub changed_at : {X : Type 0} (f : X → X) (i : ℕ) (xs : List X) (d : X) → get_or (changed_to f i xs) i d ≡ get_or xs i d
changed_at f zero xs d = refl
changed_at f (suc i) [] d = refl
changed_at f (suc i) (x ∷ xs) d = changed_at f i xs d

pub changed_more : {X : Type 0} (f : X → X) (i : ℕ) (xs : List X) (d : X) → i < length xs → set (changed_to f i xs) i (f (get_or xs i d)) ≡ changed_to f (suc i) xs
changed_more f i [] d le = absurd (omega arith)
changed_more f zero (x ∷ xs) d le = refl
changed_more f (suc i) (x ∷ xs) d le = ap (λ ys. f x ∷ ys) (changed_more f i xs d (omega arith))

pub changed_none : {X : Type 0} (f : X → X) (xs : List X) → changed_to f 0 xs ≡ xs
changed_none f xs = refl

pub changed_all : {X : Type 0} (f : X → X) (xs : List X) → changed_to f (length xs) xs ≡ map f xs
changed_all f [] = refl
changed_all f (x ∷ xs) = ap (λ ys. f x ∷ ys) (changed_all f xs)

pub changed_was : {X : Type 0} (f : X → X) (i : ℕ) (xs ys : List X) (d : X) → ys ≡ changed_to f i xs → get_or ys i d ≡ get_or xs i d
changed_was f i xs ys d ys_is = ap (λ zs. get_or zs i d) ys_is ∙ changed_at f i xs d

-- one more of them is changed to `y`
pub changed_step : {X : Type 0} (f : X → X) (i : ℕ) (xs ys : List X) (d y : X) → i < length xs → ys ≡ changed_to f i xs → y ≡ f (get_or ys i d) → set ys i y ≡ changed_to f (i + 1) xs
changed_step f i xs ys d y le ys_is y_is =
    let new : y ≡ f (get_or xs i d) = y_is ∙ ap f (changed_was f i xs ys d ys_is) in
    let more : set (changed_to f i xs) i (f (get_or xs i d)) ≡ changed_to f (suc i) xs = changed_more f i xs d le in
    let there : set ys i y ≡ set (changed_to f i xs) i (f (get_or xs i d)) = ap (λ zs. set zs i y) ys_is ∙ ap (λ z. set (changed_to f i xs) i z) new in
    there ∙ more ∙ ap (λ n. changed_to f n xs) (sym (add-one i))

pub changed_whole : {X : Type 0} (f : X → X) (i : ℕ) (xs : List X) → length xs ≤ i → i ≤ length xs → changed_to f i xs ≡ map f xs
changed_whole f i xs over within =
    let whole : i ≡ length xs = omega arith in ap (λ n. changed_to f n xs) whole ∙ changed_all f xs

-- one that stays as it is
set_own : {X : Type 0} (i : ℕ) (xs : List X) (d : X) → i < length xs → set xs i (get_or xs i d) ≡ xs
set_own i [] d le = absurd (omega arith)
set_own zero (x ∷ xs) d le = refl
set_own (suc i) (x ∷ xs) d le = ap (λ ys. x ∷ ys) (set_own i xs d (omega arith))

pub same_step : {X : Type 0} (i : ℕ) (xs ys : List X) (d y : X) → i < length xs → ys ≡ xs → y ≡ get_or ys i d → set ys i y ≡ xs
same_step i xs ys d y le ys_is y_is =
    ap (λ zs. set zs i y) ys_is ∙ ap (λ z. set xs i z) (y_is ∙ ap (λ zs. get_or zs i d) ys_is) ∙ set_own i xs d le

-- all of them
take_whole : {X : Type 0} (i : ℕ) (xs : List X) → length xs ≤ i → take i xs ≡ xs
take_whole zero [] le = refl
take_whole zero (x ∷ xs) le = absurd (omega arith)
take_whole (suc i) [] le = refl
take_whole (suc i) (x ∷ xs) le = ap (λ ys. x ∷ ys) (take_whole i xs (omega arith))

pub all_whole : {X : Type 0} (P : X → Type 0) (i : ℕ) (xs : List X) → length xs ≤ i → All P (take i xs) → All P xs
all_whole P i xs le all = subst (All P) (take_whole i xs le) all

pub prefix_trans : {X : Type 0} (xs ys zs : List X) → IsPrefix xs ys → IsPrefix ys zs → IsPrefix xs zs
prefix_trans xs ys zs p q = (p.0 ++ q.0, sym (append_assoc xs p.0 q.0) ∙ ap (λ w. w ++ q.0) p.1 ∙ q.1)

-- what was seen by some is seen in a longer history
pub seen_more : {X : Type 0} (seen : X → List Entry) (g h : List Entry) (xs : List X) → IsPrefix g h → All (λ x. IsPrefix (seen x) g) xs → All (λ x. IsPrefix (seen x) h) xs
seen_more seen g h xs longer all =
    All-weaker (λ x. IsPrefix (seen x) g) (λ x. IsPrefix (seen x) h) (λ x p. prefix_trans (seen x) g h p longer) xs all

-- seats that meet
pub knows_self : (k : Known Entry) → KnowsAll k k
knows_self k = record { begins = prefix_self k.seen; owns = All-contains_itself k.owns }

pub knows_all_more : (k w o : Known Entry) → IsPrefix k.seen (met k w).seen → KnowsAll k o → KnowsAll (met k w) o
knows_all_more k w o longer all = record {
  begins = prefix_trans o.seen k.seen (met k w).seen all.begins longer;
  owns = All-weaker (Contains k.owns) (Contains (met k w).owns) (λ x at. Contains-append_left k.owns w.owns x at) o.owns all.owns;
}

pub knows_more : (k w : Known Entry) (n : ℕ) (seen : List Entry) → IsPrefix k.seen (met k w).seen → KnowsCaller k n seen → KnowsCaller (met k w) n seen
knows_more k w n seen longer one = record {
  begins = prefix_trans seen k.seen (met k w).seen one.begins longer;
  own = Contains-append_left k.owns w.owns (n, own n seen) one.own;
}

alone : (owns : List (ℕ × List Entry)) (x : ℕ × List Entry) → owns ≡ x ∷ [] → Contains owns x
alone owns x is = subst (λ os. Contains os x) (sym is) (zero, omega arith, refl)

pub knows_new : (k w : Known Entry) (n : ℕ) (seen : List Entry) → IsSeatOf n w → w.seen ≡ seen → IsPrefix w.seen (met k w).seen → KnowsCaller (met k w) n seen
knows_new k w n seen seat is longer = record {
  begins = subst (λ s. IsPrefix s (met k w).seen) is longer;
  own = Contains-append_right k.owns w.owns (n, own n seen) (alone w.owns (n, own n seen) (seat.owns ∙ ap (λ s. (n, own n s) ∷ []) is));
}

pub knows_through : (k w : Known Entry) (n : ℕ) (seen : List Entry) → KnowsAll k w → KnowsCaller w n seen → KnowsCaller k n seen
knows_through k w n seen all one = record {
  begins = prefix_trans seen w.seen k.seen one.begins all.begins;
  own = All-contains (Contains k.owns) w.owns (n, own n seen) all.owns one.own;
}

-- the book is closed with a seat that knows a caller
pub closes : (limits : Limits) (k : Known Entry) (h : List Entry) (n : ℕ) (seen : List Entry) → IsPrefix k.seen h → OwnEntries author k.owns h → IsLegal limits h → KnowsCaller k n seen → GoesOn limits n seen h
closes limits k h n seen begins owns legal one = record {
  begins = prefix_trans seen k.seen h one.begins begins;
  own = All-contains (λ (x : ℕ × List Entry). own x.0 h ≡ x.1) k.owns (n, own n seen) owns one.own;
  legal = legal;
}

pub knows_router : (k : Known Entry) → HoldsRouter k → KnowsCaller k 0 k.seen
knows_router k holds = record {
  begins = prefix_self k.seen;
  own = subst (λ os. Contains os (0, own 0 k.seen)) (sym holds.owns) (zero, omega arith, refl);
}

-- the end of a phase
pub adds_begins : (limits : Limits) (k s : Known Entry) → AddsEnd limits k s → IsPrefix k.seen s.seen
adds_begins limits k s a = subst (IsPrefix k.seen) (sym a.seen) (prefix_more k.seen a.before (EndPhase ∷ []) a.begins)

pub phase_ends : (limits : Limits) (k two s : Known Entry) (lanes : List LaneValue) (daemons : List DaemonValue) → HoldsRouter k → two.owns ≡ k.owns → IsPrefix k.seen two.seen → AddsEnd limits two s → All (λ l. IsPrefix l.seen two.seen) lanes → All (λ d. IsPrefix d.seen two.seen) daemons → Ends limits k.seen s.seen lanes daemons
phase_ends limits k two s lanes daemons holds owns longer a of_lanes of_daemons =
    let mine = first_is k two holds owns in
    record {
      before = a.before;
      later = record { begins = prefix_trans k.seen two.seen a.before longer a.begins; own = a.own_before ∙ mine; legal = a.legal_before };
      of_lanes = seen_more (λ (l : LaneValue). l.seen) two.seen a.before lanes a.begins of_lanes;
      of_daemons = seen_more (λ (d : DaemonValue). d.seen) two.seen a.before daemons a.begins of_daemons;
      seen = a.seen;
      own = a.own_after ∙ ap (λ (es : List Entry). es ++ EndPhase ∷ []) mine;
      legal = a.legal;
    }

-- the next number is dealt
abbrev numbers_of : ℕ → ℕ → Numbers
numbers_of next left = record { next = next; left = left }

pub numbers_step : (n : Numbers) (a b m : ℕ) → n ≡ record { next = a + m; left = b - m } → ◌≡◌ {A = Numbers} (record { next = n.next + 1; left = n.left - 1 }) (record { next = a + (m + 1); left = b - (m + 1) })
numbers_step n a b m is =
    let next : n.next + 1 ≡ a + (m + 1) = omega (arith, ap (λ (k : Numbers). k.next) is) in
    let left : n.left - 1 ≡ b - (m + 1) = omega (arith, ap (λ (k : Numbers). k.left) is) in
    ap₂ numbers_of next left

-- the last of some is taken away
pub popped : {V : Type 0} (all before after gone : List V) (x : V) (r : Option V) → all ≡ before ++ gone → before ≡ after ++ option_to_list r → r ≡ Some x → all ≡ after ++ (x ∷ gone)
popped all before after gone x r whole parts is =
    whole ∙ ap (λ b. b ++ gone) (parts ∙ ap (λ o. after ++ option_to_list o) is) ∙ append_assoc after (x ∷ []) gone

-- some that have no last
pub drained : {V : Type 0} (before after : List V) (n m : ℕ) (r : Option V) (R : V → Type 0) → r ≡ None → before ≡ after ++ option_to_list r → after ≡ take (n - 1) before → MatchOption r ((n ≡ 0) × (m ≡ 0)) R → before ≡ []
drained before after n m r R none parts rest cases =
    let empty : n ≡ 0 = (subst (λ o. MatchOption o ((n ≡ 0) × (m ≡ 0)) R) none cases).0 in
    let no_more : n - 1 ≡ 0 = omega (arith, empty) in
    let nothing : after ≡ [] = rest ∙ ap (λ k. take k before) no_more in
    parts ∙ ap (λ o. after ++ option_to_list o) none ∙ ap (λ xs. xs ++ []) nothing

-- one more is made
abbrev made_lane : ℕ → List Entry → LaneValue
made_lane n seen = record { lane = record { 0 = n }; seen = seen }

pub lanes_step : (i : ℕ) (xs ys : List LaneValue) (seen : List Entry) → xs ≡ new_lanes i → seen ≡ [] → ys ≡ xs ++ record { lane = record { 0 = i + 1 }; seen = seen } ∷ [] → ys ≡ new_lanes (i + 1)
lanes_step i xs ys seen xs_is none is =
    let last : new_lanes i ++ new_lane (i + 1) ∷ [] ≡ new_lanes (i + 1) = rw (add-one i) refl in
    is ∙ ap (λ zs. zs ++ made_lane (i + 1) seen ∷ []) xs_is ∙ ap (λ s. new_lanes i ++ made_lane (i + 1) s ∷ []) none ∙ last

abbrev made_daemon : ℕ → List Entry → DaemonValue
made_daemon n seen = record { daemon = record { 0 = n }; seen = seen }

pub daemons_step : (i : ℕ) (xs ys : List DaemonValue) (seen : List Entry) → xs ≡ new_daemons i → seen ≡ [] → ys ≡ xs ++ record { daemon = record { 0 = i + 1 }; seen = seen } ∷ [] → ys ≡ new_daemons (i + 1)
daemons_step i xs ys seen xs_is none is =
    let last : new_daemons i ++ new_daemon (i + 1) ∷ [] ≡ new_daemons (i + 1) = rw (add-one i) refl in
    is ∙ ap (λ zs. zs ++ made_daemon (i + 1) seen ∷ []) xs_is ∙ ap (λ s. new_daemons i ++ made_daemon (i + 1) s ∷ []) none ∙ last
