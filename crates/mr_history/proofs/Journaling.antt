-- One more entry in what a journal keeps.
use Rattle.std.proofs.Common.{◌≡◌, refl, sym, ap, ◌∙◌, ℕ, zero, suc, ◌+◌, ◌-◌, ◌*◌, ◌<◌, ◌≤◌, ◌==◌}
use Rattle.std.proofs.Common.{Bool, true, false, if◌then◌else◌, List, [], ◌∷◌, ◌++◌, length, arith}
use Rattle.std.proofs.Common.{get_or, slice_set, slice_index, subst, sum, append-nil, map}
use Rattle.std.proofs.Common.{option_map, Option, None}
use Rattle.std.proofs.lemmas.Bool.{eqb-true, eqb-false}
use Rattle.std.proofs.lemmas.List.{length-append, length-map}
use Rattle.std.proofs.lemmas.List.Sums.{sum_by-set}
use Rattle.std.proofs.Math.ListN.{length-set}
use Rattle.std.specs.List.{AllByRecursion}
use Rattle.mr_base.specs.declared.numbers.LaneNo.{LaneNo}
use Rattle.mr_model.specs.declared.entry.Entry.{Entry}
use Rattle.mr_model.specs.declared.entry.FastRecord.{FastRecord}
use Rattle.mr_model.specs.declared.entry.ReleasedId.{ReleasedId}
use Rattle.mr_model.specs.declared.limits.Limits.{Limits}
use Rattle.mr_model.specs.declared.outcome.Outcome.{Outcome}
use Rattle.mr_model.specs.declared.outcome.Outcome.TheVariants as outcome
use Rattle.mr_model.specs.Counts.{met, met_in, met_by, met_fast}
use Rattle.mr_model.specs.Past.{is_control, is_end, is_of_lane, packets_in, packets}
use Rattle.mr_model.specs.Legal.{IsLane, packets_given}
use Rattle.mr_model.proofs.PushingLists.{met_push, controls_push, phases_push, packets_push}
use Rattle.mr_history.specs.declared.store.Spare.{Spare}
use Rattle.mr_model.specs.declared.reply.RouteTotals.{RouteTotals}
use Rattle.mr_history.specs.declared.totals.Totals.{Totals}
use Rattle.mr_history.specs.declared.totals.VifKept.{VifKept}
use Rattle.mr_history.specs.Fits.{FitsLimits}
use Rattle.mr_history.specs.StoreValues.{LeavesRoom}
use Rattle.mr_history.specs.Keeping.{IsLeft, HasSpace, IsMetWithin, IsCounted}
use Rattle.mr_history.specs.Journals.{NamesUpTo}
use Rattle.mr_history.specs.Numbers.{numbers_of, NumberedValue}
use Rattle.mr_history.specs.Totals.{AreShort, AreTotals, AreFew, AreRoutes, IsIn, IsOut, SameKept}
use Rattle.mr_history.specs.Totals.{released_mets, vif_at}
use Rattle.mr_history.proofs.Numbering.{all_weaker}
use Rattle.mr_history.proofs.Gathering.{all_append}

pub left_control : (limits : Limits) (h : List Entry) (e : Entry) (cl pl : ℕ) (ks : List ℕ)
    → IsLeft limits h cl pl ks → is_control e ≡ true → is_end e ≡ false →
    ((lane : LaneNo) → is_of_lane lane e ≡ false) → 1 ≤ cl
    → IsLeft limits (h ++ e ∷ []) (cl - 1) pl ks
left_control limits h e cl pl ks left control ends other some = record {
  lanes = left.lanes;
  controls_are = rw (controls_push h e, control) (omega (arith, left.controls_are, some));
  phases_are = rw (phases_push h e, ends) (omega (arith, left.phases_are));
  packets_are = λ lane is. rw (packets_push lane h e, other lane)
      (omega (arith, left.packets_are lane is));
}

pub left_phase : (limits : Limits) (h : List Entry) (e : Entry) (cl pl : ℕ) (ks : List ℕ)
    → IsLeft limits h cl pl ks → is_control e ≡ false → is_end e ≡ true →
    ((lane : LaneNo) → is_of_lane lane e ≡ false) → 1 ≤ pl
    → IsLeft limits (h ++ e ∷ []) cl (pl - 1) ks
left_phase limits h e cl pl ks left control ends other some = record {
  lanes = left.lanes;
  controls_are = rw (controls_push h e, control) (omega (arith, left.controls_are));
  phases_are = rw (phases_push h e, ends) (omega (arith, left.phases_are, some));
  packets_are = λ lane is. rw (packets_push lane h e, other lane)
      (omega (arith, left.packets_are lane is));
}

set_same : (ks : List ℕ) (i v : ℕ) → i < length ks → slice_index (slice_set ks i v) i ≡ v
set_same [] i v within = absurd (omega arith)
set_same (k ∷ ks) zero v within = refl
set_same (k ∷ ks) (suc i) v within = set_same ks i v (omega (arith, within))

set_other : (ks : List ℕ) (i j v : ℕ) → (i ≡ j → ⊥)
    → slice_index (slice_set ks i v) j ≡ slice_index ks j
set_other [] i j v other = refl
set_other (k ∷ ks) zero zero v other = absurd (other refl)
set_other (k ∷ ks) zero (suc j) v other = refl
set_other (k ∷ ks) (suc i) zero v other = refl
set_other (k ∷ ks) (suc i) (suc j) v other = set_other ks i j v (λ same. other (ap suc same))

abbrev lane_no : ℕ → LaneNo
lane_no n = record { 0 = n }

lane_of : (a b : LaneNo) → a.0 ≡ b.0 → a ≡ b
lane_of a b same = numbered same
  where
    numbered : {m n : ℕ} → m ≡ n → lane_no m ≡ lane_no n
    numbered e = rw e refl

pub left_lane : (limits : Limits) (h : List Entry) (e : Entry) (cl pl : ℕ) (ks : List ℕ)
    (lane : LaneNo) (n : ℕ) → IsLeft limits h cl pl ks →
    is_control e ≡ false → is_end e ≡ false → ((l : LaneNo) → is_of_lane l e ≡ (lane.0 == l.0))
    → packets_in e ≡ n → IsLane limits lane →
    packets lane h + n ≤ packets_given limits lane →
    IsLeft limits (h ++ e ∷ []) cl pl (slice_set ks (lane.0 - 1) (slice_index ks (lane.0 - 1) - n))
left_lane limits h e cl pl ks lane n left control ends own count is_lane room = record {
  lanes = rw length-set left.lanes;
  controls_are = rw (controls_push h e, control) (omega (arith, left.controls_are));
  phases_are = rw (phases_push h e, ends) (omega (arith, left.phases_are));
  packets_are = λ l is. rw (packets_push l h e, own l, count) (by l is (lane.0 == l.0) refl);
}
  where
    by : (l : LaneNo) → IsLane limits l → (b : Bool) → (lane.0 == l.0) ≡ b →
        packets l h + (if b then n else 0) + slice_index
        (slice_set ks (lane.0 - 1) (slice_index ks (lane.0 - 1) - n)) (l.0 - 1)
        ≡ packets_given limits l
    by l is true same =
        subst (λ (x : LaneNo). packets x h + n + slice_index
        (slice_set ks (lane.0 - 1) (slice_index ks (lane.0 - 1) - n)) (x.0 - 1)
        ≡ packets_given limits x)
        (lane_of lane l (eqb-true lane.0 l.0 same))
        (rw (set_same ks (lane.0 - 1) (slice_index ks (lane.0 - 1) - n)
        (omega (arith, left.lanes, is_lane.first, is_lane.last)))
        (omega (arith, left.packets_are lane is_lane, room)))
    by l is false other =
        let differ : lane.0 ≡ l.0 → ⊥ = eqb-false lane.0 l.0 other in
        rw (set_other ks (lane.0 - 1) (l.0 - 1) (slice_index ks (lane.0 - 1) - n)
        (λ same. differ (omega (arith, same, is_lane.first, is.first))))
        (omega (arith, left.packets_are l is))

pub sum_less : (ks : List ℕ) (i n : ℕ) → i < length ks → n ≤ slice_index ks i
    → sum (slice_set ks i (slice_index ks i - n)) + n ≡ sum ks
sum_less ks i n within less = let all =
    sum_by-set (λ k. k) ks i (slice_index ks i - n) 0 within in omega (arith, all, less)

pub space_push : (h : List Entry) (e : Entry) (old new : Spare) (cl pl cm pm dc dp n p c r : ℕ)
    (ks js : List ℕ) → HasSpace h old cl pl ks →
    LeavesRoom old new 1 p c r → cm + dc ≡ cl → pm + dp ≡ pl → sum js + n ≡ sum ks → p ≤ n
    → c ≤ dc → r ≤ 4 * dc → 1 ≤ dc + dp + n →
    length (met_in h e) ≤ n + 4 * dc → HasSpace (h ++ e ∷ []) new cm pm js
space_push h e old new cl pl cm pm dc dp n p c r ks js space leaves cs ps ns p_most c_most r_most
    some mets =
    let met_length : length (met (h ++ e ∷ [])) ≡ length (met h) + length (met_in h e) =
    rw (met_push h e) (length-append (met h) (met_in h e)) in
    let longer : length (h ++ e ∷ []) ≡ length h + 1 = length-append h (e ∷ []) in
    record {
      entries = omega (arith, space.entries, leaves.entries_left, cs, ps, ns, some);
      packets = omega (arith, space.packets, leaves.packets_left, ns, p_most);
      calls = omega (arith, space.calls, leaves.calls_left, cs, c_most);
      released = omega (arith, space.released, leaves.released_left, cs, r_most);
      few_met = omega (arith, space.few_met, met_length, mets, cs, ns);
      few = omega (arith, space.few, longer, cs, ps, ns, some);
    }

pub counted_push : (limits : Limits) (h : List Entry) (e : Entry) (t u : Totals)
    → IsCounted limits h t → AreShort (met_in h e) →
    AllByRecursion (IsMetWithin (length h + 1)) (met_in h e) → AreTotals u (met h ++ met_in h e)
    → SameKept t u → IsCounted limits (h ++ e ∷ []) u
counted_push limits h e t u counted short within totals same =
    let longer : length (h ++ e ∷ []) ≡ length h + 1 = length-append h (e ∷ []) in
    record {
      totals = rw (met_push h e) totals;
      short = rw (met_push h e) (all_append _ (met h) (met_in h e) counted.short short);
      within = rw (met_push h e, longer) (all_append _ (met h) (met_in h e)
          (all_weaker (IsMetWithin (length h)) (IsMetWithin (length h + 1))
          (λ m w. record { entry = omega (arith, w.entry); place = omega (arith, w.place) })
          (met h) counted.within) within);
      numbers = rw (same.numbers, longer)
          (all_weaker (λ n. n ≤ length h + 1) (λ n. n ≤ length h + 1 + 1)
          (λ n less. omega (arith, less)) _ counted.numbers);
      room = same.room ∙ counted.room;
      vifs = sym (length-map u.vifs (option_map (λ k. k.number))) ∙ ap length same.vifs
          ∙ length-map t.vifs (option_map (λ k. k.number)) ∙ counted.vifs;
    }

-- so few packets are counted that no sum comes to its end
pub few_met : (limits : Limits) (h : List Entry) (e : Entry) (t : Totals) (spare : Spare)
    (cl pl n : ℕ) (ks : List ℕ) → IsCounted limits h t → HasSpace h spare cl pl ks →
    AreShort (met_in h e) → length (met_in h e) ≤ 64 → AreFew (met h ++ met_in h e)
few_met limits h e t spare cl pl n ks counted space short most = record {
  few = omega (arith, length-append (met h) (met_in h e), space.few_met, most);
  short = all_append _ (met h) (met_in h e) counted.short short;
}

-- an entry in which no packet met one
pub counted_none : (limits : Limits) (h : List Entry) (e : Entry) (t : Totals) → met_in h e ≡ []
    → IsCounted limits h t → IsCounted limits (h ++ e ∷ []) t
counted_none limits h e t none counted =
    counted_push limits h e t t counted (rw none tt) (rw none tt)
    (rw (none, append-nil (met h)) counted.totals)
    (record { numbers = refl; room = refl; vifs = refl })

-- an outcome meets one entry or none
pub met_most : (place len : ℕ) (o : Outcome) → length (met_by place len o) ≤ 1
met_most place len (outcome.Forward entry input outs) = omega arith
met_most place len (outcome.Register entry input outs told) = omega arith
met_most place len (outcome.Wrong entry vif report) = omega arith
met_most place len outcome.Parked = omega arith
met_most place len (outcome.Dropped cause) = omega arith

pub met_within : (place len n : ℕ) (o : Outcome) → place ≤ n → NamesUpTo n o
    → AllByRecursion (IsMetWithin n) (met_by place len o)
met_within place len n (outcome.Forward entry input outs) within named =
    (record { entry = named; place = within }, tt)
met_within place len n (outcome.Register entry input outs told) within named =
    (record { entry = named; place = within }, tt)
met_within place len n (outcome.Wrong entry vif report) within named =
    (record { entry = named; place = within }, tt)
met_within place len n outcome.Parked within named = tt
met_within place len n (outcome.Dropped cause) within named = tt

pub fast_within : (n : ℕ) (rs : List FastRecord) → AllByRecursion (λ r. r.look ≤ n) rs
    → AllByRecursion (λ r. r.entry ≤ n) rs →
    AllByRecursion (IsMetWithin (n + 1)) (map met_fast rs)
fast_within n [] looks named = tt
fast_within n (r ∷ rs) looks named = (
  record { entry = omega (arith, named.0); place = omega (arith, looks.0) },
  fast_within n rs looks.1 named.1,
)

pub released_most : (place : ℕ) (xs : List ReleasedId) (ns : List ℕ)
    → length (released_mets place xs ns) ≤ length xs
released_most place [] ns = omega arith
released_most place (x ∷ xs) [] = omega arith
released_most place (x ∷ xs) (n ∷ ns) =
    omega (
      arith,
      length-append (met_by place n x.outcome) (released_mets place xs ns),
      met_most place n x.outcome,
      released_most place xs ns,
    )

pub released_within : (place : ℕ) (xs : List ReleasedId) (ns : List ℕ)
    → AllByRecursion (λ x. NamesUpTo place x.outcome) xs →
    AllByRecursion (IsMetWithin place) (released_mets place xs ns)
released_within place [] ns named = tt
released_within place (x ∷ xs) [] named = tt
released_within place (x ∷ xs) (n ∷ ns) named =
    all_append _ (met_by place n x.outcome) _
    (met_within place n place x.outcome (omega arith) named.0)
    (released_within place xs ns named.1)

pub read_is : (ks : List ℕ) (i k : ℕ) → i < length ks → k ≡ get_or ks i k → k ≡ slice_index ks i
read_is [] i k within is = absurd (omega arith)
read_is (x ∷ ks) zero k within is = is
read_is (x ∷ ks) (suc i) k within is = read_is ks i k (omega (arith, within)) is

-- what a lane has left once n of its packets are used, all of which it had left
pub lane_used : (limits : Limits) (h : List Entry) (e : Entry) (cl pl : ℕ) (ks : List ℕ)
    (lane : LaneNo) (n k : ℕ) (old new : Spare) → IsLeft limits h cl pl ks →
    HasSpace h old cl pl ks → LeavesRoom old new 1 n 0 0 →
    is_control e ≡ false → is_end e ≡ false → ((l : LaneNo) → is_of_lane l e ≡ (lane.0 == l.0))
    → packets_in e ≡ n → IsLane limits lane → 1 ≤ n →
    packets lane h + n ≤ packets_given limits lane → k ≡ get_or ks (lane.0 - 1) k
    → length (met_in h e) ≤ n →
    IsLeft limits (h ++ e ∷ []) cl pl (slice_set ks (lane.0 - 1) (k - n))
    × HasSpace (h ++ e ∷ []) new cl pl (slice_set ks (lane.0 - 1) (k - n))
lane_used limits h e cl pl ks lane n k old new left space leaves control ends own count is_lane
    some room is mets =
    let within : lane.0 - 1 < length ks = omega (arith, left.lanes, is_lane.first, is_lane.last) in
    let read : k ≡ slice_index ks (lane.0 - 1) = read_is ks (lane.0 - 1) k within is in
    let less : n ≤ slice_index ks (lane.0 - 1) =
    omega (arith, left.packets_are lane is_lane, room) in
    subst (λ x. IsLeft limits (h ++ e ∷ []) cl pl (slice_set ks (lane.0 - 1) (x - n))
    × HasSpace (h ++ e ∷ []) new cl pl (slice_set ks (lane.0 - 1) (x - n))) (sym read) (
      left_lane limits h e cl pl ks lane n left control ends own count is_lane room,
      space_push h e old new cl pl cl pl 0 0 n n 0 0 ks
          (slice_set ks (lane.0 - 1) (slice_index ks (lane.0 - 1) - n)) space leaves
          (omega arith) (omega arith) (sum_less ks (lane.0 - 1) n within less) (omega arith)
          (omega arith) (omega arith) (omega (arith, some)) (omega (arith, mets)),
    )

pub counted_routes : (limits : Limits) (h : List Entry) (t u : Totals) → IsCounted limits h t
    → AreRoutes u.routes.items (met h) →
    AllByRecursion (λ n. n ≤ length h + 1) (numbers_of u.routes.items)
    → u.routes.room ≡ t.routes.room → u.vifs ≡ t.vifs → IsCounted limits h u
counted_routes limits h t u counted routes numbers room vifs = record {
  totals = record {
    routes = routes;
    ins = λ i. subst (λ ks. IsIn i (met h) (vif_at ks i)) (sym vifs) (counted.totals.ins i);
    outs = λ i. subst (λ ks. IsOut i (met h) (vif_at ks i)) (sym vifs) (counted.totals.outs i);
  };
  short = counted.short;
  within = counted.within;
  numbers = numbers;
  room = room ∙ counted.room;
  vifs = ap length vifs ∙ counted.vifs;
}

pub counted_vifs : (limits : Limits) (h : List Entry) (t u : Totals) → IsCounted limits h t
    → u.routes ≡ t.routes → length u.vifs ≡ 32 →
    ((i : ℕ) → IsIn i (met h) (vif_at u.vifs i)) → ((i : ℕ) → IsOut i (met h) (vif_at u.vifs i))
    → IsCounted limits h u
counted_vifs limits h t u counted routes long ins outs = record {
  totals = record {
    routes = subst (λ (r : NumberedValue RouteTotals). AreRoutes r.items (met h))
        (sym routes) counted.totals.routes;
    ins = ins;
    outs = outs;
  };
  short = counted.short;
  within = counted.within;
  numbers = subst (λ (r : NumberedValue RouteTotals). AllByRecursion (λ n. n ≤ length h + 1)
      (numbers_of r.items)) (sym routes) counted.numbers;
  room = ap (λ (r : NumberedValue RouteTotals). r.room) routes ∙ counted.room;
  vifs = long;
}

abbrev no_kept : Option VifKept
no_kept = None

abbrev pub no_vifs : List (Option VifKept)
no_vifs = None ∷ None ∷ None ∷ None ∷ None ∷ None ∷ None ∷ None ∷ None ∷ None ∷ None ∷ None
    ∷ None ∷ None ∷ None ∷ None
    ∷ None ∷ None ∷ None ∷ None ∷ None ∷ None ∷ None ∷ None ∷ None ∷ None ∷ None ∷ None ∷ None
    ∷ None ∷ None ∷ None ∷ []

all_none : (ks : List (Option VifKept)) (P : Option VifKept → Type 0) → P None
    → AllByRecursion (λ k. k ≡ no_kept) ks → (i : ℕ) → P (vif_at ks i)
all_none [] P none all i = none
all_none (k ∷ ks) P none all zero = subst P (sym all.0) none
all_none (k ∷ ks) P none all (suc i) = all_none ks P none all.1 i

each_none : AllByRecursion (λ k. k ≡ no_kept) no_vifs
each_none = (
  refl,
  (
    refl,
    (
      refl,
      (
        refl,
        (
          refl,
          (
            refl,
            (
              refl,
              (
                refl,
                (
                  refl,
                  (
                    refl,
                    (
                      refl,
                      (
                        refl,
                        (
                          refl,
                          (
                            refl,
                            (
                              refl,
                              (
                                refl,
                                (
                                  refl,
                                  (
                                    refl,
                                    (
                                      refl,
                                      (
                                        refl,
                                        (
                                          refl,
                                          (
                                            refl,
                                            (
                                              refl,
                                              (
                                                refl,
                                                (
                                                  refl,
                                                  (
                                                    refl,
                                                    (
                                                      refl,
                                                      (refl, (refl, (refl, (refl, (refl, tt))))),
                                                    ),
                                                  ),
                                                ),
                                              ),
                                            ),
                                          ),
                                        ),
                                      ),
                                    ),
                                  ),
                                ),
                              ),
                            ),
                          ),
                        ),
                      ),
                    ),
                  ),
                ),
              ),
            ),
          ),
        ),
      ),
    ),
  ),
)

pub counted_first : (limits : Limits) (t : Totals) → t.routes.items ≡ []
    → t.routes.room ≡ limits.entries → t.vifs ≡ no_vifs → IsCounted limits [] t
counted_first limits t routes room vifs = record {
  totals = record {
    routes = rw routes tt;
    ins = λ i. rw vifs (all_none no_vifs (IsIn i []) tt each_none i);
    outs = λ i. rw vifs (all_none no_vifs (IsOut i []) tt each_none i);
  };
  short = tt;
  within = tt;
  numbers = rw routes tt;
  room = room;
  vifs = rw vifs refl;
}

pub left_first : (limits : Limits) → IsLeft limits [] limits.controls limits.phases limits.packets
left_first limits = record {
  lanes = refl;
  controls_are = omega arith;
  phases_are = omega arith;
  packets_are = λ lane is. omega arith;
}

pub space_first : (limits : Limits) (room new : Spare) → FitsLimits limits
    → LeavesRoom room new 0 0 0 0 →
    room.entries ≡ limits.controls + limits.phases + sum limits.packets
    → room.packets ≡ sum limits.packets → room.calls ≡ limits.controls →
    room.released ≡ 4 * limits.controls
    → HasSpace [] new limits.controls limits.phases limits.packets
space_first limits room new fits leaves entries packets calls released = record {
  entries = omega (arith, entries, leaves.entries_left);
  packets = omega (arith, packets, leaves.packets_left);
  calls = omega (arith, calls, leaves.calls_left);
  released = omega (arith, released, leaves.released_left);
  few_met = omega (arith, fits.packets, fits.controls);
  few = omega (arith, fits.packets, fits.controls, fits.phases);
}
