-- What is left of the limits behind one more entry.
use Rattle.std.proofs.Common.{◌≡◌, ◌≢◌, ℕ, ◌+◌, ◌-◌, ◌≤◌, ◌==◌, Bool, true, false, if◌then◌else◌, List, [], ◌∷◌, ◌++◌, length, map, set, fold, sum, sum_by, refl, sym, ap, ◌∙◌, subst, arith, length-append}
use Rattle.std.proofs.lemmas.Grind.{common_steps}
use Rattle.std.proofs.lemmas.List.{length-map, length-set, get_or-map, get_or-set_same, get_or-set_other}
use Rattle.std.proofs.lemmas.List.Sums.{sum_by-set}
use Rattle.mr_base.specs.declared.numbers.LaneNo.{LaneNo}
use Rattle.mr_model.specs.declared.entry.Entry.{Entry}
use Rattle.mr_model.specs.declared.entry.Entry.TheVariants.{Call, Slow, Settle, Tick, Recv, EndPhase}
use Rattle.mr_model.specs.declared.entry.FastRecord.{FastRecord}
use Rattle.mr_model.specs.declared.flow.Flow.{Flow}
use Rattle.mr_model.specs.declared.outcome.Outcome.{Outcome}
use Rattle.mr_model.specs.declared.limits.Limits.{Limits}
use Rattle.mr_model.specs.Legal.{IsLane, packets_given}
use Rattle.mr_model.specs.Past.{is_control, is_end, is_of_lane, packets_in, controls, phases, index_after}
use Rattle.mr_model.proofs.Induction.{same_lane}
use Rattle.mr_model.proofs.PushingLists.{controls_push, phases_push, packets_push, last_index_push}
use Rattle.mr_plain.specs.declared.past.LanePast.{LanePast}
use Rattle.mr_plain.specs.declared.past.Past.{Past}
use Rattle.mr_plain.specs.Following.{Follows}
use Rattle.mr_plain.specs.Pasts.{IsPast, CanTake, fresh_lane, lane_at, no_lane}

-- what an entry that follows finds left
pub can_take : (limits : Limits) (h : List Entry) (p : Past) (e : Entry) → IsPast limits h p → Follows limits h e → CanTake p e
can_take limits h p (Call d r reply released) past follows = omega (arith, past.controls_left, follows.control.room)
can_take limits h p (Tick d ms) past follows = omega (arith, past.controls_left, follows.room)
can_take limits h p (Recv d message) past follows = omega (arith, past.controls_left, follows.control.room)
can_take limits h p (Slow lane index look flow o) past follows = (
  (follows.lane_is.first, omega (arith, follows.lane_is.last, past.lanes)),
  omega (arith, (past.each lane follows.lane_is).left, follows.room),
)
can_take limits h p (Settle lane records) past follows = (
  (follows.lane_is.first, omega (arith, follows.lane_is.last, past.lanes)),
  omega (arith, (past.each lane follows.lane_is).left, follows.room),
)
can_take limits h p EndPhase past follows = omega (arith, past.phases_left, follows)

abbrev pub counted : Bool → ℕ → ℕ
counted is n = if is then n else 0

-- what an entry uses up, and what it does to each lane
pub record Uses (limits : Limits) (e : Entry) (p q : Past) : Type 0 where
  pub controls : q.controls_left + counted (is_control e) 1 ≡ p.controls_left
  pub phases : q.phases_left + counted (is_end e) 1 ≡ p.phases_left
  pub lanes : length q.lanes.items ≡ length p.lanes.items
  pub left : (lane : LaneNo) → IsLane limits lane → (lane_at q.lanes.items lane).left + counted (is_of_lane lane e) (packets_in e) ≡ (lane_at p.lanes.items lane).left
  pub last : (lane : LaneNo) → IsLane limits lane → (lane_at q.lanes.items lane).last ≡ index_after lane (lane_at p.lanes.items lane).last e
  pub one : 1 + q.controls_left + q.phases_left + sum_by (λ l. l.left) q.lanes.items ≤ p.controls_left + p.phases_left + sum_by (λ l. l.left) p.lanes.items

pub past_push : (limits : Limits) (h : List Entry) (e : Entry) (p q : Past) → IsPast limits h p → Uses limits e p q → IsPast limits (h ++ e ∷ []) q
past_push limits h e p q past uses = record {
  controls_left = omega (arith, controls_push h e, past.controls_left, uses.controls);
  phases_left = omega (arith, phases_push h e, past.phases_left, uses.phases);
  lanes = uses.lanes ∙ past.lanes;
  each = λ lane is. record {
    left = omega (arith, packets_push lane h e, (past.each lane is).left, uses.left lane is);
    last = uses.last lane is ∙ ap (λ (n : ℕ). index_after lane n e) (past.each lane is).last ∙ sym (last_index_push lane h e);
  };
  bound = omega (arith, length-append h (e ∷ []), past.bound, uses.one);
}

-- a place before another is another place
less_one : (m n : ℕ) → 1 ≤ m → 1 ≤ n → m - 1 ≡ n - 1 → m ≡ n
less_one m n first other same = omega (arith, first, other, same)

no_lanes : (a b : LaneNo) → 1 ≤ a.0 → 1 ≤ b.0 → (a.0 == b.0) ≡ false → (b.0 - 1) ≢ (a.0 - 1)
no_lanes a b first other differ = λ same. differs (less_one b.0 a.0 other first same)
  where
    differs : b.0 ≡ a.0 → ⊥
    differs same = grind (arith, common_steps)

-- a lane that went on, and the others
pub went_on : (lanes : List LanePast) (own lane : LaneNo) (l : LanePast) → 1 ≤ own.0 → own.0 ≤ length lanes → 1 ≤ lane.0
    → lane_at (set lanes (own.0 - 1) l) lane ≡ (if own.0 == lane.0 then l else lane_at lanes lane)
went_on lanes own lane l first last other = by (own.0 == lane.0) refl
  where
    by : (b : Bool) → (own.0 == lane.0) ≡ b → lane_at (set lanes (own.0 - 1) l) lane ≡ (if b then l else lane_at lanes lane)
    by true same =
        subst (λ (m : LaneNo). lane_at (set lanes (own.0 - 1) l) m ≡ l) (same_lane own lane same) (get_or-set_same lanes (own.0 - 1) l no_lane (omega (arith, first, last)))
    by false differ = get_or-set_other lanes (own.0 - 1) (lane.0 - 1) l no_lane (no_lanes own lane first other differ)

-- what a lane that goes on uses up
pub sum_left : (lanes : List LanePast) (own : LaneNo) (n last : ℕ) → 1 ≤ own.0 → own.0 ≤ length lanes → n ≤ (lane_at lanes own).left
    → sum_by (λ (l : LanePast). l.left) (set lanes (own.0 - 1) (record { left = (lane_at lanes own).left - n; last = last })) + n ≡ sum_by (λ (l : LanePast). l.left) lanes
sum_left lanes own n last first within enough =
    let more : sum_by (λ (l : LanePast). l.left) (set lanes (own.0 - 1) (record { left = (lane_at lanes own).left - n; last = last })) + (lane_at lanes own).left
    ≡ sum_by (λ (l : LanePast). l.left) lanes + ((lane_at lanes own).left - n)
    = sum_by-set (λ (l : LanePast). l.left) lanes (own.0 - 1) (record { left = (lane_at lanes own).left - n; last = last }) no_lane (omega (arith, first, within)) in
    omega (arith, more, enough)

-- a lane's packets use up what they are
pub lane_uses : (limits : Limits) (e : Entry) (own : LaneNo) (n last : ℕ) (p q : Past) → 1 ≤ own.0 → own.0 ≤ length p.lanes.items → 1 ≤ n → n ≤ (lane_at p.lanes.items own).left
    → q.controls_left ≡ p.controls_left → q.phases_left ≡ p.phases_left
    → q.lanes.items ≡ set p.lanes.items (own.0 - 1) (record { left = (lane_at p.lanes.items own).left - n; last = last })
    → is_control e ≡ false → is_end e ≡ false
    → ((lane : LaneNo) → counted (is_of_lane lane e) (packets_in e) ≡ counted (own.0 == lane.0) n)
    → ((lane : LaneNo) → index_after lane (lane_at p.lanes.items lane).last e ≡ (if own.0 == lane.0 then last else (lane_at p.lanes.items lane).last))
    → Uses limits e p q
lane_uses limits e own n last p q first within some enough controls phases lanes no_control no_end counts after = record {
  controls = rw no_control (omega (arith, controls));
  phases = rw no_end (omega (arith, phases));
  lanes = ap (λ (ls : List LanePast). length ls) lanes ∙ length-set p.lanes.items _ _;
  left = λ lane is. rw (counts lane, lanes, went_on p.lanes.items own lane _ first within is.first) (left lane);
  last = λ lane is. rw (after lane, lanes, went_on p.lanes.items own lane _ first within is.first) (by_last (own.0 == lane.0) lane);
  one = rw lanes (omega (arith, sum_left p.lanes.items own n last first within enough, controls, phases, some));
}
  where
    left : (lane : LaneNo) → (if own.0 == lane.0 then record { left = (lane_at p.lanes.items own).left - n; last = last } else lane_at p.lanes.items lane).left + counted (own.0 == lane.0) n ≡ (lane_at p.lanes.items lane).left
    left lane = by (own.0 == lane.0) refl
      where
        by : (b : Bool) → (own.0 == lane.0) ≡ b → (if b then record { left = (lane_at p.lanes.items own).left - n; last = last } else lane_at p.lanes.items lane).left + counted b n ≡ (lane_at p.lanes.items lane).left
        by true same = subst (λ (m : LaneNo). (lane_at p.lanes.items own).left - n + n ≡ (lane_at p.lanes.items m).left) (same_lane own lane same) (omega (arith, enough))
        by false differ = omega arith

    by_last : (b : Bool) (lane : LaneNo) → (if b then record { left = (lane_at p.lanes.items own).left - n; last = last } else lane_at p.lanes.items lane).last ≡ (if b then last else (lane_at p.lanes.items lane).last)
    by_last true lane = refl
    by_last false lane = refl

sum_fresh : (xs : List ℕ) → sum_by (λ (l : LanePast). l.left) (map fresh_lane xs) ≡ sum xs
sum_fresh [] = refl
sum_fresh (n ∷ xs) = grind (arith, common_steps, sum_fresh xs)

none_and : (n m : ℕ) → n ≡ m → 0 + n ≡ m
none_and n m same = omega arith

-- what is left before the first entry
pub past_begin : (limits : Limits) (p : Past) → p.controls_left ≡ limits.controls → p.phases_left ≡ limits.phases → p.lanes.items ≡ map fresh_lane limits.packets → IsPast limits [] p
past_begin limits p given open_left lanes = record {
  controls_left = none_and _ _ given;
  phases_left = none_and _ _ open_left;
  lanes = ap (λ (ls : List LanePast). length ls) lanes ∙ length-map limits.packets fresh_lane;
  each = λ lane is.
      let at : lane_at p.lanes.items lane ≡ fresh_lane (packets_given limits lane) =
      rw lanes (get_or-map fresh_lane limits.packets (lane.0 - 1) 0 no_lane (omega (arith, is.first, is.last))) in
      record { left = none_and _ _ (ap (λ (l : LanePast). l.left) at); last = ap (λ (l : LanePast). l.last) at };
  bound = rw lanes (omega (arith, sum_fresh limits.packets, given, open_left));
}

-- an entry of no lane
pub past_no_lane : (limits : Limits) (h : List Entry) (e : Entry) (p q : Past) → IsPast limits h p
    → q.controls_left + counted (is_control e) 1 ≡ p.controls_left → q.phases_left + counted (is_end e) 1 ≡ p.phases_left → q.lanes.items ≡ p.lanes.items
    → 1 ≤ counted (is_control e) 1 + counted (is_end e) 1
    → ((lane : LaneNo) → is_of_lane lane e ≡ false) → ((lane : LaneNo) (n : ℕ) → index_after lane n e ≡ n) → IsPast limits (h ++ e ∷ []) q
past_no_lane limits h e p q past given open_left lanes one none same = past_push limits h e p q past (record {
  controls = given;
  phases = open_left;
  lanes = ap (λ (ls : List LanePast). length ls) lanes;
  left = λ lane is. rw (none lane, lanes) (omega arith);
  last = λ lane is. rw lanes (sym (same lane (lane_at p.lanes.items lane).last));
  one = rw lanes (omega (arith, given, open_left, one));
})

own_last : (own lane : LaneNo) (b : Bool) (lanes : List LanePast) (f : ℕ → ℕ) → (own.0 == lane.0) ≡ b
    → (if b then f (lane_at lanes lane).last else (lane_at lanes lane).last) ≡ (if b then f (lane_at lanes own).last else (lane_at lanes lane).last)
own_last own lane true lanes f is = subst (λ (m : LaneNo). f (lane_at lanes m).last ≡ f (lane_at lanes own).last) (same_lane own lane is) refl
own_last own lane false lanes f is = refl

pub past_slow : (limits : Limits) (h : List Entry) (lane : LaneNo) (index look : ℕ) (flow : Flow) (o : Outcome) (p q : Past) → IsPast limits h p
    → CanTake p (Slow lane index look flow o) → q.controls_left ≡ p.controls_left → q.phases_left ≡ p.phases_left
    → q.lanes.items ≡ set p.lanes.items (lane.0 - 1) (record { left = (lane_at p.lanes.items lane).left - 1; last = index }) → IsPast limits (h ++ Slow lane index look flow o ∷ []) q
past_slow limits h lane index look flow o p q past can given open_left lanes =
    past_push limits h (Slow lane index look flow o) p q past
    (lane_uses limits (Slow lane index look flow o) lane 1 index p q can.0.0 can.0.1 (omega arith) can.1 given open_left lanes refl refl (λ l. refl) (λ l. refl))

pub past_settle : (limits : Limits) (h : List Entry) (lane : LaneNo) (records : List FastRecord) (p q : Past) → IsPast limits h p → 1 ≤ length records
    → CanTake p (Settle lane records) → q.controls_left ≡ p.controls_left → q.phases_left ≡ p.phases_left
    → q.lanes.items ≡ set p.lanes.items (lane.0 - 1) (record { left = (lane_at p.lanes.items lane).left - length records; last = fold (λ b r. r.index) (lane_at p.lanes.items lane).last records })
    → IsPast limits (h ++ Settle lane records ∷ []) q
past_settle limits h lane records p q past some can given open_left lanes =
    past_push limits h (Settle lane records) p q past
    (lane_uses limits (Settle lane records) lane (length records) (fold (λ b r. r.index) (lane_at p.lanes.items lane).last records) p q can.0.0 can.0.1 some can.1 given open_left lanes refl refl
    (λ l. refl) (λ l. own_last lane l (lane.0 == l.0) p.lanes.items (λ n. fold (λ b r. r.index) n records) refl))
