-- What one phase adds to a run.
use Rattle.std.proofs.Common.{◌≡◌, ◌∙◌, ℕ, zero, suc, ◌+◌, ◌-◌, ◌≤◌, ◌<◌, ◌||◌, Bool, true, false, ◌==◌, Some, List, [], ◌∷◌, ◌++◌, length, map, take, get_or, refl, sym, ap, arith, append-nil, subst}
use Rattle.std.proofs.Math.Seq.{append_snoc}
use Rattle.std.specs.List.{AllByRecursion, list_any}
use Rattle.std.specs.Prelude.{slice_get}
use Rattle.mr_base.specs.Outside.{Files}
use Rattle.mr_authors.specs.Authors.{own}
use Rattle.mr_callers.proofs.Owning.{no_ends}
use Rattle.mr_load.specs.Callers.{from_on, one_to}
use Rattle.mr_load.specs.Dues.{LaneValue, lane_of}
use Rattle.mr_model.specs.declared.entry.Entry.{Entry}
use Rattle.mr_model.specs.declared.entry.Entry.TheVariants.{EndPhase}
use Rattle.mr_model.specs.Past.{is_end, phases}
use Rattle.mr_model.proofs.PushingLists.{phases_push}
use Rattle.mr_replay.specs.Lanes.{lane_at, no_lane}
use Rattle.mr_scenario.specs.declared.scenario.Phase.{Phase}
use Rattle.mr_scenario.specs.declared.scenario.Scenario.{Scenario}

-- Entries without an end of a phase leave the count of these.
ends_none : (h part : List Entry) → list_any is_end part ≡ false → phases (h ++ part) ≡ phases h
ends_none h [] none = ap phases (append-nil h)
ends_none h (e ∷ part) none = by_test (is_end e) refl none (ends_none (h ++ e ∷ []) part)
  where
    by_test : (b : Bool) → is_end e ≡ b → b || list_any is_end part ≡ false → (list_any is_end part ≡ false → phases ((h ++ e ∷ []) ++ part) ≡ phases (h ++ e ∷ [])) → phases (h ++ e ∷ part) ≡ phases h
    by_test true t n rest = absurd (cc)
    by_test false t n rest =
        ap phases (sym (append_snoc h e part)) ∙ rest n
        ∙ phases_push h e ∙ rw t (omega arith)

pub phases_stay : (h part g : List Entry) → g ≡ h ++ part → own 0 part ≡ [] → phases g ≡ phases h
phases_stay h part g behind none = ap phases behind ∙ ends_none h part (no_ends part none)

pub none_own : (n : ℕ) → 1 ≤ n → own n (EndPhase ∷ []) ≡ []
none_own n least =
    let other : (0 == n) ≡ false = grind (arith, least) in
    rw other refl

next_place : (k : ℕ) → k + 1 ≡ suc k
next_place k = omega arith

take_suc : (ps : List Phase) (k : ℕ) (p : Phase) → slice_get ps k ≡ Some p → take (suc k) ps ≡ take k ps ++ p ∷ []
take_suc [] k p at = absurd (cc)
take_suc (q ∷ ps) zero p at =
    let same : q ≡ p = cc in
    rw same refl
take_suc (q ∷ ps) (suc k) p at = ap (λ (xs : List Phase). q ∷ xs) (take_suc ps k p at)

pub take_phase : (ps : List Phase) (k : ℕ) (p : Phase) → slice_get ps k ≡ Some p → take (k + 1) ps ≡ take k ps ++ p ∷ []
take_phase ps k p at = ap (λ (n : ℕ). take n ps) (next_place k) ∙ take_suc ps k p at

pub phase_all : (P : Phase → Type 0) (ps : List Phase) (k : ℕ) (p : Phase) → slice_get ps k ≡ Some p → AllByRecursion P ps → P p
phase_all P [] k p at a = absurd (cc)
phase_all P (q ∷ ps) zero p at a =
    let same : q ≡ p = cc in
    subst P same a.0
phase_all P (q ∷ ps) (suc k) p at a = phase_all P ps k p at a.1

pub phase_less : (ps : List Phase) (k : ℕ) (p : Phase) → slice_get ps k ≡ Some p → k < length ps
phase_less [] k p at = absurd (cc)
phase_less (q ∷ ps) zero p at = omega arith
phase_less (q ∷ ps) (suc k) p at = omega (arith, phase_less ps k p at)

-- lane number n of a scenario
lane_from : (files : Files) (s : Scenario) (m k n : ℕ) → n < k → get_or (map (lane_of files s) (from_on m k)) n no_lane ≡ lane_of files s (m + n)
lane_from files s m zero n less = absurd (omega (arith, less))
lane_from files s m (suc k) zero less = ap (lane_of files s) (omega arith)
lane_from files s m (suc k) (suc n) less =
    let place : m + 1 + n ≡ m + suc n = omega arith in
    lane_from files s (m + 1) k n (omega (arith, less)) ∙ ap (lane_of files s) place

lanes_from : (files : Files) (s : Scenario) (m k : ℕ) → length (map (lane_of files s) (from_on m k)) ≡ k
lanes_from files s m zero = refl
lanes_from files s m (suc k) = omega (arith, lanes_from files s (m + 1) k)

abbrev pub lanes_of : Files → Scenario → List LaneValue
lanes_of files s = map (lane_of files s) (one_to s.lanes)

pub lanes_many : (files : Files) (s : Scenario) → length (lanes_of files s) ≡ s.lanes
lanes_many files s = lanes_from files s 1 s.lanes

pub lane_is : (files : Files) (s : Scenario) (n : ℕ) → 1 ≤ n → n ≤ s.lanes → lane_at (lanes_of files s) n ≡ lane_of files s n
lane_is files s n least most =
    let place : 1 + (n - 1) ≡ n = omega (arith, least) in
    lane_from files s 1 s.lanes (n - 1) (omega (arith, least, most)) ∙ ap (lane_of files s) place

-- The daemons have asked, and the lanes have sent, what a phase has for them; its end is made so.
