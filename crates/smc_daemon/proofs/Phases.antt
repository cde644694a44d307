-- A daemon's entries over phases are as many as its course without reports at least, and at most as many
-- more as its reports bring.
use Rattle.std.proofs.Common.{◌≡◌, ◌+◌, ◌≤◌, ℕ, List, [], ◌∷◌, ◌++◌, length, refl, sym, ap, subst, arith}
use Rattle.std.specs.Prelude.{flat_map}
use Rattle.std.specs.List.{fold}
use Rattle.std.proofs.lemmas.List.{length-append}
use Rattle.std.proofs.lemmas.List.Sums.{fold-append, sum_by-append}
use Rattle.mr_model.specs.Deeds.{Deed}
use Rattle.mr_model.specs.declared.entry.Entry.{Entry}
use Rattle.mr_model.specs.declared.entry.Entry.TheVariants.{EndPhase}
use Rattle.mr_scenario.specs.declared.scenario.Phase.{Phase}
use Rattle.smc_core.specs.Driving.{Course, Line, driven, smc}
use Rattle.smc_core.specs.Machine.{Machine}
use Rattle.smc_rules.specs.declared.learned.Learned.{Learned}
use Rattle.smc_daemon.specs.Courses.{course, DrivesFrom, machine_behind}
use Rattle.smc_daemon.specs.Deeds.{did}
use Rattle.smc_daemon.specs.Lines.{lines_in}
use Rattle.smc_daemon.specs.Reporting.{brought, brought_in}
use Rattle.smc_daemon.proofs.Besides.{Beside, lines_beside}
use Rattle.smc_daemon.proofs.Counted.{did_parts}
use Rattle.smc_daemon.proofs.Nearness.{bare}

-- c0 is the course without reports so far, m the machine behind the other one, which made k entries, and
-- reports brought w.
pub record Behind (k w : ℕ) (c0 : Course) (m : Machine) : Type 0 where
  pub same : bare c0.machine ≡ bare m
  pub unlearned : c0.machine.learned ≡ []
  pub none : c0.answers ≡ []
  pub lower : length c0.deeds ≤ k
  pub upper : k + length m.learned ≤ length c0.deeds + w

pub phase_beside : (k w : ℕ) (c0 : Course) (m : Machine) (ls : List Line) (deeds : List Deed) → Behind k w c0 m → Beside k w (fold driven c0 ls) (course m ls deeds)
phase_beside k w c0 m ls deeds b = lines_beside ls k w c0 _ (record {
  same = b.same;
  unlearned = b.unlearned;
  none = b.none;
  lower = omega (arith, b.lower);
  upper = omega (arith, b.upper);
})

pub next_phase : (k w : ℕ) (c0 : Course) (m : Machine) (ls : List Line) (deeds : List Deed) → deeds ≡ (course m ls deeds).deeds → Behind k w c0 m → Behind (k + length deeds) (w + brought_in deeds) (fold driven c0 ls) (course m ls deeds).machine
next_phase k w c0 m ls deeds is b =
    let s = phase_beside k w c0 m ls deeds b in
    let n = ap (λ (l : List Deed). length l) is in
    let r = ap brought_in is in
    record {
      same = s.same;
      unlearned = s.unlearned;
      none = s.none;
      lower = omega (arith, s.lower, n);
      upper = omega (arith, s.upper, n, r);
    }

-- how many entries there are
pub record Counts (k w : ℕ) (c0 : Course) (deeds : List Deed) : Type 0 where
  pub lower : length c0.deeds ≤ k + length deeds
  pub upper : k + length deeds ≤ length c0.deeds + (w + brought_in deeds)

drives_count : (ps : List Phase) (d : ℕ) (k w : ℕ) (c0 : Course) (m : Machine) (before : List Entry) (h : List Entry) → Behind k w c0 m → DrivesFrom d m before ps h → Counts k w (fold driven c0 (flat_map (lines_in d) ps)) (did d [] h)
drives_count [] d k w c0 m before h b is =
    subst (λ (x : List Entry). Counts k w c0 (did d [] x)) (sym is) (record { lower = omega (arith, b.lower); upper = omega (arith, b.upper) })
drives_count (p ∷ ps) d k w c0 m before h b (part, rest, is, open_, drives, more) =
    let here = next_phase k w c0 m (lines_in d p) (did d before part) drives b in
    let c = drives_count ps d (k + length (did d before part)) (w + brought_in (did d before part)) (fold driven c0 (lines_in d p)) (machine_behind d m p before part) (before ++ part ++ EndPhase ∷ []) rest here more in
    let a = did_parts d before part rest in
    let all = fold-append driven c0 (lines_in d p) (flat_map (lines_in d) ps) in
    let n = length-append (did d before part) (did d [] rest) in
    let r = sum_by-append brought (did d before part) (did d [] rest) in
    subst (λ (x : List Entry). Counts k w (fold driven c0 (flat_map (lines_in d) (p ∷ ps))) (did d [] x)) (sym is)
    (rw all (record {
      lower = omega (arith, c.lower, a.many, n);
      upper = omega (arith, c.upper, a.many, a.brought, n, r);
    }))

pub drives_counts : (d : ℕ) (m : Machine) (ps : List Phase) (h : List Entry) → m.learned ≡ [] → DrivesFrom d m [] ps h → Counts 0 0 (smc m (flat_map (lines_in d) ps) []) (did d [] h)
drives_counts d m ps h none drives =
    drives_count ps d 0 0 (record { machine = m; deeds = []; text = []; answers = [] }) m [] h
    (record { same = refl; unlearned = none; none = refl; lower = omega arith; upper = omega (arith, ap (λ (l : List Learned). length l) none) })
    drives
