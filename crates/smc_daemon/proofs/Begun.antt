-- A daemon that is within a phase, behind those that it drove.
use Rattle.std.proofs.Common.{◌≡◌, ◌∙◌, ◌+◌, ◌≤◌, ℕ, false, List, [], ◌∷◌, ◌++◌, length, refl, sym, ap, ap₂, subst, subst₂, arith, append_assoc, append-nil}
use Rattle.std.specs.Prelude.{flat_map}
use Rattle.std.specs.List.{fold, list_any}
use Rattle.std.proofs.lemmas.Grind.{flat_map-append}
use Rattle.std.proofs.lemmas.List.{length-append}
use Rattle.std.proofs.lemmas.List.Sums.{fold-append, sum_by-append}
use Rattle.mr_model.specs.Deeds.{Deed}
use Rattle.mr_model.specs.Past.{is_end}
use Rattle.mr_model.specs.declared.entry.Entry.{Entry}
use Rattle.mr_model.specs.declared.entry.Entry.TheVariants.{EndPhase}
use Rattle.mr_scenario.specs.declared.scenario.Phase.{Phase}
use Rattle.smc_core.specs.Driving.{Course, Line, driven, smc}
use Rattle.smc_core.specs.Machine.{Machine}
use Rattle.smc_rules.specs.declared.learned.Learned.{Learned}
use Rattle.smc_daemon.specs.Courses.{Drives, DrivesFrom, DrivesTo, IsBegun, machine_behind}
use Rattle.smc_daemon.specs.Deeds.{did, deeds_in}
use Rattle.smc_daemon.specs.Lines.{lines_in}
use Rattle.smc_daemon.specs.Reporting.{brought, brought_in}
use Rattle.smc_daemon.proofs.Bringing.{course_brings}
use Rattle.smc_daemon.proofs.Counted.{Alike, alike_append, did_alike, did_parts}
use Rattle.smc_daemon.proofs.Extending.{lines_extend}
use Rattle.smc_daemon.proofs.Phases.{Behind, phase_beside, next_phase}

-- behind phases that were driven
pub drives_to : (ps : List Phase) (d : ℕ) (k w : ℕ) (c0 : Course) (m : Machine) (before h : List Entry) (last : Machine) → Behind k w c0 m → DrivesTo d m before ps h last → Behind (k + length (did d [] h)) (w + brought_in (did d [] h)) (fold driven c0 (flat_map (lines_in d) ps)) last
drives_to [] d k w c0 m before h last b (is, same) =
    subst₂ (λ (x : List Entry) (y : Machine). Behind (k + length (did d [] x)) (w + brought_in (did d [] x)) c0 y) (sym is) (sym same) (record {
      same = b.same;
      unlearned = b.unlearned;
      none = b.none;
      lower = omega (arith, b.lower);
      upper = omega (arith, b.upper);
    })
drives_to (p ∷ ps) d k w c0 m before h last b (part, rest, is, open_, drives, more) =
    let here = next_phase k w c0 m (lines_in d p) (did d before part) drives b in
    let c = drives_to ps d (k + length (did d before part)) (w + brought_in (did d before part)) (fold driven c0 (lines_in d p)) (machine_behind d m p before part) (before ++ part ++ EndPhase ∷ []) rest last here more in
    let a = did_parts d before part rest in
    let all = fold-append driven c0 (lines_in d p) (flat_map (lines_in d) ps) in
    let n = length-append (did d before part) (did d [] rest) in
    let r = sum_by-append brought (did d before part) (did d [] rest) in
    subst (λ (x : List Entry). Behind (k + length (did d [] x)) (w + brought_in (did d [] x)) (fold driven c0 (flat_map (lines_in d) (p ∷ ps))) last) (sym is)
    (rw all (record {
      same = c.same;
      unlearned = c.unlearned;
      none = c.none;
      lower = omega (arith, c.lower, a.many, n);
      upper = omega (arith, c.upper, a.many, a.brought, n, r);
    }))

-- what stands behind a part of a history
pub did_behind : (d : ℕ) (before part : List Entry) → Alike (did d [] (before ++ part)) (did d [] before ++ did d before part)
did_behind d before part =
    let h = before ++ part in
    let e : did d [] h ≡ flat_map (deeds_in d h) before ++ flat_map (deeds_in d h) part = flat_map-append (deeds_in d h) before part in
    rw e (alike_append _ _ _ _ (did_alike d h before before) (did_alike d h h part))

pub begun_most : (d : ℕ) (first : Machine) (done left : List Phase) (p : Phase) (before part : List Entry) (m : Machine) (missing : List Deed) → first.learned ≡ [] → DrivesTo d first [] done before m → IsBegun m (lines_in d p) (did d before part) missing → length (did d [] (before ++ part)) + length missing ≤ length (smc first (flat_map (lines_in d) (done ++ p ∷ left)) []).deeds + brought_in (did d [] (before ++ part))
begun_most d first done left p before part m missing none drives begun =
    let start : Course = record { machine = first; deeds = []; text = []; answers = [] } in
    let b0 : Behind 0 0 start first = record { same = refl; unlearned = none; none = refl; lower = omega arith; upper = omega (arith, ap (λ (l : List Learned). length l) none) } in
    let b = drives_to done d 0 0 start first [] before m b0 drives in
    let c0 = fold driven start (flat_map (lines_in d) done) in
    let deeds = did d before part in
    let s = phase_beside _ _ c0 m (lines_in d p) deeds b in
    let c1 = fold driven c0 (lines_in d p) in
    let e = lines_extend (flat_map (lines_in d) left) c1 in
    let joined : fold driven start (flat_map (lines_in d) (done ++ p ∷ left)) ≡ fold driven c1 (flat_map (lines_in d) left) =
    ap (λ (l : List Line). fold driven start l) (flat_map-append (lines_in d) done (p ∷ left))
    ∙ fold-append driven start (flat_map (lines_in d) done) (lines_in d p ++ flat_map (lines_in d) left)
    ∙ fold-append driven c0 (lines_in d p) (flat_map (lines_in d) left) in
    let all = ap (λ (c : Course). length c.deeds) joined in
    let a = did_behind d before part in
    omega (
      arith,
      s.upper,
      all,
      ap (λ (l : List Deed). length l) e.is,
      length-append c1.deeds e.more,
      ap (λ (l : List Deed). length l) begun,
      length-append deeds missing,
      course_brings m (lines_in d p) deeds,
      a.many,
      a.brought,
      length-append (did d [] before) deeds,
      sum_by-append brought (did d [] before) deeds,
    )

-- one phase more
snoc_before : (before part h : List Entry) → (before ++ part ++ EndPhase ∷ []) ++ h ≡ before ++ (part ++ EndPhase ∷ h)
snoc_before before part h = append_assoc (before ++ part) (EndPhase ∷ []) h ∙ append_assoc before part (EndPhase ∷ h)

pub drives_on : (ps : List Phase) (d : ℕ) (first m : Machine) (p : Phase) (before h part : List Entry) → DrivesTo d first before ps h m → list_any is_end part ≡ false → Drives d m p (before ++ h) part → DrivesTo d first before (ps ++ p ∷ []) (h ++ part ++ EndPhase ∷ []) (machine_behind d m p (before ++ h) part)
drives_on [] d first m p before h part (is, same) open_ drives =
    let nothing : before ++ h ≡ before = ap (λ (x : List Entry). before ++ x) is ∙ append-nil before in
    let begins = subst₂ (λ (x : List Entry) (y : Machine). Drives d y p x part) nothing same drives in
    let ends = ap₂ (λ (x : List Entry) (y : Machine). machine_behind d y p x part) nothing same in
    let stands = ap (λ (x : List Entry). x ++ part ++ EndPhase ∷ []) is in
    (part, [], stands, open_, begins, (refl, ends))
drives_on (q ∷ ps) d first m p before h part (own, rest, is, own_open, own_drives, more) open_ drives =
    let b = before ++ own ++ EndPhase ∷ [] in
    let whole : before ++ h ≡ b ++ rest = ap (λ (x : List Entry). before ++ x) is ∙ sym (snoc_before before own rest) in
    let later = drives_on ps d (machine_behind d first q before own) m p b rest part more open_ (subst (λ (x : List Entry). Drives d m p x part) whole drives) in
    let stands : h ++ part ++ EndPhase ∷ [] ≡ own ++ EndPhase ∷ (rest ++ part ++ EndPhase ∷ []) =
    ap (λ (x : List Entry). x ++ part ++ EndPhase ∷ []) is
    ∙ ap (λ (x : List Entry). x ++ EndPhase ∷ []) (append_assoc own (EndPhase ∷ rest) part)
    ∙ append_assoc own (EndPhase ∷ (rest ++ part)) (EndPhase ∷ []) in (
      own,
      rest ++ part ++ EndPhase ∷ [],
      stands,
      own_open,
      own_drives,
      subst (λ (x : List Entry). DrivesTo d (machine_behind d first q before own) b (ps ++ p ∷ []) (rest ++ part ++ EndPhase ∷ []) (machine_behind d m p x part)) (sym whole) later,
    )

pub drives_all : (ps : List Phase) (d : ℕ) (first m : Machine) (before h : List Entry) → DrivesTo d first before ps h m → DrivesFrom d first before ps h
drives_all [] d first m before h (is, same) = is
drives_all (p ∷ ps) d first m before h (part, rest, is, open_, drives, more) =
    (part, rest, is, open_, drives, drives_all ps d (machine_behind d first p before part) m (before ++ part ++ EndPhase ∷ []) rest more)
