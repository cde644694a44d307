-- In the text of a legal history that has what the scenario asks no rule fails.
use Rattle.std.proofs.Common.{◌≡◌, ◌∙◌, ℕ, ◌≤◌, Ok, List, [], length, map, refl, sym, ap, arith, subst}
use Rattle.std.specs.List.{AllByRecursion}
use Rattle.std.specs.Prelude.{slice_get}
use Rattle.mr_base.specs.Outside.{Files}
use Rattle.mr_callers.proofs.Called.{part_called, run_callers}
use Rattle.mr_lines.specs.declared.line.Line.{Line}
use Rattle.mr_lines.specs.declared.skip.Skip.{Skip}
use Rattle.mr_load.specs.Callers.{IsCalled}
use Rattle.mr_load.specs.Dues.{LaneValue, sent_of}
use Rattle.mr_load.specs.Items.{contents_of}
use Rattle.mr_load.specs.Loading.{items_in, run_limits, skips_of}
use Rattle.mr_load.specs.Loads.{IsLoaded}
use Rattle.mr_load.specs.Made.{Made, packets_from, sent}
use Rattle.mr_load.specs.declared.loading.Loaded.{Loaded}
use Rattle.mr_load.proofs.LawDues.{all_sent}
use Rattle.mr_model.specs.Ending.{ending}
use Rattle.mr_model.specs.Legal.{LegalFrom}
use Rattle.mr_model.specs.Past.{phases}
use Rattle.mr_model.specs.declared.entry.Entry.{Entry}
use Rattle.mr_model.specs.declared.limits.Limits.{Limits}
use Rattle.mr_scenario.specs.declared.scenario.Phase.{Phase}
use Rattle.mr_scenario.specs.declared.scenario.Scenario.{Scenario}
use Rattle.mr_tail.specs.Text.{history_text, tail_of}
use Rattle.mr_text.specs.Text.{tail_lines}
use Rattle.mr_text.specs.Walk.{walked}
use Rattle.mr_text.specs.Whole.{first_lines}
use Rattle.mr_text.proofs.TextLaws.{text_law}
use Rattle.mr_text.specs.declared.history_text.HistoryText.{HistoryText}
use Rattle.smc_core.specs.Machine.{Machine}
use Rattle.smc_daemon.specs.Courses.{DrivesFrom}
use Rattle.mr_check.specs.Callers.{bare, due_of_lane}
use Rattle.mr_check.specs.Judging.{EntriesRight, entries_from, told}
use Rattle.mr_check.specs.Laws.{RunIsRight, run_tail}
use Rattle.mr_check.proofs.Flowing.{entries_bare}
use Rattle.mr_check.proofs.Law.{text_same}
use Rattle.mr_check.proofs.Lists.{take_over}
use Rattle.mr_check.proofs.Packets.{lane_is, lines_packets, packets_rise, SentRise}
use Rattle.mr_check.proofs.Machines.{has_names}
use Rattle.mr_check.proofs.Running.{AllDrive, Reached, all_ended, all_lanes, phases_right}
use Rattle.mr_check.proofs.Telling.{Found, HasFlow, all_found, each_found, told_again}

-- all packets of a lane, from the lines
whole_lane : (files : Files) (l : Loaded) → IsLoaded files l → (lane : ℕ) → 1 ≤ lane → lane ≤ l.scenario.lanes → map sent_of (due_of_lane l lane) ≡ lines_packets files l (length l.scenario.phases) lane
whole_lane files l is lane least most =
    ap (λ (v : LaneValue). map sent_of v.packets) (lane_is files l lane is least most)
    ∙ all_sent (contents_of files) lane 0 [] l.scenario.phases
    ∙ ap (λ (ps : List Phase). packets_from files lane 1 (items_in ps)) (sym (take_over l.scenario.phases (length l.scenario.phases) (omega arith)))

found : (files : Files) (l : Loaded) → IsLoaded files l → (h : List Entry) → Made files l.scenario h → Found l h
found files l is h made = λ lane least most.
    let same : map sent_of (due_of_lane l lane) ≡ sent lane h = whole_lane files l is lane least most ∙ sym (all_lanes files l h made.phases lane least most) in
    let rise : SentRise 1 (map sent_of (due_of_lane l lane)) = subst (SentRise 1) (sym (whole_lane files l is lane least most)) (packets_rise files l (length l.scenario.phases) lane) in
    each_found lane (HasFlow (due_of_lane l lane)) h (subst (AllByRecursion (HasFlow (due_of_lane l lane))) same (all_found 1 (due_of_lane l lane) rise))

none_reached : (files : Files) (l : Loaded) → Reached files l 0 []
none_reached files l = record { ended = refl; lanes = λ lane least most. refl; daemons = λ d least most plain. refl; parts = refl }

pub run_is_right : RunIsRight
run_is_right files l h is run fits =
    let s : Scenario = l.scenario in
    let p : HistoryText = record { skips = skips_of files s; entries = map bare h; tail = run_tail files s h; lines = first_lines (skips_of files s) (map bare h) } in
    let called : AllByRecursion (IsCalled s) h = part_called (run_limits files s) s [] [] h (run_callers files s is.fits) run.legal in
    let again : told l p ≡ h = told_again l h called (found files l is h run.made) in
    let read : walked (history_text files s h) ≡ Ok p =
    ap walked (text_same (skips_of files s) (skips_of files s) h (map bare h) (run_tail files s h) (run_tail files s h) refl (sym (entries_bare 1 h)) refl)
    ∙ text_law (skips_of files s) (map bare h) (run_tail files s h) fits in
    let legal : LegalFrom l.limits [] h = subst (λ (x : Limits). LegalFrom x [] h) (sym is.limits) run.legal in
    let drives : AllDrive l h = λ d m has.
    let its = has_names files l is d m has in
    subst (λ (x : Machine). DrivesFrom d x [] s.phases h) its.is (run.made.machines d its.names its.kind) in
    let ended : phases h ≡ length s.phases = all_ended files l [] s.phases [] h run.made.phases ∙ omega arith in
    let tails : tail_lines p.tail ≡ tail_lines (tail_of s.devices (ending l.limits (told l p))) =
    ap (λ (x : Limits). tail_lines (tail_of s.devices (ending x h))) (sym is.limits)
    ∙ ap (λ (k : List Entry). tail_lines (tail_of s.devices (ending l.limits k))) (sym again) in (
      p,
      read,
      λ n. record {
        skips = λ k within line. ap (λ (ks : List Skip). slice_get ks k) (sym is.skips);
        entries = subst (λ (x : List Entry). EntriesRight l [] (entries_from p) x n) (sym again)
            (phases_right files l is h drives s.phases 0 refl [] (none_reached files l) h refl run.made.phases legal (entries_from p) n);
        phases = λ line. ap phases again ∙ ended;
        tail = λ k within line. ap (λ (ls : List Line). slice_get ls k) tails;
      },
    )
