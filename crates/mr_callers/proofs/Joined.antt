-- What the callers did in a phase joins to a history that has what its scenario asks.
use Rattle.std.proofs.Common.{◌≡◌, ◌∙◌, ℕ, ◌+◌, ◌≤◌, inl, inr, List, [], ◌∷◌, ◌++◌, length, flat_map, refl, sym, ap, arith, append_assoc, append-nil, subst}
use Rattle.std.proofs.lemmas.Grind.{flat_map-append}
use Rattle.std.proofs.lemmas.List.{append_cancel_left}
use Rattle.mr_base.specs.Outside.{Files}
use Rattle.mr_authors.specs.Authors.{own}
use Rattle.mr_callers.specs.Joining.{DrivesJoin, Joins, MadeSoFar, PhasesJoin, Shares}
use Rattle.mr_load.specs.Loading.{items_in, run_limits}
use Rattle.mr_load.specs.Made.{MadeFrom, PartOf, Sent, asked, asked_in, sent, sent_in, to_ask, to_send}
use Rattle.mr_model.specs.declared.entry.Entry.{Entry}
use Rattle.mr_model.specs.declared.entry.Entry.TheVariants.{EndPhase}
use Rattle.mr_model.specs.Legal.{IsLegal}
use Rattle.mr_scenario.specs.declared.scenario.Item.{Item}
use Rattle.mr_scenario.specs.declared.scenario.Phase.{Phase}
use Rattle.mr_scenario.specs.declared.scenario.Scenario.{Scenario}
use Rattle.mr_scenario.specs.declared.scenario.Script.{Script}
use Rattle.mr_scenario.specs.Fits.{Fits}
use Rattle.smc_daemon.specs.Courses.{IsCourse}
use Rattle.smc_daemon.specs.Deeds.{deeds_in}
use Rattle.smc_daemon.specs.Lines.{lines_in}
use Rattle.mr_callers.proofs.Called.{part_called, run_callers}
use Rattle.mr_callers.proofs.Doing.{both_behind, own_append}
use Rattle.mr_callers.proofs.Owning.{asked_none, deeds_none, flat_own, no_ends, sent_none}

-- one phase more, behind items of former ones
made_push : (files : Files) (s : Scenario) (before : List Item) (ps : List Phase) (p : Phase) (h part : List Entry) → MadeFrom files s before ps h → PartOf files s (before ++ items_in ps) p part
    → MadeFrom files s before (ps ++ p ∷ []) (h ++ part ++ EndPhase ∷ [])
made_push files s before [] p h part made is_part =
    let now : PartOf files s before p part = subst (λ (x : List Item). PartOf files s x p part) (append-nil before) is_part in
    (part, [], rw made refl, now, refl)
made_push files s before (q ∷ ps) p h part (first, rest, splits, its, made) is_part =
    let later : PartOf files s ((before ++ q.items) ++ items_in ps) p part = subst (λ (x : List Item). PartOf files s x p part) (sym (append_assoc before q.items (items_in ps))) is_part in (
      first,
      rest ++ part ++ EndPhase ∷ [],
      rw splits (ap (λ (x : List Entry). x ++ EndPhase ∷ []) (append_assoc first (EndPhase ∷ rest) part) ∙ append_assoc first (EndPhase ∷ (rest ++ part)) (EndPhase ∷ [])),
      its,
      made_push files s (before ++ q.items) ps p rest part made later,
    )

-- what a caller did is its own entries behind the former history
did_is : (h part : List Entry) (did : ℕ → List Entry) → Joins h part did → (n : ℕ) → own n part ≡ did n
did_is h part did joins n = append_cancel_left (own n h) (own n part) (did n) (sym (own_append n h part) ∙ joins n)

pub sent_own : (lane : ℕ) (h : List Entry) → sent lane (own lane h) ≡ sent lane h
sent_own lane h = flat_own (sent_in lane) lane (sent_none lane) h

pub asked_own : (d : ℕ) (h : List Entry) → asked d (own (16 + d) h) ≡ asked d h
asked_own d h = flat_own (asked_in d) (16 + d) (asked_none d) h

pub joined : PhasesJoin
joined files s ps p h part did fits legal made joins shares =
    made_push files s [] ps p h part made (record {
      no_end = no_ends part (did_is h part did joins 0 ∙ shares.no_end);
      callers = part_called (run_limits files s) s [] h part (run_callers files s fits) legal;
      lanes = λ lane least most. sym (sent_own lane part) ∙ ap (sent lane) (did_is h part did joins lane) ∙ shares.lanes lane least most;
      daemons = λ d least most none. sym (asked_own d part) ∙ ap (asked d) (did_is h part did joins (16 + d)) ∙ shares.daemons d least most none;
    })

pub drives_joined : DrivesJoin
drives_joined d m p h part did joins course =
    let its : flat_map (deeds_in d (h ++ part)) (did (16 + d)) ≡ flat_map (deeds_in d (h ++ part)) part =
    ap (flat_map (deeds_in d (h ++ part))) (sym (did_is h part did joins (16 + d))) ∙ flat_own (deeds_in d (h ++ part)) (16 + d) (deeds_none d (h ++ part)) part in
    subst (IsCourse m (lines_in d p)) its course
