-- The changes of a legal history fit, one after another.
use Rattle.std.proofs.Common.{◌≡◌, ℕ, ◌+◌, ◌||◌, Bool, true, not, List, [], ◌∷◌, ◌++◌, length, fold, option_map, option_to_list, Option, Some, None, refl, subst}
use Rattle.mr_base.specs.declared.errno.Errno.{Errno}
use Rattle.mr_base.specs.declared.errno.Errno.TheVariants.{Access}
use Rattle.mr_base.specs.declared.numbers.DaemonNo.{DaemonNo}
use Rattle.mr_model.specs.declared.change.Change.{Change}
use Rattle.mr_model.specs.declared.change.What.{What}
use Rattle.mr_model.specs.declared.entry.Entry.{Entry}
use Rattle.mr_model.specs.declared.entry.Entry.TheVariants.{Call}
use Rattle.mr_model.specs.declared.limits.Limits.{Limits}
use Rattle.mr_model.specs.declared.reply.Reply.{Reply}
use Rattle.mr_model.specs.declared.reply.Reply.TheVariants.{Good}
use Rattle.mr_model.specs.declared.request.Request.{Request}
use Rattle.mr_model.specs.declared.request.Request.TheVariants.{AddVif, DelVif, AddMfc, DelMfc, AddProxy, DelProxy}
use Rattle.mr_model.specs.Answer.{error_of, or_refused, value_of, is_admin}
use Rattle.mr_model.specs.Changes.{change_by, changes_from}
use Rattle.mr_model.specs.Granting.{numbered, what_of, tables_error}
use Rattle.mr_model.specs.Legal.{Agrees, LegalFrom}
use Rattle.mr_model.specs.State.{State, state, is_owner}
use Rattle.mr_model.proofs.Pushing.{state_count}
use Rattle.mr_mfc.specs.Caches.{is_above}
use Rattle.mr_tables.specs.Values.{TablesValue, applied}
use Rattle.mr_tables.specs.Fitting.{FitInTurn}
use Rattle.mr_tables.specs.Laws.{IsAfter, LegalChangesFit}
use Rattle.mr_tables.proofs.Fitted.{FitsIf, passed, if_fits}
use Rattle.mr_tables.proofs.History.{entry_applies, number_is_above}

-- what is answered `Good` was not refused
not_refused : (o : Option Errno) (reply : Reply) → Good ≡ or_refused o reply → o ≡ None
not_refused None reply is = refl
not_refused (Some e) reply is = absurd cc

-- nor did the tables refuse it
tables_grant : (limits : Limits) (s : State) (d : DaemonNo) (r : Request) →
    error_of limits s d r ≡ None → tables_error limits.entries limits.devices s.tables r ≡ None
tables_grant limits s d r is = by r is
  where
    barred : Bool
    barred = not (is_owner s d || is_admin limits d)

    by : (q : Request) → error_of limits s d q ≡ None
        → tables_error limits.entries limits.devices s.tables q ≡ None
    by (AddVif c) p = (passed barred Access _ p).1
    by (DelVif i) p = (passed barred Access _ p).1
    by (AddMfc c) p = (passed barred Access _ p).1
    by (AddProxy c) p = (passed barred Access _ p).1
    by (DelMfc k) p = (passed barred Access _ p).1
    by (DelProxy k) p = (passed barred Access _ p).1
    by q p = refl

-- a change that there may be
abbrev one : ℕ → Option What → List Change
one n w = option_to_list (option_map (numbered n) w)

one_in_turn : (v : TablesValue) (n : ℕ) (w : Option What) (more : List Change) → FitsIf v n w
    → FitInTurn (fold applied v (one n w)) more → FitInTurn v (one n w ++ more)
one_in_turn v n None more fit rest = rest
one_in_turn v n (Some w) more fit rest = (fit, rest)

call_in_turn : (limits : Limits) (g : List Entry) (v : TablesValue) (d : DaemonNo) (r : Request)
    (more : List Change) → let s = state limits g in
    Good ≡ or_refused (error_of limits s d r) (value_of g s r) → IsAfter limits g v →
    let w = what_of limits.devices s.tables (not (is_owner s d)) r in
    FitInTurn (fold applied v (one (s.count + 1) w)) more
    → FitInTurn v (one (s.count + 1) w ++ more)
call_in_turn limits g v d r more good after rest =
    let s : State = state limits g in
    let fixed = not (is_owner s d) in
    let count : s.count ≡ length g = state_count limits g in
    let granted : tables_error limits.entries limits.devices s.tables r ≡ None =
    tables_grant limits s d r (not_refused (error_of limits s d r) (value_of g s r) good) in
    let none : tables_error v.slots v.devices v.tables r ≡ None =
    rw (after.slots, after.devices, after.tables) granted in
    let above : is_above (s.count + 1) v.tables.routes ≡ true =
    rw (after.tables, count) (number_is_above limits g) in
    let fit : FitsIf v (s.count + 1) (what_of v.devices v.tables fixed r) =
    if_fits v r fixed (s.count + 1) none above in
    let w : Option What = what_of limits.devices s.tables fixed r in
    let same : what_of v.devices v.tables fixed r ≡ w = rw (after.devices, after.tables) refl in
    one_in_turn v (s.count + 1) w more
    (subst (λ (o : Option What). FitsIf v (s.count + 1) o) same fit) rest

entry_in_turn : (limits : Limits) (g : List Entry) (v : TablesValue) (e : Entry)
    (more : List Change) → Agrees limits g e → IsAfter limits g v
    → FitInTurn (fold applied v (change_by limits (state limits g) e)) more
    → FitInTurn v (change_by limits (state limits g) e ++ more)
entry_in_turn limits g v (Call d r Good released) more agrees after rest =
    call_in_turn limits g v d r more agrees.replies after rest
entry_in_turn limits g v e more agrees after rest = rest

in_turn_from : (limits : Limits) (g h : List Entry) (v : TablesValue) → LegalFrom limits g h
    → IsAfter limits g v → FitInTurn v (changes_from limits g h)
in_turn_from limits g [] v legal after = tt
in_turn_from limits g (e ∷ h) v legal after =
    let u : TablesValue = fold applied v (change_by limits (state limits g) e) in
    entry_in_turn limits g v e (changes_from limits (g ++ e ∷ []) h) legal.0 after
    (in_turn_from limits (g ++ e ∷ []) h u legal.1 (entry_applies limits g v e after))

pub legal_changes_fit : LegalChangesFit
legal_changes_fit limits h v legal after = in_turn_from limits [] h v legal after
