-- Two legal histories of one scenario with one text are the same.
use Rattle.std.proofs.Common.{◌≡◌, ℕ, ◌+◌, ◌≤◌, List, [], ◌∷◌, ◌++◌, length, map, sym, ap, ◌∙◌, arith}
use Rattle.std.proofs.lemmas.List.{length-append, length-map}
use Rattle.std.specs.List.{AllByRecursion}
use Rattle.mr_base.specs.Outside.{Files}
use Rattle.mr_load.specs.Callers.{IsCalled}
use Rattle.mr_load.specs.Loading.{skips_of, run_limits}
use Rattle.mr_load.specs.Made.{Made}
use Rattle.mr_lines.specs.Fit.{Fits64}
use Rattle.mr_lines.specs.declared.tail.Tail.{Tail}
use Rattle.mr_model.specs.Legal.{Agrees, RecordsAgree, LegalFrom, IsLegal}
use Rattle.mr_model.specs.declared.entry.Entry.{Entry}
use Rattle.mr_model.specs.declared.entry.Entry.TheVariants.{Call, Slow, Settle, Tick, Recv, EndPhase}
use Rattle.mr_model.specs.declared.entry.FastRecord.{FastRecord}
use Rattle.mr_model.specs.declared.limits.Limits.{Limits}
use Rattle.mr_one_text.specs.Laws.{OneHistory}
use Rattle.mr_one_text.specs.Room.{room}
use Rattle.mr_one_text.specs.Turns.{turn_of, TurnFits, TurnsFit}
use Rattle.mr_one_text.proofs.FewPackets.{room_fits}
use Rattle.mr_one_text.proofs.Reading.{told, text_told, turns_same}
use Rattle.mr_one_text.proofs.Rooms.{legal_has_room}
use Rattle.mr_one_text.proofs.Sending.{made_called}
use Rattle.mr_one_text.proofs.Telling.{turns_tell}
use Rattle.mr_scenario.specs.declared.scenario.Scenario.{Scenario}
use Rattle.mr_scenario.specs.Fits.{Fits}
use Rattle.mr_text.specs.Text.{text}

-- a look is no later than the history
looks_fit : (limits : Limits) (g : List Entry) (index least : ℕ) (rs : List FastRecord) → Fits64 (length g) → RecordsAgree limits g index least rs → AllByRecursion Fits64 (map (λ r. r.look) rs)
looks_fit limits g index least [] small a = tt
looks_fit limits g index least (r ∷ rs) small a = (omega (arith, small, a.1), looks_fit limits g r.index r.look rs small a.4)

turn_fits : (s : Scenario) (limits : Limits) (g : List Entry) (e : Entry) → Fits s → Fits64 (length g) → IsCalled s e → Agrees limits g e → TurnFits (turn_of e)
turn_fits s limits g (Call d r reply released) fits small called a = omega (arith, fits.most_daemons, called.last)
turn_fits s limits g (Slow l i x flow o) fits small called a = (omega (arith, fits.most_lanes, called.last), omega (arith, small, a.look_within))
turn_fits s limits g (Settle l rs) fits small called a = (omega (arith, fits.most_lanes, called.last), looks_fit limits g _ _ rs small a.all)
turn_fits s limits g (Tick d ms) fits small called a = omega (arith, fits.most_daemons, called.last)
turn_fits s limits g (Recv d message) fits small called a = omega (arith, fits.most_daemons, called.last)
turn_fits s limits g EndPhase fits small called a = tt

turns_fit : (s : Scenario) (limits : Limits) (g h : List Entry) → Fits s → Fits64 (length g + length h) → AllByRecursion (IsCalled s) h → LegalFrom limits g h → TurnsFit h
turns_fit s limits g [] fits small called legal = tt
turns_fit s limits g (e ∷ h) fits small called legal =
    let longer : length (g ++ e ∷ []) + length h ≡ length g + length (e ∷ h) = omega (arith, length-append g (e ∷ [])) in
    (turn_fits s limits g e fits (omega (arith, small)) called.0 legal.0, turns_fit s limits (g ++ e ∷ []) h fits (omega (arith, longer, small)) called.1 legal.1)

-- where the limits leave room for so few entries that 64 bits number them
pub one_within : (files : Files) (s : Scenario) (h k : List Entry) (t u : Tail) → Fits s → Fits64 (room (run_limits files s)) → Made files s h → Made files s k
    → IsLegal (run_limits files s) h → IsLegal (run_limits files s) k → text (skips_of files s) h t ≡ text (skips_of files s) k u → h ≡ k
one_within files s h k t u fits few m n legal legal' e =
    let limits : Limits = run_limits files s in
    let within : length h ≤ room limits = legal_has_room limits h legal in
    let words : map told h ≡ map told k = text_told (skips_of files s) h k t u e in
    let many : length h ≡ length k = sym (length-map h told) ∙ ap length words ∙ length-map k told in
    let mine : TurnsFit h = turns_fit s limits [] h fits (omega (arith, within, few)) (made_called files s s.phases [] h m.phases) legal in
    let other : TurnsFit k = turns_fit s limits [] k fits (omega (arith, within, few, many)) (made_called files s s.phases [] k n.phases) legal' in
    turns_tell files s h k m n legal legal' (turns_same h k mine other words)

pub one_history : OneHistory
one_history files s h k t u read m n legal legal' e = one_within files s h k t u read.fits (room_fits files s read) m n legal legal' e
