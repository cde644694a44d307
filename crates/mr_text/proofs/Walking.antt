-- A text that is walked to its end is the text of its parts.
use Rattle.std.proofs.Common.{◌≡◌, ℕ, ◌+◌, ◌&&◌, Bool, true, false, Option, Some, None, Result, Ok, Err, List, [], ◌∷◌, ◌++◌, length, map, refl, sym, ap, ◌∙◌, subst, append-nil, append_assoc, length-append}
use Rattle.std.specs.Prelude.{if◌then◌else◌, flat_map}
use Rattle.std.specs.List.{AllByRecursion, join_with_byte}
use Rattle.std.proofs.lemmas.Bool.{and_parts}
use Rattle.mr_lines.specs.Fit.{LineFits}
use Rattle.mr_lines.specs.Forms.{spaced}
use Rattle.mr_lines.specs.Laws.{LineTakes, SpacedAgain}
use Rattle.mr_lines.specs.Lines.{line_words}
use Rattle.mr_lines.specs.Reading.{line_of}
use Rattle.mr_lines.specs.declared.line.Line.{Line}
use Rattle.mr_lines.specs.declared.line.Line.TheVariants as line
use Rattle.mr_text.specs.declared.history_text.HistoryText.{HistoryText}
use Rattle.mr_text.specs.declared.reading_state.Current.{Current}
use Rattle.mr_text.specs.declared.reading_state.Current.TheVariants as current
use Rattle.mr_text.specs.declared.reading_state.State.{State}
use Rattle.mr_text.specs.Laws.{ReadIsText}
use Rattle.mr_text.specs.Text.{line_text, entries_lines, text_lines, text}
use Rattle.mr_text.specs.Walk.{first_state, is_empty, step, line_step, next_line, line_gives, walk, parts, parts_result}
use Rattle.mr_text.specs.Whole.{PartsFit, capped, first_lines, current_lines, begin_line, end_line, told}
use Rattle.mr_text.proofs.Bytes.{rejoined}
use Rattle.mr_text.proofs.Parting.{then_some, empty_nil, not_both, next_capped, whole_joined}
use Rattle.mr_text.proofs.Telling.{OpenIn, Sound, Takes, next_of, first_sound, step_told, current_entries}
use Rattle.mr_words.specs.Binds.{◌>>=◌}
use Rattle.mr_words.specs.Parts.{before, parts_behind, parts_of}

-- From s the pieces lead to t: they are the lines that t tells more.
abbrev Walks : State → State → List (List ℕ) → Type 0
Walks s t ps =
    (ls : List Line) × AllByRecursion LineFits ls × (join_with_byte 10 ps ≡ flat_map line_text ls) × (told t ≡ told s ++ ls) × Sound t × (t.ended ≡ true)

last_by : (b : Bool) (n : ℕ) (s t : State) → (if b then Ok s else Err n) ≡ Ok t → (b ≡ true) × (s ≡ t)
last_by true n s t e = (refl, cc e)
last_by false n s t e = absurd (cc e)

bind_ok : (n : ℕ) (o : Option State) (f : State → Result State ℕ) (t : State) → (line_gives n o >>= f) ≡ Ok t → (u : State) × (o ≡ Some u) × (f u ≡ Ok t)
bind_ok n None f t e = absurd (cc e)
bind_ok n (Some u) f t e = (u, refl, e)

-- the line that a piece is
pub line_told : LineTakes → SpacedAgain → (s u : State) (p : List ℕ) → Sound s → line_step (next_of s) s p ≡ Some u
    → (l : Line) × LineFits l × (p ≡ spaced (line_words l)) × Takes s l u × (step (next_of s) s l ≡ Some u)
line_told takes again s u p k e =
    let found : (l : Line) × (line_of (parts_of 32 p) ≡ Some l) × (step (next_of s) s l ≡ Some u) = then_some (line_of (parts_of 32 p)) (step (next_of s) s) u e in
    let is : (parts_of 32 p ≡ line_words found.0) × LineFits found.0 = takes (parts_of 32 p) found.0 found.1 in
    (found.0, is.1, sym (again p) ∙ ap spaced is.0, step_told s found.0 u k found.2, found.2)

pub next_told : (s u : State) (l : Line) → told u ≡ told s ++ l ∷ [] → next_line (next_of s) ≡ next_of u
next_told s u l e =
    let more : length (told u) ≡ length (told s) + 1 = ap length e ∙ length-append (told s) (l ∷ []) in
    next_capped (length (told s) + 1) ∙ ap (λ i. capped (i + 1)) (sym more)

walk_told : LineTakes → SpacedAgain → (ps : List (List ℕ)) (p : List ℕ) (s t : State) → Sound s → walk (next_of s) s (p ∷ ps) ≡ Ok t → Walks s t (p ∷ ps)
walk_told takes again [] p s t k e =
    let last : ((s.ended && is_empty p) ≡ true) × (s ≡ t) = last_by (s.ended && is_empty p) (next_of s) s t e in
    let both : (s.ended ≡ true) × (is_empty p ≡ true) = and_parts s.ended (is_empty p) last.0 in
    subst (λ t. Walks s t (p ∷ [])) last.1 ([], tt, empty_nil p both.1, sym (append-nil (told s)), k, both.0)
walk_told takes again (q ∷ qs) p s t k e =
    let found : (u : State) × (line_step (next_of s) s p ≡ Some u) × (walk (next_line (next_of s)) u (q ∷ qs) ≡ Ok t) =
    bind_ok (next_of s) (line_step (next_of s) s p) (λ u. walk (next_line (next_of s)) u (q ∷ qs)) t e in
    let u : State = found.0 in
    let one : (l : Line) × LineFits l × (p ≡ spaced (line_words l)) × Takes s l u × (step (next_of s) s l ≡ Some u) = line_told takes again s u p k found.1 in
    let goes : walk (next_of u) u (q ∷ qs) ≡ Ok t = ap (λ i. walk i u (q ∷ qs)) (sym (next_told s u one.0 one.3.1)) ∙ found.2 in
    let more : Walks u t (q ∷ qs) = walk_told takes again qs q u t one.3.0 goes in (
      one.0 ∷ more.0,
      (one.1, more.1),
      ap (λ b. p ++ 10 ∷ b) more.2 ∙ ap (λ b. b ++ 10 ∷ flat_map line_text more.0) one.2 ∙ sym (append_assoc (spaced (line_words one.0)) (10 ∷ []) (flat_map line_text more.0)),
      more.3 ∙ ap (λ b. b ++ more.0) one.3.1 ∙ append_assoc (told s) (one.0 ∷ []) more.0,
      more.4,
      more.5,
    )

not_false : (b : Bool) → (b ≡ false → ⊥) → b ≡ true
not_false true f = refl
not_false false f = absurd (f refl)

ended_begun : (t : State) → Sound t → t.ended ≡ true → t.begun ≡ true
ended_begun t k e = not_false t.begun (λ b. not_both t.ended e (ap (λ (s : State). s.ended) (k.fresh b)))

ended_closed : (t : State) (o : Current) → OpenIn t o → t.ended ≡ true → o ≡ current.Nothing
ended_closed t current.Nothing w e = refl
ended_closed t (current.Call d r reply released) w e = absurd (not_both t.ended e w.4)
ended_closed t (current.Settle lane records left) w e = absurd (not_both t.ended e w.4)

-- what an ended state has taken are the lines of its parts
pub ended_told : (t : State) → Sound t → t.ended ≡ true → told t ≡ text_lines t.skips t.entries (parts t).tail
ended_told t k e =
    let none : t.current ≡ current.Nothing = ended_closed t t.current k.open_in e in
    whole_joined line.History (begin_line t.begun) (map line.Skip t.skips) (entries_lines 1 t.entries) (current_lines (length t.entries + 1) t.current) (map line.Route t.routes) (map line.Vif t.vifs) (map line.Fate t.fates) (end_line t.ended)
    (ap begin_line (ended_begun t k e)) (ap (current_lines (length t.entries + 1)) none)
    ∙ ap (λ b. line.History ∷ (map line.Skip t.skips ++ entries_lines 1 t.entries ++ (map line.Route t.routes ++ map line.Vif t.vifs ++ map line.Fate t.fates) ++ end_line b)) e

abbrev IsRead : List ℕ → HistoryText → Type 0
IsRead bytes p = PartsFit p.skips p.entries p.tail × (bytes ≡ text p.skips p.entries p.tail) × (p.lines ≡ first_lines p.skips p.entries)

pub parts_fit : (t : State) → Sound t → t.ended ≡ true → AllByRecursion LineFits (told t) → PartsFit t.skips t.entries (parts t).tail
parts_fit t k e fits =
    record {
      lines = subst (AllByRecursion LineFits) (ended_told t k e) fits;
      each = k.each;
      skips_rise = k.skips_rise;
      routes_rise = k.routes_rise;
      vifs_rise = k.vifs_rise;
    }

state_read : LineTakes → SpacedAgain → (bytes : List ℕ) (t : State) → walk 1 first_state (parts_of 10 bytes) ≡ Ok t → IsRead bytes (parts t)
state_read takes again bytes t e =
    let all : Walks first_state t (parts_of 10 bytes) = walk_told takes again (parts_behind 10 bytes) (before 10 bytes) first_state t first_sound e in
    let k : Sound t = all.4 in
    let same : all.0 ≡ text_lines t.skips t.entries (parts t).tail = sym all.3 ∙ ended_told t k all.5 in
    let none : t.current ≡ current.Nothing = ended_closed t t.current k.open_in all.5 in (
      parts_fit t k all.5 (subst (AllByRecursion LineFits) (sym all.3) all.1),
      sym (rejoined 10 bytes) ∙ all.2 ∙ ap (flat_map line_text) same,
      k.firsts ∙ ap (λ c. first_lines t.skips (t.entries ++ current_entries c)) none ∙ ap (first_lines t.skips) (append-nil t.entries),
    )

pub parts_ok : (r : Result State ℕ) (p : HistoryText) → parts_result r ≡ Ok p → (t : State) × (r ≡ Ok t) × (parts t ≡ p)
parts_ok (Ok t) p e = (t, refl, cc e)
parts_ok (Err n) p e = absurd (cc e)

pub read_is_text : LineTakes → SpacedAgain → ReadIsText
read_is_text takes again bytes p e =
    let found : (t : State) × (walk 1 first_state (parts_of 10 bytes) ≡ Ok t) × (parts t ≡ p) = parts_ok (walk 1 first_state (parts_of 10 bytes)) p e in
    subst (IsRead bytes) found.2 (state_read takes again bytes found.0 found.1)
