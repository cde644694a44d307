-- The lines before the first that may not come can be gone on with to the end of a text.
use Rattle.std.proofs.Common.{◌≡◌, ℕ, zero, suc, ◌+◌, ◌-◌, ◌&&◌, ◌≤◌, ◌<◌, Bool, true, false, not, Some, None, Err, List, [], ◌∷◌, ◌++◌, refl, sym, ap, ◌∙◌, subst, arith, lit≤, append-nil, append_assoc, inl, inr}
use Rattle.std.specs.Prelude.{flat_map, nat_lt, take}
use Rattle.std.specs.List.{AllByRecursion}
use Rattle.std.proofs.lemmas.List.Concat.{flat_map-append}
use Rattle.mr_base.specs.declared.numbers.LaneNo.{LaneNo}
use Rattle.mr_lines.specs.Fit.{LineFits, no_flow}
use Rattle.mr_lines.specs.Forms.{spaced}
use Rattle.mr_lines.specs.Laws.{LineTakes, SpacedAgain}
use Rattle.mr_lines.specs.Lines.{line_words}
use Rattle.mr_lines.specs.declared.line.Line.{Line}
use Rattle.mr_lines.specs.declared.line.Line.TheVariants as line
use Rattle.mr_lines.specs.declared.skip.Skip.{Skip}
use Rattle.mr_lines.specs.declared.tail.Tail.{Tail}
use Rattle.mr_model.specs.declared.entry.Entry.{Entry}
use Rattle.mr_model.specs.declared.entry.Entry.TheVariants as entry
use Rattle.mr_model.specs.declared.entry.FastRecord.{FastRecord}
use Rattle.mr_text.specs.declared.reading_state.Current.{Current}
use Rattle.mr_text.specs.declared.reading_state.Current.TheVariants as current
use Rattle.mr_text.specs.declared.reading_state.State.{State}
use Rattle.mr_text.specs.Laws.{LinesBegin}
use Rattle.mr_text.specs.Text.{line_text, text}
use Rattle.mr_text.specs.Walk.{when, is_empty, is_inside, first_state, with_entry, closed, closed_current, with_end, recorded, step, line_step, next_line, walk, parts}
use Rattle.mr_text.specs.Whole.{PartsFit, first_bytes, told}
use Rattle.mr_text.proofs.Leading.{runs, runs_append, runs_on, runs_sound}
use Rattle.mr_text.proofs.Parting.{then_some, then_goes}
use Rattle.mr_text.proofs.Pieces.{bind_err, last_err, walk_least, next_is, take_zero, lines_again, parts_err}
use Rattle.mr_text.proofs.Telling.{Sound, Takes, next_of, first_sound, step_told}
use Rattle.mr_text.proofs.Walking.{line_told, next_told, ended_told, parts_fit}
use Rattle.mr_words.specs.Parts.{parts_of}

Some_is : (s t : State) → Some s ≡ Some t → s ≡ t
Some_is s t e = cc e

all_append : {X : Type 0} (P : X → Type 0) (xs ys : List X) → AllByRecursion P xs → AllByRecursion P ys → AllByRecursion P (xs ++ ys)
all_append P [] ys a b = b
all_append P (x ∷ xs) ys a b = (a.0, all_append P xs ys a.1 b)

-- the lines that were taken are told
runs_told : (ls : List Line) (s t : State) → Sound s → runs s ls ≡ Some t → told t ≡ told s ++ ls
runs_told [] s t k e = ap told (sym (Some_is s t e)) ∙ sym (append-nil (told s))
runs_told (l ∷ ls) s t k e =
    let found : (q : State) × (step (next_of s) s l ≡ Some q) × (runs q ls ≡ Some t) = then_some (step (next_of s) s l) (λ t. runs t ls) t e in
    let taken : Takes s l found.0 = step_told s l found.0 k found.1 in
    runs_told ls found.0 t taken.0 found.2 ∙ ap (λ b. b ++ ls) taken.1 ∙ append_assoc (told s) (l ∷ []) ls

-- a record, whichever
abbrev no_record : FastRecord
no_record = record { index = 0; look = 0; entry = 0; input = None; outs = record { 0 = 0 }; flow = no_flow }

abbrev fill : ℕ → List Line
fill zero = []
fill (suc n) = line.Record no_record ∷ fill n

fill_fits : (n : ℕ) → AllByRecursion LineFits (fill n)
fill_fits zero = tt
fill_fits (suc n) = ((lit≤ tt, (lit≤ tt, (lit≤ tt, (tt, (lit≤ tt, refl))))), fill_fits n)

-- The current settle has all its records, and nothing else changed.
abbrev Filled : State → State → LaneNo → Type 0
Filled s t lane = (records : List FastRecord) × (t.current ≡ current.Settle lane records 0) × (t.begun ≡ s.begun) × (t.ended ≡ s.ended)

some_due : (n : ℕ) → nat_lt 0 (suc n) ≡ true
some_due n = grind arith

filled : (n : ℕ) (s : State) (lane : LaneNo) (records : List FastRecord) → s.current ≡ current.Settle lane records n → (t : State) × (runs s (fill n) ≡ Some t) × Filled s t lane
filled zero s lane records is = (s, refl, (records, is, refl, refl))
filled (suc n) s lane records is =
    let less : suc n - 1 ≡ n = omega arith in
    let t : State = record s { current = current.Settle lane (records ++ no_record ∷ []) (suc n - 1) } in
    let goes : step (next_of s) s (line.Record no_record) ≡ Some t = ap (recorded s no_record) is ∙ ap (λ b. when b (Some t)) (some_due n) in
    let more : (u : State) × (runs t (fill n) ≡ Some u) × Filled t u lane =
    filled n t lane (records ++ no_record ∷ []) (ap (λ i. current.Settle lane (records ++ no_record ∷ []) i) less) in
    (more.0, runs_on (line.Record no_record) (fill n) s t more.0 goes more.1, more.2)

-- Lines that fit lead from a state to the end of a text.
abbrev Ends : State → Type 0
Ends s = (ls : List Line) × (t : State) × AllByRecursion LineFits ls × (runs s ls ≡ Some t) × (t.ended ≡ true)

inside_is : (s : State) → s.begun ≡ true → s.ended ≡ false → is_inside s ≡ true
inside_is s b e = ap (λ x. x && not s.ended) b ∙ ap not e

end_from : (s q : State) → closed s ≡ Some q → q.begun ≡ true → q.ended ≡ false → Ends s
end_from s q c b e =
    let t : State = record q { ended = true } in (
      line.End ∷ [],
      t,
      (tt, tt),
      runs_on line.End [] s t t (then_goes (closed s) with_end q c ∙ ap (λ x. when x (Some t)) (inside_is q b e)) refl,
      refl,
    )

ends_by : (s : State) (o : Current) → s.current ≡ o → s.begun ≡ true → s.ended ≡ false → Ends s
ends_by s current.Nothing is b e = end_from s s (ap (closed_current s) is) b e
ends_by s (current.Call d r reply ps) is b e = end_from s (with_entry s (entry.Call d r reply ps)) (ap (closed_current s) is) b e
ends_by s (current.Settle lane records left) is b e =
    let all : (t : State) × (runs s (fill left) ≡ Some t) × Filled s t lane = filled left s lane records is in
    let t : State = all.0 in
    let full : Filled s t lane = all.2 in
    let last : Ends t = end_from t (with_entry t (entry.Settle lane full.0)) (ap (closed_current t) full.1) (full.2 ∙ b) (full.3 ∙ e) in (
      fill left ++ last.0,
      last.1,
      all_append LineFits (fill left) last.0 (fill_fits left) last.2,
      runs_append (fill left) last.0 s t last.1 all.1 last.3,
      last.4,
    )

ends_so : (s : State) (b e : Bool) → s.begun ≡ b → s.ended ≡ e → Sound s → Ends s
ends_so s b true begun ended k = ([], s, tt, refl, ended)
ends_so s true false begun ended k = ends_by s s.current refl begun ended
ends_so s false false begun ended k =
    subst Ends (sym (k.fresh begun)) (line.History ∷ line.End ∷ [], record first_state { begun = true; ended = true }, (tt, (tt, tt)), refl, refl)

-- The pieces before one that may not come are lines.
abbrev Goes : State → List (List ℕ) → Type 0
Goes s ps = (ls : List Line) × (t : State) × AllByRecursion LineFits ls × (runs s ls ≡ Some t) × (flat_map line_text ls ≡ lines_again ps) × Sound t

line_front : (p : List ℕ) (l : Line) (ls : List Line) (ps : List (List ℕ)) → p ≡ spaced (line_words l) → flat_map line_text ls ≡ lines_again ps → flat_map line_text (l ∷ ls) ≡ lines_again (p ∷ ps)
line_front p l ls ps is more = ap (λ b. (b ++ 10 ∷ []) ++ flat_map line_text ls) (sym is) ∙ ap (λ b. (p ++ 10 ∷ []) ++ b) more

goes_to : LineTakes → SpacedAgain → (ps : List (List ℕ)) (k : ℕ) (s : State) → Sound s → walk (next_of s) s ps ≡ Err (next_of s + k) → next_of s + k < 4294967295 → Goes s (take k ps)
goes_to takes again ps zero s sound e low = ([], s, tt, refl, ap lines_again (sym (take_zero ps)), sound)
goes_to takes again [] (suc k) s sound e low =
    let same : next_of s ≡ next_of s + suc k = cc e in
    absurd (omega arith)
goes_to takes again (p ∷ []) (suc k) s sound e low =
    let same : next_of s ≡ next_of s + suc k = last_err (s.ended && is_empty p) (next_of s) (next_of s + suc k) s e in
    absurd (omega arith)
goes_to takes again (p ∷ q ∷ qs) (suc k) s sound e low =
    elim (bind_err (next_of s) (next_of s + suc k) (line_step (next_of s) s p) (λ t. walk (next_line (next_of s)) t (q ∷ qs)) e) [
      | inl f ↦ let same : next_of s ≡ next_of s + suc k = f.1 in absurd (omega arith)
      | inr f ↦
          let u : State = f.0 in
          let one : (l : Line) × LineFits l × (p ≡ spaced (line_words l)) × Takes s l u × (step (next_of s) s l ≡ Some u) = line_told takes again s u p sound f.1 in
          let next : next_line (next_of s) ≡ next_of u = next_told s u one.0 one.3.1 in
          let number : next_of u ≡ next_of s + 1 = sym next ∙ next_is (next_of s) (omega arith) in
          let same : next_of s + suc k ≡ next_of u + k = omega arith in
          let more : Goes u (take k (q ∷ qs)) =
          goes_to takes again (q ∷ qs) k u one.3.0 (ap (λ i. walk i u (q ∷ qs)) (sym next) ∙ f.2 ∙ ap (λ i. Err i) same) (omega arith) in (
            one.0 ∷ more.0,
            more.1,
            (one.1, more.2),
            runs_on one.0 more.0 s u more.1 one.4 more.3,
            line_front p one.0 more.0 (take k (q ∷ qs)) one.2 more.4,
            more.5,
          )
    ]

-- From the lines that a state has taken to a text.
text_of : (bytes : List ℕ) (k : ℕ) → Goes first_state (take k (parts_of 10 bytes))
    → (skips : List Skip) × (h : List Entry) × (t : Tail) × (rest : List ℕ) × PartsFit skips h t × (text skips h t ≡ first_bytes k bytes ++ rest)
text_of bytes k g =
    let last : Ends g.1 = ends_so g.1 g.1.begun g.1.ended refl refl g.5 in
    let v : State = last.1 in
    let all : runs first_state (g.0 ++ last.0) ≡ Some v = runs_append g.0 last.0 first_state g.1 v g.3 last.3 in
    let sound : Sound v = runs_sound (g.0 ++ last.0) first_state v first_sound all in
    let tells : told v ≡ g.0 ++ last.0 = runs_told (g.0 ++ last.0) first_state v first_sound all in (
      v.skips,
      v.entries,
      (parts v).tail,
      flat_map line_text last.0,
      parts_fit v sound last.4 (subst (AllByRecursion LineFits) (sym tells) (all_append LineFits g.0 last.0 g.2 last.2)),
      ap (flat_map line_text) (sym (ended_told v sound last.4) ∙ tells) ∙ flat_map-append line_text g.0 last.0 ∙ ap (λ b. b ++ flat_map line_text last.0) g.4,
    )

pub lines_begin : LineTakes → SpacedAgain → LinesBegin
lines_begin takes again bytes zero e low =
    let least : 1 ≤ 0 = walk_least (parts_of 10 bytes) 1 0 first_state (lit≤ tt) (parts_err (walk 1 first_state (parts_of 10 bytes)) 0 e) in
    absurd (omega arith)
lines_begin takes again bytes (suc k) e low =
    let number : suc k ≡ 1 + k = omega arith in
    let less : suc k - 1 ≡ k = omega arith in
    let fails : walk 1 first_state (parts_of 10 bytes) ≡ Err (1 + k) = parts_err (walk 1 first_state (parts_of 10 bytes)) (suc k) e ∙ ap (λ i. Err i) number in
    let found : (skips : List Skip) × (h : List Entry) × (t : Tail) × (rest : List ℕ) × PartsFit skips h t × (text skips h t ≡ first_bytes k bytes ++ rest) =
    text_of bytes k (goes_to takes again (parts_of 10 bytes) k first_state first_sound fails (omega arith)) in
    (found.0, found.1, found.2, found.3, found.4, found.5 ∙ ap (λ i. first_bytes i bytes ++ found.3) (sym less))
