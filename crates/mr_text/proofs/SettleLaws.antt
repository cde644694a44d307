-- A settle's line in front of a text.
use Rattle.std.proofs.Common.{◌≡◌, ℕ, ◌<◌, Option, None, Ok, Some, Err, List, [], ◌∷◌, ◌++◌, length, decimal, append_assoc, sym, ap, ◌∙◌, arith}
use Rattle.std.specs.Prelude.{codes}
use Rattle.mr_lines.proofs.LineLaws.{line_is_one}
use Rattle.mr_lines.specs.Fit.{LineFits}
use Rattle.mr_lines.specs.declared.line.Line.{Line}
use Rattle.mr_lines.specs.declared.line.Line.TheVariants as line
use Rattle.mr_text.proofs.Pieces.{piece, cut_line, line_steps, walk_on}
use Rattle.mr_text.specs.declared.history_text.TextError.{TextError}
use Rattle.mr_text.specs.declared.history_text.TextError.TheVariants as error
use Rattle.mr_text.specs.declared.reading_state.State.{State}
use Rattle.mr_text.specs.Answers.{GoesOn, Steps, Turns}
use Rattle.mr_text.specs.Text.{line_text}
use Rattle.mr_text.specs.Walk.{step, next_line, line_gives, walk}
use Rattle.mr_words.specs.Binds.{◌>>=◌}
use Rattle.mr_words.specs.Parts.{parts_of}

-- a line that fits, in front of a text
walks : (n : ℕ) (s : State) (l : Line) (bytes rest : List ℕ) → LineFits l → bytes ≡ line_text l ++ rest → walk n s (parts_of 10 bytes) ≡ (line_gives n (step n s l) >>= λ t. walk (next_line n) t (parts_of 10 rest))
walks n s l bytes rest fits is =
    ap (walk n s) (ap (parts_of 10) is ∙ cut_line line_is_one l rest fits) ∙ walk_on n s (piece l) (parts_of 10 rest) (omega arith)
    ∙ ap (λ o. line_gives n o >>= λ t. walk (next_line n) t (parts_of 10 rest)) (line_steps n s l fits)

-- where it may come the text goes on
pub line_taken : (n next : ℕ) (s t : State) (l : Line) (bytes rest : List ℕ) → LineFits l → bytes ≡ line_text l ++ rest → next ≡ next_line n → step n s l ≡ Some t
    → GoesOn n s bytes next t rest × (length (parts_of 10 rest) < length (parts_of 10 bytes))
line_taken n next s t l bytes rest fits is on steps =
    let cut = ap (parts_of 10) is ∙ cut_line line_is_one l rest fits in
    ((ap (λ i. walk i t (parts_of 10 rest)) on ∙ sym (walks n s l bytes rest fits is ∙ ap (λ o. line_gives n o >>= λ t. walk (next_line n) t (parts_of 10 rest)) steps), omega (arith, ap length cut)), omega (arith, ap length cut))

-- where it may not come it is the first such line
pub line_refused : {R : Type 0} (left : R → List ℕ) (n m : ℕ) (s t new : State) (l : Line) (bytes rest : List ℕ) (e : TextError) → LineFits l → bytes ≡ line_text l ++ rest
    → Steps {A = Unit {0}} (Err e) n new (step n s l) → Turns left (Err e) n s bytes m t
line_refused left n m s t new l bytes rest (error.Line k) fits is steps =
    walks n s l bytes rest fits is ∙ ap (λ o. line_gives n o >>= λ t. walk (next_line n) t (parts_of 10 rest)) steps.0 ∙ ap Err (sym steps.1)
line_refused left n m s t new l bytes rest error.Memory fits is steps = tt

-- the bytes of a settle's line, one after another
pub settle_bytes : (n l c : ℕ) (text a b d e rest : List ℕ) → text ≡ decimal n ++ a → a ≡ codes " settle " ++ b → b ≡ decimal l ++ d → d ≡ 32 ∷ e → e ≡ decimal c ++ 10 ∷ rest
    → text ≡ line_text (line.Settle n (record { 0 = l }) c) ++ rest
settle_bytes n l c text a b d e rest f g h i j =
    let number = decimal n in
    let lane = decimal l in
    let count = decimal c in
    let word = codes "settle" in
    f ∙ ap (λ x. number ++ x) (g ∙ ap (λ x. codes " settle " ++ x) (h ∙ ap (λ x. lane ++ x) (i ∙ ap (λ x. 32 ∷ x) j)))
    ∙ ap (λ x. number ++ 32 ∷ (word ++ 32 ∷ x)) (sym (append_assoc lane (32 ∷ count) (10 ∷ rest)))
    ∙ sym (append_assoc number (32 ∷ (word ++ 32 ∷ (lane ++ 32 ∷ count))) (10 ∷ rest))
    ∙ sym (append_assoc (number ++ 32 ∷ (word ++ 32 ∷ (lane ++ 32 ∷ count))) (10 ∷ []) rest)

-- where no line was taken nothing changed
pub none_taken : {R : Type 0} (left : R → List ℕ) (o : Option R) (n m : ℕ) (s t : State) (bytes : List ℕ) → Turns left (Ok o) n s bytes m t → o ≡ None → (m ≡ n) × (t ≡ s)
none_taken left None n m s t bytes so is = so
none_taken left (Some rest) n m s t bytes so is = absurd (cc is)
