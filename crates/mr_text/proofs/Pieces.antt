-- The text of parts that fit is walked to its end, and begins with no line outside the grammar.
use Rattle.std.proofs.Common.{◌≡◌, ℕ, zero, suc, ◌+◌, ◌==◌, ◌&&◌, ◌≤◌, ◌<◌, Bool, true, false, Option, Some, None, Result, Ok, Err, List, [], ◌∷◌, ◌++◌, length, map, refl, sym, ap, ◌∙◌, arith, lit≤, append-nil, append_assoc, length-append, ◌⊎◌, inl, inr}
use Rattle.std.specs.Prelude.{if◌then◌else◌, flat_map, option_and_then, take}
use Rattle.std.specs.List.{AllByRecursion, join_with_byte}
use Rattle.mr_lines.proofs.LineLaws.{line_read}
use Rattle.mr_lines.proofs.PartLaws.{line_first}
use Rattle.mr_lines.specs.Fit.{LineFits}
use Rattle.mr_lines.specs.Forms.{spaced}
use Rattle.mr_lines.specs.Laws.{LineIsOne, is_one_line}
use Rattle.mr_lines.specs.Lines.{line_words}
use Rattle.mr_lines.specs.declared.line.Line.{Line}
use Rattle.mr_lines.specs.declared.skip.Skip.{Skip}
use Rattle.mr_lines.specs.declared.tail.Tail.{Tail}
use Rattle.mr_model.specs.declared.entry.Entry.{Entry}
use Rattle.mr_text.specs.declared.history_text.HistoryText.{HistoryText}
use Rattle.mr_text.specs.declared.reading_state.State.{State}
use Rattle.mr_text.specs.Laws.{TextIsRead, OneText, NoneBegins, FirstLines}
use Rattle.mr_text.specs.Text.{line_text, text_lines, text}
use Rattle.mr_text.specs.Walk.{first_state, is_empty, step, line_step, next_line, line_gives, walk, parts_result, walked}
use Rattle.mr_text.specs.Whole.{first_lines, first_bytes}
use Rattle.mr_text.proofs.Bytes.{rejoined}
use Rattle.mr_text.proofs.Leading.{runs, runs_sound, ended, lead_all}
use Rattle.mr_text.proofs.Parting.{then_some}
use Rattle.mr_text.proofs.Telling.{Sound, Takes, next_of, first_sound, step_told}
use Rattle.mr_text.proofs.Walking.{next_told}
use Rattle.mr_words.specs.Binds.{◌>>=◌}
use Rattle.mr_words.specs.Parts.{before, parts_behind, parts_of}

-- the bytes of a line without its line feed
abbrev pub piece : Line → List ℕ
piece l = spaced (line_words l)

-- A line in front of bytes is one piece in front of theirs.
pub cut_line : LineIsOne → (l : Line) (rest : List ℕ) → LineFits l → parts_of 10 (line_text l ++ rest) ≡ piece l ∷ parts_of 10 rest
cut_line one l rest fits = ap (parts_of 10) (append_assoc (piece l) (10 ∷ []) rest) ∙ line_first (piece l) rest (one l fits)

cut_lines : LineIsOne → (ls : List Line) → AllByRecursion LineFits ls → parts_of 10 (flat_map line_text ls) ≡ map piece ls ++ [] ∷ []
cut_lines one [] fits = refl
cut_lines one (l ∷ ls) fits = cut_line one l (flat_map line_text ls) fits.0 ∙ ap (λ ps. piece l ∷ ps) (cut_lines one ls fits.1)

-- one piece in front of others
pub walk_on : (n : ℕ) (s : State) (p : List ℕ) (ps : List (List ℕ)) → 0 < length ps → walk n s (p ∷ ps) ≡ (line_gives n (line_step n s p) >>= λ t. walk (next_line n) t ps)
walk_on n s p [] some = absurd (omega arith)
walk_on n s p (q ∷ qs) some = refl

some_behind : {A : Type 0} (xs : List A) (x : A) → 0 < length (xs ++ x ∷ [])
some_behind xs x = omega (arith, length-append xs (x ∷ []))

-- a line that fits is read from its bytes
pub line_steps : (n : ℕ) (s : State) (l : Line) → LineFits l → line_step n s (piece l) ≡ step n s l
line_steps n s l fits = ap (option_and_then (step n s)) (line_read l fits)

walk_lines : (ls : List Line) (s t : State) → Sound s → AllByRecursion LineFits ls → runs s ls ≡ Some t → t.ended ≡ true → walk (next_of s) s (map piece ls ++ [] ∷ []) ≡ Ok t
walk_lines [] s t k fits e last =
    let same : s ≡ t = cc e in
    ap (λ b. if b && true then Ok s else Err (next_of s)) (ap (λ (s : State). s.ended) same ∙ last) ∙ ap Ok same
walk_lines (l ∷ ls) s t k fits e last =
    let found : (u : State) × (step (next_of s) s l ≡ Some u) × (runs u ls ≡ Some t) = then_some (step (next_of s) s l) (λ u. runs u ls) t e in
    let u : State = found.0 in
    let taken : Takes s l u = step_told s l u k found.1 in
    walk_on (next_of s) s (piece l) (map piece ls ++ [] ∷ []) (some_behind (map piece ls) [])
    ∙ ap (λ o. line_gives (next_of s) o >>= λ t. walk (next_line (next_of s)) t (map piece ls ++ [] ∷ [])) (line_steps (next_of s) s l fits.0 ∙ found.1)
    ∙ ap (λ i. walk i u (map piece ls ++ [] ∷ [])) (next_told s u l taken.1)
    ∙ walk_lines ls u t taken.0 fits.1 found.2 last

abbrev read_parts : List Skip → List Entry → Tail → HistoryText
read_parts ks h t = record { skips = ks; entries = h; tail = t; lines = first_lines ks h }

pub text_is_read : LineIsOne → TextIsRead
text_is_read one ks h t p =
    let all : (ls : List ℕ) × (runs first_state (text_lines ks h t) ≡ Some (ended ks h t ls)) = lead_all ks h t p in
    let last : State = ended ks h t all.0 in
    let k : Sound last = runs_sound (text_lines ks h t) first_state last first_sound all.1 in
    let goes : walk 1 first_state (parts_of 10 (text ks h t)) ≡ Ok last =
    ap (walk 1 first_state) (cut_lines one (text_lines ks h t) p.lines) ∙ walk_lines (text_lines ks h t) first_state last first_sound p.lines all.1 refl in
    let lines : all.0 ≡ first_lines ks h = k.firsts ∙ ap (first_lines ks) (append-nil h) in
    ap parts_result goes ∙ ap (λ ls. Ok (record { skips = ks; entries = h; tail = t; lines = ls })) lines

abbrev read_as : HistoryText → Result HistoryText ℕ
read_as p = Ok p

pub one_text : TextIsRead → OneText
one_text read ks h t ks' h' t' p p' e =
    let same : read_as (read_parts ks h t) ≡ read_as (read_parts ks' h' t') = sym (read ks h t p) ∙ ap walked e ∙ read ks' h' t' p' in
    let is : read_parts ks h t ≡ read_parts ks' h' t' = cc same in
    (ap (λ (p : HistoryText). p.skips) is, ap (λ (p : HistoryText). p.entries) is, ap (λ (p : HistoryText). p.tail) is)

-- A line number that is given is none before the first.
pub bind_err : (n m : ℕ) (o : Option State) (f : State → Result State ℕ) → (line_gives n o >>= f) ≡ Err m → ((o ≡ None) × (n ≡ m)) ⊎ ((u : State) × (o ≡ Some u) × (f u ≡ Err m))
bind_err n m None f e = inl (refl, cc e)
bind_err n m (Some u) f e = inr (u, refl, e)

pub last_err : (b : Bool) (n m : ℕ) (s : State) → (if b then Ok s else Err n) ≡ Err m → n ≡ m
last_err true n m s e = absurd (cc e)
last_err false n m s e = cc e

at_most_next : (i : ℕ) → i ≤ 4294967295 → i ≤ next_line i
at_most_next i h = grind arith

next_at_most : (i : ℕ) → next_line i ≤ 4294967295
next_at_most i = grind arith

pub next_is : (i : ℕ) → i < 4294967295 → next_line i ≡ i + 1
next_is i h = grind arith

pub walk_least : (ps : List (List ℕ)) (i j : ℕ) (s : State) → i ≤ 4294967295 → walk i s ps ≡ Err j → i ≤ j
walk_least [] i j s low e = let same : i ≡ j = cc e in omega arith
walk_least (p ∷ []) i j s low e = let same : i ≡ j = last_err (s.ended && is_empty p) i j s e in omega arith
walk_least (p ∷ q ∷ qs) i j s low e =
    elim (bind_err i j (line_step i s p) (λ t. walk (next_line i) t (q ∷ qs)) e) [
      | inl f ↦ let same : i ≡ j = f.1 in omega arith
      | inr f ↦
          let more : next_line i ≤ j = walk_least (q ∷ qs) (next_line i) j f.0 (next_at_most i) f.2 in
          omega (arith, at_most_next i low)
    ]

some_before : {A : Type 0} (xs ys : List A) → 0 < length ys → 0 < length (xs ++ ys)
some_before xs ys h = omega (arith, length-append xs ys)

-- what a walk gives from a piece on depends on the piece
abbrev walks_by : ℕ → Option State → List (List ℕ) → Result State ℕ
walks_by n o ps = line_gives n o >>= λ t. walk (next_line n) t ps

-- Behind the first line that may not come anything may stand.
stuck : (ps qs : List (List ℕ)) (m k : ℕ) (s : State) → walk m s ps ≡ Err (m + k) → m + k < 4294967295 → k + 1 < length ps → 0 < length qs → walk m s (take (suc k) ps ++ qs) ≡ Err (m + k)
stuck [] qs m k s e low within some = absurd (omega arith)
stuck (p ∷ ps) qs m zero s e low within some =
    let left : 0 < length ps = omega arith in
    elim (bind_err m (m + 0) (line_step m s p) (λ t. walk (next_line m) t ps) (sym (walk_on m s p ps left) ∙ e)) [
      | inl f ↦ walk_on m s p qs some ∙ ap (λ o. walks_by m o qs) f.0 ∙ ap (λ i. Err i) f.1
      | inr f ↦
          let more : next_line m ≤ m + 0 = walk_least ps (next_line m) (m + 0) f.0 (next_at_most m) f.2 in
          let next : next_line m ≡ m + 1 = next_is m (omega arith) in
          absurd (omega arith)
    ]
stuck (p ∷ ps) qs m (suc k) s e low within some =
    let left : 0 < length ps = omega arith in
    elim (bind_err m (m + suc k) (line_step m s p) (λ t. walk (next_line m) t ps) (sym (walk_on m s p ps left) ∙ e)) [
      | inl f ↦ let same : m ≡ m + suc k = f.1 in absurd (omega arith)
      | inr f ↦
          let next : next_line m ≡ m + 1 = next_is m (omega arith) in
          let number : m + suc k ≡ m + 1 + k = omega arith in
          let goes : walk (m + 1) f.0 ps ≡ Err (m + 1 + k) = ap (λ i. walk i f.0 ps) (sym next) ∙ f.2 ∙ ap (λ i. Err i) number in
          walk_on m s p (take (suc k) ps ++ qs) (some_before (take (suc k) ps) qs some)
          ∙ ap (λ o. walks_by m o (take (suc k) ps ++ qs)) f.1
          ∙ ap (λ i. walk i f.0 (take (suc k) ps ++ qs)) next
          ∙ stuck ps qs (m + 1) k f.0 goes (omega arith) (omega arith) some
          ∙ ap (λ i. Err i) (sym number)
    ]

-- no piece has a line feed
front_by : (b : ℕ) (bs : List ℕ) (c : Bool) → (b == 10) ≡ c → is_one_line (before 10 bs) ≡ true → is_one_line (if c then [] else b ∷ before 10 bs) ≡ true
front_by b bs true e more = refl
front_by b bs false e more = rw e more

front_one : (bs : List ℕ) → is_one_line (before 10 bs) ≡ true
front_one [] = refl
front_one (b ∷ bs) = front_by b bs (b == 10) refl (front_one bs)

abbrev IsOne : List ℕ → Type 0
IsOne p = is_one_line p ≡ true

behind_by : (bs : List ℕ) (c : Bool) → AllByRecursion IsOne (parts_behind 10 bs) → AllByRecursion IsOne (if c then before 10 bs ∷ parts_behind 10 bs else parts_behind 10 bs)
behind_by bs true a = (front_one bs, a)
behind_by bs false a = a

behind_one : (bs : List ℕ) → AllByRecursion IsOne (parts_behind 10 bs)
behind_one [] = tt
behind_one (b ∷ bs) = behind_by bs (b == 10) (behind_one bs)

take_all_of : {X : Type 0} (P : X → Type 0) (n : ℕ) (xs : List X) → AllByRecursion P xs → AllByRecursion P (take n xs)
take_all_of P zero [] a = tt
take_all_of P zero (x ∷ xs) a = tt
take_all_of P (suc n) [] a = tt
take_all_of P (suc n) (x ∷ xs) a = (a.0, take_all_of P n xs a.1)

-- Pieces that stand before other bytes, each with its line feed, are cut again.
abbrev pub lines_again : List (List ℕ) → List ℕ
lines_again ps = flat_map (λ piece. piece ++ 10 ∷ []) ps

cut_again : (ps : List (List ℕ)) (rest : List ℕ) → AllByRecursion IsOne ps → parts_of 10 (lines_again ps ++ rest) ≡ ps ++ parts_of 10 rest
cut_again [] rest a = refl
cut_again (p ∷ ps) rest a =
    let same : ((p ++ 10 ∷ []) ++ lines_again ps) ++ rest ≡ p ++ 10 ∷ (lines_again ps ++ rest) =
    append_assoc (p ++ 10 ∷ []) (lines_again ps) rest ∙ append_assoc p (10 ∷ []) (lines_again ps ++ rest) in
    ap (parts_of 10) same ∙ line_first p (lines_again ps ++ rest) a.0 ∙ ap (λ qs. p ∷ qs) (cut_again ps rest a.1)

pub parts_err : (r : Result State ℕ) (n : ℕ) → parts_result r ≡ Err n → r ≡ Err n
parts_err (Ok t) n e = absurd (cc e)
parts_err (Err m) n e = ap (λ i. Err i) (cc e)

err_not_ok : (n : ℕ) (p : HistoryText) (r : Result HistoryText ℕ) → r ≡ Err n → r ≡ Ok p → ⊥
err_not_ok n p (Ok q) e f = cc e
err_not_ok n p (Err m) e f = cc f

some_parts : (rest : List ℕ) → 0 < length (parts_of 10 rest)
some_parts rest = omega arith

stuck_text : (bytes rest : List ℕ) (n : ℕ) → walked bytes ≡ Err n → n < length (parts_of 10 bytes) → n < 4294967295 → walked (first_bytes n bytes ++ rest) ≡ Err n
stuck_text bytes rest zero e within low =
    let least : 1 ≤ 0 = walk_least (parts_of 10 bytes) 1 0 first_state (lit≤ tt) (parts_err _ 0 e) in
    absurd (omega arith)
stuck_text bytes rest (suc k) e within low =
    let number : suc k ≡ 1 + k = omega arith in
    let fails : walk 1 first_state (parts_of 10 bytes) ≡ Err (1 + k) = parts_err (walk 1 first_state (parts_of 10 bytes)) (suc k) e ∙ ap (λ i. Err i) number in
    let again : parts_of 10 (first_bytes (suc k) bytes ++ rest) ≡ take (suc k) (parts_of 10 bytes) ++ parts_of 10 rest =
    cut_again (take (suc k) (parts_of 10 bytes)) rest (take_all_of IsOne (suc k) (parts_of 10 bytes) (front_one bytes, behind_one bytes)) in
    ap parts_result (ap (walk 1 first_state) again ∙ stuck (parts_of 10 bytes) (parts_of 10 rest) 1 k first_state fails (omega arith) (omega arith) (some_parts rest) ∙ ap (λ i. Err i) (sym number))

pub none_begins : TextIsRead → NoneBegins
none_begins read bytes n e within low ks h t rest p same =
    err_not_ok n (read_parts ks h t) (walked (text ks h t)) (ap walked same ∙ stuck_text bytes rest n e within low) (read ks h t p)

pub take_zero : {A : Type 0} (xs : List A) → take 0 xs ≡ []
take_zero [] = refl
take_zero (x ∷ xs) = refl

-- pieces with line feeds between them begin with the first of them
begin_joined : (n : ℕ) (ps : List (List ℕ)) → n < length ps → (rest : List ℕ) × (join_with_byte 10 ps ≡ lines_again (take n ps) ++ rest)
begin_joined zero ps within = (join_with_byte 10 ps, ap (λ l. lines_again l ++ join_with_byte 10 ps) (sym (take_zero ps)))
begin_joined (suc n) [] within = absurd (omega arith)
begin_joined (suc n) (p ∷ []) within = absurd (omega arith)
begin_joined (suc n) (p ∷ q ∷ qs) within =
    let more : (rest : List ℕ) × (join_with_byte 10 (q ∷ qs) ≡ lines_again (take n (q ∷ qs)) ++ rest) = begin_joined n (q ∷ qs) (omega arith) in (
      more.0,
      ap (λ b. p ++ 10 ∷ b) more.1 ∙ sym (append_assoc p (10 ∷ []) (lines_again (take n (q ∷ qs)) ++ more.0)) ∙ sym (append_assoc (p ++ 10 ∷ []) (lines_again (take n (q ∷ qs))) more.0),
    )

pub begins_with : FirstLines
begins_with bytes n within =
    let found : (rest : List ℕ) × (join_with_byte 10 (parts_of 10 bytes) ≡ lines_again (take n (parts_of 10 bytes)) ++ rest) = begin_joined n (parts_of 10 bytes) within in
    (found.0, sym (rejoined 10 bytes) ∙ found.1)
