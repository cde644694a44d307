-- Options, tests and lists as the walk over a text takes them apart.
use Rattle.std.proofs.Common.{◌≡◌, ℕ, suc, ◌+◌, ◌==◌, Bool, true, false, Option, Some, None, List, [], ◌∷◌, ◌++◌, length, refl, sym, ap, ◌∙◌, arith, add-zero, append-nil, append_assoc, length-append}
use Rattle.std.specs.Prelude.{option_and_then}
use Rattle.std.specs.List.{AllByRecursion}
use Rattle.mr_model.specs.declared.entry.Entry.{Entry}
use Rattle.mr_model.specs.declared.entry.Entry.TheVariants as entry
use Rattle.mr_lines.specs.declared.line.Line.TheVariants as line
use Rattle.std.proofs.lemmas.List.{length-map}
use Rattle.mr_text.specs.Text.{entry_lines, entries_lines}
use Rattle.mr_text.specs.Walk.{when, is_empty, next_line}
use Rattle.mr_text.specs.Whole.{Rising, capped, line_count, first_lines_from}

pub when_some : {A : Type 0} (b : Bool) (x t : A) → when b (Some x) ≡ Some t → (b ≡ true) × (x ≡ t)
when_some true x t e = (refl, cc e)
when_some false x t e = absurd (cc e)

pub then_some : {A B : Type 0} (o : Option A) (f : A → Option B) (t : B) → option_and_then f o ≡ Some t → (q : A) × (o ≡ Some q) × (f q ≡ Some t)
then_some None f t e = absurd (cc e)
then_some (Some q) f t e = (q, refl, e)

pub then_goes : {A B : Type 0} (o : Option A) (f : A → Option B) (q : A) → o ≡ Some q → option_and_then f o ≡ f q
then_goes o f q e = rw e refl

pub empty_nil : {A : Type 0} (xs : List A) → is_empty xs ≡ true → xs ≡ []
empty_nil [] e = refl
empty_nil (x ∷ xs) e = absurd (grind arith)

pub not_both : (b : Bool) → b ≡ true → b ≡ false → ⊥
not_both true t f = cc f
not_both false t f = cc t

pub is_equal : (a b : ℕ) → (a == b) ≡ true → a ≡ b
is_equal a b e = grind arith

-- eight lists behind one another
abbrev pub joined : {A : Type 0} → List A → List A → List A → List A → List A → List A → List A → List A → List A
joined a b c d e f g h = a ++ b ++ c ++ d ++ e ++ f ++ g ++ h

pub front_joined : {A : Type 0} (a b c d e f g h : List A) → d ≡ [] → e ≡ [] → f ≡ [] → g ≡ [] → h ≡ [] → joined a b c d e f g h ≡ a ++ b ++ c
front_joined a b c d e f g h hd he hf hg hh = rw (hd, he, hf, hg, hh) (simp (append_assoc, append-nil))

pub push_b : {A : Type 0} (a b c d e f g h x : List A) → c ≡ [] → d ≡ [] → e ≡ [] → f ≡ [] → g ≡ [] → h ≡ [] → joined a (b ++ x) c d e f g h ≡ joined a b c d e f g h ++ x
push_b a b c d e f g h x hc hd he hf hg hh = rw (hc, hd, he, hf, hg, hh) (simp (append_assoc, append-nil))

pub push_c : {A : Type 0} (a b c d e f g h x : List A) → d ≡ [] → e ≡ [] → f ≡ [] → g ≡ [] → h ≡ [] → joined a b (c ++ x) d e f g h ≡ joined a b c d e f g h ++ x
push_c a b c d e f g h x hd he hf hg hh = rw (hd, he, hf, hg, hh) (simp (append_assoc, append-nil))

pub push_d : {A : Type 0} (a b c d e f g h x : List A) → e ≡ [] → f ≡ [] → g ≡ [] → h ≡ [] → joined a b c (d ++ x) e f g h ≡ joined a b c d e f g h ++ x
push_d a b c d e f g h x he hf hg hh = rw (he, hf, hg, hh) (simp (append_assoc, append-nil))

pub push_e : {A : Type 0} (a b c d e f g h x : List A) → f ≡ [] → g ≡ [] → h ≡ [] → joined a b c d (e ++ x) f g h ≡ joined a b c d e f g h ++ x
push_e a b c d e f g h x hf hg hh = rw (hf, hg, hh) (simp (append_assoc, append-nil))

pub push_f : {A : Type 0} (a b c d e f g h x : List A) → g ≡ [] → h ≡ [] → joined a b c d e (f ++ x) g h ≡ joined a b c d e f g h ++ x
push_f a b c d e f g h x hg hh = rw (hg, hh) (simp (append_assoc, append-nil))

pub push_g : {A : Type 0} (a b c d e f g h x : List A) → h ≡ [] → joined a b c d e f (g ++ x) h ≡ joined a b c d e f g h ++ x
push_g a b c d e f g h x hh = rw hh (simp (append_assoc, append-nil))

pub push_h : {A : Type 0} (a b c d e f g x : List A) → joined a b c d e f g x ≡ joined a b c d e f g [] ++ x
push_h a b c d e f g x = simp (append_assoc, append-nil)

-- what stands behind the entries may stand as their last
pub shift_c : {A : Type 0} (a b c d e f g h : List A) → joined a b (c ++ d) [] e f g h ≡ joined a b c d e f g h
shift_c a b c d e f g h = simp (append_assoc, append-nil)

regroup : {A : Type 0} (b c e f g h : List A) → b ++ c ++ [] ++ e ++ f ++ g ++ h ≡ b ++ c ++ (e ++ f ++ g) ++ h
regroup b c e f g h = simp (append_assoc, append-nil)

-- a whole text's lines
pub whole_joined : {A : Type 0} (x : A) (a b c d e f g h : List A) → a ≡ x ∷ [] → d ≡ [] → joined a b c d e f g h ≡ x ∷ (b ++ c ++ (e ++ f ++ g) ++ h)
whole_joined x a b c d e f g h ha hd = ap (λ l. joined l b c d e f g h) ha ∙ ap (λ l. joined (x ∷ []) b c l e f g h) hd ∙ ap (λ l. x ∷ l) (regroup b c e f g h)

pub rising_push : {A : Type 0} (follows : List A → A → Bool) (done xs : List A) (x : A) → Rising follows done xs → follows (done ++ xs) x ≡ true → Rising follows done (xs ++ x ∷ [])
rising_push follows done [] x r e = (rw append-nil at e, tt)
rising_push follows done (y ∷ xs) x r e = (r.0, rising_push follows (done ++ y ∷ []) xs x r.1 (rw append_assoc e))

pub all_push : {X : Type 0} (P : X → Type 0) (xs : List X) (x : X) → AllByRecursion P xs → P x → AllByRecursion P (xs ++ x ∷ [])
all_push P [] x a p = (p, tt)
all_push P (y ∷ xs) x a p = (a.0, all_push P xs x a.1 p)

-- the number of a line stops, and the next one is the one behind
pub next_capped : (m : ℕ) → next_line (capped m) ≡ capped (m + 1)
next_capped m = grind arith

pub entry_length : (n : ℕ) (e : Entry) → length (entry_lines n e) ≡ line_count e
entry_length n (entry.Call d r reply released) = omega (arith, length-map released line.Released)
entry_length n (entry.Slow lane index look flow o) = refl
entry_length n (entry.Settle lane records) = omega (arith, length-map records line.Record)
entry_length n (entry.Tick d ms) = refl
entry_length n (entry.Recv d message) = refl
entry_length n entry.EndPhase = refl

pub firsts_push : (m k : ℕ) (h : List Entry) (e : Entry) → first_lines_from m (h ++ e ∷ []) ≡ first_lines_from m h ++ capped (m + length (entries_lines k h)) ∷ []
firsts_push m k [] e = rw add-zero refl
firsts_push m k (x ∷ h) e =
    let one : length (entry_lines k x) ≡ line_count x = entry_length k x in
    let whole : length (entry_lines k x ++ entries_lines (k + 1) h) ≡ length (entry_lines k x) + length (entries_lines (k + 1) h) = length-append (entry_lines k x) (entries_lines (k + 1) h) in
    let more : m + line_count x + length (entries_lines (k + 1) h) ≡ m + length (entry_lines k x ++ entries_lines (k + 1) h) = omega arith in
    ap (λ l. capped m ∷ l) (firsts_push (m + line_count x) (k + 1) h e ∙ ap (λ i. first_lines_from (m + line_count x) h ++ capped i ∷ []) more)

pub entries_push : (k : ℕ) (h : List Entry) (e : Entry) → entries_lines k (h ++ e ∷ []) ≡ entries_lines k h ++ entry_lines (k + length h) e
entries_push k [] e = rw (add-zero, append-nil) refl
entries_push k (x ∷ h) e =
    let same : k + 1 + length h ≡ k + suc (length h) = omega arith in
    ap (λ l. entry_lines k x ++ l) (entries_push (k + 1) h e ∙ ap (λ i. entries_lines (k + 1) h ++ entry_lines i e) same) ∙ sym (append_assoc (entry_lines k x) (entries_lines (k + 1) h) _)
