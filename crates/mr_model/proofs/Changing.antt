-- The changes of a history give its tables, and those up to n the tables of its first n entries.
use Rattle.std.proofs.Common.{◌≡◌, ℕ, zero, suc, ◌+◌, ◌<◌, ◌≤◌, not, nat_le, List, [], ◌∷◌, ◌++◌, length, take, fold, option_map, option_to_list, Option, Some, None, refl, sym, ap, subst, ◌∙◌, arith, append_assoc, append-nil, length-append, le-leb}
use Rattle.std.proofs.Math.Seq.{append_snoc, take-nil}
use Rattle.std.proofs.lemmas.Bool.{lt-leb}
use Rattle.std.proofs.lemmas.List.Elements.{filter-append}
use Rattle.std.proofs.lemmas.List.Sums.{fold-append}
use Rattle.mr_model.specs.declared.change.Change.{Change}
use Rattle.mr_model.specs.declared.change.What.{What}
use Rattle.mr_model.specs.declared.entry.Entry.{Entry}
use Rattle.mr_model.specs.declared.entry.Entry.TheVariants.{Call, Slow, Recv}
use Rattle.mr_model.specs.declared.limits.Limits.{Limits}
use Rattle.mr_model.specs.declared.outcome.Outcome.TheVariants as outcome
use Rattle.mr_model.specs.declared.reply.Reply.TheVariants.{Good}
use Rattle.mr_model.specs.Changes.{change_by, changes_from, changes, up_to}
use Rattle.mr_model.specs.Granting.{numbered, tables_with, what_of}
use Rattle.mr_model.specs.Numbers.{NumbersRise, NumbersFall}
use Rattle.mr_model.specs.State.{State, step, state, granted, is_owner}
use Rattle.mr_model.specs.Tables.{Tables, changed_by, tables_by}
use Rattle.mr_model.proofs.Stepping.{released_does}
use Rattle.mr_model.proofs.Pushing.{state_push, state_count}
use Rattle.mr_model.proofs.Numbering.{fall_below, fall_after}

pub changes_from_push : (limits : Limits) (g h : List Entry) (e : Entry) → changes_from limits g (h ++ e ∷ []) ≡ changes_from limits g h ++ change_by limits (state limits (g ++ h)) e
changes_from_push limits g [] e = rw (append-nil (change_by limits (state limits g) e), append-nil g) refl
changes_from_push limits g (x ∷ h) e =
    rw (changes_from_push limits (g ++ x ∷ []) h e, append_snoc g x h)
    (sym (append_assoc (change_by limits (state limits g) x) (changes_from limits (g ++ x ∷ []) h) (change_by limits (state limits (g ++ x ∷ h)) e)))

pub changes_push : (limits : Limits) (h : List Entry) (e : Entry) → changes limits (h ++ e ∷ []) ≡ changes limits h ++ change_by limits (state limits h) e
changes_push limits h e = changes_from_push limits [] h e

-- a change that there may be
abbrev one : ℕ → Option What → List Change
one n w = option_to_list (option_map (numbered n) w)

one_makes : (t : Tables) (n : ℕ) (w : Option What) → fold changed_by t (one n w) ≡ tables_with t n w
one_makes t n None = refl
one_makes t n (Some w) = refl

pub step_tables : (limits : Limits) (s : State) (e : Entry) → (step limits s e).tables ≡ fold changed_by s.tables (change_by limits s e)
step_tables limits s (Call d r Good released) =
    (released_does (granted limits s d r) released).tables
    ∙ sym (one_makes s.tables (s.count + 1) (what_of limits.devices s.tables _ r))
step_tables limits s (Recv d None) = refl
step_tables limits s (Recv d (Some message)) = refl
step_tables limits s (Slow lane index look flow outcome.Parked) = refl
step_tables limits s e = refl

tables_from : (limits : Limits) (g h : List Entry) → fold changed_by (state limits g).tables (changes_from limits g h) ≡ (state limits (g ++ h)).tables
tables_from limits g [] = rw append-nil refl
tables_from limits g (e ∷ h) =
    let s = state limits g in
    let more = changes_from limits (g ++ e ∷ []) h in
    fold-append changed_by s.tables (change_by limits s e) more
    ∙ ap (λ (t : Tables). fold changed_by t more) (sym (step_tables limits s e))
    ∙ ap (λ (u : State). fold changed_by u.tables more) (sym (state_push limits g e))
    ∙ tables_from limits (g ++ e ∷ []) h
    ∙ ap (λ (k : List Entry). (state limits k).tables) (append_snoc g e h)

pub changes_make_tables : (limits : Limits) (h : List Entry) → tables_by (changes limits h) ≡ (state limits h).tables
changes_make_tables limits h = tables_from limits [] h

one_kept : (m n : ℕ) (w : Option What) → m ≤ n → up_to n (one m w) ≡ one m w
one_kept m n None le = refl
one_kept m n (Some w) le = rw (le-leb m n le) refl

one_left : (m n : ℕ) (w : Option What) → n < m → up_to n (one m w) ≡ []
one_left m n None lt = refl
one_left m n (Some w) lt = rw (lt-leb m n lt) refl

change_kept : (limits : Limits) (s : State) (e : Entry) (n : ℕ) → s.count + 1 ≤ n → up_to n (change_by limits s e) ≡ change_by limits s e
change_kept limits s (Call d r Good released) n le = one_kept _ n (what_of limits.devices s.tables _ r) le
change_kept limits s e n le = refl

change_left : (limits : Limits) (s : State) (e : Entry) (n : ℕ) → n < s.count + 1 → up_to n (change_by limits s e) ≡ []
change_left limits s (Call d r Good released) n lt = one_left _ n (what_of limits.devices s.tables _ r) lt
change_left limits s e n lt = refl

-- entries behind g make no change that its first entries made
changes_left : (limits : Limits) (g h : List Entry) (n : ℕ) → n ≤ length g → up_to n (changes_from limits g h) ≡ []
changes_left limits g [] n le = refl
changes_left limits g (e ∷ h) n le =
    let count : (state limits g).count ≡ length g = state_count limits g in
    let long : length (g ++ e ∷ []) ≡ length g + 1 = length-append g (e ∷ []) in
    let lt : n < (state limits g).count + 1 = omega (arith, count, le) in
    rw (
      filter-append (λ c. nat_le c.number n) (change_by limits (state limits g) e) (changes_from limits (g ++ e ∷ []) h),
      change_left limits (state limits g) e n lt,
      changes_left limits (g ++ e ∷ []) h n (omega (arith, long, le)),
    ) refl

changes_first_from : (limits : Limits) (g h : List Entry) (n : ℕ) → changes_from limits g (take n h) ≡ up_to (length g + n) (changes_from limits g h)
changes_first_from limits g [] n = rw take-nil refl
changes_first_from limits g (e ∷ h) zero = sym (changes_left limits g (e ∷ h) (length g + 0) (omega arith))
changes_first_from limits g (e ∷ h) (suc n) =
    let count : (state limits g).count ≡ length g = state_count limits g in
    let long : length (g ++ e ∷ []) ≡ length g + 1 = length-append g (e ∷ []) in
    let le : (state limits g).count + 1 ≤ length g + suc n = omega (arith, count) in
    let place : length (g ++ e ∷ []) + n ≡ length g + suc n = omega (arith, long) in
    rw (
      filter-append (λ c. nat_le c.number (length g + suc n)) (change_by limits (state limits g) e) (changes_from limits (g ++ e ∷ []) h),
      change_kept limits (state limits g) e (length g + suc n) le,
      changes_first_from limits (g ++ e ∷ []) h n,
      place,
    ) refl

pub changes_first : (limits : Limits) (h : List Entry) (n : ℕ) → changes limits (take n h) ≡ up_to n (changes limits h)
changes_first limits h n =
    let place : length {A = Entry} [] + n ≡ n = omega arith in
    changes_first_from limits [] h n ∙ ap (λ (k : ℕ). up_to k (changes limits h)) place

pub changes_up_to : (limits : Limits) (h : List Entry) (n : ℕ) → tables_by (up_to n (changes limits h)) ≡ (state limits (take n h)).tables
changes_up_to limits h n =
    ap (λ (cs : List Change). tables_by cs) (sym (changes_first limits h n)) ∙ changes_make_tables limits (take n h)

one_rises : (m n : ℕ) (w : Option What) (rest : List Change) → m < n → ((k : ℕ) → k ≤ n → NumbersRise k rest) → NumbersRise m (one n w ++ rest)
one_rises m n None rest lt more = more m (omega (arith, lt))
one_rises m n (Some w) rest lt more = (lt, more n (omega arith))

change_rises : (limits : Limits) (s : State) (e : Entry) (m : ℕ) (rest : List Change) → m < s.count + 1 → ((k : ℕ) → k ≤ s.count + 1 → NumbersRise k rest) → NumbersRise m (change_by limits s e ++ rest)
change_rises limits s (Call d r Good released) m rest lt more = one_rises m (s.count + 1) (what_of limits.devices s.tables _ r) rest lt more
change_rises limits s e m rest lt more = more m (omega (arith, lt))

changes_rise_from : (limits : Limits) (g h : List Entry) (m : ℕ) → m ≤ length g → NumbersRise m (changes_from limits g h)
changes_rise_from limits g [] m le = tt
changes_rise_from limits g (e ∷ h) m le =
    let count : (state limits g).count ≡ length g = state_count limits g in
    let long : length (g ++ e ∷ []) ≡ length g + 1 = length-append g (e ∷ []) in
    change_rises limits (state limits g) e m (changes_from limits (g ++ e ∷ []) h) (omega (arith, count, le))
    (λ k kept. changes_rise_from limits (g ++ e ∷ []) h k (omega (arith, count, long, kept)))

pub changes_rise : (limits : Limits) (h : List Entry) → NumbersRise 0 (changes limits h)
changes_rise limits h = changes_rise_from limits [] h 0 (omega arith)

step_falls : (limits : Limits) (s : State) (e : Entry) → NumbersFall (s.count + 1) s.tables.routes → NumbersFall (s.count + 1 + 1) (step limits s e).tables.routes
step_falls limits s e f =
    subst (λ (t : Tables). NumbersFall (s.count + 1 + 1) t.routes) (sym (step_tables limits s e)) (by e)
  where
    one_falls : (w : Option What) → NumbersFall (s.count + 1 + 1) (fold changed_by s.tables (one (s.count + 1) w)).routes
    one_falls None = fall_below (s.count + 1) (s.count + 1 + 1) s.tables.routes (omega arith) f
    one_falls (Some w) = fall_after (s.count + 1) s.tables.routes w f

    by : (x : Entry) → NumbersFall (s.count + 1 + 1) (fold changed_by s.tables (change_by limits s x)).routes
    by (Call d r Good released) = one_falls (what_of limits.devices s.tables (not (is_owner s d)) r)
    by x = fall_below (s.count + 1) (s.count + 1 + 1) s.tables.routes (omega arith) f

falls_from : (limits : Limits) (g h : List Entry) → NumbersFall (length g + 1) (state limits g).tables.routes → NumbersFall (length (g ++ h) + 1) (state limits (g ++ h)).tables.routes
falls_from limits g [] f = rw append-nil f
falls_from limits g (e ∷ h) f =
    let count : (state limits g).count ≡ length g = state_count limits g in
    let long : length (g ++ e ∷ []) ≡ length g + 1 = length-append g (e ∷ []) in
    let here : NumbersFall ((state limits g).count + 1) (state limits g).tables.routes =
    fall_below _ _ _ (omega (arith, count)) f in
    let next : NumbersFall (length (g ++ e ∷ []) + 1) (state limits (g ++ e ∷ [])).tables.routes =
    subst (λ (u : State). NumbersFall (length (g ++ e ∷ []) + 1) u.tables.routes) (sym (state_push limits g e))
    (fall_below _ _ _ (omega (arith, count, long)) (step_falls limits (state limits g) e here)) in
    rw append_snoc at (falls_from limits (g ++ e ∷ []) h next)

pub routes_fall : (limits : Limits) (h : List Entry) → NumbersFall (length h + 1) (state limits h).tables.routes
routes_fall limits h = falls_from limits [] h tt
