-- The exchange that adds changes keeps the rule of the list.
use Rattle.std.proofs.Common.{◌≡◌, ℕ, ◌<◌, ◌==◌, Bool, true, false, None}
use Rattle.std.proofs.Common.{List, [], ◌∷◌, ◌++◌, length}
use Rattle.std.proofs.Common.{refl, ap, sym, ◌∙◌, subst, arith, inl}
use Rattle.std.proofs.lemmas.List.{append-nil}
use Rattle.std.proofs.lemmas.Bool.Decides.{nat_tests}
use mathlib.Core.List.{IsPrefix}
use prog.Atomic.{either}
use Rattle.logbook.specs.Pages.{Cell, View, cell, keeps, no_nib, step, Moves, Goes}
use Rattle.mr_model.specs.declared.change.Change.{Change}
use Rattle.mr_model.specs.Numbers.{NumbersRise}
use Rattle.mr_publish.specs.Lists.{last_number}
use Rattle.mr_publish.specs.Rules.{IsKept, Adds}
use Rattle.mr_publish.proofs.Prefixes.{prefix_self, same_last}

abbrev shown : List Change → List Change
shown log = []

abbrev moved : List Change → List Change → ℕ → Type 0
moved xs ys n = Unit {0}

-- the first word is the number of the last change of the list
abbrev cells : ℕ → List Cell
cells n = (n, true) ∷ (0, true) ∷ []

-- who steps has seen v, and has no pen
abbrev view : List Change → View Change ℕ
view v = (v, (no_nib, None))

module _ (v cs : List Change) (ask : Change) (old new : ℕ) where
  -- the word afterwards
  abbrev next : ℕ → ℕ
  next n = either (n == old) new n

  abbrev told : ℕ → View Change ℕ → Type 0
  told = Adds cs (step 0 old new ask) (view v)

  abbrev AddsHere : List Cell → List Change → Type 0
  AddsHere c log = Goes IsKept shown moved 0 (view v) next told c log

  adds_goes : (log : List Change) → last_number 0 v ≡ old → last_number 0 (v ++ cs) ≡ new
      → NumbersRise 0 (v ++ cs) → NumbersRise 0 log → IsPrefix v log
      → (b : Bool) → (last_number 0 log == old) ≡ b
      → AddsHere (cells (last_number 0 log)) log
  adds_goes log v_is new_is rise rises pre true is =
      let here : last_number 0 log ≡ old = grind (arith, nat_tests) in
      let same : v ≡ log = same_last v log log rises pre (prefix_self log) (v_is ∙ sym here) in
      let n : next (last_number 0 log) ≡ last_number 0 (log ++ cs) =
      rw is (sym new_is ∙ ap (λ w. last_number 0 (w ++ cs)) same) in (
        keeps,
        cs,
        None,
        tt,
        record { words = ap cells n; rise = subst (λ w. NumbersRise 0 (w ++ cs)) same rise },
        inl (refl, refl),
        rw is (ap (λ w. w ++ cs) (sym same)),
      )
  adds_goes log v_is new_is rise rises pre false is =
      let all : log ++ [] ≡ log = append-nil log in
      let n : next (last_number 0 log) ≡ last_number 0 (log ++ []) =
      rw is (ap (last_number 0) (sym all)) in (
        keeps,
        [],
        None,
        tt,
        record { words = ap cells n; rise = subst (NumbersRise 0) (sym all) rises },
        inl (refl, refl),
        rw is tt,
      )

  -- whatever the list is, the exchange adds the changes to all that was seen, or finds another
  -- number
  pub adds_moves : last_number 0 v ≡ old → last_number 0 (v ++ cs) ≡ new → NumbersRise 0 (v ++ cs)
      → Moves IsKept shown moved 0 (view v) next told
  adds_moves v_is new_is rise cs' log kept pre away =
      let P : List Cell → Type 0 =
      λ c. (0 < length c) × ((cell c 0).1 ≡ true) × AddsHere c log in
      let goes = adds_goes log v_is new_is rise kept.rise pre (last_number 0 log == old) refl in
      subst P (sym kept.words) (omega arith, refl, goes)
