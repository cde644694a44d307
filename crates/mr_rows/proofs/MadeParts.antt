-- The parts of a history that has what a scenario asks are those that its ends of phases cut.
use Rattle.std.proofs.Common.{◌≡◌, ◌≤◌, ℕ, zero, suc, Bool, true, false, List, [], ◌∷◌, ◌++◌, refl, sym, ap, ◌∙◌, arith, subst}
use Rattle.std.specs.List.{list_any}
use Rattle.std.specs.Prelude.{if◌then◌else◌, ◌||◌}
use Rattle.mr_base.specs.Outside.{Files}
use Rattle.mr_load.specs.Made.{PartOf, MadeFrom}
use Rattle.mr_model.specs.Past.{is_end}
use Rattle.mr_model.specs.declared.entry.Entry.{Entry}
use Rattle.mr_model.specs.declared.entry.Entry.TheVariants.{EndPhase}
use Rattle.mr_scenario.specs.declared.scenario.Item.{Item}
use Rattle.mr_scenario.specs.declared.scenario.Phase.{Phase}
use Rattle.mr_scenario.specs.declared.scenario.Scenario.{Scenario}

-- the entries before the first end of a phase, and those behind it
abbrev pub before_end : List Entry → List Entry
before_end [] = []
before_end (e ∷ es) = if is_end e then [] else e ∷ before_end es

abbrev pub behind_end : List Entry → List Entry
behind_end [] = []
behind_end (e ∷ es) = if is_end e then es else behind_end es

neither : (b c : Bool) → (b || c) ≡ false → (b ≡ false) × (c ≡ false)
neither true c e = absurd (cc)
neither false c e = (refl, e)

before_is : (part rest : List Entry) → list_any is_end part ≡ false → before_end (part ++ EndPhase ∷ rest) ≡ part
before_is [] rest e = refl
before_is (x ∷ part) rest e =
    let both = neither (is_end x) (list_any is_end part) e in
    rw (both.0) (ap (λ (es : List Entry). x ∷ es) (before_is part rest both.1))

behind_is : (part rest : List Entry) → list_any is_end part ≡ false → behind_end (part ++ EndPhase ∷ rest) ≡ rest
behind_is [] rest e = refl
behind_is (x ∷ part) rest e =
    let both = neither (is_end x) (list_any is_end part) e in
    rw (both.0) (behind_is part rest both.1)

or_true : (b : Bool) → (b || true) ≡ true
or_true true = refl
or_true false = refl

has_end : (part rest : List Entry) → list_any is_end (part ++ EndPhase ∷ rest) ≡ true
has_end [] rest = refl
has_end (x ∷ part) rest = rw (has_end part rest) (or_true (is_end x))

-- Each phase has an end, its entries are those before that, and there are none behind the last.
abbrev pub Parts : Files → Scenario → List Item → List Phase → List Entry → Type 0
Parts files s before [] h = h ≡ []
Parts files s before (p ∷ ps) h = (list_any is_end h ≡ true) × PartOf files s before p (before_end h) × Parts files s (before ++ p.items) ps (behind_end h)

pub made_parts : (files : Files) (s : Scenario) (before : List Item) (ps : List Phase) (h : List Entry) → MadeFrom files s before ps h → Parts files s before ps h
made_parts files s before [] h m = m
made_parts files s before (p ∷ ps) h m =
    let part : before_end h ≡ m.0 = ap before_end m.2 ∙ before_is m.0 m.1 m.3.no_end in
    let rest : behind_end h ≡ m.1 = ap behind_end m.2 ∙ behind_is m.0 m.1 m.3.no_end in (
      ap (list_any is_end) m.2 ∙ has_end m.0 m.1,
      subst (λ (x : List Entry). PartOf files s before p x) (sym part) m.3,
      subst (λ (x : List Entry). Parts files s (before ++ p.items) ps x) (sym rest) (made_parts files s (before ++ p.items) ps m.1 m.4),
    )

-- what holds of 1 and 2 holds of all numbers from 1 to 2
pub one_and_two : (P : ℕ → Type 0) → P 1 → P 2 → (n : ℕ) → 1 ≤ n → n ≤ 2 → P n
one_and_two P first second zero least most = absurd (omega (arith, least))
one_and_two P first second (suc zero) least most = first
one_and_two P first second (suc (suc zero)) least most = second
one_and_two P first second (suc (suc (suc n))) least most = absurd (omega (arith, most))
