-- A load keeps the rule, and compares what the seat had seen.
use Rattle.std.proofs.Common.{◌≡◌, ℕ, ◌≤◌, List, length, true, refl, sym, ap, ◌∙◌, subst, arith, slice_index, slice_set}
use mathlib.Core.List.{IsPrefix}
use Rattle.mr_book.specs.declared.view.View.{View}
use Rattle.mr_book.specs.Rule.{Fits, IsCounted}
use Rattle.std.proofs.lemmas.List.Elements.{All-nil, All-weaker}
use Rattle.atomic_table.specs.Table.{Me, keeps, Allows}
use Rattle.mr_book.specs.Rule.{OwnEntries}
use Rattle.mr_book.specs.Steps.{compared, Looked}
use Rattle.mr_book.proofs.Prefixes.{prefix_shorter, prefix_whole, prefix_length}
use Rattle.mr_book.proofs.Views.{all_set, one_set}

module _ {E : Type 0} (author : E → ℕ) where
  looked : (keeper : ℕ) (holds : ℕ → ℕ) (log : List E) (i : ℕ) (v : View E) (n : ℕ) → Fits author keeper holds log i v → n ≡ length log → Looked author v n (compared v)
  looked keeper holds log i v n fits is = record {
    after = refl;
    least = let le = prefix_length v.known.seen log fits.begins in omega arith;
    all = λ r. let same = (fits.right r).1 in (is ∙ ap length (sym same), All-weaker (λ (old : List E). IsPrefix old log) (λ (old : List E). length old ≤ length v.known.seen) (λ old pre. let le = prefix_length old log pre in subst (λ l. length old ≤ length l) (sym same) le) v.olds fits.olds);
    olds = All-weaker (λ (old : List E). IsPrefix old log) (λ (old : List E). length old ≤ length v.known.seen → IsPrefix old v.known.seen) (λ old pre le. prefix_shorter old v.known.seen log pre fits.begins le) v.olds fits.olds;
    owns = λ whole. let same : v.known.seen ≡ log = prefix_whole v.known.seen log fits.begins (omega arith) in subst (OwnEntries author v.known.owns) (sym same) fits.owns;
  }

  pub looks : {S : Type 0} (slots id : ℕ) (me : Me S (View E)) → Allows (IsCounted author) slots id me 0 (λ n. n) (λ n w. Looked author me.0 n w.0 × (w.1 ≡ me.1))
  looks slots id me s kept homes at range =
      let v = me.0 in
      let f = kept.fits id v at in (
        compared v,
        keeps,
        tt,
        record {
          log = kept.log;
          keeper = kept.keeper;
          holds = kept.holds;
          count = ap (λ ws. slice_set ws 0 (slice_index ws 0)) kept.count;
          one = one_set (λ (u : View E). u.right ≡ true) s.views kept.keeper id (compared v) v at (λ r. r) kept.one;
          fits = all_set (Fits author kept.keeper kept.holds kept.log) s.views id (compared v) (λ j u _ there. kept.fits j u there)
              (record { right = f.right; begins = f.begins; olds = All-nil (λ (old : List E). IsPrefix old kept.log); number = f.number; holders = f.holders; owns = f.owns });
        },
        (looked kept.keeper kept.holds kept.log id v (slice_index s.words 0) f (ap (λ ws. slice_index ws 0) kept.count), refl),
      )
