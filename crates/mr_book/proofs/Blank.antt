-- A seat that answers for no number.
use Rattle.std.proofs.Common.{◌≡◌, ℕ, List, [], Some, None, true, false, true≢false, sym}
use mathlib.Core.List.{IsPrefix}
use Rattle.mr_book.specs.Rule.{Fits}
use Rattle.std.proofs.lemmas.List.Elements.{All-nil}
use Rattle.mr_book.specs.Rule.{by}
use Rattle.mr_book.specs.Views.{caller}

pub off : false ≡ true → ⊥
off e = true≢false (sym e)

pub none_is : (k : ℕ) → None ≡ Some k → ⊥
none_is k e = cc e

pub same_number : {j k : ℕ} → Some j ≡ Some k → j ≡ k
same_number e = cc e

module _ {E : Type 0} (author : E → ℕ) where
  -- a seat that knows nothing but a beginning of the list
  pub blank_fits : (keeper : ℕ) (holds : ℕ → ℕ) (log seen : List E) (i : ℕ) → IsPrefix seen log → Fits author keeper holds log i (caller (record { number = None; seen = seen; owns = [] }))
  blank_fits keeper holds log seen i pre = record {
    right = λ r. absurd (off r);
    begins = pre;
    olds = All-nil (λ (old : List E). IsPrefix old log);
    number = λ k is. absurd (none_is k is);
    holders = All-nil (λ (own : ℕ × List E). holds own.0 ≡ i);
    owns = All-nil (λ (own : ℕ × List E). by author own.0 log ≡ own.1);
  }
