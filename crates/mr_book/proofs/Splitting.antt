-- Seats are split: the pen from the seat that may count, a number from the dealer, a copy from any seat.
use Rattle.std.proofs.Common.{◌≡◌, ◌≢◌, ℕ, zero, suc, ◌<◌, List, [], ◌∷◌, length, set, true, refl, sym, ap, ◌∙◌, subst, arith}
use mathlib.Core.Option.{some}
use mathlib.Core.List.{IsPrefix}
use lib.ListN.{get_elem?}
use Rattle.mr_book.specs.declared.view.View.{View}
use Rattle.mr_book.specs.Rule.{Fits, IsCounted}
use Rattle.std.proofs.lemmas.List.Elements.{All-nil, All-cons, All-head, All-tail}
use mathlib.Core.Option.{some-injective, some-ne-none}
use Rattle.atomic_table.specs.Table.{Splits, opening}
use Rattle.atomic_table.proofs.Lists.{at_last}
use Rattle.mr_book.specs.Rule.{by}
use Rattle.mr_book.specs.Views.{numbers, newcomer, copied, dealt_out, first_dealt, caller, pen, dealing, opener}
use Rattle.mr_book.proofs.Prefixes.{prefix_self}
use Rattle.mr_book.proofs.Owns.{numbers_new, numbers_from}
use Rattle.mr_book.proofs.Views.{all_set, all_more, one_set, one_more}
use Rattle.std.proofs.Common.{eqb, cond, ne_eqb, eq-eqb}
use Rattle.mr_book.proofs.Blank.{off, none_is, same_number, blank_fits}

-- whoever takes the number from the seat i is the seat j
dealt_to : ℕ → ℕ → (ℕ → ℕ) → ℕ → ℕ
dealt_to number j holds k = cond (eqb k number) j (holds k)

dealt_here : (number j : ℕ) (holds : ℕ → ℕ) (k : ℕ) → k ≡ number → dealt_to number j holds k ≡ j
unfolding dealt_to
dealt_here number j holds k is = ap (λ b. cond b j (holds k)) (eq-eqb k number is)

dealt_else : (number j : ℕ) (holds : ℕ → ℕ) (k i : ℕ) → k ≢ number → holds k ≡ i → dealt_to number j holds k ≡ i
unfolding dealt_to
dealt_else number j holds k i apart is = ap (λ b. cond b j (holds k)) (ne_eqb k number apart) ∙ is

module _ {E : Type 0} (author : E → ℕ) where
  -- the seat that may count, without its right
  left_fits : (keeper keeper' : ℕ) (holds : ℕ → ℕ) (log : List E) (i : ℕ) (v : View E) → Fits author keeper holds log i v → Fits author keeper' holds log i (caller v.known)
  left_fits keeper keeper' holds log i v f = record {
    right = λ r. absurd (off r);
    begins = f.begins;
    olds = All-nil (λ (old : List E). IsPrefix old log);
    number = f.number;
    holders = f.holders;
    owns = f.owns;
  }

  -- a seat that may not count, where another may
  kept_fits : (keeper keeper' : ℕ) (holds : ℕ → ℕ) (log : List E) (j : ℕ) (u : View E) → j ≢ keeper → Fits author keeper holds log j u → Fits author keeper' holds log j u
  kept_fits keeper keeper' holds log j u apart f = record {
    right = λ r. absurd (apart (f.right r).0);
    begins = f.begins;
    olds = f.olds;
    number = f.number;
    holders = f.holders;
    owns = f.owns;
  }

  pub pen_fits : (holds : ℕ → ℕ) (log seen : List E) (i : ℕ) → seen ≡ log → Fits author i holds log i (pen seen)
  pen_fits holds log seen i is = record {
    right = λ _. (refl, is);
    begins = subst (λ l. IsPrefix l log) (sym is) (prefix_self log);
    olds = All-nil (λ (old : List E). IsPrefix old log);
    number = λ k e. absurd (none_is k e);
    holders = All-nil (λ (own : ℕ × List E). holds own.0 ≡ i);
    owns = All-nil (λ (own : ℕ × List E). by author own.0 log ≡ own.1);
  }

  pub gives_pen : {S : Type 0} (id : ℕ) (v : View E) → v.right ≡ true → Splits (IsCounted author {S = S}) id v (caller v.known) (pen v.known.seen)
  gives_pen id v right s kept at =
      let f = kept.fits id v at in
      let known = f.right right in
      let new : ℕ = length (set s.views id (caller v.known)) in
      record {
        log = kept.log;
        keeper = new;
        holds = kept.holds;
        count = kept.count;
        one = (pen v.known.seen, at_last (set s.views id (caller v.known)) (pen v.known.seen) new refl, refl);
        fits = all_more (Fits author new kept.holds kept.log) (set s.views id (caller v.known)) (pen v.known.seen)
            (all_set (Fits author new kept.holds kept.log) s.views id (caller v.known)
            (λ j u apart there. kept_fits kept.keeper new kept.holds kept.log j u (λ is. apart (is ∙ sym known.0)) (kept.fits j u there))
            (left_fits kept.keeper new kept.holds kept.log id v f))
            (pen_fits kept.holds kept.log v.known.seen new known.1);
      }

  pub copies : {S : Type 0} (id : ℕ) (v : View E) → Splits (IsCounted author {S = S}) id v v (caller (copied v.known))
  copies id v s kept at =
      let f = kept.fits id v at in
      let P : ℕ → View E → Type 0 = Fits author kept.keeper kept.holds kept.log in
      let new = caller (copied v.known) in
      record {
        log = kept.log;
        keeper = kept.keeper;
        holds = kept.holds;
        count = kept.count;
        one = one_more (λ (u : View E). u.right ≡ true) (set s.views id v) kept.keeper new (one_set (λ (u : View E). u.right ≡ true) s.views kept.keeper id v v at (λ r. r) kept.one);
        fits = all_more P (set s.views id v) new
            (all_set P s.views id v (λ j u _ there. kept.fits j u there) f)
            (blank_fits author kept.keeper kept.holds kept.log v.known.seen (length (set s.views id v)) f.begins);
      }

  -- who does not hold the number that is dealt
  apart_fits : (keeper number new : ℕ) (holds : ℕ → ℕ) (log : List E) (i j : ℕ) (u : View E) → holds number ≡ i → j ≢ i → Fits author keeper holds log j u → Fits author keeper (dealt_to number new holds) log j u
  apart_fits keeper number new holds log i j u held apart f =
      let other : (k : ℕ) → holds k ≡ j → dealt_to number new holds k ≡ j = λ k is. dealt_else number new holds k j (λ e. apart (sym is ∙ ap holds e ∙ held)) is in record {
        right = f.right;
        begins = f.begins;
        olds = f.olds;
        number = λ k is. other k (f.number k is);
        holders = λ k d lt. other _ (f.holders k d lt);
        owns = f.owns;
      }

  -- the dealer, without the number
  dealer_fits : (keeper k n new : ℕ) (holds : ℕ → ℕ) (log : List E) (i : ℕ) → Fits author keeper holds log i (caller (dealing k (suc n))) → Fits author keeper (dealt_to k new holds) log i (caller (dealing (suc k) n))
  dealer_fits keeper k n new holds log i f =
      let tail = All-tail (λ (own : ℕ × List E). holds own.0 ≡ i) (k, []) (numbers (suc k) n) f.holders in record {
        right = λ r. absurd (off r);
        begins = f.begins;
        olds = All-nil (λ (old : List E). IsPrefix old log);
        number = λ x is. absurd (none_is x is);
        holders = λ x d lt. dealt_else k new holds _ i (λ e. let above = numbers_from {E = E} (suc k) n (suc k) (omega arith) x d lt in absurd (omega (arith, e))) (tail x d lt);
        owns = All-tail (λ (own : ℕ × List E). by author own.0 log ≡ own.1) (k, []) (numbers (suc k) n) f.owns;
      }

  -- the seat with the number
  new_fits : (keeper k n new : ℕ) (holds : ℕ → ℕ) (log : List E) (i : ℕ) → Fits author keeper holds log i (caller (dealing k (suc n))) → Fits author keeper (dealt_to k new holds) log new (caller (newcomer k))
  new_fits keeper k n new holds log i f = record {
    right = λ r. absurd (off r);
    begins = f.begins;
    olds = All-nil (λ (old : List E). IsPrefix old log);
    number = λ x is. dealt_here k new holds x (sym (same_number is));
    holders = All-cons (λ (own : ℕ × List E). dealt_to k new holds own.0 ≡ new) (k, []) [] (dealt_here k new holds k refl) (All-nil (λ (own : ℕ × List E). dealt_to k new holds own.0 ≡ new));
    owns = All-cons (λ (own : ℕ × List E). by author own.0 log ≡ own.1) (k, []) [] (All-head (λ (own : ℕ × List E). by author own.0 log ≡ own.1) (k, []) (numbers (suc k) n) f.owns) (All-nil (λ (own : ℕ × List E). by author own.0 log ≡ own.1));
  }

  pub deals : {S : Type 0} (id k n : ℕ) → Splits (IsCounted author {S = S}) id (caller (dealing k (suc n))) (caller (dealing (suc k) n)) (caller (newcomer k))
  deals id k n s kept at =
      let v = caller {E = E} (dealing k (suc n)) in
      let left = caller {E = E} (dealing (suc k) n) in
      let right = caller {E = E} (newcomer k) in
      let f = kept.fits id v at in
      let held = All-head (λ (own : ℕ × List E). kept.holds own.0 ≡ id) (k, []) (numbers (suc k) n) f.holders in
      let new : ℕ = length (set s.views id left) in
      let P : ℕ → View E → Type 0 = Fits author kept.keeper (dealt_to k new kept.holds) kept.log in
      record {
        log = kept.log;
        keeper = kept.keeper;
        holds = dealt_to k new kept.holds;
        count = kept.count;
        one = one_more (λ (u : View E). u.right ≡ true) (set s.views id left) kept.keeper right (one_set (λ (u : View E). u.right ≡ true) s.views kept.keeper id left v at (λ r. absurd (off r)) kept.one);
        fits = all_more P (set s.views id left) right
            (all_set P s.views id left
            (λ j u apart there. apart_fits kept.keeper k new kept.holds kept.log id j u held apart (kept.fits j u there))
            (dealer_fits kept.keeper k n new kept.holds kept.log id f))
            (new_fits kept.keeper k n new kept.holds kept.log id f);
      }

  opener_fits : (callers : ℕ) → Fits author 0 (λ _. 0) [] 0 (opener callers)
  opener_fits callers = record {
    right = λ _. (refl, refl);
    begins = prefix_self [];
    olds = All-nil (λ (old : List E). IsPrefix old []);
    number = λ k is. absurd (none_is k is);
    holders = λ k d lt. refl;
    owns = numbers_new author 0 callers;
  }

  -- the table at the start
  pub opens : {S : Type 0} (callers : ℕ) → IsCounted author {S = S} (opening (0 ∷ []) [] (opener callers))
  opens callers = record {
    log = [];
    keeper = 0;
    holds = λ _. 0;
    count = refl;
    one = (opener callers, refl, refl);
    fits = each;
  }
    where
      each : (i : ℕ) (v : View E) → get_elem? (opener callers ∷ []) i ≡ some v → Fits author 0 (λ _. 0) [] i v
      each zero v e = subst (Fits author 0 (λ _. 0) [] 0) (some-injective _ _ e) (opener_fits callers)
      each (suc i) v e = absurd (some-ne-none v (sym e))

  -- the same, at a view that is known by an equation
  pub deals_first : {S : Type 0} (id k n : ℕ) (me : View E × List (ℕ × S)) → me ≡ (caller (dealing k n), []) → 0 < n → Splits (IsCounted author {S = S}) id me.0 (caller (dealt_out me.0.known)) (caller (first_dealt me.0.known))
  deals_first id k zero me is some_left = absurd (omega arith)
  deals_first {S} id k (suc n) me is some_left = subst (λ (m : View E × List (ℕ × S)). Splits (IsCounted author {S = S}) id m.0 (caller (dealt_out m.0.known)) (caller (first_dealt m.0.known))) (sym is) (deals id k n)
