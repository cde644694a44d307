-- An addition of 1 keeps the rule, where the seat may count and its list grew by an entry of its own.
use Rattle.std.proofs.Common.{◌≡◌, ◌≢◌, ℕ, ◌+◌, ◌%◌, ◌^◌, ◌<◌, List, [], ◌∷◌, ◌++◌, length, Some, true, refl, sym, ap, ◌∙◌, subst, arith, length-append, mod-eq_of_lt, slice_index, slice_set}
use mathlib.Core.List.{IsPrefix}
use Rattle.mr_book.specs.declared.view.View.{View}
use Rattle.mr_book.specs.Rule.{Fits, IsCounted}
use Rattle.std.proofs.lemmas.List.Elements.{All-nil, All-weaker}
use Rattle.atomic_table.specs.Table.{Me, keeps, Allows}
use Rattle.mr_book.specs.Views.{with_entry}
use Rattle.mr_book.specs.Steps.{CountsOne}
use Rattle.mr_book.proofs.Prefixes.{prefix_self, prefix_more, same_last}
use Rattle.mr_book.proofs.Owns.{by_other, owns_more, holders_more}
use Rattle.mr_book.proofs.Views.{all_set, one_set}

module _ {E : Type 0} (author : E → ℕ) where
  -- the count rises by one, for the entry e
  count_more : (ws : List ℕ) (log : List E) (e : E) → ws ≡ length log ∷ [] → length log + 1 < 2 ^ 64 → slice_set ws 0 ((slice_index ws 0 + 1) % 2 ^ 64) ≡ length (log ++ e ∷ []) ∷ []
  count_more ws log e is fits =
      ap (λ l. slice_set l 0 ((slice_index l 0 + 1) % 2 ^ 64)) is
      ∙ ap (λ k. k ∷ []) (mod-eq_of_lt fits ∙ sym (length-append log (e ∷ [])))

  -- another seat's view still fits, after an entry of the number that the seat i answers for
  other_fits : (keeper : ℕ) (holds : ℕ → ℕ) (log : List E) (e : E) (i j : ℕ) (u : View E) → i ≡ keeper → holds (author e) ≡ i → j ≢ i → Fits author keeper holds log j u → Fits author keeper holds (log ++ e ∷ []) j u
  other_fits keeper holds log e i j u mine held apart f = record {
    right = λ r. absurd (apart ((f.right r).0 ∙ sym mine));
    begins = prefix_more u.known.seen log (e ∷ []) f.begins;
    olds = All-weaker (λ (old : List E). IsPrefix old log) (λ (old : List E). IsPrefix old (log ++ e ∷ [])) (λ old pre. prefix_more old log (e ∷ []) pre) u.olds f.olds;
    number = f.number;
    holders = f.holders;
    owns = λ k d lt. by_other author _ log _ e (λ is. apart (sym (f.holders k d lt) ∙ ap holds (sym is) ∙ held)) (f.owns k d lt);
  }

  with_last : E → View E → View E
  with_last e v = record { right = v.right; known = with_entry author e v.known; olds = [] }

  -- the view of the seat that made the entry fits
  maker_fits : (keeper : ℕ) (holds : ℕ → ℕ) (log : List E) (e : E) (i : ℕ) (v : View E) → v.right ≡ true → Fits author keeper holds log i v → Fits author keeper holds (log ++ e ∷ []) i (with_last e v)
  unfolding with_last
  maker_fits keeper holds log e i v right f =
      let known = f.right right in record {
        right = λ _. (known.0, ap (λ l. l ++ e ∷ []) known.1);
        begins = subst (λ l. IsPrefix (l ++ e ∷ []) (log ++ e ∷ [])) (sym known.1) (prefix_self (log ++ e ∷ []));
        olds = All-nil (λ (old : List E). IsPrefix old (log ++ e ∷ []));
        number = f.number;
        holders = holders_more author holds i v.known.owns e f.holders;
        owns = owns_more author v.known.owns log e f.owns;
      }

  -- the list of the caller is what it has seen, and an entry under its number
  pub record Grew (list : List E) (v : View E) : Type 0 where
    pub last : E
    pub is : list ≡ v.known.seen ++ last ∷ []
    pub number : v.known.number ≡ Some (author last)

  pub counts : {S : Type 0} (slots id : ℕ) (me : Me S (View E)) (list : List E) → me.0.right ≡ true → length list < 2 ^ 64 → Grew list me.0 → Allows (IsCounted author) slots id me 0 (λ n. (n + 1) % 2 ^ 64) (λ n w. CountsOne author list me.0 n w.0 × (w.1 ≡ me.1))
  unfolding with_last
  counts slots id me list right range grew s kept homes at fits_word =
      let v = me.0 in
      let e = grew.last in
      let f = kept.fits id v at in
      let known = f.right right in
      let held = f.number (author e) grew.number in
      let n : slice_index s.words 0 ≡ length kept.log = ap (λ ws. slice_index ws 0) kept.count in
      let long : length list ≡ length kept.log + 1 = ap length grew.is ∙ length-append v.known.seen (e ∷ []) ∙ ap (λ l. length l + 1) known.1 in (
        with_last e v,
        keeps,
        tt,
        record {
          log = kept.log ++ e ∷ [];
          keeper = kept.keeper;
          holds = kept.holds;
          count = count_more s.words kept.log e kept.count (omega arith);
          one = one_set (λ (u : View E). u.right ≡ true) s.views kept.keeper id (with_last e v) v at (λ r. r) kept.one;
          fits = all_set (Fits author kept.keeper kept.holds (kept.log ++ e ∷ [])) s.views id (with_last e v)
              (λ j u apart there. other_fits kept.keeper kept.holds kept.log e id j u known.0 held apart (kept.fits j u there))
              (maker_fits kept.keeper kept.holds kept.log e id v right f);
        },
        (
          record {
            found = n ∙ ap length (sym known.1);
            after = λ x is. ap (λ (y : E). with_last y v) (same_last v.known.seen e x (sym grew.is ∙ is));
          },
          refl,
        ),
      )
