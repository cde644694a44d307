-- One seat takes in another.
use Rattle.std.proofs.Common.{◌≡◌, ◌≢◌, ℕ, List, [], ◌∷◌, length, set, Bool, true, false, refl, sym, ap, ◌∙◌, subst}
use mathlib.Core.Option.{some}
use mathlib.Core.List.{IsPrefix}
use lib.ListN.{get_elem?}
use Rattle.mr_book.specs.declared.view.View.{View}
use Rattle.mr_book.specs.Rule.{Fits, IsCounted}
use Rattle.std.proofs.Common.{◌⊎◌, ◌||◌, ⊎_elim, inl, inr, nat_le, if◌then◌else◌}
use Rattle.std.proofs.lemmas.List.Elements.{All-nil, All-cons, All-append}
use Rattle.atomic_table.specs.Table.{Joins}
use Rattle.atomic_table.proofs.Lists.{at_set, set_here, set_else}
use Rattle.mr_book.specs.Rule.{by}
use Rattle.mr_book.specs.Views.{longer}
use Rattle.mr_book.specs.Views.{nobody}
use Rattle.mr_book.specs.Steps.{joined}
use Rattle.mr_book.proofs.Views.{at_below, all_set, one_set, same_view, moved, moved_here, moved_else}
use Rattle.mr_book.proofs.Blank.{off, blank_fits}

-- the longer of two beginnings is a beginning
longer_begins : {E : Type 0} (b : Bool) (xs ys log : List E) → IsPrefix xs log → IsPrefix ys log → IsPrefix (if b then xs else ys) log
longer_begins true xs ys log p q = p
longer_begins false xs ys log p q = q

seen_begins : {E : Type 0} (b c d : Bool) (xs ys log : List E) → IsPrefix xs log → IsPrefix ys log → IsPrefix (if b then ys else (if c then xs else (if d then xs else ys))) log
seen_begins true c d xs ys log p q = q
seen_begins false true d xs ys log p q = p
seen_begins false false d xs ys log p q = longer_begins d xs ys log p q

-- the seat that may count after the join
keeper_of : Bool → ℕ → ℕ → ℕ
keeper_of true id keeper = id
keeper_of false id keeper = keeper

right_joined : {E : Type 0} (b c : Bool) (id keeper other : ℕ) (xs ys zs log : List E) → (c ≡ true → (id ≡ keeper) × (xs ≡ log)) → (b ≡ true → (other ≡ keeper) × (ys ≡ log)) → (c || b) ≡ true
    → (id ≡ keeper_of b id keeper) × ((if b then ys else (if c then xs else zs)) ≡ log)
unfolding keeper_of
right_joined true c id keeper other xs ys zs log v w r = (refl, (w refl).1)
right_joined false true id keeper other xs ys zs log v w r = v refl
right_joined false false id keeper other xs ys zs log v w r = absurd (off r)

module _ {E : Type 0} (author : E → ℕ) where
  joined_fits : (keeper : ℕ) (holds : ℕ → ℕ) (log : List E) (id other : ℕ) (v w : View E) → id ≢ other → Fits author keeper holds log id v → Fits author keeper holds log other w
      → Fits author (keeper_of w.right id keeper) (λ k. moved other id (holds k)) log id (joined v w)
  joined_fits keeper holds log id other v w apart f g = record {
    right = λ r. right_joined w.right v.right id keeper other v.known.seen w.known.seen (longer v.known.seen w.known.seen) log f.right g.right r;
    begins = seen_begins w.right v.right (nat_le (length w.known.seen) (length v.known.seen)) v.known.seen w.known.seen log f.begins g.begins;
    olds = All-cons (λ (old : List E). IsPrefix old log) v.known.seen (w.known.seen ∷ []) f.begins (All-cons (λ (old : List E). IsPrefix old log) w.known.seen [] g.begins (All-nil (λ (old : List E). IsPrefix old log)));
    number = λ k is. moved_else other id (holds k) id (f.number k is) apart;
    holders = All-append (λ (own : ℕ × List E). moved other id (holds own.0) ≡ id) v.known.owns w.known.owns
        (λ k d lt. moved_else other id _ id (f.holders k d lt) apart)
        (λ k d lt. moved_here other id _ (g.holders k d lt));
    owns = All-append (λ (own : ℕ × List E). by author own.0 log ≡ own.1) v.known.owns w.known.owns f.owns g.owns;
  }

  keeper_stays : (b : Bool) (id other keeper j : ℕ) → (b ≡ true → other ≡ keeper) → j ≢ other → j ≡ keeper → j ≡ keeper_of b id keeper
  unfolding keeper_of
  keeper_stays true id other keeper j w apart is = absurd (apart (is ∙ sym (w refl)))
  keeper_stays false id other keeper j w apart is = is

  third_fits : (keeper : ℕ) (holds : ℕ → ℕ) (log : List E) (id other : ℕ) (w : View E) (j : ℕ) (u : View E) → j ≢ other → Fits author keeper holds log other w → Fits author keeper holds log j u
      → Fits author (keeper_of w.right id keeper) (λ k. moved other id (holds k)) log j u
  third_fits keeper holds log id other w j u apart g f = record {
    right = λ r. (keeper_stays w.right id other keeper j (λ b. (g.right b).0) apart (f.right r).0, (f.right r).1);
    begins = f.begins;
    olds = f.olds;
    number = λ k is. moved_else other id (holds k) j (f.number k is) apart;
    holders = λ k d lt. moved_else other id _ j (f.holders k d lt) apart;
    owns = f.owns;
  }

  HasRight : List (View E) → ℕ → Type 0
  HasRight views i = (u : View E) × (get_elem? views i ≡ some u) × (u.right ≡ true)

  either_right : (b c : Bool) → (b ≡ true) ⊎ (c ≡ true) → (c || b) ≡ true
  either_right true true h = refl
  either_right true false h = refl
  either_right false true h = refl
  either_right false false h = ⊎_elim (λ e. e) (λ e. e) h

  -- one seat may still count
  joined_one : (b : Bool) (views : List (View E)) (id other keeper : ℕ) (v w : View E) → w.right ≡ b → other ≢ id → get_elem? views id ≡ some v → get_elem? views other ≡ some w → HasRight views keeper
      → HasRight (set (set views id (joined v w)) other nobody) (keeper_of b id keeper)
  unfolding keeper_of HasRight
  joined_one true views id other keeper v w is apart at there one =
      (joined v w, set_else (set views id (joined v w)) other id nobody (λ e. apart (sym e)) ∙ set_here views id (joined v w) (at_below views id v at), either_right w.right v.right (inl is))
  joined_one false views id other keeper v w is apart at there one =
      let known : keeper ≢ other = λ e. off (sym is ∙ ap (λ (u : View E). u.right) (same_view views other w one.0 there (subst (λ k. get_elem? views k ≡ some one.0) e one.1)) ∙ one.2) in
      let first = one_set (λ (u : View E). u.right ≡ true) views keeper id (joined v w) v at (λ r. either_right w.right v.right (inr r)) one in
      (first.0, set_else (set views id (joined v w)) other keeper nobody known ∙ first.1, first.2)

  pub joins : {S : Type 0} (id other : ℕ) (v w : View E) → Joins (IsCounted author {S = S}) id v other w (joined v w) nobody
  unfolding HasRight
  joins id other v w s kept at apart here =
      let there : get_elem? s.views other ≡ some w = ⊎_elim (λ (t : (other ≡ id) × (joined v w ≡ w)). absurd (apart t.0)) (λ (t : (other ≢ id) × (get_elem? s.views other ≡ some w)). t.1) (at_set s.views id other (joined v w) w here) in
      let f = kept.fits id v at in
      let g = kept.fits other w there in
      let keeper = keeper_of w.right id kept.keeper in
      let holds : ℕ → ℕ = λ k. moved other id (kept.holds k) in
      let P : ℕ → View E → Type 0 = Fits author keeper holds kept.log in
      record {
        log = kept.log;
        keeper = keeper;
        holds = holds;
        count = kept.count;
        one = joined_one w.right s.views id other kept.keeper v w refl apart at there kept.one;
        fits = all_set P (set s.views id (joined v w)) other nobody
            (λ j u other_j now. all_set (λ j u. j ≢ other → P j u) s.views id (joined v w)
            (λ j u _ was j_apart. third_fits kept.keeper kept.holds kept.log id other w j u j_apart g (kept.fits j u was))
            (λ id_apart. joined_fits kept.keeper kept.holds kept.log id other v w id_apart f g)
            j u now other_j)
            (blank_fits author keeper holds kept.log [] other (kept.log, refl));
      }
