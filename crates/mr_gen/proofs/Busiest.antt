-- The busiest entry, from the last one on.
use Rattle.std.proofs.Common.{◌≡◌, ℕ, ◌+◌, ◌-◌, ◌<◌, ◌≤◌, List, [], ◌∷◌, ◌++◌, length, take, get_or, refl, ap, sym, ◌∙◌, arith}
use Rattle.std.proofs.lemmas.List.{take_more}
use Rattle.mr_base.specs.declared.route.Route.{Route}
use Rattle.mr_gen.specs.Sums.{busier, busiest_before}
use Rattle.mr_gen.specs.declared.summing.Busy.{Busy}
use Rattle.mr_model.specs.declared.reply.RouteTotals.{RouteTotals}

before_last : (rs : List (Route × RouteTotals)) (r : Route × RouteTotals) (b : Busy) → busiest_before (rs ++ r ∷ []) b ≡ busiest_before rs (busier r b)
before_last [] r b = refl
before_last (x ∷ rs) r b = ap (λ c. busier x c) (before_last rs r b)

-- the last of those that are left is passed
pub one_less : (rs : List (Route × RouteTotals)) (n : ℕ) (b c all : Busy) (d : Route × RouteTotals) → 0 < n → n ≤ length rs → c ≡ busier (get_or rs (n - 1) d) b
    → busiest_before (take n rs) b ≡ all → busiest_before (take (n - 1) rs) c ≡ all
one_less rs n b c all d some within is so_far =
    let number : n ≡ n - 1 + 1 = omega arith in
    let more : take n rs ≡ take (n - 1) rs ++ get_or rs (n - 1) d ∷ [] = ap (λ k. take k rs) number ∙ take_more rs (n - 1) d (omega arith) in
    ap (λ e. busiest_before (take (n - 1) rs) e) is ∙ sym (before_last (take (n - 1) rs) (get_or rs (n - 1) d) b)
    ∙ ap (λ l. busiest_before l b) (sym more) ∙ so_far
