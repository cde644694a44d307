use Rattle.std.proofs.Common.{◌≡◌, [], ◌∷◌}
use Rattle.std.proofs.lemmas.Result.{IfOk-weaker, IfOk-at_ok}
use Rattle.mr_book.specs.Rule.{by, OwnEntries}
use Rattle.mr_book.specs.Pairs.{pair, pair_author}
use Rattle.mr_book.proofs.Owns.{own_one}
use Rattle.mr_book.proofs.worked.finish.Goals as goal

pub returns-clause-found : goal.returns-clause-found
returns-clause-found g c =
    let own = IfOk-at_ok (λ _. c.args.five.0.owns ≡ (0, pair 0 5 ∷ []) ∷ []) c.in-Ok-Ok.is-0 c.requires.five in
    IfOk-weaker c.look_and_close-row.result
    (λ row. OwnEntries pair_author c.args.five.0.owns row.found)
    (λ row. by pair_author 0 row.found ≡ pair 0 5 ∷ [])
    (λ row h. own_one pair_author c.args.five.0.owns 0 (pair 0 5 ∷ []) row.found own h)
    c.look_and_close-row.ensures.found

pub returns-clause-of_a : goal.returns-clause-of_a
returns-clause-of_a g c =
    let own = IfOk-at_ok (λ _. c.args.five.0.owns ≡ (0, pair 0 5 ∷ []) ∷ []) c.in-Ok-Ok.is-0 c.requires.five in
    IfOk-weaker c.look_and_close-row.result
    (λ row. OwnEntries pair_author c.args.five.0.owns row.closed)
    (λ row. by pair_author 0 row.closed ≡ pair 0 5 ∷ [])
    (λ row h. own_one pair_author c.args.five.0.owns 0 (pair 0 5 ∷ []) row.closed own h)
    c.look_and_close-row.ensures.of_a

pub returns-clause-of_b : goal.returns-clause-of_b
returns-clause-of_b g c =
    let own = IfOk-at_ok (λ _. c.args.others.0.owns ≡ (1, pair 1 6 ∷ pair 1 7 ∷ []) ∷ []) c.in-Ok-Ok.is-1 c.requires.others in
    IfOk-weaker c.look_and_close-row.result
    (λ row. OwnEntries pair_author c.args.others.0.owns row.closed)
    (λ row. by pair_author 1 row.closed ≡ pair 1 6 ∷ pair 1 7 ∷ [])
    (λ row h. own_one pair_author c.args.others.0.owns 1 (pair 1 6 ∷ pair 1 7 ∷ []) row.closed own h)
    c.look_and_close-row.ensures.of_b
