use Rattle.std.proofs.Common.{◌≡◌, ◌∙◌, ap, subst, ◌++◌}
use Rattle.mr_book.specs.Rule.{by, OwnEntries}
use Rattle.mr_book.specs.Pairs.{pair_author}
use Rattle.mr_book.proofs.Owns.{left_part, right_part}
use Rattle.mr_book.proofs.worked.look_and_close.Goals as goal

-- the seat that closes answers for the numbers of both
pub returns-clause-of_a : goal.returns-clause-of_a
returns-clause-of_a g c =
    let both = ap (λ v. v.owns) c.meet.ensures.met ∙ ap (λ v. v.owns ++ c.args.b.owns) (c.leave-a.ensures ∙ c.enter-guard.ensures.seat) in
    left_part (λ own. by pair_author own.0 c.close-closed.result ≡ own.1) c.args.a.owns c.args.b.owns (subst (λ owns. OwnEntries pair_author owns c.close-closed.result) both c.close-closed.ensures.own)

pub returns-clause-of_b : goal.returns-clause-of_b
returns-clause-of_b g c =
    let both = ap (λ v. v.owns) c.meet.ensures.met ∙ ap (λ v. v.owns ++ c.args.b.owns) (c.leave-a.ensures ∙ c.enter-guard.ensures.seat) in
    right_part (λ own. by pair_author own.0 c.close-closed.result ≡ own.1) c.args.a.owns c.args.b.owns (subst (λ owns. OwnEntries pair_author owns c.close-closed.result) both c.close-closed.ensures.own)
