use Rattle.std.proofs.Common.{◌∷◌, ap, arith, ◌∙◌}
use Rattle.std.proofs.lemmas.List.{drop-set, drop_all}
use Rattle.mr_records.proofs.rows.put_end.Goals as goal

pub returns : goal.returns
returns c = drop-set c.args.row.now 143 10 (omega arith) ∙ ap (λ x. 10 ∷ x) (drop_all 144 c.args.row.now (omega arith))
