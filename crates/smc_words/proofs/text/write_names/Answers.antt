use Rattle.std.proofs.Common.{◌∷◌, ◌<◌, ◌-◌, length, take, drop, arith, sym, ◌∙◌}
use Rattle.std.proofs.lemmas.List.{append_assoc}
use Rattle.std.specs.Prelude.{flat_map}
use Rattle.smc_words.proofs.Commas.{join_parts}
use Rattle.smc_words.proofs.text.write_names.Goals as goal

pub returns-in_ok-write_further : goal.returns-in_ok-write_further
returns-in_ok-write_further c =
    let some : 0 < length c.args.names.now = omega (arith, c.in-len1-up.len_at_least) in
    let rest = take (length c.args.names.now - 1) (drop 1 c.args.names.now) in
    rw (join_parts c.args.names.now c.first-item.result some, sym c.first-item.is)
    (c.in_ok-write_further.ensures
    ∙ rw c.in_ok-write_name.ensures
    (append_assoc c.args.out.now.items c.first-item.result (flat_map (λ w. 44 ∷ w) rest)))
