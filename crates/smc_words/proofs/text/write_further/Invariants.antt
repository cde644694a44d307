use Rattle.std.proofs.Common.{◌≡◌, ◌++◌, ◌∷◌, drop}
use Rattle.std.specs.Prelude.{flat_map}
use Rattle.smc_words.proofs.text.write_further.Given as goal

abbrev pub invariant-loop-name : goal.invariant-loop-name
invariant-loop-name l =
    l.out.items ++ flat_map (λ w. 44 ∷ w) (drop l.name-index l.names)
    ≡ l.initial.out.items ++ flat_map (λ w. 44 ∷ w) l.names
