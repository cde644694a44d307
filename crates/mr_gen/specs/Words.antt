-- The words of a lane's generator (O'Neill's PCG, XSH RR 64/32).
use Rattle.std.specs.Prelude.{ℕ, zero, suc, ◌+◌, List, [], ◌∷◌}
use Rattle.rand_core.specs.Pcg32Seed.{pcg32_seed}
use Rattle.rand_pcg.specs.Lcg.{Lcg}
use Rattle.rand_pcg.specs.Pcg.{pcg32, pcg32_of_seed}

-- so many words of a generator, in their order
abbrev pub words_from : Lcg → ℕ → List ℕ
words_from g zero = []
words_from g (suc n) = (pcg32 g).0 ∷ words_from (pcg32 g).1 n

-- the generator of a number
abbrev pub seeded : ℕ → Lcg
seeded n = pcg32_of_seed (pcg32_seed 16 n)

-- so many words of a lane, whose generator is seeded with the seed and the lane's number
abbrev pub words_of : (seed lane n : ℕ) → List ℕ
words_of seed lane n = words_from (seeded (seed + lane)) n
