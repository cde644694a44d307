use Rattle.std.proofs.Common.{refl}
use Rattle.mr_ip.specs.MadeHeads.{made_head, unsummed_head}
use Rattle.rand_core.specs.Pcg32Seed.{pcg32_seed}
use Rattle.rand_core.specs.Steps.{u32_at, word_bytes}
use Rattle.mr_gen.proofs.worked.worked_words.Goals as goal

pub returns : goal.returns
unfolding pcg32_seed u32_at word_bytes made_head unsummed_head
returns c = record { words = refl; line = refl }
