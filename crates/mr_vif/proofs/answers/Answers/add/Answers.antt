use Rattle.std.proofs.Common.{arith, ◌≡◌, ◌∙◌, refl, None, get_or}
use Rattle.std.proofs.lemmas.List.{length_push}
use Rattle.std.proofs.lemmas.Grind.{common_steps}
use Rattle.mr_vif.proofs.VifLemmas.{at_set, at_free, max_push, register_push, filled_set}
use Rattle.mr_vif.proofs.answers.Answers.add.Goals as goal

pub returns : goal.returns
returns c = λ vifs free one are.
    let empty : get_or c.args.self.now.at c.args.vif.vif None ≡ None = are.each c.args.vif.vif c.requires ∙ at_free vifs c.args.vif.vif free in
    record {
      each = rw c.from.ensures (at_set c.args.self.now.at vifs c.args.vif (omega arith) c.requires free are.each);
      filled = rw (c.from.ensures, length_push vifs c.args.vif) (omega (arith, filled_set c.args.self.now.at c.args.vif.vif c.args.vif (omega arith) empty, are.filled));
      devices = c.raise.ensures vifs are.devices;
      one = grind (arith, common_steps, register_push vifs c.args.vif one, are.one, c.register_with-self.ensures);
      last = rw (c.max-self.ensures, max_push vifs c.args.vif, are.last) refl;
      mask = grind (arith, common_steps, are.mask);
    }
