use Rattle.mr_plain.proofs.Looking.{follows, looks, agrees}
use Rattle.mr_plain.proofs.laws.looks_aside.Goals as goal

pub returns : goal.returns
returns c = record { follows = follows; looks = looks; agrees = agrees }
