use Rattle.mr_load.proofs.Numbered.{every_item}
use Rattle.mr_load.proofs.laws.every_item.Goals as goal

pub returns : goal.returns
returns c = every_item
