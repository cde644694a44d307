use Rattle.std.proofs.Common.{◌≡◌, ◌++◌, map, drop}
use Rattle.mr_plain_lists.specs.Endings.{vif_pair, vifs_among}
use Rattle.mr_plain_lists.specs.Knowing.{met_of}
use Rattle.mr_plain_lists.proofs.ending.vif_pairs.Given as goal

abbrev pub invariant-loop-index : goal.invariant-loop-index
invariant-loop-index l = l.lines.items ++ map (vif_pair (map met_of l.mets)) (vifs_among l.vifs (drop l.index-index l.indexes)) ≡ map (vif_pair (map met_of l.mets)) (vifs_among l.vifs l.indexes)
