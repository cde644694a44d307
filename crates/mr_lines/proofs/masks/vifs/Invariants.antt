use Rattle.std.proofs.Common.{◌≡◌, ◌^◌, ◌<◌, ◌≤◌, length}
use Rattle.mr_lines.proofs.MaskBytes.{vifs_in}
use Rattle.mr_lines.proofs.masks.vifs.Given as goal

abbrev pub invariant-vifs : goal.invariant-vifs
invariant-vifs l = record {
  same : vifs_in l.least l.mask l.left ≡ vifs_in 0 0 l.bytes;
  below : l.mask < 2 ^ l.least;
  few : l.least ≤ 32;
}

abbrev pub decreases-vifs : goal.decreases-vifs
decreases-vifs l = length l.left
