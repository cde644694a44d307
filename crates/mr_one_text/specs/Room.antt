-- How many entries a legal history may have.
use Rattle.std.specs.Prelude.{ℕ, ◌+◌, sum}
use Rattle.mr_model.specs.declared.limits.Limits.{Limits}

-- its calls, ticks and receives, its ends of phases, and one entry for each packet
abbrev pub room : Limits → ℕ
room limits = limits.controls + limits.phases + sum limits.packets
