-- What a packet brings behind its head.
use Rattle.std.specs.Prelude.{ℕ, ◌-◌, List, take, drop}
use Rattle.mr_base.specs.Heads.{head_length, two_at}

-- behind the head, up to the total length
abbrev pub body_of : List ℕ → List ℕ
body_of bs = take (two_at bs 2 - head_length bs) (drop (head_length bs) bs)
