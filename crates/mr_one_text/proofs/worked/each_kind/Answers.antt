use Rattle.std.proofs.Common.{◌≡◌, ℕ, ◌+◌, List, [], ◌∷◌, ap, arith}
use Rattle.mr_model.specs.Counts.{length_of}
use Rattle.mr_model.specs.declared.entry.Entry.{Entry}
use Rattle.mr_one_text.proofs.worked.each_kind.Goals as goal
use Rattle.mr_one_text.specs.Turns.{Turn, Slowed, turns}
use Rattle.mr_one_text.specs.Worked.{history, without_flows, other_look, lane}

-- the looks of slow packets, added up
abbrev slow_look : Turn → ℕ
slow_look (Slowed l look) = look
slow_look t = 0

abbrev slow_looks : List Turn → ℕ
slow_looks [] = 0
slow_looks (t ∷ ts) = slow_look t + slow_looks ts

pub returns-clause-flows_count : goal.returns-clause-flows_count
returns-clause-flows_count c e =
    let apart : length_of history (lane 1) 1 ≡ length_of without_flows (lane 1) 1 = ap (λ (h : List Entry). length_of h (lane 1) 1) e in
    absurd (omega (arith, apart))

pub returns-clause-looks_count : goal.returns-clause-looks_count
returns-clause-looks_count c e =
    let apart : slow_looks (turns history) ≡ slow_looks (turns other_look) = ap slow_looks e in
    absurd (omega (arith, apart))
