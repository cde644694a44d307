-- What a lane or a kind of entry has done in a history, as far as a further entry has to keep to it.
use Rattle.std.specs.Prelude.{ℕ, ◌+◌, ◌-◌, ◌==◌, ◌&&◌, Bool, true, false, nat_lt, if◌then◌else◌, List, [], ◌∷◌, length, take, fold, sum_by, count_by}
use Rattle.mr_base.specs.declared.numbers.LaneNo.{LaneNo}
use Rattle.mr_model.specs.declared.entry.Entry.{Entry}
use Rattle.mr_model.specs.declared.entry.Entry.TheVariants.{Call, Slow, Settle, Tick, Recv, EndPhase}

abbrev pub is_control : Entry → Bool
is_control (Call d r reply released) = true
is_control (Tick d ms) = true
is_control (Recv d message) = true
is_control _ = false

abbrev pub is_end : Entry → Bool
is_end EndPhase = true
is_end _ = false

abbrev pub is_of_lane : LaneNo → Entry → Bool
is_of_lane lane (Slow l index look flow o) = l.0 == lane.0
is_of_lane lane (Settle l records) = l.0 == lane.0
is_of_lane lane _ = false

abbrev pub packets_in : Entry → ℕ
packets_in (Slow l index look flow o) = 1
packets_in (Settle l records) = length records
packets_in _ = 0

-- how many calls, ticks and receives there are
abbrev pub controls : List Entry → ℕ
controls g = count_by is_control g

abbrev pub phases : List Entry → ℕ
phases g = count_by is_end g

-- how many packets of a lane there are, fast and slow
abbrev pub packets : LaneNo → List Entry → ℕ
packets lane g = sum_by (λ e. if is_of_lane lane e then packets_in e else 0) g

-- the number of the last entry that passes a test, where the first one of g has number n; else `before`
abbrev pub last_from : (Entry → Bool) → ℕ → ℕ → List Entry → ℕ
last_from test before n [] = before
last_from test before n (e ∷ g) = last_from test (if test e then n else before) (n + 1) g

-- the number of the last entry that is the lane's own, or 0
abbrev pub last_own : LaneNo → List Entry → ℕ
last_own lane g = last_from (is_of_lane lane) 0 1 g

-- the number of the last end of a phase, or 0
abbrev pub last_end : List Entry → ℕ
last_end g = last_from is_end 0 1 g

-- the index of the lane's last packet, or 0
abbrev pub index_after : LaneNo → ℕ → Entry → ℕ
index_after lane before (Slow l index look flow o) = if l.0 == lane.0 then index else before
index_after lane before (Settle l records) = if l.0 == lane.0 then fold (λ b r. r.index) before records else before
index_after lane before _ = before

abbrev pub last_index : LaneNo → List Entry → ℕ
last_index lane g = fold (index_after lane) 0 g

-- the lane's last look, or 0
abbrev pub look_after : LaneNo → ℕ → Entry → ℕ
look_after lane before (Slow l index look flow o) = if l.0 == lane.0 then look else before
look_after lane before (Settle l records) = if l.0 == lane.0 then fold (λ b r. r.look) before records else before
look_after lane before _ = before

abbrev pub last_look : LaneNo → List Entry → ℕ
last_look lane g = fold (look_after lane) 0 g

-- whether g ends with a Settle of the lane that has fewer than 64 records
abbrev pub ends_short : LaneNo → List Entry → Bool
ends_short lane g = fold (λ b e. is_short e) false g
  where
    is_short : Entry → Bool
    is_short (Settle l records) = l.0 == lane.0 && nat_lt (length records) 64
    is_short _ = false

-- The lane's last own entry that binds a Slow: a short Settle directly before it does not, since it was made under the same lock.
abbrev pub own_before_slow : LaneNo → List Entry → ℕ
own_before_slow lane g = if ends_short lane g then last_own lane (take (length g - 1) g) else last_own lane g
