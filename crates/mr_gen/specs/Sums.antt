-- What a history's packets come to, all together.
use Rattle.std.specs.Prelude.{ℕ, ◌+◌, count_ones, if◌then◌else◌, nat_le, List, [], ◌∷◌, length, sum_by}
use Rattle.mr_base.specs.declared.route.Route.{Route}
use Rattle.mr_gen.specs.declared.summing.Busy.{Busy}
use Rattle.mr_model.specs.declared.entry.Entry.{Entry}
use Rattle.mr_model.specs.declared.entry.Entry.TheVariants.{Slow, Settle}
use Rattle.mr_model.specs.declared.limits.Limits.{Limits}
use Rattle.mr_model.specs.declared.reply.RouteTotals.{RouteTotals}
use Rattle.mr_model.specs.Counts.{met}
use Rattle.mr_model.specs.Ending.{ending}

-- the packets that an entry says were forwarded without the lock
abbrev pub fast_in : Entry → ℕ
fast_in (Settle lane records) = length records
fast_in _ = 0

-- 1 for a packet that was decided under the lock
abbrev pub slow_in : Entry → ℕ
slow_in (Slow lane index look flow o) = 1
slow_in _ = 0

abbrev pub fast : List Entry → ℕ
fast h = sum_by fast_in h

abbrev pub slow : List Entry → ℕ
slow h = sum_by slow_in h

-- the outputs of all packets that met an entry: a copy for each vif of their masks
abbrev pub copies : List Entry → ℕ
copies h = sum_by (λ m. count_ones m.outs.0) (met h)

-- the live (S,G) entries by rising number, with what they have counted
abbrev pub counted : Limits → List Entry → List (Route × RouteTotals)
counted limits h = (ending limits h).routes

abbrev pub bytes : Limits → List Entry → ℕ
bytes limits h = sum_by (λ r. r.1.bytes) (counted limits h)

-- an entry, or one with a greater number where that counted more
abbrev pub busier : Route × RouteTotals → Busy → Busy
busier r b = if nat_le b.packets r.1.packets then record { number = r.0.number; packets = r.1.packets } else b

-- The entry that counted most, of those with rising numbers: the first among equals. Behind them stands b.
abbrev pub busiest_before : List (Route × RouteTotals) → Busy → Busy
busiest_before [] b = b
busiest_before (r ∷ rs) b = busier r (busiest_before rs b)

-- no entry, which counted nothing
abbrev pub nobody : Busy
nobody = record { number = 0; packets = 0 }

abbrev pub busiest : Limits → List Entry → Busy
busiest limits h = busiest_before (counted limits h) nobody
