-- Tables with room for four entries and the devices eth0 and eth1, and the changes with the
-- numbers 2, 3 and 4: the vifs 0 and 1, and the entry for packets of 10.0.0.9 to 239.1.1.1, which
-- it takes on vif 0 and sends on vif 1 above the threshold 1.
use Rattle.std.specs.Prelude.{ℕ, false, List, [], ◌∷◌, replicate}
use Rattle.mr_base.specs.declared.numbers.Addr.{Addr}
use Rattle.mr_model.specs.declared.change.Change.{Change}
use Rattle.mr_model.specs.declared.change.What.TheVariants.{AddVif, NewRoute}
use Rattle.mr_model.specs.declared.verdict.Verdict.{Verdict}
use Rattle.mr_tables.specs.Values.{TablesValue}
use Rattle.mr_publish.specs.Copies.{empty_tables, tables_after, verdict_of}

abbrev pub addr : ℕ → Addr
addr n = record { 0 = n }

-- 10.0.0.9 and 239.1.1.1
abbrev pub source : Addr
source = addr 167772169

abbrev pub group : Addr
group = addr 4009820417

-- eth0 with 10.0.0.1 and eth1 with 10.0.1.1
abbrev pub start : TablesValue
start = empty_tables 4 (record { addr = addr 167772161 } ∷ record { addr = addr 167772417 } ∷ [])

-- vif i on device i + 1
abbrev pub two : Change
two = record { number = 2; what = AddVif 0 1 false false }

abbrev pub three : Change
three = record { number = 3; what = AddVif 1 2 false false }

abbrev pub four : Change
four = record { number = 4; what = NewRoute source group 0 (255 ∷ 1 ∷ replicate 30 255) false }

-- the verdict after changes on the packet that comes in on eth0 with a TTL of 2
abbrev pub verdict_after : List Change → Verdict
verdict_after changes = verdict_of (tables_after start changes) 1 source group 2
