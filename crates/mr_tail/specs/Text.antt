-- The text of a history of a scenario: its skips, its entries, and what it ends with.
use Rattle.std.specs.Prelude.{ℕ, ◌-◌, if◌then◌else◌, Option, Some, None, List, [], map, codes, slice_get}
use Rattle.mr_base.specs.Outside.{Files}
use Rattle.mr_base.specs.declared.route.Route.{Route}
use Rattle.mr_base.specs.declared.vif_record.VifRecord.{VifRecord}
use Rattle.mr_lines.specs.declared.tail.RouteLine.{RouteLine}
use Rattle.mr_lines.specs.declared.tail.Tail.{Tail}
use Rattle.mr_lines.specs.declared.tail.VifLine.{VifLine}
use Rattle.mr_model.specs.declared.ending.Ending.{Ending}
use Rattle.mr_model.specs.declared.entry.Entry.{Entry}
use Rattle.mr_model.specs.declared.reply.RouteTotals.{RouteTotals}
use Rattle.mr_model.specs.declared.reply.VifTotals.{VifTotals}
use Rattle.mr_model.specs.Ending.{ending}
use Rattle.mr_load.specs.Loading.{skips_of, run_limits}
use Rattle.mr_scenario.specs.declared.scenario.Named.{Named}
use Rattle.mr_scenario.specs.declared.scenario.Scenario.{Scenario}
use Rattle.mr_text.specs.Text.{text}

-- the name of a device, if there is one
abbrev pub name_of : Option Named → List ℕ
name_of (Some d) = d.name
name_of None = []

-- the name of the device of a number, from 1
abbrev pub name_at : List Named → ℕ → List ℕ
name_at devices dev = name_of (slice_get devices (dev - 1))

-- the name of a vif's device; the register device's is `pimreg`
abbrev pub device_word : List Named → VifRecord → List ℕ
device_word devices v = if v.register then codes "pimreg" else name_at devices v.dev

abbrev pub route_line : (Route × RouteTotals) → RouteLine
route_line p = record { number = p.0.number; src = p.0.src; dst = p.0.dst; parent = p.0.parent; totals = p.1 }

abbrev pub vif_line : List Named → (VifRecord × VifTotals) → VifLine
vif_line devices p = record { vif = p.0.vif; name = device_word devices p.0; totals = p.1 }

-- the live (S,G) entries, the live vifs and the fates, as lines
abbrev pub tail_of : List Named → Ending → Tail
tail_of devices e = record { routes = map route_line e.routes; vifs = map (vif_line devices) e.vifs; fates = e.fates }

abbrev pub history_text : Files → Scenario → List Entry → List ℕ
history_text files s h = text (skips_of files s) h (tail_of s.devices (ending (run_limits files s) h))
