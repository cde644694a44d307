-- A history without its flows: each stands as all zeros.
use Rattle.std.specs.Prelude.{List, map}
use Rattle.mr_lines.specs.Fit.{no_flow}
use Rattle.mr_model.specs.declared.entry.Entry.{Entry}
use Rattle.mr_model.specs.declared.entry.Entry.TheVariants.{Call, Slow, Settle, Tick, Recv, EndPhase}
use Rattle.mr_model.specs.declared.entry.FastRecord.{FastRecord}

abbrev pub bare_record : FastRecord → FastRecord
bare_record r = record r { flow = no_flow }

-- the flow of a slow packet, and those of settled records, as all zeros
abbrev pub bare_entry : Entry → Entry
bare_entry (Call d request reply released) = Call d request reply released
bare_entry (Slow lane index look flow o) = Slow lane index look no_flow o
bare_entry (Settle lane records) = Settle lane (map bare_record records)
bare_entry (Tick d ms) = Tick d ms
bare_entry (Recv d message) = Recv d message
bare_entry EndPhase = EndPhase

abbrev pub bare : List Entry → List Entry
bare h = map bare_entry h
