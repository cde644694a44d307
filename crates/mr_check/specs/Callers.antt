-- What the callers of a loaded scenario are to do, and the flows of its packets.
use Rattle.std.specs.Prelude.{ℕ, zero, suc, ◌-◌, ◌==◌, nat_lt, Option, Some, None, List, [], find, flat_map, get_or, map, take}
use Rattle.std.specs.List.{filter}
use Rattle.mr_base.specs.declared.numbers.LaneNo.{LaneNo}
use Rattle.mr_lines.specs.Fit.{no_flow}
use Rattle.mr_load.specs.Dues.{Due, LaneValue, sent_of}
use Rattle.mr_load.specs.Made.{Sent, flow_of, to_ask}
use Rattle.mr_load.specs.declared.loading.Loaded.{Loaded}
use Rattle.mr_model.specs.declared.entry.Entry.{Entry}
use Rattle.mr_model.specs.declared.entry.Entry.TheVariants.{Call, Slow, Settle, Tick, Recv, EndPhase}
use Rattle.mr_model.specs.declared.entry.FastRecord.{FastRecord}
use Rattle.mr_model.specs.declared.flow.Flow.{Flow}
use Rattle.mr_scenario.specs.declared.scenario.Script.{Script}
use Rattle.smc_core.specs.Machine.{Machine}

abbrev pub no_lane : LaneValue
no_lane = record { lane = record { 0 = 0 }; packets = [] }

-- lane number n, from 1
abbrev pub lane_at : List LaneValue → ℕ → LaneValue
lane_at vs n = get_or vs (n - 1) no_lane

abbrev pub due_of_lane : Loaded → ℕ → List Due
due_of_lane l lane = (lane_at l.lanes lane).packets

-- those of a lane's packets that are due in the first k phases
abbrev pub due_before : ℕ → List Due → List Due
due_before k ds = filter (λ d. nat_lt d.phase k) ds

-- the packets that a lane is to send in the first k phases, in their order
abbrev pub packets_to : Loaded → ℕ → ℕ → List Sent
packets_to l k lane = map sent_of (due_before k (due_of_lane l lane))

-- what a daemon is to ask in the first k phases, in its order
abbrev pub lines_to : Loaded → ℕ → ℕ → List Script
lines_to l k d = flat_map (to_ask d) (take k l.scenario.phases)

-- the routing machine of a daemon before its first line, if it has one
abbrev pub machine_at : Loaded → ℕ → Option Machine
machine_at l zero = None
machine_at l (suc i) = get_or l.machines i None

-- the flow of a packet, if there is one; else all zeros
abbrev pub flow_due : Option Due → Flow
flow_due None = no_flow
flow_due (Some d) = flow_of d.dev d.bytes

-- the flow of the packet with this number among those of a lane
abbrev pub flow_in : List Due → ℕ → Flow
flow_in ds index = flow_due (find (λ d. d.index == index) ds)

abbrev pub flow_at : Loaded → LaneNo → ℕ → Flow
flow_at l lane index = flow_in (due_of_lane l lane.0) index

abbrev pub record_flowing : Loaded → LaneNo → FastRecord → FastRecord
record_flowing l lane r = record r { flow = flow_at l lane r.index }

-- An entry of a text with the flows of the scenario's packets: the text says none.
abbrev pub flowing : Loaded → Entry → Entry
flowing l (Slow lane index look flow o) = Slow lane index look (flow_at l lane index) o
flowing l (Settle lane records) = Settle lane (map (record_flowing l lane) records)
flowing l (Call d r reply released) = Call d r reply released
flowing l (Tick d ms) = Tick d ms
flowing l (Recv d message) = Recv d message
flowing l EndPhase = EndPhase

abbrev pub record_bare : FastRecord → FastRecord
record_bare r = record r { flow = no_flow }

-- An entry as a text says it: each flow stands as all zeros.
abbrev pub bare : Entry → Entry
bare (Slow lane index look flow o) = Slow lane index look no_flow o
bare (Settle lane records) = Settle lane (map record_bare records)
bare (Call d r reply released) = Call d r reply released
bare (Tick d ms) = Tick d ms
bare (Recv d message) = Recv d message
bare EndPhase = EndPhase
