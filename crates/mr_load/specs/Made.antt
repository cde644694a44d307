-- A history has, phase by phase, each lane's packets and each daemon's calls once and in their order. What a scenario asks
-- stands in its lines and in the traces that they name; what a routing machine asks, in its configurations too.
use Rattle.std.specs.Prelude.{◌≡◌, ℕ, ◌+◌, ◌==◌, ◌≤◌, false, is_none, if◌then◌else◌, Some, None, List, [], ◌∷◌, ◌++◌, length, map, flat_map, slice_index}
use Rattle.std.specs.List.{AllByRecursion, list_any}
use Rattle.mr_base.specs.Heads.{cause_of, two_at, four_at}
use Rattle.mr_base.specs.Outside.{Files}
use Rattle.mr_load.specs.Callers.{IsCalled, has_machine, kind_of}
use Rattle.mr_load.specs.Items.{Content, contents_of, items_by, numbered}
use Rattle.mr_model.specs.declared.entry.Entry.{Entry}
use Rattle.mr_model.specs.declared.entry.Entry.TheVariants.{Call, Slow, Settle, Tick, Recv, EndPhase}
use Rattle.mr_model.specs.declared.flow.Flow.{Flow}
use Rattle.mr_model.specs.Past.{is_end}
use Rattle.mr_model.specs.declared.request.Request.TheVariants.{Unknown}
use Rattle.mr_opt.specs.Options.{request_of}
use Rattle.mr_scenario.specs.declared.scenario.Item.{Item}
use Rattle.mr_scenario.specs.declared.scenario.Phase.{Phase}
use Rattle.mr_scenario.specs.declared.scenario.Scenario.{Scenario}
use Rattle.mr_scenario.specs.declared.scenario.Script.{Script}
use Rattle.mr_scenario.specs.declared.scenario.Script.TheVariants as script
use Rattle.mr_scenario.specs.declared.scenario.DaemonKind.TheVariants.{Smc}
use Rattle.mr_scenario.specs.declared.scenario.ScriptLine.{ScriptLine}
use Rattle.smc_daemon.specs.Courses.{DrivesFrom}
use Rattle.smc_daemon.specs.Machines.{machine_of}
use Rattle.smc_words.specs.Words.{Word}

-- a packet as a history names it: its item number and its flow
pub record Sent : Type 0 where
  pub index : ℕ
  pub flow : Flow

-- the packets of a lane in an entry
abbrev pub sent_in : ℕ → Entry → List Sent
sent_in lane (Slow l index look flow o) = if l.0 == lane then record { index = index; flow = flow } ∷ [] else []
sent_in lane (Settle l records) = if l.0 == lane then map (λ r. record { index = r.index; flow = r.flow }) records else []
sent_in lane _ = []

abbrev pub sent : ℕ → List Entry → List Sent
sent lane h = flat_map (sent_in lane) h

-- what a daemon asks in an entry
abbrev pub asked_in : ℕ → Entry → List Script
asked_in d (Call c r reply released) = if c.0 == d then script.Ask r ∷ [] else []
asked_in d (Tick c ms) = if c.0 == d then script.Tick ms ∷ [] else []
asked_in d (Recv c message) = if c.0 == d then script.Recv ∷ [] else []
asked_in d _ = []

abbrev pub asked : ℕ → List Entry → List Script
asked d h = flat_map (asked_in d) h

-- the flow of bytes that begin with an accepted head and came on a device
abbrev pub flow_of : ℕ → List ℕ → Flow
flow_of dev bs = record {
  dev = dev;
  src = record { 0 = four_at bs 12 };
  dst = record { 0 = four_at bs 16 };
  ttl = slice_index bs 8;
  length = two_at bs 2;
}

-- An item as a packet, by its line, its number and what it brings; none where that is no IPv4, or its head is refused.
abbrev pub packet_of : Item → ℕ → Content → List Sent
packet_of i n None = []
packet_of i n (Some bs) = if is_none (cause_of bs) then record { index = n; flow = flow_of i.dev bs } ∷ [] else []

-- the packets of a lane among lines, of whose items the lane's first has number n
abbrev pub packets_from : Files → ℕ → ℕ → List Item → List Sent
packets_from files lane n is = numbered packet_of (contents_of files) lane n is

-- how many items of a lane there are, and so the number of the last one
abbrev pub items_of : Files → ℕ → List Item → ℕ
items_of files lane is = items_by (contents_of files) lane is

-- the packets of a lane in a phase behind the items of the phases before
abbrev pub to_send : Files → ℕ → List Item → Phase → List Sent
to_send files lane before p = packets_from files lane (items_of files lane before + 1) p.items

-- A line that asks for another table asks for an option that cannot be set (MRT_TABLE, 209). A record makes the call that it
-- spells.
abbrev pub as_asked : Script → Script
as_asked (script.Table n) = script.Ask (Unknown 209)
as_asked (script.Raw opt bytes) = script.Ask (request_of opt bytes)
as_asked s = s

abbrev pub of_daemon : ℕ → ScriptLine → List Script
of_daemon d l = if l.daemon.0 == d then as_asked l.script ∷ [] else []

-- what a daemon is to ask in a phase
abbrev pub to_ask : ℕ → Phase → List Script
to_ask d p = flat_map (of_daemon d) p.script

-- These entries are those of a phase: no end of a phase, nothing of a lane or a daemon that the scenario does not have, and of
-- each lane the packets and of each daemon without a routing machine the lines, once and in order.
pub record PartOf (files : Files) (scenario : Scenario) (before : List Item) (p : Phase) (part : List Entry) : Type 0 where
  pub no_end : list_any is_end part ≡ false
  pub callers : AllByRecursion (IsCalled scenario) part
  pub lanes : (lane : ℕ) → 1 ≤ lane → lane ≤ scenario.lanes → sent lane part ≡ to_send files lane before p
  pub daemons : (d : ℕ) → 1 ≤ d → d ≤ length scenario.daemons → has_machine scenario d ≡ false → asked d part ≡ to_ask d p

-- a history of these phases, behind items of former ones: each phase's entries and its end, and nothing after the last
abbrev pub MadeFrom : Files → Scenario → List Item → List Phase → List Entry → Type 0
MadeFrom files scenario before [] h = h ≡ []
MadeFrom files scenario before (p ∷ ps) h =
    (part : List Entry) × (rest : List Entry) × (h ≡ part ++ EndPhase ∷ rest)
    × PartOf files scenario before p part × MadeFrom files scenario (before ++ p.items) ps rest

-- Each daemon with a routing machine did in these phases just what its machine does for its lines.
abbrev pub MachinesDrive : Files → Scenario → List Phase → List Entry → Type 0
MachinesDrive files scenario ps h =
    (d : ℕ) (names : List Word) → kind_of scenario d ≡ Some (Smc names)
    → DrivesFrom d (machine_of files scenario names) [] ps h

pub record Made (files : Files) (scenario : Scenario) (h : List Entry) : Type 0 where
  pub phases : MadeFrom files scenario [] scenario.phases h
  pub machines : MachinesDrive files scenario scenario.phases h
