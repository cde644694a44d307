-- The lines of phases: each by the words behind its first one.
use Rattle.std.specs.Prelude.{ℕ, ◌+◌, ◌-◌, Bool, true, false, nat_lt, if◌then◌else◌, Some, option_to_list, unwrap_or, Result, Ok, Err, List, [], ◌∷◌, ◌++◌, length, bytes_eq, codes}
use Rattle.mr_base.specs.declared.limits.TheConstants.{MOST_ITEMS, MOST_PHASES}
use Rattle.mr_scenario.specs.Counts.{Word, none_of, two_led, four_of}
use Rattle.mr_scenario.specs.Forms.{number_in, device_of, hex_word}
use Rattle.mr_scenario.specs.Kinds.{in_line, bad, or_bad, word_as, wants}
use Rattle.mr_scenario.specs.Requests.{Who, script_of}
use Rattle.mr_scenario.specs.declared.draft.Draft.{Draft}
use Rattle.mr_scenario.specs.declared.scenario.DaemonKind.{DaemonKind}
use Rattle.mr_scenario.specs.declared.scenario.DaemonKind.TheVariants.{Plain, Admin, Smc}
use Rattle.mr_scenario.specs.declared.scenario.Given.TheVariants.{Bytes, Trace}
use Rattle.mr_scenario.specs.declared.scenario.Item.{Item}
use Rattle.mr_scenario.specs.declared.scenario.Phase.{Phase}
use Rattle.mr_scenario.specs.declared.scenario.ScriptLine.{ScriptLine}
use Rattle.mr_scenario.specs.declared.stop.Kind.TheVariants as kind
use Rattle.mr_scenario.specs.declared.stop.Mistake.{Mistake}
use Rattle.mr_words.specs.Binds.{◌>>=◌}
use Rattle.mr_words.specs.Names.{is_file}

-- the phase whose lines are read; an empty one where there is none
abbrev pub phase_of : Draft → Phase
phase_of d = unwrap_or d.current (record { line = 0; items = []; script = [] })

-- the number of lanes: 1 where no line says it
abbrev pub lanes_of : Draft → ℕ
lanes_of d = unwrap_or d.lanes 1

-- the phases so far, the one whose lines are read among them
abbrev pub phases_so_far : Draft → List Phase
phases_so_far d = d.phases ++ option_to_list d.current

abbrev pub with_phase : ℕ → Draft → Draft
with_phase n d = record d { phases = phases_so_far d; current = Some (record { line = n; items = []; script = [] }) }

-- `phase`, at most 1,000
abbrev pub phase_line : ℕ → Draft → List Word → Result Draft Mistake
phase_line n d ws = do
  _ ← or_bad (none_of ws) (in_line kind.Word)
  _ ← wants (nat_lt (length (phases_so_far d)) MOST_PHASES) (in_line kind.Limit)
  Ok (with_phase n d)

abbrev pub with_item : Draft → Phase → Item → Draft
with_item d p i = record d { current = Some (record p { items = p.items ++ i ∷ [] }) }

-- a packet more, which counts
abbrev pub with_packet : Draft → Phase → Item → Draft
with_packet d p i = record d { sent = d.sent + 1; current = Some (record p { items = p.items ++ i ∷ [] }) }

abbrev pub device_word : Draft → Word → Result ℕ Mistake
device_word d w = word_as (device_of w d.devices) 3 w kind.Device

-- `DEV HEX`: at most 1,048,576 in all phases
abbrev pub packet_item : ℕ → Draft → Phase → ℕ → Word → Word → Result Draft Mistake
packet_item n d p lane dev digits = do
  i ← device_word d dev
  bytes ← hex_word 4 digits
  _ ← wants (nat_lt d.sent MOST_ITEMS) (in_line kind.Limit)
  Ok (with_packet d p (record { line = n; lane = record { 0 = lane }; dev = i; given = Bytes bytes }))

-- `DEV FILE`
abbrev pub trace_item : ℕ → Draft → Phase → ℕ → Word → Word → Result Draft Mistake
trace_item n d p lane dev file = do
  i ← device_word d dev
  _ ← wants (is_file file) (bad 4 file kind.File)
  Ok (with_item d p (record { line = n; lane = record { 0 = lane }; dev = i; given = Trace file }))

abbrev pub item_by_word : ℕ → Draft → Phase → ℕ → Word → Word → Word → Result Draft Mistake
item_by_word n d p lane what dev given =
    if bytes_eq what (codes "pkt") then packet_item n d p lane dev given
    else (if bytes_eq what (codes "trace") then trace_item n d p lane dev given
    else Err (in_line kind.Word))

-- `lane L pkt DEV HEX` or `lane L trace DEV FILE`
abbrev pub lane_line : ℕ → Draft → Phase → List Word → Result Draft Mistake
lane_line n d p ws = do
  w ← or_bad (four_of ws) (in_line kind.Word)
  lane ← word_as (number_in 1 (lanes_of d) w.0) 1 w.0 kind.Lane
  item_by_word n d p lane w.1 w.2 w.3

abbrev pub is_smc : DaemonKind → Bool
is_smc (Smc files) = true
is_smc Plain = false
is_smc Admin = false

-- whether daemon i, from 1, is driven by smcroute
abbrev pub is_smc_at : List DaemonKind → ℕ → Bool
is_smc_at [] i = false
is_smc_at (k ∷ ks) i = if nat_lt 1 i then is_smc_at ks (i - 1) else is_smc k

-- the number of a daemon that is declared
abbrev pub daemon_word : Draft → Word → Result ℕ Mistake
daemon_word d w = word_as (number_in 1 (length d.daemons) w) 1 w kind.Daemon

abbrev pub who_of : Draft → Word → Who
who_of d w = daemon_word d w >>= λ i. Ok (is_smc_at d.daemons i)

abbrev pub with_script : Draft → Phase → ScriptLine → Draft
with_script d p l = record d { current = Some (record p { script = p.script ++ l ∷ [] }) }

-- `daemon D OP ..`
abbrev pub script_line : ℕ → Draft → Phase → List Word → Result Draft Mistake
script_line n d p ws = do
  w ← or_bad (two_led ws) (in_line kind.Word)
  s ← script_of w.1 (who_of d w.0) w.2
  i ← daemon_word d w.0
  Ok (with_script d p (record { line = n; daemon = record { 0 = i }; script = s }))
