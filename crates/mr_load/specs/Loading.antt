-- What is loaded of a scenario and the files that it names: its skips, and how many packets each lane has.
use Rattle.std.specs.Prelude.{ℕ, Some, None, option_map, option_to_list, List, [], ◌∷◌, length, map, flat_map}
use Rattle.mr_base.specs.Heads.{cause_of}
use Rattle.mr_base.specs.Outside.{Files}
use Rattle.mr_base.specs.declared.head_error.HeadError.{HeadError}
use Rattle.mr_base.specs.declared.head_error.HeadError.TheVariants as head_error
use Rattle.mr_lines.specs.declared.skip.Skip.{Skip}
use Rattle.mr_model.specs.declared.limits.Limits.{Limits}
use Rattle.mr_scenario.specs.declared.scenario.Given.{Given}
use Rattle.mr_scenario.specs.declared.scenario.Item.{Item}
use Rattle.mr_scenario.specs.declared.scenario.Phase.{Phase}
use Rattle.mr_scenario.specs.declared.scenario.Scenario.{Scenario}
use Rattle.mr_load.specs.Callers.{one_to}
use Rattle.mr_load.specs.Items.{Content, contents_of, numbered}
use Rattle.mr_load.specs.Made.{packet_of, packets_from}

-- the number of the cause for which a head is refused (HeadError)
abbrev pub cause_number : HeadError → ℕ
cause_number head_error.Short = 1
cause_number head_error.Version = 2
cause_number head_error.HeaderLength = 3
cause_number head_error.Checksum = 4
cause_number head_error.TotalLength = 5
cause_number head_error.NotMulticast = 6
cause_number head_error.LinkLocal = 7
cause_number head_error.BadSource = 8

-- An item of a line as a skip: with cause 0, where its frame does not say IPv4, or with the cause for which its head is refused.
abbrev pub skip_of : Item → ℕ → Content → List Skip
skip_of i n None = record { lane = i.lane; index = n; cause = 0 } ∷ []
skip_of i n (Some bs) = option_to_list (option_map (λ e. record { lane = i.lane; index = n; cause = cause_number e }) (cause_of bs))

-- the device of an item that is a skip
abbrev pub skip_dev : Item → ℕ → Content → List ℕ
skip_dev i n None = i.dev ∷ []
skip_dev i n (Some bs) = option_to_list (option_map (λ e. i.dev) (cause_of bs))

-- all lines of lanes in a scenario, in their order
abbrev pub items_in : List Phase → List Item
items_in ps = flat_map (λ p. p.items) ps

-- what each lane's items give, by lane and then by item
abbrev pub of_lanes : {A : Type 0} → (Item → ℕ → Content → List A) → (Given → List Content) → Scenario → List A
of_lanes f contents s = flat_map (λ lane. numbered f contents lane 1 (items_in s.phases)) (one_to s.lanes)

-- the skips of a lane among lines, of whose items the lane's first has number n
abbrev pub skips_from : Files → ℕ → ℕ → List Item → List Skip
skips_from files lane n is = numbered skip_of (contents_of files) lane n is

-- by lane and then by item
abbrev pub skips_of : Files → Scenario → List Skip
skips_of files s = of_lanes skip_of (contents_of files) s

-- the device of each skip's item, in the order of the skips
abbrev pub skip_devs_of : Files → Scenario → List ℕ
skip_devs_of files s = of_lanes skip_dev (contents_of files) s

-- how many packets a lane has: its items whose head is accepted
abbrev pub packets_in : Files → Scenario → ℕ → ℕ
packets_in files s lane = length (packets_from files lane 1 (items_in s.phases))

abbrev pub limits_by : (Given → List Content) → Scenario → Limits
limits_by contents s =
    record s.limits { packets = map (λ lane. length (numbered packet_of contents lane 1 (items_in s.phases))) (one_to s.lanes) }

-- the limits of a scenario, with the packets of each lane
abbrev pub run_limits : Files → Scenario → Limits
run_limits files s = record s.limits { packets = map (packets_in files s) (one_to s.lanes) }
