-- A generated scenario with what its lanes are given is a scenario that was loaded.
use Rattle.std.proofs.Common.{◌≡◌, ℕ, zero, suc, ◌+◌, ◌*◌, ◌%◌, ◌<◌, ◌≤◌, List, [], ◌∷◌, ◌++◌, length, map, flat_map, refl, ap, sym, ◌∙◌, arith}
use Rattle.std.proofs.lemmas.List.{append-nil, length-replicate}
use Rattle.std.proofs.lemmas.List.Folds.{sum_by-replicate}
use Rattle.std.specs.List.{AllByRecursion}
use Rattle.std.specs.Prelude.{replicate, sum_by}
use Rattle.mr_base.specs.Outside.{Files}
use Rattle.mr_gen.specs.Dealt.{IsDealt, lane_dealt}
use Rattle.mr_gen.specs.Entries.{add_entry, add_vif, asks, script_lines}
use Rattle.mr_gen.specs.Generated.{generated, item_of, items, items_of, phases}
use Rattle.mr_gen.specs.Words.{words_of, seeded}
use Rattle.mr_gen.proofs.Lanes.{devs_given, flat_none, lane_given, lines_all, map_constant, map_same, sent_given, skips_given, word_count}
use Rattle.mr_history.specs.Fits.{FitsLimits}
use Rattle.mr_load.specs.Callers.{from_on, one_to}
use Rattle.mr_load.specs.Dues.{lane_of}
use Rattle.mr_load.specs.Items.{all_items, contents_of, numbered}
use Rattle.mr_load.specs.Loading.{items_in, packets_in, skip_of, skip_dev}
use Rattle.mr_load.specs.Loads.{IsLoaded}
use Rattle.mr_load.specs.declared.loading.Loaded.{Loaded}
use Rattle.mr_load.proofs.Rows.{all_append, all_items_append, all_one}
use Rattle.mr_model.specs.declared.request.Request.{Request}
use Rattle.mr_model.specs.declared.request.Request.TheVariants.{Init}
use Rattle.mr_scenario.specs.Fits.{Fits, IsAsked, IsItem, SuitsDaemon, packets_in as packets_of_line, packets_of}
use Rattle.mr_scenario.specs.declared.scenario.DaemonKind.TheVariants.{Admin}
use Rattle.mr_scenario.specs.declared.scenario.Item.{Item}
use Rattle.mr_scenario.specs.declared.scenario.ScriptLine.{ScriptLine}
use Rattle.std.proofs.lemmas.List.Sums.{sum_by-append, sum_by-cons}

-- how many items they are

lane_items : (files : Files) (lane : ℕ) (ws : List ℕ) → all_items (contents_of files) (map (item_of lane) ws) ≡ length ws
lane_items files lane [] = refl
lane_items files lane (w ∷ ws) = omega (arith, all_one (contents_of files) (item_of lane w) (map (item_of lane) ws), lane_items files lane ws)

next : (k n : ℕ) → n + k * n ≡ suc k * n
next k n = omega (arith)

items_count : (files : Files) (seed packets a k : ℕ) → all_items (contents_of files) (flat_map (items_of seed packets) (from_on a k)) ≡ k * packets
items_count files seed packets a zero = omega arith
items_count files seed packets a (suc k) =
    let rest : List Item = flat_map (items_of seed packets) (from_on (a + 1) k) in
    all_items_append (contents_of files) (items_of seed packets a) rest
    ∙ rw (lane_items files a (words_of seed a packets), word_count (seeded (seed + a)) packets, items_count files seed packets (a + 1) k) (next k packets)

-- each is of a lane, on a device

one_line : (lanes lane w : ℕ) → 1 ≤ lane → lane ≤ lanes → IsItem lanes 4 (item_of lane w)
one_line lanes lane w least most = record {
  least_lane = least;
  most_lane = most;
  least_device = omega arith;
  most_device = omega arith;
  file = tt;
}

lane_lines : (lanes lane : ℕ) (ws : List ℕ) → 1 ≤ lane → lane ≤ lanes → AllByRecursion (IsItem lanes 4) (map (item_of lane) ws)
lane_lines lanes lane [] least most = tt
lane_lines lanes lane (w ∷ ws) least most = (one_line lanes lane w least most, lane_lines lanes lane ws least most)

all_lines : (lanes seed packets a k : ℕ) → 1 ≤ a → a + k ≤ lanes + 1 → AllByRecursion (IsItem lanes 4) (flat_map (items_of seed packets) (from_on a k))
all_lines lanes seed packets a zero least most = tt
all_lines lanes seed packets a (suc k) least most =
    all_append (IsItem lanes 4) (items_of seed packets a) (flat_map (items_of seed packets) (from_on (a + 1) k))
    (lane_lines lanes a (words_of seed a packets) least (omega (arith, most)))
    (all_lines lanes seed packets (a + 1) k (omega arith) (omega (arith, most)))

-- each line is of the one daemon, and asks for something
all_asked : (P : ScriptLine → Type 0) → ((r : Request) → P (asks r)) → (f : ℕ → Request) (a k : ℕ) → AllByRecursion P (map (λ i. asks (f i)) (from_on a k))
all_asked P each f a zero = tt
all_asked P each f a (suc k) = (each (f a), all_asked P each f (a + 1) k)

script_all : (P : ScriptLine → Type 0) → ((r : Request) → P (asks r)) → AllByRecursion P script_lines
script_all P each =
    (each Init, all_append P (map (λ i. asks (add_vif i)) (from_on 0 4)) (map (λ k. asks (add_entry k)) (from_on 0 64)) (all_asked P each add_vif 0 4) (all_asked P each add_entry 0 64))

-- how many packets the lines give by themselves

lane_sum : (lane : ℕ) (ws : List ℕ) → sum_by (λ (i : Item). packets_of_line i.given) (map (item_of lane) ws) ≡ length ws
lane_sum lane [] = refl
lane_sum lane (w ∷ ws) = omega (arith, sum_by-cons (λ (i : Item). packets_of_line i.given) (item_of lane w) (map (item_of lane) ws), lane_sum lane ws)

lines_sum : (seed packets a k : ℕ) → sum_by (λ (i : Item). packets_of_line i.given) (flat_map (items_of seed packets) (from_on a k)) ≡ k * packets
lines_sum seed packets a zero = omega arith
lines_sum seed packets a (suc k) =
    let rest : List Item = flat_map (items_of seed packets) (from_on (a + 1) k) in
    sum_by-append (λ (i : Item). packets_of_line i.given) (items_of seed packets a) rest
    ∙ rw (lane_sum a (words_of seed a packets), word_count (seeded (seed + a)) packets, lines_sum seed packets (a + 1) k) (next k packets)

packets_all : (seed lanes packets : ℕ) → packets_of (phases (items seed lanes packets)) ≡ lanes * packets
packets_all seed lanes packets = omega (arith, lines_sum seed packets 1 lanes)

pub fits : (seed lanes packets : ℕ) → lanes ≤ 16 → lanes * packets ≤ 1048576 → Fits (generated seed lanes packets)
fits seed lanes packets few most = record {
  least_entries = omega arith;
  most_entries = omega arith;
  least_unresolved = omega arith;
  most_unresolved = omega arith;
  least_controls = omega arith;
  most_controls = omega arith;
  phases = refl;
  most_phases = omega arith;
  lanes = refl;
  most_lanes = few;
  admins = refl;
  most_daemons = omega arith;
  confs = (tt, tt);
  devices = refl;
  most_devices = omega arith;
  names = (refl, (refl, (refl, (refl, tt))));
  items = (tt, (all_lines lanes seed packets 1 lanes (omega arith) (omega arith), tt));
  script = (script_all (IsAsked 1) (λ r. record { least = omega arith; most = omega arith }), (tt, tt));
  machine_lines = (script_all (SuitsDaemon (Admin ∷ [])) (λ r. λ _. tt), (tt, tt));
  most_packets = omega (arith, packets_all seed lanes packets, most);
}

pub loads : (files : Files) (seed lanes packets : ℕ) (l : Loaded) → lanes ≤ 16 → lanes * packets ≤ 1048576
    → l.scenario ≡ generated seed lanes packets → IsDealt seed lanes packets l → IsLoaded files l
loads files seed lanes packets l few most is dealt = record {
  fits = rw is (fits seed lanes packets few most);
  items = rw (is, lines_all seed lanes packets) (omega (arith, items_count files seed packets 1 lanes, most));
  limits = rw is (dealt.limits ∙ ap (λ ps. record (generated seed lanes packets).limits { packets = ps }) (sym counts));
  lanes = rw is (dealt.lanes ∙ sym (map_same (lane_of files (generated seed lanes packets)) (lane_dealt seed packets) 1 lanes (lane_given files seed lanes packets)));
  skips = rw is (dealt.skips ∙ sym (flat_none (λ lane. numbered skip_of (contents_of files) lane 1 (items_in (generated seed lanes packets).phases)) 1 lanes (skips_given files seed lanes packets)));
  skip_devs = rw is (dealt.skip_devs ∙ sym (flat_none (λ lane. numbered skip_dev (contents_of files) lane 1 (items_in (generated seed lanes packets).phases)) 1 lanes (devs_given files seed lanes packets)));
  machines = rw is dealt.machines;
}
  where
    counts : map (packets_in files (generated seed lanes packets)) (one_to lanes) ≡ replicate lanes packets
    counts = map_same (packets_in files (generated seed lanes packets)) (λ lane. packets) 1 lanes (sent_given files seed lanes packets) ∙ map_constant packets 1 lanes

-- the machine can be made for its limits
pub fits_machine : (seed lanes packets : ℕ) (l : Loaded) → lanes ≤ 16 → lanes * packets ≤ 1048576 → IsDealt seed lanes packets l → FitsLimits l.limits
fits_machine seed lanes packets l few most dealt = rw dealt.limits (record {
  some_entries = omega arith;
  entries = omega arith;
  some_unresolved = omega arith;
  unresolved = omega arith;
  some_controls = omega arith;
  controls = omega arith;
  phases = omega arith;
  lanes = rw (length-replicate lanes packets) few;
  packets = rw (sum_by-replicate (λ (n : ℕ). n) lanes packets) most;
  daemons = omega arith;
  devices = omega arith;
})

-- no lane has more packets than all of them
pub some_lane : (lanes packets : ℕ) → 1 ≤ lanes → packets ≤ lanes * packets
some_lane zero packets l = absurd (omega (arith, l))
some_lane (suc k) packets l = omega (arith, next k packets)
