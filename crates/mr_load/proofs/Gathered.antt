-- What the lanes give together, by their numbers.
use Rattle.std.proofs.Common.{◌≡◌, refl, ap, sym, ◌∙◌, ℕ, ◌+◌, ◌≤◌, List, [], ◌∷◌, ◌++◌, length, map, flat_map, arith}
use Rattle.std.proofs.lemmas.List.{append_assoc, append-nil}
use Rattle.std.specs.List.{AllByRecursion}
use Rattle.mr_base.specs.declared.numbers.LaneNo.{LaneNo}
use Rattle.mr_load.specs.Callers.{one_to}
use Rattle.mr_load.specs.Dues.{Due, LaneValue, dues_by, lane_by}
use Rattle.mr_load.specs.Gathering.{AreFew, Gathers}
use Rattle.mr_load.specs.Items.{Content, items_by, all_items, numbered}
use Rattle.mr_load.specs.Loading.{of_lanes, skip_of, skip_dev, items_in}
use Rattle.mr_load.specs.Made.{packet_of}
use Rattle.mr_load.specs.Passing.{EachFrom, HasPassed, IsOfLanes}
use Rattle.mr_load.specs.declared.gathering.Gathered.{Gathered}
use Rattle.mr_load.specs.declared.passing.Passed.{Passed}
use Rattle.mr_load.proofs.EachLane.{each_weaker, each_map, each_flat, each_all}
use Rattle.mr_load.proofs.LawDues.{count_by}
use Rattle.mr_load.proofs.Numbered.{packets_most}
use Rattle.mr_load.proofs.Rows.{all_weaker, items_most}
use Rattle.mr_scenario.specs.Fits.{IsItem}
use Rattle.mr_scenario.specs.declared.scenario.Given.{Given}
use Rattle.mr_scenario.specs.declared.scenario.Item.{Item}
use Rattle.mr_scenario.specs.declared.scenario.Phase.{Phase}
use Rattle.mr_scenario.specs.declared.scenario.Scenario.{Scenario}

-- one lane more
pub gathers_on : (old a b : Gathered) (left rest : List Passed) (p : Passed) → left ≡ p ∷ rest → Gathers a (p ∷ []) b → Gathers b rest old → Gathers a left old
gathers_on old a b left rest p e one more = record {
  lanes = rw (more.lanes, one.lanes, e) (append_assoc a.lanes.items _ _);
  counts = rw (more.counts, one.counts, e) (append_assoc a.counts.items _ _);
  skips = rw (more.skips, one.skips, e, append-nil p.skips.items) (append_assoc a.skips.items p.skips.items _);
  devs = rw (more.devs, one.devs, e, append-nil p.devs.items) (append_assoc a.devs.items p.devs.items _);
}

same_lane : (v : LaneValue) (lane : LaneNo) (ds : List Due) → v.lane ≡ lane → v.packets ≡ ds → v ≡ record { lane = lane; packets = ds }
same_lane v lane ds e f = rw (← e, ← f) refl

pub lanes_are : (C : Given → List Content) (s : Scenario) (ls : List Passed) → length ls ≡ s.lanes → EachFrom (HasPassed C s.phases) 1 ls → map (λ p. p.packets) ls ≡ map (lane_by C s) (one_to s.lanes)
lanes_are C s ls count has =
    rw (← count)
    (each_map (λ p. p.packets) (lane_by C s) 1 ls
    (each_weaker (HasPassed C s.phases) (λ lane a. a.packets ≡ lane_by C s lane) (λ lane a h. same_lane a.packets _ _ h.lane_is h.packets) 1 ls has))

pub counts_are : (C : Given → List Content) (s : Scenario) (ls : List Passed) → length ls ≡ s.lanes → EachFrom (HasPassed C s.phases) 1 ls
    → map (λ p. length p.packets.packets) ls ≡ map (λ lane. length (numbered packet_of C lane 1 (items_in s.phases))) (one_to s.lanes)
counts_are C s ls count has =
    rw (← count)
    (each_map (λ p. length p.packets.packets) (λ lane. length (numbered packet_of C lane 1 (items_in s.phases))) 1 ls
    (each_weaker (HasPassed C s.phases) (λ lane a. length a.packets.packets ≡ length (numbered packet_of C lane 1 (items_in s.phases))) (λ lane a h. ap length h.packets ∙ count_by C lane s.phases) 1 ls has))

pub skips_are : (C : Given → List Content) (s : Scenario) (ls : List Passed) → length ls ≡ s.lanes → EachFrom (HasPassed C s.phases) 1 ls → flat_map (λ p. p.skips.items) ls ≡ of_lanes skip_of C s
skips_are C s ls count has =
    rw (← count)
    (each_flat (λ p. p.skips.items) (λ lane. numbered skip_of C lane 1 (items_in s.phases)) 1 ls
    (each_weaker (HasPassed C s.phases) (λ lane a. a.skips.items ≡ numbered skip_of C lane 1 (items_in s.phases)) (λ lane a h. h.skips) 1 ls has))

pub devs_are : (C : Given → List Content) (s : Scenario) (ls : List Passed) → length ls ≡ s.lanes → EachFrom (HasPassed C s.phases) 1 ls → flat_map (λ p. p.devs.items) ls ≡ of_lanes skip_dev C s
devs_are C s ls count has =
    rw (← count)
    (each_flat (λ p. p.devs.items) (λ lane. numbered skip_dev C lane 1 (items_in s.phases)) 1 ls
    (each_weaker (HasPassed C s.phases) (λ lane a. a.devs.items ≡ numbered skip_dev C lane 1 (items_in s.phases)) (λ lane a h. h.devs) 1 ls has))

pub few_packets : (C : Given → List Content) (ps : List Phase) (ls : List Passed) → all_items C (items_in ps) ≤ 1048576 → EachFrom (HasPassed C ps) 1 ls → AreFew ls
few_packets C ps ls few has =
    each_all (HasPassed C ps) (λ p. length p.packets.packets ≤ 1048576)
    (λ lane a h. omega (arith, ap length h.packets ∙ count_by C lane ps, packets_most C lane 1 (items_in ps), items_most C lane (items_in ps), few)) 1 ls has

-- each item of a scenario is of one of its lanes
pub are_of_lanes : (lanes devices : ℕ) (ps : List Phase) → AllByRecursion (λ p. AllByRecursion (IsItem lanes devices) p.items) ps → AllByRecursion (λ p. AllByRecursion (IsOfLanes lanes) p.items) ps
are_of_lanes lanes devices ps a =
    all_weaker (λ (p : Phase). AllByRecursion (IsItem lanes devices) p.items) (λ (p : Phase). AllByRecursion (IsOfLanes lanes) p.items)
    (λ p b. all_weaker (IsItem lanes devices) (IsOfLanes lanes) (λ i f. record { least = f.least_lane; most = f.most_lane }) p.items b) ps a
