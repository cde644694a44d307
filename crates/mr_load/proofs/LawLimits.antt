-- The limits of a run are within those of every scenario.
use Rattle.std.proofs.Common.{◌≡◌, refl, ap, sym, ◌∙◌, subst, ℕ, zero, suc, ◌+◌, ◌==◌, ◌<◌, ◌≤◌, Bool, true, false, List, [], ◌∷◌, ◌++◌, length, map, arith}
use Rattle.std.proofs.lemmas.List.{length-map}
use Rattle.std.proofs.lemmas.List.Sums.{sum_by-cons}
use Rattle.std.specs.Prelude.{if◌then◌else◌, sum}
use Rattle.mr_base.specs.Outside.{Files}
use Rattle.mr_load.specs.Callers.{from_on, one_to}
use Rattle.mr_load.specs.Items.{Content, contents_of, items_by, all_items}
use Rattle.mr_load.specs.Loading.{items_in, packets_in, run_limits}
use Rattle.mr_load.specs.Loads.{IsLoaded}
use Rattle.mr_load.specs.Made.{items_of}
use Rattle.mr_load.specs.RunLimits.{AreWithin, AreOf, LimitsWithin, LimitsAreOf}
use Rattle.mr_load.specs.declared.loading.Loaded.{Loaded}
use Rattle.mr_load.proofs.Numbered.{packets_most}
use Rattle.mr_load.proofs.Rows.{all_one, items_one}
use Rattle.mr_scenario.specs.Spelled.{is_admin_kind, address_only}
use Rattle.mr_scenario.specs.declared.scenario.Given.{Given}
use Rattle.mr_scenario.specs.declared.scenario.Item.{Item}
use Rattle.mr_scenario.specs.declared.scenario.Scenario.{Scenario}

sum_cons : (x : ℕ) (xs : List ℕ) → sum (x ∷ xs) ≡ x + sum xs
sum_cons x xs = sum_by-cons (λ (n : ℕ). n) x xs

sum_most : (f g : ℕ → ℕ) → ((n : ℕ) → f n ≤ g n) → (ns : List ℕ) → sum (map f ns) ≤ sum (map g ns)
sum_most f g less [] = omega arith
sum_most f g less (n ∷ ns) = omega (arith, sum_cons (f n) (map f ns), sum_cons (g n) (map g ns), less n, sum_most f g less ns)

sum_both : (f g h : ℕ → ℕ) → ((n : ℕ) → f n ≡ g n + h n) → (ns : List ℕ) → sum (map f ns) ≡ sum (map g ns) + sum (map h ns)
sum_both f g h both [] = refl
sum_both f g h both (n ∷ ns) = omega (arith, sum_cons (f n) (map f ns), sum_cons (g n) (map g ns), sum_cons (h n) (map h ns), both n, sum_both f g h both ns)

-- a line is of one lane at most

abbrev is_of : ℕ → ℕ → ℕ → ℕ
is_of m lane n = if lane == n then m else 0

if_same : (m lane n : ℕ) → lane < n → is_of m lane n ≡ 0
if_same m lane n less =
    let other : (lane == n) ≡ false = grind (arith, less) in
    rw other refl

lane_of_none : (m lane n k : ℕ) → lane < n → sum (map (is_of m lane) (from_on n k)) ≡ 0
lane_of_none m lane n zero less = refl
lane_of_none m lane n (suc k) less =
    omega (arith, sum_cons (is_of m lane n) (map (is_of m lane) (from_on (n + 1) k)), if_same m lane n less, lane_of_none m lane (n + 1) k (omega (arith, less)))

one_by : (b : Bool) (m rest : ℕ) → (b ≡ true → rest ≡ 0) → rest ≤ m → (if b then m else 0) + rest ≤ m
one_by true m rest none most = omega (arith, none refl)
one_by false m rest none most = omega (arith, most)

lane_of_one : (m lane n k : ℕ) → sum (map (is_of m lane) (from_on n k)) ≤ m
lane_of_one m lane n zero = omega arith
lane_of_one m lane n (suc k) =
    let rest = sum (map (is_of m lane) (from_on (n + 1) k)) in
    let none : (lane == n) ≡ true → rest ≡ 0 = λ same. lane_of_none m lane (n + 1) k (grind (arith, same)) in
    omega (arith, sum_cons (is_of m lane n) (map (is_of m lane) (from_on (n + 1) k)), one_by (lane == n) m rest none (lane_of_one m lane (n + 1) k))

none_sum : (ns : List ℕ) → sum (map (λ n. 0) ns) ≡ 0
none_sum [] = refl
none_sum (n ∷ ns) = omega (arith, sum_cons 0 (map (λ (m : ℕ). 0) ns), none_sum ns)

-- no more items of the lanes together than items
items_sum : (C : Given → List Content) (n k : ℕ) (is : List Item) → sum (map (λ lane. items_by C lane is) (from_on n k)) ≤ all_items C is
items_sum C n k [] = omega (arith, none_sum (from_on n k))
items_sum C n k (x ∷ is) =
    omega (
      arith,
      sum_both (λ lane. items_by C lane (x ∷ is)) (is_of (length (C x.given)) x.lane.0) (λ lane. items_by C lane is) (λ lane. items_one C lane x is) (from_on n k),
      lane_of_one (length (C x.given)) x.lane.0 n k,
      items_sum C n k is,
      all_one C x is,
    )

packets_sum : (files : Files) (s : Scenario) → sum (run_limits files s).packets ≤ all_items (contents_of files) (items_in s.phases)
packets_sum files s =
    omega (
      arith,
      sum_most (packets_in files s) (λ lane. items_of files lane (items_in s.phases)) (λ lane. packets_most (contents_of files) lane 1 (items_in s.phases)) (one_to s.lanes),
      items_sum (contents_of files) 1 s.lanes (items_in s.phases),
    )

from_count : (n k : ℕ) → length (from_on n k) ≡ k
from_count n zero = refl
from_count n (suc k) = ap (λ m. suc m) (from_count (n + 1) k)

lanes_count : (files : Files) (s : Scenario) → length (run_limits files s).packets ≡ s.lanes
lanes_count files s = length-map (one_to s.lanes) (packets_in files s) ∙ from_count 1 s.lanes

pub limits_of_scenario : LimitsAreOf
limits_of_scenario files l loaded =
    let admins : length l.scenario.limits.admins ≡ length l.scenario.daemons = ap length loaded.fits.admins ∙ length-map l.scenario.daemons is_admin_kind in
    let devices : length l.scenario.limits.devices ≡ length l.scenario.devices = ap length loaded.fits.devices ∙ length-map l.scenario.devices address_only in
    record {
      lanes = rw loaded.limits (lanes_count files l.scenario);
      daemons = rw loaded.limits admins;
      devices = rw loaded.limits devices;
      phases = rw loaded.limits loaded.fits.phases;
    }

pub limits_within : LimitsWithin
limits_within files l loaded =
    let f = loaded.fits in
    let of = limits_of_scenario files l loaded in
    record {
      some_entries = rw loaded.limits f.least_entries;
      entries = rw loaded.limits f.most_entries;
      some_unresolved = rw loaded.limits f.least_unresolved;
      unresolved = rw loaded.limits f.most_unresolved;
      some_controls = rw loaded.limits f.least_controls;
      controls = rw loaded.limits f.most_controls;
      phases = omega (arith, of.phases, f.most_phases);
      lanes = omega (arith, of.lanes, f.most_lanes);
      packets = rw loaded.limits (omega (arith, packets_sum files l.scenario, loaded.items));
      daemons = omega (arith, of.daemons, f.most_daemons);
      devices = omega (arith, of.devices, f.most_devices);
    }
