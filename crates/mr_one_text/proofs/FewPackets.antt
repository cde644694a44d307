-- The limits of a scenario that was loaded leave room for few packets.
use Rattle.std.proofs.Common.{◌≡◌, ℕ, zero, suc, ◌+◌, ◌*◌, ◌≤◌, List, [], ◌∷◌, length, map, refl, arith, sum}
use Rattle.std.proofs.lemmas.List.Sums.{sum_by-cons}
use Rattle.mr_load.specs.Callers.{from_on, one_to}
use Rattle.mr_load.specs.Items.{all_items, contents_of}
use Rattle.mr_load.specs.Loading.{items_in, packets_in}
use Rattle.mr_load.proofs.Numbered.{packets_most}
use Rattle.mr_load.proofs.Rows.{items_most}
use Rattle.mr_one_text.specs.Laws.{RoomFits}

many : (n k : ℕ) → length (from_on n k) ≡ k
many n zero = refl
many n (suc k) = omega (arith, many (n + 1) k)

sum_few : (f : ℕ → ℕ) (most : ℕ) (ns : List ℕ) → most ≤ 1048576 → ((n : ℕ) → f n ≤ most) → sum (map f ns) ≤ length ns * 1048576
sum_few f most [] small each = omega arith
sum_few f most (n ∷ ns) small each = omega (arith, sum_by-cons (λ (x : ℕ). x) (f n) (map f ns), each n, sum_few f most ns small each, small)

pub room_fits : RoomFits
room_fits files s read =
    let fits = read.fits in
    let most = all_items (contents_of files) (items_in s.phases) in
    let each : (lane : ℕ) → packets_in files s lane ≤ most = λ lane. omega (arith, packets_most (contents_of files) lane 1 (items_in s.phases), items_most (contents_of files) lane (items_in s.phases)) in
    let few : most ≤ 1048576 = omega (arith, read.items) in
    let all : sum (map (packets_in files s) (one_to s.lanes)) ≤ length (one_to s.lanes) * 1048576 = sum_few (packets_in files s) most (one_to s.lanes) few each in
    omega (arith, all, many 1 s.lanes, fits.most_lanes, fits.most_controls, fits.phases, fits.most_phases)
