-- What a history says of a lane: how many packets, the last one's index, and the looks.
use Rattle.std.proofs.Common.{◌≡◌, ◌∙◌, ℕ, zero, suc, ◌<◌, ◌==◌, Bool, true, false, List, [], ◌∷◌, ◌++◌, length, map, take, fold, get_or, refl, sym, ap, arith}
use Rattle.std.proofs.lemmas.List.{length-append, length-map}
use Rattle.std.proofs.lemmas.List.Sums.{sum_by-cons}
use Rattle.std.specs.Prelude.{if◌then◌else◌}
use Rattle.mr_base.specs.declared.numbers.LaneNo.{LaneNo}
use Rattle.mr_load.specs.Dues.{Due, RiseFrom, sent_of}
use Rattle.mr_load.specs.Made.{Sent, sent_in, sent}
use Rattle.mr_model.specs.declared.entry.Entry.{Entry}
use Rattle.mr_model.specs.declared.entry.Entry.TheVariants.{Call, Slow, Settle, Tick, Recv, EndPhase}
use Rattle.mr_model.specs.declared.entry.FastRecord.{FastRecord}
use Rattle.mr_model.specs.Past.{index_after, is_of_lane, last_index, packets, packets_in}

one_length : (b : Bool) (x : Sent) → (if b then 1 else 0) ≡ length (if b then x ∷ [] else [])
one_length true x = refl
one_length false x = refl

abbrev as_sent : FastRecord → Sent
as_sent r = record { index = r.index; flow = r.flow }

all_length : (b : Bool) (rs : List FastRecord) → (if b then length rs else 0) ≡ length (if b then map as_sent rs else [])
all_length true rs = sym (length-map rs as_sent)
all_length false rs = refl

entry_packets : (lane : LaneNo) (e : Entry) → (if is_of_lane lane e then packets_in e else 0) ≡ length (sent_in lane.0 e)
entry_packets lane (Call d request reply released) = refl
entry_packets lane (Slow l index look flow o) = one_length (l.0 == lane.0) (record { index = index; flow = flow })
entry_packets lane (Settle l records) = all_length (l.0 == lane.0) records
entry_packets lane (Tick d ms) = refl
entry_packets lane (Recv d message) = refl
entry_packets lane EndPhase = refl

-- a lane has as many packets as were sent
pub packets_sent : (lane : LaneNo) (h : List Entry) → packets lane h ≡ length (sent lane.0 h)
packets_sent lane [] = refl
packets_sent lane (e ∷ h) =
    let one : (if is_of_lane lane e then packets_in e else 0) ≡ length (sent_in lane.0 e) = entry_packets lane e in
    let rest : packets lane h ≡ length (sent lane.0 h) = packets_sent lane h in
    omega (arith, sum_by-cons (λ (x : Entry). if is_of_lane lane x then packets_in x else 0) e h, length-append (sent_in lane.0 e) (sent lane.0 h), one, rest)

-- the index of the last of packets, or one before
abbrev pub last_of : ℕ → List Sent → ℕ
last_of before xs = fold (λ b x. x.index) before xs

last_append : (n : ℕ) (xs ys : List Sent) → last_of n (xs ++ ys) ≡ last_of (last_of n xs) ys
last_append n [] ys = refl
last_append n (x ∷ xs) ys = last_append x.index xs ys

one_last : (b : Bool) (n : ℕ) (x : Sent) → last_of n (if b then x ∷ [] else []) ≡ (if b then x.index else n)
one_last true n x = refl
one_last false n x = refl

map_last : (n : ℕ) (rs : List FastRecord) → last_of n (map as_sent rs) ≡ fold (λ b (r : FastRecord). r.index) n rs
map_last n [] = refl
map_last n (r ∷ rs) = map_last r.index rs

all_last : (b : Bool) (n : ℕ) (rs : List FastRecord) → last_of n (if b then map as_sent rs else []) ≡ (if b then fold (λ c (r : FastRecord). r.index) n rs else n)
all_last true n rs = map_last n rs
all_last false n rs = refl

entry_last : (lane : LaneNo) (n : ℕ) (e : Entry) → last_of n (sent_in lane.0 e) ≡ index_after lane n e
entry_last lane n (Call d request reply released) = refl
entry_last lane n (Slow l index look flow o) = one_last (l.0 == lane.0) n (record { index = index; flow = flow })
entry_last lane n (Settle l records) = all_last (l.0 == lane.0) n records
entry_last lane n (Tick d ms) = refl
entry_last lane n (Recv d message) = refl
entry_last lane n EndPhase = refl

last_sent_from : (lane : LaneNo) (n : ℕ) (h : List Entry) → last_of n (sent lane.0 h) ≡ fold (index_after lane) n h
last_sent_from lane n [] = refl
last_sent_from lane n (e ∷ h) =
    last_append n (sent_in lane.0 e) (sent lane.0 h)
    ∙ ap (λ (m : ℕ). last_of m (sent lane.0 h)) (entry_last lane n e)
    ∙ last_sent_from lane (index_after lane n e) h

-- the lane's last index is that of the last packet that was sent
pub last_sent : (lane : LaneNo) (h : List Entry) → last_of 0 (sent lane.0 h) ≡ last_index lane h
last_sent lane h = last_sent_from lane 0 h

-- a packet's index is greater than those of the packets before it
pub rises : (n k : ℕ) (ds : List Due) (place : ℕ) (none : Due) → RiseFrom n k ds → place < length ds → last_of n (map sent_of (take place ds)) < (get_or ds place none).index
rises n k [] place none r less = absurd (omega (arith, less))
rises n k (d ∷ ds) zero none r less = r.0
rises n k (d ∷ ds) (suc place) none r less = rises d.index d.phase ds place none r.2 (omega (arith, less))
