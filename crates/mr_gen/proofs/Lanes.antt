-- What each lane is given: its packets, and no skip.
use Rattle.std.proofs.Common.{◌≡◌, ℕ, zero, suc, ◌+◌, ◌%◌, ◌<◌, ◌≤◌, Some, None, List, [], ◌∷◌, ◌++◌, length, map, flat_map, refl, ap, sym, ◌∙◌, arith}
use Rattle.std.proofs.lemmas.List.{append-nil}
use Rattle.std.specs.Prelude.{replicate}
use Rattle.mr_base.specs.Heads.{cause_of}
use Rattle.mr_base.specs.Outside.{Files}
use Rattle.mr_gen.specs.Dealt.{dealt, dealt_from, lane_dealt}
use Rattle.mr_gen.specs.Entries.{packet_of}
use Rattle.mr_gen.specs.Generated.{generated, item_of, items, items_of}
use Rattle.mr_gen.specs.Words.{words_from, words_of, seeded}
use Rattle.mr_gen.proofs.Accepted.{word_accepted}
use Rattle.mr_gen.proofs.Rows.{row_of, lane_row}
use Rattle.mr_load.specs.Callers.{from_on, one_to}
use Rattle.mr_load.specs.Dues.{Due, LaneValue, due_of, lane_of}
use Rattle.mr_load.specs.Items.{Content, contents_of, items_by, numbered}
use Rattle.mr_load.specs.Loading.{items_in, packets_in, skip_of, skip_dev}
use Rattle.mr_load.specs.Made.{packet_of as sent_packet}
use Rattle.rand_pcg.specs.Lcg.{Lcg}
use Rattle.rand_pcg.specs.Pcg.{pcg32}
use Rattle.mr_scenario.specs.declared.scenario.Item.{Item}

-- each word is a packet
due_row : (lane n : ℕ) (ws : List ℕ) → row_of (due_of 1) lane n ws ≡ dealt_from n ws
due_row lane n [] = refl
due_row lane n (w ∷ ws) = rw (word_accepted w) (ap (λ ds. dealt n w ∷ ds) (due_row lane (n + 1) ws))

-- as many packets as words
sent_row : (lane n : ℕ) (ws : List ℕ) → length (row_of sent_packet lane n ws) ≡ length ws
sent_row lane n [] = refl
sent_row lane n (w ∷ ws) = rw (word_accepted w) (ap (λ k. suc k) (sent_row lane (n + 1) ws))

skip_row : (lane n : ℕ) (ws : List ℕ) → row_of skip_of lane n ws ≡ []
skip_row lane n [] = refl
skip_row lane n (w ∷ ws) = rw (word_accepted w) (skip_row lane (n + 1) ws)

dev_row : (lane n : ℕ) (ws : List ℕ) → row_of skip_dev lane n ws ≡ []
dev_row lane n [] = refl
dev_row lane n (w ∷ ws) = rw (word_accepted w) (dev_row lane (n + 1) ws)

pub word_count : (g : Lcg) (n : ℕ) → length (words_from g n) ≡ n
word_count g zero = refl
word_count g (suc n) = ap (λ k. suc k) (word_count (pcg32 g).1 n)

-- what is the same of each of some numbers
pub map_same : {A : Type 0} (f g : ℕ → A) (a k : ℕ) → ((d : ℕ) → d < k → f (a + d) ≡ g (a + d)) → map f (from_on a k) ≡ map g (from_on a k)
map_same f g a zero h = refl
map_same f g a (suc k) h =
    let first : a + 0 ≡ a = omega arith in
    let here : f a ≡ g a = rw first at (h 0 (omega arith)) in
    rw (here, map_same f g (a + 1) k (λ d within. let number : a + suc d ≡ a + 1 + d = omega arith in rw number at (h (suc d) (omega (arith, within))))) refl

pub map_constant : {A : Type 0} (x : A) (a k : ℕ) → map (λ (i : ℕ). x) (from_on a k) ≡ replicate k x
map_constant x a zero = refl
map_constant x a (suc k) = ap (λ l. x ∷ l) (map_constant x (a + 1) k)

pub flat_none : {A : Type 0} (f : ℕ → List A) (a k : ℕ) → ((d : ℕ) → d < k → f (a + d) ≡ []) → flat_map f (from_on a k) ≡ []
flat_none f a zero h = refl
flat_none f a (suc k) h =
    let first : a + 0 ≡ a = omega arith in
    let here : f a ≡ [] = rw first at (h 0 (omega arith)) in
    rw here (flat_none f (a + 1) k (λ d within. let number : a + suc d ≡ a + 1 + d = omega arith in rw number at (h (suc d) (omega (arith, within)))))

-- the lines of all lanes are those of the second phase
pub lines_all : (seed lanes packets : ℕ) → items_in (generated seed lanes packets).phases ≡ items seed lanes packets
lines_all seed lanes packets = append-nil (items seed lanes packets)

pub lane_given : (files : Files) (seed lanes packets d : ℕ) → d < lanes → lane_of files (generated seed lanes packets) (1 + d) ≡ lane_dealt seed packets (1 + d)
lane_given files seed lanes packets d within =
    let lines : List Item = items seed lanes packets in
    let row : numbered (due_of 1) (contents_of files) (1 + d) 1 lines ≡ dealt_from 1 (words_of seed (1 + d) packets) =
    lane_row (due_of 1) files seed packets 1 1 lanes d (1 + d) refl within ∙ due_row (1 + d) 1 (words_of seed (1 + d) packets) in
    ap (λ (ds : List Due). record { lane = record { 0 = 1 + d }; packets = ds })
    (append-nil (numbered (due_of 1) (contents_of files) (1 + d) 1 lines) ∙ row)

pub sent_given : (files : Files) (seed lanes packets d : ℕ) → d < lanes → packets_in files (generated seed lanes packets) (1 + d) ≡ packets
sent_given files seed lanes packets d within =
    rw (lines_all seed lanes packets, lane_row sent_packet files seed packets 1 1 lanes d (1 + d) refl within)
    (sent_row (1 + d) 1 (words_of seed (1 + d) packets) ∙ word_count (seeded (seed + (1 + d))) packets)

pub skips_given : (files : Files) (seed lanes packets d : ℕ) → d < lanes
    → numbered skip_of (contents_of files) (1 + d) 1 (items_in (generated seed lanes packets).phases) ≡ []
skips_given files seed lanes packets d within =
    rw (lines_all seed lanes packets, lane_row skip_of files seed packets 1 1 lanes d (1 + d) refl within) (skip_row (1 + d) 1 (words_of seed (1 + d) packets))

pub devs_given : (files : Files) (seed lanes packets d : ℕ) → d < lanes
    → numbered skip_dev (contents_of files) (1 + d) 1 (items_in (generated seed lanes packets).phases) ≡ []
devs_given files seed lanes packets d within =
    rw (lines_all seed lanes packets, lane_row skip_dev files seed packets 1 1 lanes d (1 + d) refl within) (dev_row (1 + d) 1 (words_of seed (1 + d) packets))
