-- What the lines of lanes give, where each lane has a line for each of its words.
use Rattle.std.proofs.Common.{◌≡◌, ℕ, zero, suc, ◌+◌, ◌%◌, ◌==◌, ◌<◌, Bool, true, false, Some, List, [], ◌∷◌, ◌++◌, length, map, flat_map, refl, ap, sym, ◌∙◌, add-zero, arith, eq-eqb}
use Rattle.std.proofs.lemmas.List.{append-nil}
use Rattle.mr_base.specs.Outside.{Files}
use Rattle.mr_gen.specs.Entries.{packet_of}
use Rattle.mr_gen.specs.Generated.{item_of, items_of}
use Rattle.mr_gen.specs.Words.{words_of}
use Rattle.mr_load.specs.Callers.{from_on}
use Rattle.mr_load.specs.Items.{Content, contents_of, items_by, numbered}
use Rattle.mr_load.proofs.Rows.{left_items, numbered_append}
use Rattle.mr_scenario.specs.declared.scenario.Item.{Item}

-- what the lines of a lane give, by its words, of which the first has number n
abbrev pub row_of : {A : Type 0} → (Item → ℕ → Content → List A) → ℕ → ℕ → List ℕ → List A
row_of f lane n [] = []
row_of f lane n (w ∷ ws) = f (item_of lane w) n (Some (packet_of (w % 64))) ++ row_of f lane (n + 1) ws

own_row : {A : Type 0} (f : Item → ℕ → Content → List A) (files : Files) (lane by n : ℕ) (ws : List ℕ) → (by == lane) ≡ true
    → numbered f (contents_of files) lane n (map (item_of by) ws) ≡ row_of f by n ws
own_row f files lane by n [] e = refl
own_row f files lane by n (w ∷ ws) e =
    rw (e, append-nil (f (item_of by w) n (Some (packet_of (w % 64))))) (ap (λ l. f (item_of by w) n (Some (packet_of (w % 64))) ++ l) (own_row f files lane by (n + 1) ws e))

other_row : {A : Type 0} (f : Item → ℕ → Content → List A) (files : Files) (lane by n : ℕ) (ws : List ℕ) → (by == lane) ≡ false
    → numbered f (contents_of files) lane n (map (item_of by) ws) ≡ []
other_row f files lane by n [] e = refl
other_row f files lane by n (w ∷ ws) e = rw e (other_row f files lane by n ws e)

other_items : (files : Files) (lane by : ℕ) (ws : List ℕ) → (by == lane) ≡ false → items_by (contents_of files) lane (map (item_of by) ws) ≡ 0
other_items files lane by [] e = refl
other_items files lane by (w ∷ ws) e = left_items (contents_of files) lane (item_of by w) (map (item_of by) ws) e ∙ other_items files lane by ws e

-- lanes above one give it nothing
above_rows : {A : Type 0} (f : Item → ℕ → Content → List A) (files : Files) (seed packets lane n a k : ℕ) → lane < a
    → numbered f (contents_of files) lane n (flat_map (items_of seed packets) (from_on a k)) ≡ []
above_rows f files seed packets lane n a zero l = refl
above_rows f files seed packets lane n a (suc k) l =
    let e : (a == lane) ≡ false = grind arith in
    let ws : List ℕ = words_of seed a packets in
    numbered_append f (contents_of files) lane n (map (item_of a) ws) (flat_map (items_of seed packets) (from_on (a + 1) k))
    ∙ rw (other_row f files lane a n ws e)
    (above_rows f files seed packets lane (n + items_by (contents_of files) lane (map (item_of a) ws)) (a + 1) k (omega (arith, l)))

-- one of the lanes
pub lane_row : {A : Type 0} (f : Item → ℕ → Content → List A) (files : Files) (seed packets n a k d lane : ℕ) → lane ≡ a + d → d < k
    → numbered f (contents_of files) lane n (flat_map (items_of seed packets) (from_on a k)) ≡ row_of f lane n (words_of seed lane packets)
lane_row f files seed packets n a zero d lane is within = absurd (omega (arith, within))
lane_row f files seed packets n a (suc k) zero lane is within =
    let same : a ≡ lane = omega (arith, is) in
    let ws : List ℕ = words_of seed a packets in
    numbered_append f (contents_of files) lane n (map (item_of a) ws) (flat_map (items_of seed packets) (from_on (a + 1) k))
    ∙ rw (own_row f files lane a n ws (eq-eqb a lane same), above_rows f files seed packets lane (n + items_by (contents_of files) lane (map (item_of a) ws)) (a + 1) k (omega (arith, is)))
    (append-nil (row_of f a n ws) ∙ ap (λ m. row_of f m n (words_of seed m packets)) same)
lane_row f files seed packets n a (suc k) (suc d) lane is within =
    let e : (a == lane) ≡ false = grind arith in
    let ws : List ℕ = words_of seed a packets in
    let none : n + items_by (contents_of files) lane (map (item_of a) ws) ≡ n = omega (arith, other_items files lane a ws e) in
    numbered_append f (contents_of files) lane n (map (item_of a) ws) (flat_map (items_of seed packets) (from_on (a + 1) k))
    ∙ rw (other_row f files lane a n ws e, none)
    (lane_row f files seed packets n (a + 1) k d lane (omega (arith, is)) (omega (arith, within)))
