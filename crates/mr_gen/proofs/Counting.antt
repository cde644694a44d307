-- Numbers and words, one after another.
use Rattle.std.proofs.Common.{◌≡◌, ℕ, zero, suc, get_or, ◌+◌, ◌-◌, ◌<◌, List, [], ◌∷◌, ◌++◌, flat_map, map, refl, ap, ◌∙◌, arith}
use Rattle.std.proofs.Math.Seq.{append_snoc}
use Rattle.std.proofs.lemmas.List.{append_assoc}
use Rattle.std.specs.List.{AllByRecursion}
use Rattle.mr_gen.specs.Dealt.{dealt, dealt_from, packet_table}
use Rattle.mr_gen.specs.Entries.{packet_of}
use Rattle.mr_gen.specs.Generated.{item_of}
use Rattle.mr_load.specs.Callers.{from_on}
use Rattle.mr_load.specs.Dues.{Due, IsBefore}
use Rattle.mr_load.proofs.HeldDues.{all_push}
use Rattle.mr_scenario.specs.declared.scenario.Item.{Item}
use Rattle.mr_gen.specs.Words.{words_from}
use Rattle.rand_pcg.specs.Lcg.{Lcg}
use Rattle.rand_pcg.specs.Pcg.{pcg32}

from_more : (n k : ℕ) → n < k → from_on n (k - n) ≡ n ∷ from_on (n + 1) (k - (n + 1))
from_more n k l = let e : k - n ≡ suc (k - (n + 1)) = omega arith in rw e refl

-- What was made of numbers, with what is left to be made of them, goes on.
pub map_more : {A : Type 0} (f : ℕ → A) (n k : ℕ) (done more all : List A) (x : A) → n < k → more ≡ done ++ x ∷ [] → x ≡ f n
    → done ++ map f (from_on n (k - n)) ≡ all → more ++ map f (from_on (n + 1) (k - (n + 1))) ≡ all
map_more f n k done more all x l grown is so_far =
    rw (grown, append_snoc done x (map f (from_on (n + 1) (k - (n + 1)))), is)
    (rw (from_more n k l) at so_far)

-- one word more of a lane: its packet and its line stand behind those before

pub dealt_more : (g next : Lcg) (i k w : ℕ) (done more all : List Due) → i < k → more ≡ done ++ dealt (i + 1) w ∷ [] → (w, next) ≡ pcg32 g
    → done ++ dealt_from (i + 1) (words_from g (k - i)) ≡ all → more ++ dealt_from (i + 1 + 1) (words_from next (k - (i + 1))) ≡ all
dealt_more g next i k w done more all l grown is so_far =
    let e : k - i ≡ suc (k - (i + 1)) = omega arith in
    rw (grown, append_snoc done (dealt (i + 1) w) (dealt_from (i + 1 + 1) (words_from next (k - (i + 1)))), ap (λ p. p.0) is, ap (λ p. p.1) is)
    (rw e at so_far)

pub lines_more : (g next : Lcg) (lane i k w : ℕ) (done more all : List Item) → i < k → more ≡ done ++ item_of lane w ∷ [] → (w, next) ≡ pcg32 g
    → done ++ map (item_of lane) (words_from g (k - i)) ≡ all → more ++ map (item_of lane) (words_from next (k - (i + 1))) ≡ all
lines_more g next lane i k w done more all l grown is so_far =
    let e : k - i ≡ suc (k - (i + 1)) = omega arith in
    rw (grown, append_snoc done (item_of lane w) (map (item_of lane) (words_from next (k - (i + 1)))), ap (λ p. p.0) is, ap (λ p. p.1) is)
    (rw e at so_far)

-- A packet with the next number may stand behind them.
behind_next : (n : ℕ) (ds : List Due) → AllByRecursion (IsBefore n 1) ds → AllByRecursion (IsBefore (n + 1) 1) ds
behind_next n [] a = tt
behind_next n (d ∷ ds) a = ((omega (arith, a.0.0), a.0.1), behind_next n ds a.1)

pub behind_more : (n w : ℕ) (done more : List Due) → more ≡ done ++ dealt n w ∷ [] → AllByRecursion (IsBefore n 1) done → AllByRecursion (IsBefore (n + 1) 1) more
behind_more n w done more grown a = rw grown (all_push (IsBefore (n + 1) 1) done (dealt n w) (behind_next n done a) (omega arith, omega arith))

-- one lane more

pub lanes_more : {A : Type 0} (f : ℕ → A) (i k : ℕ) (done more all : List A) (x : A) → i < k → more ≡ done ++ x ∷ [] → x ≡ f (i + 1)
    → done ++ map f (from_on (i + 1) (k - i)) ≡ all → more ++ map f (from_on (i + 1 + 1) (k - (i + 1))) ≡ all
lanes_more f i k done more all x l grown is so_far =
    let e : k - i ≡ suc (k - (i + 1)) = omega arith in
    rw (grown, append_snoc done x (map f (from_on (i + 1 + 1) (k - (i + 1)))), is)
    (rw e at so_far)

pub flat_more : {A : Type 0} (f : ℕ → List A) (i k : ℕ) (done more all : List A) → i < k → more ≡ done ++ f (i + 1)
    → done ++ flat_map f (from_on (i + 1) (k - i)) ≡ all → more ++ flat_map f (from_on (i + 1 + 1) (k - (i + 1))) ≡ all
flat_more f i k done more all l grown so_far =
    let e : k - i ≡ suc (k - (i + 1)) = omega arith in
    rw (grown, append_assoc done (f (i + 1)) (flat_map f (from_on (i + 1 + 1) (k - (i + 1)))))
    (rw e at so_far)

-- the packet of an entry stands at its place

at_map : {A : Type 0} (f : ℕ → A) (a k d : ℕ) (x : A) → d < k → get_or (map f (from_on a k)) d x ≡ f (a + d)
at_map f a zero d x l = absurd (omega (arith, l))
at_map f a (suc k) zero x l = let number : a + 0 ≡ a = omega arith in rw number refl
at_map f a (suc k) (suc d) x l = let number : a + suc d ≡ a + 1 + d = omega arith in rw number (at_map f (a + 1) k d x (omega (arith, l)))

pub table_at : (t : List (List ℕ)) (k : ℕ) (x : List ℕ) → t ≡ packet_table → k < 64 → get_or t k x ≡ packet_of k
table_at t k x is l = let number : 0 + k ≡ k = omega arith in ap (λ (u : List (List ℕ)). get_or u k x) is ∙ (rw number at (at_map packet_of 0 64 k x l))
