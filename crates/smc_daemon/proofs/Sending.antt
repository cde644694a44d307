-- A legal history has no more packets than its lanes are given.
use Rattle.std.proofs.Common.{◌≡◌, ◌+◌, ◌-◌, ◌≤◌, ℕ, zero, suc, Bool, true, false, if◌then◌else◌, Some, List, [], ◌∷◌, ◌++◌, length, refl, ap, subst, arith}
use Rattle.std.specs.Prelude.{◌==◌, slice_get, slice_index, sum, sum_by}
use Rattle.std.proofs.lemmas.List.Sums.{sum_by-cons, sum_by_push}
use Rattle.mr_base.specs.declared.numbers.LaneNo.{LaneNo}
use Rattle.mr_model.specs.Legal.{Agrees, IsLegal, LegalFrom, packets_given}
use Rattle.mr_model.specs.Past.{is_of_lane, packets_in, packets}
use Rattle.mr_model.specs.declared.entry.Entry.{Entry}
use Rattle.mr_model.specs.declared.entry.Entry.TheVariants.{Call, Slow, Settle, Tick, Recv, EndPhase}
use Rattle.mr_model.specs.declared.limits.Limits.{Limits}
use Rattle.mr_model.proofs.Induction.{legal_induction, same_lane}
use Rattle.smc_daemon.proofs.Summing.{EachFrom, each_from, hits, sum_each, sum_from, sum_none}

abbrev lane : ℕ → LaneNo
lane n = record { 0 = n }

-- how many of its packets are of a lane
abbrev of_lane : LaneNo → Entry → ℕ
of_lane l e = if is_of_lane l e then packets_in e else 0

entry_sent : (limits : Limits) (g : List Entry) (e : Entry) → Agrees limits g e → sum_from (λ n x. of_lane (lane n) e) 1 limits.packets ≡ packets_in e
entry_sent limits g (Slow l index look flow o) a = hits l.0 1 1 limits.packets a.lane_is.first (omega (arith, a.lane_is.last))
entry_sent limits g (Settle l records) a = hits l.0 (length records) 1 limits.packets a.lane_is.first (omega (arith, a.lane_is.last))
entry_sent limits g (Call d r reply released) a = sum_none 1 limits.packets
entry_sent limits g (Tick d ms) a = sum_none 1 limits.packets
entry_sent limits g (Recv d message) a = sum_none 1 limits.packets
entry_sent limits g EndPhase a = sum_none 1 limits.packets

more_sent : (e : Entry) (es : List Entry) (d : ℕ) (ks : List ℕ) → sum_from (λ n x. packets (lane n) (e ∷ es)) d ks ≡ sum_from (λ n x. of_lane (lane n) e) d ks + sum_from (λ n x. packets (lane n) es) d ks
more_sent e es d [] = refl
more_sent e es d (k ∷ ks) = omega (arith, more_sent e es (d + 1) ks, sum_by-cons (of_lane (lane d)) e es)

-- Each packet is a lane's.
all_sent : (limits : Limits) (g es : List Entry) → LegalFrom limits g es → sum_from (λ n x. packets (lane n) es) 1 limits.packets ≡ sum_by packets_in es
all_sent limits g [] l = sum_none 1 limits.packets
all_sent limits g (e ∷ es) l =
    omega (arith, entry_sent limits g e l.0, all_sent limits (g ++ e ∷ []) es l.1, more_sent e es 1 limits.packets, sum_by-cons packets_in e es)

of_lane_within : (b : Bool) (l m : LaneNo) (limits : Limits) (g : List Entry) (x : ℕ) → (l.0 == m.0) ≡ b → packets l g + x ≤ packets_given limits l → packets m g ≤ packets_given limits m → packets m g + (if b then x else 0) ≤ packets_given limits m
of_lane_within true l m limits g x is room within =
    subst (λ (k : LaneNo). packets k g + x ≤ packets_given limits k) (same_lane l m is) room
of_lane_within false l m limits g x is room within = omega (arith, within)

lane_push : (limits : Limits) (m : LaneNo) (g : List Entry) (e : Entry) → Agrees limits g e → packets m g ≤ packets_given limits m → packets m (g ++ e ∷ []) ≤ packets_given limits m
lane_push limits m g e a within = omega (arith, sum_by_push (of_lane m) g e, by e a)
  where
    by : (e : Entry) → Agrees limits g e → packets m g + of_lane m e ≤ packets_given limits m
    by (Slow l index look flow o) a = of_lane_within (l.0 == m.0) l m limits g 1 refl (omega (arith, a.room)) within
    by (Settle l records) a = of_lane_within (l.0 == m.0) l m limits g (length records) refl a.room within
    by (Call d r reply released) a = omega (arith, within)
    by (Tick d ms) a = omega (arith, within)
    by (Recv d message) a = omega (arith, within)
    by EndPhase a = omega (arith, within)

lane_within : (limits : Limits) (h : List Entry) (m : LaneNo) → IsLegal limits h → packets m h ≤ packets_given limits m
lane_within limits h m l =
    legal_induction limits (λ g. packets m g ≤ packets_given limits m) (omega arith) (λ g e legal a p. lane_push limits m g e a p) h l

given_is : (xs : List ℕ) (i x : ℕ) → slice_get xs i ≡ Some x → slice_index xs i ≡ x
given_is [] i x is = absurd (cc is)
given_is (y ∷ xs) zero x is = cc is
given_is (y ∷ xs) (suc i) x is = given_is xs i x is

given_sum : (d : ℕ) (xs : List ℕ) → sum_from (λ n x. x) d xs ≡ sum xs
given_sum d [] = refl
given_sum d (x ∷ xs) = omega (arith, given_sum (d + 1) xs, sum_by-cons (λ (y : ℕ). y) x xs)

pub packets_of_legal : (limits : Limits) (h : List Entry) → IsLegal limits h → sum_by packets_in h ≤ sum limits.packets
packets_of_legal limits h l =
    let each : EachFrom (λ n x. packets (lane n) h ≤ x) 1 limits.packets = each_from (λ n x. packets (lane n) h ≤ x) 1 limits.packets (λ i x is.
    let place : 1 + i - 1 ≡ i = omega arith in
    omega (arith, lane_within limits h (lane (1 + i)) l, ap (λ (n : ℕ). slice_index limits.packets n) place, given_is limits.packets i x is)) in
    let most = sum_each (λ n x. packets (lane n) h) (λ n x. x) 1 limits.packets each in
    omega (arith, all_sent limits [] h l, most, given_sum 1 limits.packets)
