-- The copies of a history, entry by entry.
use lib.Count.{ones}
use Rattle.std.proofs.Common.{◌≡◌, ℕ, ◌+◌, List, [], ◌∷◌, ◌++◌, length, map, flat_map, refl, ap, sym, ◌∙◌, arith}
use Rattle.std.proofs.lemmas.List.Sums.{sum_by-append, sum_by-cons}
use Rattle.std.specs.Prelude.{count_ones, sum_by}
use Rattle.mr_gen.specs.Adding.{copies_in, outs_in}
use Rattle.mr_gen.specs.Sums.{copies}
use Rattle.mr_model.specs.Counts.{Met, length_of, met, met_by, met_fast, met_from, met_in}
use Rattle.mr_model.specs.declared.entry.Entry.{Entry}
use Rattle.mr_model.specs.declared.entry.Entry.TheVariants.{Call, Slow, Settle, Tick, Recv, EndPhase}
use Rattle.mr_model.specs.declared.entry.FastRecord.{FastRecord}
use Rattle.mr_model.specs.declared.entry.ReleasedId.{ReleasedId}
use Rattle.mr_model.specs.declared.outcome.Outcome.{Outcome}
use Rattle.mr_model.specs.declared.outcome.Outcome.TheVariants.{Forward, Register, Wrong, Parked, Dropped}

abbrev weight : Met → ℕ
weight m = count_ones m.outs.0

no_ones : count_ones 0 ≡ 0
unfolding ones
no_ones = refl

one : (place len : ℕ) (o : Outcome) → sum_by weight (met_by place len o) ≡ count_ones (outs_in o).0
one place len (Forward entry input outs) = omega arith
one place len (Register entry input outs told) = omega arith
one place len (Wrong entry vif report) = omega (arith, no_ones)
one place len Parked = omega (arith, no_ones)
one place len (Dropped cause) = omega (arith, no_ones)

released : (g : List Entry) (rs : List ReleasedId)
    → sum_by weight (flat_map (λ x. met_by (length g + 1) (length_of g x.lane x.index) x.outcome) rs) ≡ sum_by (λ x. count_ones (outs_in x.outcome).0) rs
released g [] = refl
released g (r ∷ rs) =
    omega (
      arith,
      sum_by-append weight (met_by (length g + 1) (length_of g r.lane r.index) r.outcome) (flat_map (λ x. met_by (length g + 1) (length_of g x.lane x.index) x.outcome) rs),
      one (length g + 1) (length_of g r.lane r.index) r.outcome,
      released g rs,
      sum_by-cons (λ (x : ReleasedId). count_ones (outs_in x.outcome).0) r rs,
    )

settled : (rs : List FastRecord) → sum_by weight (map met_fast rs) ≡ sum_by (λ x. count_ones x.outs.0) rs
settled [] = refl
settled (r ∷ rs) =
    omega (arith, sum_by-cons weight (met_fast r) (map met_fast rs), settled rs, sum_by-cons (λ (x : FastRecord). count_ones x.outs.0) r rs)

entry_copies : (g : List Entry) (e : Entry) → sum_by weight (met_in g e) ≡ copies_in e
entry_copies g (Call d r reply rs) = released g rs
entry_copies g (Slow lane index look flow o) = one (length g) flow.length o
entry_copies g (Settle lane rs) = settled rs
entry_copies g (Tick d ms) = refl
entry_copies g (Recv d message) = refl
entry_copies g EndPhase = refl

copies_from : (g h : List Entry) → sum_by weight (met_from g h) ≡ sum_by copies_in h
copies_from g [] = refl
copies_from g (e ∷ h) =
    omega (arith, sum_by-append weight (met_in g e) (met_from (g ++ e ∷ []) h), entry_copies g e, copies_from (g ++ e ∷ []) h, sum_by-cons copies_in e h)

pub copies_each : (h : List Entry) → copies h ≡ sum_by copies_in h
copies_each h = copies_from [] h
