-- What one entry of a history adds to the copies.
use Rattle.std.specs.Prelude.{ℕ, ◌+◌, List, ◌++◌, codes, count_ones, sum_by}
use Rattle.mr_base.specs.declared.numbers.Mask.{Mask}
use Rattle.mr_base.specs.declared.route.Route.{Route}
use Rattle.mr_gen.specs.Summary.{line, line_of_two}
use Rattle.mr_gen.specs.Sums.{busiest_before, nobody}
use Rattle.mr_gen.specs.declared.summing.Walked.{Walked}
use Rattle.mr_model.specs.declared.entry.Entry.{Entry}
use Rattle.mr_model.specs.declared.entry.Entry.TheVariants.{Call, Slow, Settle}
use Rattle.mr_model.specs.declared.outcome.Outcome.{Outcome}
use Rattle.mr_model.specs.declared.outcome.Outcome.TheVariants.{Forward, Register}
use Rattle.mr_model.specs.declared.reply.RouteTotals.{RouteTotals}
use Rattle.mr_model.specs.Counts.{no_outs}

-- what a packet with this outcome goes out on
abbrev pub outs_in : Outcome → Mask
outs_in (Forward entry input outs) = outs
outs_in (Register entry input outs told) = outs
outs_in _ = no_outs

abbrev pub copies_in : Entry → ℕ
copies_in (Call d r reply released) = sum_by (λ x. count_ones (outs_in x.outcome).0) released
copies_in (Slow lane index look flow o) = count_ones (outs_in o).0
copies_in (Settle lane records) = sum_by (λ x. count_ones x.outs.0) records
copies_in _ = 0

-- the text of sums, and of what the live entries have counted
abbrev pub six_lines : Walked → List (Route × RouteTotals) → List ℕ
six_lines w rs =
    line (codes "packets") (w.fast + w.slow)
    ++ line (codes "fast") w.fast
    ++ line (codes "slow") w.slow
    ++ line (codes "copies") w.copies
    ++ line (codes "bytes") (sum_by (λ r. r.1.bytes) rs)
    ++ line_of_two (codes "busiest") (busiest_before rs nobody).number (busiest_before rs nobody).packets
