use Rattle.std.proofs.Common.{◌≡◌, ◌<◌, ◌≤◌, ◌∙◌, ℕ, List, false, nat_le, sym, ap, arith}
use Rattle.std.proofs.lemmas.Bool.{lt-leb}
use Rattle.mr_base.specs.declared.vif_record.VifRecord.{VifRecord}
use Rattle.mr_model.specs.VifList.{max_vif}
use Rattle.mr_kernel.proofs.Planning.{vif_absent, vif_present}
use Rattle.mr_kernel.proofs.answering.vif_count.Goals as goal

pub returns-in-None : goal.returns-in-None
returns-in-None c d =
    let value : c.maxvif.result ≡ max_vif c.args.live.now.tables.tables.vifs =
    c.maxvif.ensures.value ∙ ap (λ (vs : List VifRecord). max_vif vs) c.vifs-vifs.ensures in
    let wide = c.from.ensures in
    let lower = c.if-from-vif.false in
    let most = c.maxvif.ensures.small in
    let small : c.args.vif < 32 = omega (arith, wide, lower, most) in
    let below : nat_le (max_vif c.args.live.now.tables.tables.vifs) c.args.vif ≡ false =
    lt-leb (max_vif c.args.live.now.tables.tables.vifs) c.args.vif
    (omega (arith, value, wide, lower)) in
    c.refused-in-None.ensures ∙ vif_absent c.args.journal.now c.args.live.now d c.args.vif
    c.requires.stands c.requires.counts below small (sym c.in-None.ensures)

pub returns-in-Some : goal.returns-in-Some
returns-in-Some c d =
    let value : c.maxvif.result ≡ max_vif c.args.live.now.tables.tables.vifs =
    c.maxvif.ensures.value ∙ ap (λ (vs : List VifRecord). max_vif vs) c.vifs-vifs.ensures in
    let wide = c.from.ensures in
    let lower = c.if-from-vif.false in
    let most = c.maxvif.ensures.small in
    let small : c.args.vif < 32 = omega (arith, wide, lower, most) in
    let below : nat_le (max_vif c.args.live.now.tables.tables.vifs) c.args.vif ≡ false =
    lt-leb (max_vif c.args.live.now.tables.tables.vifs) c.args.vif
    (omega (arith, value, wide, lower)) in
    vif_present c.args.journal.now c.args.live.now d c.args.vif c.in-Some.totals
    c.requires.stands c.requires.counts below small (sym c.in-Some.ensures)
