use Rattle.std.proofs.Common.{Some, sym, ap, ◌∙◌, subst}
use Rattle.mr_model.specs.declared.ending.FateLine.{FateLine}
use Rattle.mr_fates.specs.Keeping.{StandsAlone}
use Rattle.mr_fates.specs.Lines.{FateList, fate_in_lines}
use Rattle.mr_fates.proofs.Located.{alone_is, alone_fate, no_fate}
use Rattle.mr_fates.proofs.fates.Fates.fate_of.Goals as goal

pub returns-in_err-line : goal.returns-in_err-line
returns-in_err-line c =
    c.from_residual.ensures ∙ sym (no_fate c.args.lane c.args.index c.args.self.now.lines c.in_err-line.ensures.none)

pub returns : goal.returns
returns c =
    let lines = c.self.inside.lines.items in
    let s : StandsAlone c.args.lane c.args.index lines c.in_ok-line.line =
    subst (λ (v : FateList). StandsAlone c.args.lane c.args.index v.lines c.in_ok-line.line) (sym c.self.view_is) c.in_ok-line.ensures.stands in
    ap (λ (f : FateLine). Some f.fate) (alone_is c.args.lane c.args.index lines c.in_ok-line.line s c.index.result.now c.index.ensures)
    ∙ sym (alone_fate c.args.lane c.args.index lines c.in_ok-line.line s)
    ∙ ap (λ (v : FateList). fate_in_lines c.args.lane c.args.index v.lines) c.self.view_is
