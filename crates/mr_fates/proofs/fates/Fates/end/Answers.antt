use Rattle.std.proofs.Common.{List, map, sym, ap, ◌∙◌, subst}
use Rattle.mr_model.specs.declared.ending.FateLine.{FateLine}
use Rattle.mr_fates.specs.Keeping.{IsKept, StandsAlone}
use Rattle.mr_fates.specs.Lines.{FateList, ended}
use Rattle.mr_fates.proofs.Kept.{kept_ended}
use Rattle.mr_fates.proofs.Located.{end_alone, ended_none}
use Rattle.mr_fates.proofs.fates.Fates.end.Goals as goal

stands : (c : goal.After-self-1)
    → StandsAlone c.args.lane c.args.index c.self.inside.lines.items c.in-Some.line
stands c = subst (λ (v : FateList). StandsAlone c.args.lane c.args.index v.lines c.in-Some.line) (sym c.self.view_is) c.in-Some.ensures.stands

pub invariant_of-self : goal.invariant_of-self
invariant_of-self c =
    subst (λ (ls : List FateLine). IsKept ls c.self.inside.lanes.items c.self.inside.lines.cap)
    (sym (end_alone c.args.lane c.args.index c.args.fate c.self.inside.lines.items c.in-Some.line (stands c) c.index_mut.result.now c.index_mut.ensures.value))
    (kept_ended c.self.inside.lines.items c.self.inside.lanes.items c.self.inside.lines.cap c.args.lane c.args.index c.args.fate c.self.invariant)

pub returns-in-Some : goal.returns-in-Some
returns-in-Some c =
    let value : List FateLine → FateList = λ ls. record { lines = ls; packets = map (λ l. l.room) c.self.inside.lanes.items } in
    ap value (end_alone c.args.lane c.args.index c.args.fate c.self.inside.lines.items c.in-Some.line (stands c) c.index_mut.result.now c.index_mut.ensures.value)
    ∙ ap (λ (v : FateList). record v { lines = ended c.args.lane c.args.index c.args.fate v.lines }) c.self.view_is

pub returns-in_default : goal.returns-in_default
returns-in_default c =
    let value : List FateLine → FateList = λ ls. record { lines = ls; packets = c.args.self.now.packets } in
    ap value (sym (ended_none c.args.lane c.args.index c.args.fate c.args.self.now.lines c.in_default.ensures.none))
