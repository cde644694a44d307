use Rattle.std.proofs.Common.{◌++◌, take, refl, ap, sym, ◌∙◌}
use Rattle.mr_records.proofs.WayLemmas.{front_is}
use Rattle.mr_records.proofs.front.Front.behind.Goals as goal

pub returns-then-self-same_bytes : goal.returns-then-self-same_bytes
returns-then-self-same_bytes c =
    let front = c.args.self.now in
    let same = c.same_bytes.ensures front.count front.few c.if-self-same_bytes.true in
    front_is c.args.text.now c.in_ok-front.front.now front.row (take front.count front.row) front.count c.in_ok-front.ensures.cases.same front.few same refl
    ∙ ap (λ x. take front.count front.row ++ x) (sym c.from_index.ensures)
