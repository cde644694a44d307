use Rattle.std.proofs.Common.{◌≡◌, ◌++◌, ap, subst, ◌∙◌}
use Rattle.std.specs.Prelude.{OnOk}
use Rattle.mr_records.specs.Ways.{way_bytes}
use Rattle.mr_records.proofs.WayLemmas.{known_line}
use Rattle.mr_records.proofs.writing.write_known.Goals as goal

pub returns : goal.returns
returns c =
    let known = c.args.known.now in
    let head = c.put_head-at.ensures in
    let line = known_line c.args.packet.now c.put_head-at.new.row _ known.front.row c.put_head-at.result known.front.count head.text head.start c.put_known.ensures known.front.few (known.spelled ∙ ap way_bytes c.requires) in
    subst (λ x. OnOk c.write_part.result (c.write_part.new.out.items ≡ c.args.out.now.items ++ x)) line c.write_part.ensures
