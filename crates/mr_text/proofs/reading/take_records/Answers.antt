use Rattle.mr_records.specs.Taking.{first_record}
use Rattle.mr_text.proofs.Records.{taken_none, taken_some, records_kept, records_on}
use Rattle.mr_text.proofs.reading.take_records.Goals as goal
use Rattle.mr_words.specs.Parts.{parts_of}

pub returns-in-None : goal.returns-in-None
returns-in-None c =
    let old = c.records.records.items in
    let new = c.take_record.new.records.items in
    let same = taken_none (λ x. x.now) old new c.in_ok-take_record.field-0 (first_record (parts_of 10 c.records.rest.now)) c.in_ok-take_record.ensures c.in-None.is in
    records_kept c.args.line.now c.records.next c.args.text.now c.records.rest.now c.args.records.now.items old new c.args.left.now c.records.due same c.records.invariant

pub records-preserved : goal.records-preserved
records-preserved c =
    let old = c.records.records.items in
    let new = c.take_record.new.records.items in
    let taken = taken_some (λ x. x.now) old new c.in_ok-take_record.field-0 c.in-Some.after (first_record (parts_of 10 c.records.rest.now)) c.in_ok-take_record.ensures c.in-Some.is in
    records_on c.args.line.now c.records.next c.saturating_add-next.result c.args.text.now c.records.rest.now c.in-Some.after.now c.args.records.now.items old new c.args.left.now c.records.due
    taken.0 c.records-test.true c.saturating_add-next.ensures taken.2 c.records.invariant taken.1
