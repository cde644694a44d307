use Rattle.std.proofs.Common.{IsTrue, arith, rules}
use Rattle.mr_plain.proofs.Keeping.{holds_same, holds_push, joins_entry, short}
use Rattle.mr_plain.proofs.plain.Plain.step.Goals as goal

pub take_lines-requires-clause-count : goal.take_lines-requires-clause-count
take_lines-requires-clause-count c =
    omega (arith, c.make_room.ensures.same.count, short _ _ _ _ _ _ c.self.invariant)

pub take_mets-requires-clause-count : goal.take_mets-requires-clause-count
take_mets-requires-clause-count c =
    omega (arith, c.make_room.ensures.same.count, short _ _ _ _ _ _ c.self.invariant)

pub take-requires-clause-count : goal.take-requires-clause-count
take-requires-clause-count c =
    omega (arith, c.make_room.ensures.same.count, short _ _ _ _ _ _ c.self.invariant)

pub take-requires-clause-joins : goal.take-requires-clause-joins
take-requires-clause-joins c =
    let yes : IsTrue c.follows.result = search rules in
    let follows = rw (← c.self.view_is) at (c.follows.ensures.0 yes) in
    rw c.make_room.ensures.same.waiting (joins_entry _ _ _ _ _ _ c.args.entry.now c.self.invariant follows)

pub invariant_of-self-2 : goal.invariant_of-self-2
invariant_of-self-2 c =
    let yes : IsTrue c.follows.result = search rules in
    let follows = rw (← c.self.view_is) at (c.follows.ensures.0 yes) in
    let held = holds_same c.self.inside.limits c.self.inside.history.items c.self.inside.known c.make_room.new.known c.self.inside.mets.items c.make_room.new.mets.items c.self.inside.past c.self.inside.lines.items c.make_room.new.lines.items
    c.self.invariant c.make_room.ensures.same c.make_room.ensures.mets c.make_room.ensures.lines in
    rw c.with-self-inside.ensures
    (holds_push c.self.inside.limits c.self.inside.history.items c.args.entry.now c.make_room.new.known c.take.new.known c.make_room.new.mets.items c.take_mets.new.mets.items
    c.self.inside.past c.take-2.new.self c.make_room.new.lines.items c.take_lines.new.lines.items
    held follows c.take.ensures.state (c.take.ensures.few held.groups) c.take.ensures.moment (rw c.as_slice.ensures.value at c.take_mets.ensures)
    (c.take-2.ensures c.self.inside.limits c.self.inside.history.items c.self.invariant.left follows) c.take_lines.ensures)
