use Rattle.std.proofs.Common.{arith}
use Rattle.mr_plain.proofs.Keeping.{short}
use Rattle.mr_plain.proofs.plain.Plain.answer.Goals as goal

pub answer_of-requires-clause-room : goal.answer_of-requires-clause-room
answer_of-requires-clause-room c = omega (arith, short c.self.inside.limits c.self.inside.history.items c.self.inside.known c.self.inside.mets.items c.self.inside.past c.self.inside.lines.items c.self.invariant)
