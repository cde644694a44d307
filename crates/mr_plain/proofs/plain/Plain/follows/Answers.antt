use Rattle.std.proofs.Common.{arith}
use Rattle.mr_plain.proofs.Keeping.{short}
use Rattle.mr_plain.proofs.plain.Plain.follows.Goals as goal

pub follows-requires-clause-room : goal.follows-requires-clause-room
follows-requires-clause-room c = omega (arith, short c.self.inside.limits c.self.inside.history.items c.self.inside.known c.self.inside.mets.items c.self.inside.past c.self.inside.lines.items c.self.invariant)
