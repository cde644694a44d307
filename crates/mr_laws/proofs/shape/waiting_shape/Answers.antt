use Rattle.mr_laws.proofs.Keys as keys
use Rattle.mr_laws.proofs.Shaping as shape
use Rattle.mr_laws.proofs.UnreadRoom as unread
use Rattle.mr_laws.proofs.shape.waiting_shape.Goals as goal

pub returns-clause-room : goal.returns-clause-room
returns-clause-room c = shape.room_shape

pub returns-clause-keys : goal.returns-clause-keys
returns-clause-keys c = keys.keys_differ

pub returns-clause-packets : goal.returns-clause-packets
returns-clause-packets c = shape.packets_shape

pub returns-clause-own : goal.returns-clause-own
returns-clause-own c = shape.own_shape

pub returns-clause-order : goal.returns-clause-order
returns-clause-order c = λ limits h l. (shape.legal_timely limits h l).order

pub returns-clause-young : goal.returns-clause-young
returns-clause-young c = λ limits h l. (shape.legal_timely limits h l).young

pub returns-clause-unread : goal.returns-clause-unread
returns-clause-unread c = unread.unread_room
