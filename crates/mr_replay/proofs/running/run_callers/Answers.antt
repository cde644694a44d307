use denote.Exit.{no}
use denote.Param.{param}
use denote.Param.Send.{arg_send, param_send}
use Rattle.mr_replay.proofs.Crossing.{sending_send}
use Rattle.mr_replay.proofs.running.run_callers.Goals as goal

pub join_mut-ended-requires-send-F : goal.join_mut-ended-requires-send-F
join_mut-ended-requires-send-F g c = λ lives within.
    param_send 1 _ (arg_send _ no _ (sending_send _ _ _ _ _ _ _ _ _ _ _ _ _ (param 0 g.row.B) (param 1 g.row.C) (param 2 g.row.R) (param 3 g.row.G) g.B.BookName g.C.RunName
    c.type_bounds.sync-R c.type_bounds.sync-G c.type_bounds.send-B c.type_bounds.send-C c.type_bounds.sync-B c.type_bounds.sync-C))
