-- Who owns the machine (ipmr.c, mroute_sk): the daemon of the last good MRT_INIT, if no good MRT_DONE stands after it.
use Rattle.std.specs.Prelude.{Option, Some, None, List, fold}
use Rattle.mr_base.specs.declared.numbers.DaemonNo.{DaemonNo}
use Rattle.mr_model.specs.declared.entry.Entry.{Entry}
use Rattle.mr_model.specs.declared.entry.Entry.TheVariants.{Call}
use Rattle.mr_model.specs.declared.reply.Reply.TheVariants.{Good}
use Rattle.mr_model.specs.declared.request.Request.TheVariants.{Init, Finish}

abbrev pub owner_after : Option DaemonNo → Entry → Option DaemonNo
owner_after owner (Call d Init Good released) = Some d
owner_after owner (Call d Finish Good released) = None
owner_after owner _ = owner

abbrev pub owner : List Entry → Option DaemonNo
owner h = fold owner_after None h
