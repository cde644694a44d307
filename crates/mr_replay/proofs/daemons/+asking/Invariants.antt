use Rattle.std.proofs.Common.{◌+◌, ◌*◌, length}
use Rattle.mr_replay.proofs.daemons.+asking.Given as goal

-- how many daemons are left, and whose turn it is to fork
abbrev pub decreases-ask_all : goal.decreases-ask_all
decreases-ask_all g l = 2 * length l.daemons.items + 1

abbrev pub decreases-ask_others : goal.decreases-ask_others
decreases-ask_others g l = 2 * length l.daemons.items + 2
