use Rattle.std.proofs.Common.{refl, arith, None, [], ◌∷◌, ◌++◌}
use Rattle.mr_model.specs.Deeds.{Asked, Received}
use Rattle.mr_model.specs.declared.reply.Reply.TheVariants.{Good}
use Rattle.smc_core.specs.Worked.{addr, add_mfc, film}
use Rattle.mr_model.specs.declared.entry.Entry.TheVariants.{EndPhase}
use Rattle.smc_daemon.specs.Worked.{started, missed, polled, running}
use Rattle.smc_daemon.proofs.worked.worked_office.Goals as goal

pub returns-clause-drives : goal.returns-clause-drives
returns-clause-drives c = (
  started,
  missed ++ EndPhase ∷ polled ++ EndPhase ∷ [],
  refl,
  refl,
  refl,
  (missed, polled ++ EndPhase ∷ [], refl, refl, refl, (polled, [], refl, refl, refl, refl)),
)

pub returns-clause-lacks : goal.returns-clause-lacks
returns-clause-lacks c = (
  running,
  Asked (add_mfc (addr 0x0A000207) film 2 (0 ∷ 1 ∷ []) 30) Good ∷ Received None ∷ [],
  (started, missed ++ EndPhase ∷ [], refl, refl, refl, (missed, [], refl, refl, refl, (refl, refl))),
  refl,
  omega arith,
)
