use Rattle.std.proofs.Common.{◌≤◌, ◌+◌, List, [], ◌++◌, length, refl, sym, subst}
use Rattle.std.specs.Prelude.{flat_map}
use Rattle.mr_scenario.specs.declared.scenario.Phase.{Phase}
use Rattle.smc_core.specs.Driving.{smc}
use Rattle.smc_daemon.specs.Deeds.{did}
use Rattle.smc_daemon.specs.Lines.{lines_in}
use Rattle.smc_daemon.specs.Machines.{machine_of}
use Rattle.smc_daemon.specs.Reporting.{brought_in}
use Rattle.smc_daemon.proofs.Begun.{begun_most}
use Rattle.smc_daemon.proofs.laws.begun_bound.Goals as goal

pub returns : goal.returns
returns c = λ files s d names done left p before part m missing is drives begun.
    subst (λ (ps : List Phase). length (did d [] (before ++ part)) + length missing ≤ length (smc (machine_of files s names) (flat_map (lines_in d) ps) []).deeds + brought_in (did d [] (before ++ part)))
    (sym is) (begun_most d (machine_of files s names) done left p before part m missing refl drives begun)
