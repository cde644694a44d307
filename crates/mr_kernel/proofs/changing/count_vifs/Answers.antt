use Rattle.mr_base.specs.declared.vif_record.VifRecord.{VifRecord}
use Rattle.mr_kernel.proofs.ChangesVifs.{counts_push, counts_without, fitting_free}
use Rattle.mr_kernel.proofs.changing.count_vifs.Goals as goal

pub returns-in-AddVif-clause-counts : goal.returns-in-AddVif-clause-counts
returns-in-AddVif-clause-counts c =
    let vifs = c.args.vifs.now in
    let vif : VifRecord = record {
      vif = c.in-AddVif.vif;
      dev = c.in-AddVif.dev;
      register = c.in-AddVif.register;
      fixed = c.in-AddVif.fixed;
      number = c.args.change.now.number;
    } in
    let fits = rw c.in-AddVif.is at c.requires.fits in
    let free = fitting_free vifs vif.vif vif.dev vif.register vif.fixed fits in
    rw c.in-AddVif.is (counts_push vifs vif c.args.journal.now.vifs
    c.count_vif.new.journal.vifs free c.requires.counts c.count_vif.ensures.here
    c.count_vif.ensures.elsewhere)

pub returns-in-DelVif-clause-counts : goal.returns-in-DelVif-clause-counts
returns-in-DelVif-clause-counts c =
    rw c.in-DelVif.is (counts_without c.args.vifs.now c.in-DelVif.vif
    c.args.journal.now.vifs c.forget_vif.new.journal.vifs c.requires.counts
    c.forget_vif.ensures.here c.forget_vif.ensures.elsewhere)
