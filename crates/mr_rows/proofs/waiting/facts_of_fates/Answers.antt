use Rattle.std.proofs.Common.{[], ◌∷◌, take, refl}
use Rattle.mr_model.specs.declared.entry.Entry.TheVariants.{Call, EndPhase}
use Rattle.mr_model.specs.declared.reply.Reply.TheVariants.{Good}
use Rattle.mr_model.specs.declared.request.Request.TheVariants.{Finish, Flush}
use Rattle.mr_rows.specs.Samples.{daemon, freed, good, tick}
use Rattle.mr_rows.specs.Expiry as expiring
use Rattle.mr_rows.specs.FlushedByBits as flushes
use Rattle.mr_rows.specs.StaticByCaller as leaving
use Rattle.mr_rows.specs.WaitingPacketsReleased as release
use Rattle.mr_rows.proofs.waiting.facts_of_fates.Goals as goal

pub returns-clause-released : goal.returns-clause-released
returns-clause-released c = record {
  front = release.before_entry;
  entry = Call (daemon 1) release.entry_made Good (freed 1 release.sent ∷ freed 2 release.sent ∷ freed 3 release.sent ∷ freed 4 release.sent ∷ []);
  behind = EndPhase ∷ [];
  whole = refl;
  by = (refl, refl);
}

pub returns-clause-expired : goal.returns-clause-expired
returns-clause-expired c = record {
  front = take 6 expiring.history;
  entry = tick 1;
  behind = EndPhase ∷ [];
  whole = refl;
  by = (refl, refl);
}

pub returns-clause-left : goal.returns-clause-left
returns-clause-left c = record {
  front = leaving.before_leaving;
  entry = good 1 Finish;
  behind = EndPhase ∷ [];
  whole = refl;
  by = (refl, refl);
}

pub returns-clause-flushed : goal.returns-clause-flushed
returns-clause-flushed c = record {
  front = flushes.static_gone;
  entry = good 1 (Flush 1);
  behind = good 1 (Flush 4) ∷ EndPhase ∷ [];
  whole = refl;
  by = (refl, refl);
}
