use Rattle.std.proofs.Common.{◌≡◌, false, [], ◌∷◌, take, refl}
use Rattle.mr_model.specs.declared.ending.Fate.TheVariants.{Released, Expired, Flushed}
use Rattle.mr_model.specs.declared.entry.Entry.TheVariants.{Call}
use Rattle.mr_model.specs.declared.reply.Reply.TheVariants.{Good}
use Rattle.mr_rows.specs.NearMisses.{kept_back}
use Rattle.mr_rows.specs.Samples.{lane, daemon, freed}
use Rattle.mr_rows.specs.WaitingPacketsReleased.{limits, before_entry, history, entry_made, sent}
use Rattle.mr_rows.proofs.Facts.{any_gives, none_met}
use Rattle.mr_rows.proofs.near_misses.fate_near_misses.Goals as goal

nothing : any_gives limits [] kept_back (lane 1) 4 ≡ false
nothing = refl

pub returns-clause-kept_back_released : goal.returns-clause-kept_back_released
returns-clause-kept_back_released c = λ n m. none_met limits kept_back (lane 1) 4 (Released n) nothing m

pub returns-clause-kept_back_expired : goal.returns-clause-kept_back_expired
returns-clause-kept_back_expired c = λ n m. none_met limits kept_back (lane 1) 4 (Expired n) nothing m

pub returns-clause-kept_back_flushed : goal.returns-clause-kept_back_flushed
returns-clause-kept_back_flushed c = λ n m. none_met limits kept_back (lane 1) 4 (Flushed n) nothing m

pub returns-clause-released_first : goal.returns-clause-released_first
returns-clause-released_first c = record {
  front = before_entry;
  entry = Call (daemon 1) entry_made Good (freed 1 sent ∷ freed 2 sent ∷ freed 3 sent ∷ freed 4 sent ∷ []);
  behind = Call (daemon 1) entry_made Good (freed 1 sent ∷ []) ∷ [];
  whole = refl;
  by = (refl, refl);
}

pub returns-clause-released_again : goal.returns-clause-released_again
returns-clause-released_again c = record {
  front = take 13 history;
  entry = Call (daemon 1) entry_made Good (freed 1 sent ∷ []);
  behind = [];
  whole = refl;
  by = (refl, refl);
}
