-- What a history ends with: the live routes by rising number and the live vifs by rising index, with their totals, and the fates.
use Rattle.std.specs.Prelude.{ℕ, option_to_list, List, [], ◌∷◌, map, reverse, flat_map}
use Rattle.mr_base.specs.declared.vif_record.VifRecord.{VifRecord}
use Rattle.mr_model.specs.declared.ending.Ending.{Ending}
use Rattle.mr_model.specs.declared.entry.Entry.{Entry}
use Rattle.mr_model.specs.declared.limits.Limits.{Limits}
use Rattle.mr_model.specs.VifList.{vif_at}
use Rattle.mr_model.specs.Routes.{routes}
use Rattle.mr_model.specs.Vifs.{vifs}
use Rattle.mr_model.specs.Counts.{route_counts, vif_counts}
use Rattle.mr_model.specs.Fate.{fates}

-- the numbers of all vifs that there may be
abbrev pub indexes : List ℕ
indexes = 0 ∷ 1 ∷ 2 ∷ 3 ∷ 4 ∷ 5 ∷ 6 ∷ 7 ∷ 8 ∷ 9 ∷ 10 ∷ 11 ∷ 12 ∷ 13 ∷ 14 ∷ 15 ∷ 16 ∷ 17 ∷ 18 ∷ 19 ∷ 20 ∷ 21 ∷ 22 ∷ 23 ∷ 24 ∷ 25 ∷ 26 ∷ 27 ∷ 28 ∷ 29 ∷ 30 ∷ 31 ∷ []

abbrev pub by_index : List VifRecord → List VifRecord
by_index vs = flat_map (λ i. option_to_list (vif_at vs i)) indexes

-- the routes stand newest first, so the last has the least number
abbrev pub ending : Limits → List Entry → Ending
ending limits h = record {
  routes = map (λ r. (r, route_counts h r.number)) (reverse (routes limits h));
  vifs = map (λ v. (v, vif_counts h v)) (by_index (vifs limits h));
  fates = fates limits h;
}
