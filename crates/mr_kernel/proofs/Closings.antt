-- What the history ends with.
use Rattle.std.proofs.Common.{◌≡◌, ℕ, zero, suc, ◌<◌, ◌==◌, ◌||◌, Bool, true, false, if◌then◌else◌}
use Rattle.std.proofs.Common.{Option, Some, None, option_map, List, [], ◌∷◌, ◌++◌, length, map}
use Rattle.std.proofs.Common.{flat_map, reverse, refl, sym, ap, ◌∙◌, subst, arith}
use Rattle.std.specs.Prelude.{option_to_list, replicate}
use Rattle.std.proofs.lemmas.Bool.{eq-eqb}
use Rattle.std.proofs.lemmas.List.{reverse-append, map-append}
use Rattle.std.specs.List.{AllByRecursion}
use Rattle.mr_base.specs.declared.route.Route.{Route}
use Rattle.mr_base.specs.declared.vif_record.VifRecord.{VifRecord}
use Rattle.mr_model.specs.declared.entry.Entry.{Entry}
use Rattle.mr_model.specs.declared.reply.VifTotals.{VifTotals}
use Rattle.mr_model.specs.Counts.{vif_counts}
use Rattle.mr_model.specs.VifList.{vif_at}
use Rattle.mr_history.specs.Journals.{JournalValue, has_number, number_at, numbered_vif}
use Rattle.mr_history.specs.Journals.{vif_totals}
use Rattle.mr_history.specs.Fits.{FitsLimits}
use Rattle.mr_fates.specs.Lines.{FateList}
use Rattle.mr_model.specs.declared.limits.Limits.{Limits}
use Rattle.mr_model.specs.Tables.{Tables, no_tables}
use Rattle.mr_kernel.specs.declared.live.Live.{Live}
use Rattle.mr_model.specs.declared.ending.Ending.{Ending}
use Rattle.mr_model.specs.declared.ending.FateLine.{FateLine}
use Rattle.mr_model.specs.declared.reply.RouteTotals.{RouteTotals}
use Rattle.mr_model.specs.Ending.{by_index, ending, indexes}
use Rattle.mr_model.specs.Fate.{fates}
use Rattle.mr_model.specs.State.{state}
use Rattle.mr_kernel.specs.Endings.{route_pair, vif_pair}
use Rattle.mr_kernel.specs.Holding.{CountsVifs, Holds, numbers}
use Rattle.mr_kernel.proofs.Planning.{vif_index}
use Rattle.mr_kernel.proofs.Known.{all_more}
use Rattle.mr_laws.proofs.Shaping.{all_push}

pub vif_kept : (j : JournalValue) (vifs : List VifRecord) (i : ℕ) (v : VifRecord)
    → CountsVifs vifs j.vifs → i < 32 → vif_at vifs i ≡ Some v
    → vif_totals j i ≡ Some (vif_counts j.entries v)
vif_kept j vifs i v kept small is =
    let some : number_at j.vifs i ≡ Some v.number = kept i small
    ∙ ap (option_map (λ v. v.number)) is in
    let index = vif_index vifs i v is in
    rw some (ap (λ n. Some (vif_counts j.entries (numbered_vif n v.number))) (sym index))

-- each entry has its number among theirs
more_numbers : (n : ℕ) (ns : List ℕ) (rs : List Route)
    → AllByRecursion (λ r. has_number ns r.number ≡ true) rs
    → AllByRecursion (λ r. has_number (n ∷ ns) r.number ≡ true) rs
more_numbers n ns rs all =
    all_more (λ r. has_number ns r.number ≡ true) (λ r. has_number (n ∷ ns) r.number ≡ true) rs
    (λ r so. by r (n == r.number) so) all
  where
    by : (r : Route) (b : Bool) → has_number ns r.number ≡ true
        → (b || has_number ns r.number) ≡ true
    by r true so = refl
    by r false so = so

pub own_numbers : (rs : List Route)
    → AllByRecursion (λ r. has_number (numbers rs) r.number ≡ true) rs
own_numbers [] = tt
own_numbers (r ∷ rs) = (
  rw (eq-eqb r.number r.number refl) refl,
  more_numbers r.number (numbers rs) rs (own_numbers rs),
)

pub all_reverse : (P : Route → Type 0) (rs : List Route) → AllByRecursion P rs
    → AllByRecursion P (reverse rs)
all_reverse P [] all = tt
all_reverse P (r ∷ rs) all = rw (reverse-append (r ∷ []) rs)
    (all_push P (reverse rs) r (all_reverse P rs all.1) all.0)

pub pairs_by_index : (h : List Entry) (vs : List VifRecord) (is : List ℕ)
    → flat_map (λ i. option_to_list (option_map (vif_pair h) (vif_at vs i))) is
    ≡ map (vif_pair h) (flat_map (λ i. option_to_list (vif_at vs i)) is)
pairs_by_index h vs [] = refl
pairs_by_index h vs (i ∷ is) = by (vif_at vs i) (pairs_by_index h vs is)
  where
    by : (o : Option VifRecord)
        → flat_map (λ i. option_to_list (option_map (vif_pair h) (vif_at vs i))) is
        ≡ map (vif_pair h) (flat_map (λ i. option_to_list (vif_at vs i)) is)
        → option_to_list (option_map (vif_pair h) o) ++ flat_map
        (λ i. option_to_list (option_map (vif_pair h) (vif_at vs i))) is
        ≡ map (vif_pair h) (option_to_list o ++ flat_map (λ i. option_to_list (vif_at vs i)) is)
    by None more = more
    by (Some v) more = ap (λ ps. vif_pair h v ∷ ps) more

-- at first no vif is kept
pub none_kept : (n i : ℕ) → number_at (replicate n None) i ≡ None
none_kept zero i = refl
none_kept (suc n) zero = refl
none_kept (suc n) (suc i) = none_kept n i

pub first_holds : (limits : Limits) (j : JournalValue) (l : Live) (f : FateList)
    → FitsLimits limits
    → j.entries ≡ [] → j.limits ≡ limits → j.routes ≡ [] → j.vifs ≡ replicate 32 None
    → l.owner ≡ None → l.tables.tables ≡ no_tables → l.tables.slots ≡ limits.entries
    → l.tables.devices ≡ limits.devices → l.moment ≡ 0
    → l.waiting.entries ≡ [] → l.waiting.limit ≡ limits.unresolved → l.unread ≡ []
    → l.attempts.items ≡ [] → l.attempts.room ≡ limits.entries
    → f.lines ≡ [] → f.packets ≡ limits.packets → Holds j l f
first_holds limits j l f fits entries same routes vifs owner tables slots devices moment waiting
    limit unread attempts room lines packets = record {
      fits = rw same fits;
      legal = rw entries tt;
      stands = rw (same, entries) (record {
        owner = owner;
        tables = tables;
        slots = slots;
        devices = devices;
        moment = moment;
        waiting = rw waiting refl;
        limit = limit;
        unread = rw unread refl;
        attempts = attempts;
        room = room;
      });
      early = rw (moment, entries) (omega arith);
      heads = rw unread tt;
      counts = record {
        routes = routes ∙ rw tables refl;
        vifs = λ i small. rw (vifs, tables) (none_kept 32 i);
      };
      fates = rw (lines, entries) refl;
      lanes = rw same packets;
    }

pub gathered : (j : JournalValue) (l : Live) (f : FateList) (rs : List (Route × RouteTotals))
    (vs : List (VifRecord × VifTotals)) (fs : List FateLine) → Holds j l f
    → rs ≡ map (route_pair j.entries) (reverse l.tables.tables.routes)
    → vs ≡ flat_map (λ i. option_to_list
    (option_map (vif_pair j.entries) (vif_at l.tables.tables.vifs i))) indexes
    → fs ≡ f.lines
    → record { routes = rs; vifs = vs; fates = fs } ≡ ending j.limits j.entries
gathered j l f rs vs fs h routes vifs lines =
    let r : rs ≡ map (route_pair j.entries) (reverse (state j.limits j.entries).tables.routes) =
    routes ∙ ap (λ (t : Tables). map (route_pair j.entries) (reverse t.routes)) h.stands.tables in
    let v : vs ≡ map (vif_pair j.entries) (by_index (state j.limits j.entries).tables.vifs) =
    vifs ∙ pairs_by_index j.entries l.tables.tables.vifs indexes
    ∙ ap (λ (t : Tables). map (vif_pair j.entries) (by_index t.vifs)) h.stands.tables in
    let x : fs ≡ fates j.limits j.entries = lines ∙ h.fates in
    rw (r, v, x) refl
