-- Applied changes make the tables of a history.
use Rattle.std.proofs.Common.{◌≡◌, ℕ, ◌+◌, true, not, List, [], ◌∷◌, length, fold, option_map, option_to_list, Option, Some, None, refl, sym, ap, ◌∙◌, arith, lt-ltb}
use Rattle.mr_base.specs.declared.route.Route.{Route}
use Rattle.mr_model.specs.declared.change.Change.{Change}
use Rattle.mr_model.specs.declared.change.What.{What}
use Rattle.mr_model.specs.declared.entry.Entry.{Entry}
use Rattle.mr_model.specs.declared.entry.Entry.TheVariants.{Call}
use Rattle.mr_model.specs.declared.reply.Reply.TheVariants.{Good}
use Rattle.mr_model.specs.Changes.{change_by, changes, up_to}
use Rattle.mr_model.specs.Granting.{numbered, what_of}
use Rattle.mr_model.specs.Numbers.{NumbersFall}
use Rattle.mr_model.specs.State.{State, state, is_owner}
use Rattle.mr_model.specs.Tables.{Tables, no_tables, changed_by}
use Rattle.mr_model.proofs.Pushing.{state_push, state_count}
use Rattle.mr_model.proofs.Numbering.{fall_below}
use Rattle.mr_model.proofs.Changing.{step_tables, routes_fall, changes_make_tables, changes_up_to}
use Rattle.mr_mfc.specs.Caches.{is_above}
use Rattle.mr_tables.specs.Values.{TablesValue, applied}
use Rattle.mr_tables.specs.Laws.{GoodCallApplies, EntryApplies, NumberIsAbove, ChangesApply, FirstChangesApply}

-- a number above falling ones is above all
above_from_fall : (n : ℕ) (rs : List Route) → NumbersFall n rs → is_above n rs ≡ true
above_from_fall n [] f = refl
above_from_fall n (r ∷ rs) f =
    let below : NumbersFall n rs = fall_below r.number n rs (omega (arith, f.0)) f.1 in
    rw (lt-ltb r.number n f.0, above_from_fall n rs below) refl

pub number_is_above : NumberIsAbove
number_is_above limits h =
    above_from_fall (length h + 1) (state limits h).tables.routes (routes_fall limits h)

-- the change that is made, where what changes and the number are known
one_made : (t : Tables) (n : ℕ) (w : Option What) (c : Change) → w ≡ Some c.what → c.number ≡ n →
    fold changed_by t (option_to_list (option_map (numbered n) w)) ≡ changed_by t c
one_made t n None c is number = cc is
one_made t n (Some w) c is number =
    let same : w ≡ c.what = cc is in
    rw (same, ← number) refl

pub good_call_applies : GoodCallApplies
good_call_applies limits h v d r released c after what number =
    let s : State = state limits h in
    let e : Entry = Call d r Good released in
    let count : s.count ≡ length h = state_count limits h in
    let is : what_of limits.devices s.tables (not (is_owner s d)) r ≡ Some c.what =
    ap (λ (t : Tables). what_of limits.devices t (not (is_owner s d)) r) (sym after.tables)
    ∙ ap (λ (ds : List _). what_of ds v.tables (not (is_owner s d)) r) (sym after.devices)
    ∙ what in
    let next : c.number ≡ s.count + 1 = omega (arith, count, number) in
    record {
      tables = ap (λ (t : Tables). changed_by t c) after.tables
          ∙ sym (one_made s.tables (s.count + 1) _ c is next)
          ∙ sym (step_tables limits s e)
          ∙ ap (λ (u : State). u.tables) (sym (state_push limits h e));
      slots = after.slots;
      devices = after.devices;
    }

-- applied changes change the tables alone
all_applied : (v : TablesValue) (cs : List Change) →
    fold applied v cs ≡ record v { tables = fold changed_by v.tables cs }
all_applied v [] = refl
all_applied v (c ∷ cs) = all_applied (applied v c) cs

after_changes : (v : TablesValue) (cs : List Change) (t : Tables) → v.tables ≡ no_tables
    → fold changed_by no_tables cs ≡ t → fold applied v cs ≡ record v { tables = t }
after_changes v cs t none made =
    let from_none = ap (λ (u : Tables). fold changed_by u cs) none ∙ made in
    all_applied v cs ∙ ap (λ (u : Tables). record v { tables = u }) from_none

pub entry_applies : EntryApplies
entry_applies limits h v e after =
    let s : State = state limits h in
    let cs : List Change = change_by limits s e in
    let made = all_applied v cs in
    record {
      tables = ap (λ (u : TablesValue). u.tables) made
          ∙ ap (λ (t : Tables). fold changed_by t cs) after.tables
          ∙ sym (step_tables limits s e)
          ∙ ap (λ (u : State). u.tables) (sym (state_push limits h e));
      slots = ap (λ (u : TablesValue). u.slots) made ∙ after.slots;
      devices = ap (λ (u : TablesValue). u.devices) made ∙ after.devices;
    }

pub changes_apply : ChangesApply
changes_apply limits h v after =
    let made = after_changes v (changes limits h) _ after.tables (changes_make_tables limits h) in
    record {
      tables = ap (λ (u : TablesValue). u.tables) made;
      slots = ap (λ (u : TablesValue). u.slots) made ∙ after.slots;
      devices = ap (λ (u : TablesValue). u.devices) made ∙ after.devices;
    }

pub first_changes_apply : FirstChangesApply
first_changes_apply limits h n v after =
    let cs : List Change = up_to n (changes limits h) in
    let made = after_changes v cs _ after.tables (changes_up_to limits h n) in
    record {
      tables = ap (λ (u : TablesValue). u.tables) made;
      slots = ap (λ (u : TablesValue). u.slots) made ∙ after.slots;
      devices = ap (λ (u : TablesValue). u.devices) made ∙ after.devices;
    }
