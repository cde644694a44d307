-- Which changes can be applied.
use Rattle.std.specs.Prelude.{◌≡◌, ℕ, ◌&&◌, ◌||◌, Bool, true, not, nat_lt, is_none, List, [], ◌∷◌, length}
use Rattle.std.specs.List.{list_any}
use Rattle.mr_base.specs.declared.route.Route.{Route}
use Rattle.mr_base.specs.declared.vif_record.VifRecord.{VifRecord}
use Rattle.mr_model.specs.declared.change.Change.{Change}
use Rattle.mr_model.specs.declared.change.What.{What}
use Rattle.mr_model.specs.declared.change.What.TheVariants.{AddVif, DelVif, NewRoute, OldRoute, DropRoute}
use Rattle.mr_model.specs.VifList.{has_vif, register_vif}
use Rattle.mr_model.specs.RouteList.{has_number}
use Rattle.mr_mfc.specs.Caches.{is_above}
use Rattle.mr_tables.specs.Values.{TablesValue, applied}

-- An added vif has an index below 32 that is free, and a register vif comes only where there is no
-- other; a removed vif is there.
abbrev pub vif_fits : List VifRecord → What → Bool
vif_fits vifs (AddVif vif dev register fixed) =
    nat_lt vif 32 && not (has_vif vifs vif) && (not register || is_none (register_vif vifs))
vif_fits vifs (DelVif i) = has_vif vifs i
vif_fits vifs _ = true

-- For a new entry a slot is free, and its number is above those of all entries; an entry that
-- changes or goes is there.
abbrev pub entry_fits : ℕ → List Route → ℕ → What → Bool
entry_fits slots routes n (NewRoute src dst parent ttls fixed) =
    nat_lt (length routes) slots && is_above n routes
entry_fits slots routes n (OldRoute target parent ttls fixed) = list_any (has_number target) routes
entry_fits slots routes n (DropRoute target) = list_any (has_number target) routes
entry_fits slots routes n _ = true

-- Every other change fits.
abbrev pub fits : TablesValue → Change → Bool
fits v c = vif_fits v.tables.vifs c.what && entry_fits v.slots v.tables.routes c.number c.what

-- Each of some changes fits what those before it made.
abbrev pub FitInTurn : TablesValue → List Change → Type 0
FitInTurn v [] = Unit {0}
FitInTurn v (c ∷ cs) = (fits v c ≡ true) × FitInTurn (applied v c) cs
