-- The tables of the machine, and what one change makes of each of their parts (ipmr.c, struct mr_table).
use Rattle.std.specs.Prelude.{ℕ, Bool, true, false, not, if◌then◌else◌, List, [], ◌∷◌, ◌++◌, fold}
use Rattle.mr_base.specs.declared.route.Route.{Route}
use Rattle.mr_base.specs.declared.vif_record.VifRecord.{VifRecord}
use Rattle.mr_model.specs.declared.change.Change.{Change}
use Rattle.mr_model.specs.declared.change.What.{What}
use Rattle.mr_model.specs.declared.change.What.TheVariants.{AddVif, DelVif, NewRoute, OldRoute, DropRoute, Flush, Pim, Assert}
use Rattle.mr_model.specs.VifList.{without_vif, vifs_kept}
use Rattle.mr_model.specs.RouteList.{has_number, changed_to, change_first, remove_first, routes_kept}

pub record Tables : Type 0 where
  -- in the order in which they were added
  pub vifs : List VifRecord
  -- newest first
  pub routes : List Route
  pub pim : Bool
  -- `assert`
  pub asserts : Bool

abbrev pub no_tables : Tables
no_tables = record { vifs = []; routes = []; pim = false; asserts = false }

-- A vif that is added stands last, with the number of its call.
abbrev pub vifs_after : List VifRecord → ℕ → What → List VifRecord
vifs_after vifs n (AddVif vif dev register fixed) =
    vifs ++ record { vif = vif; dev = dev; register = register; fixed = fixed; number = n } ∷ []
vifs_after vifs n (DelVif i) = without_vif vifs i
vifs_after vifs n (Flush bits) = vifs_kept bits vifs
vifs_after vifs n _ = vifs

-- A new entry stands first, with the number of its call; an old one changes in its place.
abbrev pub routes_after : List Route → ℕ → What → List Route
routes_after routes n (NewRoute src dst parent ttls fixed) =
    record { number = n; src = src; dst = dst; parent = parent; ttls = ttls; fixed = fixed } ∷ routes
routes_after routes n (OldRoute target parent ttls fixed) =
    change_first (has_number target) (changed_to parent ttls fixed) routes
routes_after routes n (DropRoute target) = remove_first (has_number target) routes
routes_after routes n (Flush bits) = routes_kept bits routes
routes_after routes n _ = routes

abbrev pub pim_after : Bool → What → Bool
pim_after pim (Pim on) = on
pim_after pim _ = pim

abbrev pub is_same : Bool → Bool → Bool
is_same true b = b
is_same false b = not b

-- MRT_PIM sets assert too where its truth value differs from pim.
abbrev pub asserts_after : Bool → Bool → What → Bool
asserts_after pim asserts (Pim on) = if is_same on pim then asserts else on
asserts_after pim asserts (Assert on) = on
asserts_after pim asserts _ = asserts

-- the tables after a change
abbrev pub changed_by : Tables → Change → Tables
changed_by t c = record {
  vifs = vifs_after t.vifs c.number c.what;
  routes = routes_after t.routes c.number c.what;
  pim = pim_after t.pim c.what;
  asserts = asserts_after t.pim t.asserts c.what;
}

-- what changes make of empty tables, one after another
abbrev pub tables_by : List Change → Tables
tables_by changes = fold changed_by no_tables changes
