-- Tables on which the definitions are evaluated: vif 3 on device 1, the register vif 5, and the
-- entry that call 4 made, with room for one more.
use Rattle.std.specs.Prelude.{ℕ, Bool, true, false, [], ◌∷◌}
use Rattle.mr_base.specs.declared.route.Route.{Route}
use Rattle.mr_base.specs.declared.vif_record.VifRecord.{VifRecord}
use Rattle.mr_model.specs.declared.change.Change.{Change}
use Rattle.mr_model.specs.declared.change.What.{What}
use Rattle.mr_model.specs.declared.change.What.TheVariants.{AddVif, DelVif, NewRoute, OldRoute, DropRoute}
use Rattle.mr_tables.specs.Values.{TablesValue}

abbrev pub vif_three : VifRecord
vif_three = record { vif = 3; dev = 1; register = false; fixed = false; number = 2 }

abbrev pub register_vif : VifRecord
register_vif = record { vif = 5; dev = 0; register = true; fixed = false; number = 3 }

-- an entry of which only the number is of interest
abbrev pub entry : ℕ → Route
entry n = record {
  number = n;
  src = record { 0 = 0 };
  dst = record { 0 = 0 };
  parent = 3;
  ttls = [];
  fixed = false;
}

abbrev pub tables : TablesValue
tables = record {
  tables = record {
    vifs = vif_three ∷ register_vif ∷ [];
    routes = entry 4 ∷ [];
    pim = false;
    asserts = false;
  };
  slots = 2;
  devices = [];
}

abbrev pub change : ℕ → What → Change
change n w = record { number = n; what = w }

-- a vif on device 1
abbrev pub added : ℕ → ℕ → Bool → Change
added n vif register = change n (AddVif vif 1 register false)

abbrev pub removed : ℕ → ℕ → Change
removed n vif = change n (DelVif vif)

-- the entry with the number of the call
abbrev pub made : ℕ → Change
made n = change n (NewRoute (record { 0 = 0 }) (record { 0 = 0 }) 3 [] false)

abbrev pub changed : ℕ → ℕ → Change
changed n target = change n (OldRoute target 3 [] true)

abbrev pub dropped : ℕ → ℕ → Change
dropped n target = change n (DropRoute target)
