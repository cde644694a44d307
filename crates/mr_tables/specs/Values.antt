-- What contracts see of the tables as an object, and what a change makes of it.
use Rattle.std.specs.Prelude.{ℕ, List}
use Rattle.mr_base.specs.declared.device.Device.{Device}
use Rattle.mr_model.specs.declared.change.Change.{Change}
use Rattle.mr_model.specs.Tables.{Tables, changed_by}

pub record TablesValue : Type 0 where
  pub tables : Tables
  -- how many entries there can be
  pub slots : ℕ
  -- the devices that calls can mean
  pub devices : List Device

-- the same behind a change
abbrev pub applied : TablesValue → Change → TablesValue
applied v c = record v { tables = changed_by v.tables c }
