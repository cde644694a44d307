-- The tables that changes make of others, and what they say of a packet.
use Rattle.std.specs.Prelude.{ℕ, if◌then◌else◌, List, fold}
use Rattle.mr_base.specs.declared.device.Device.{Device}
use Rattle.mr_base.specs.declared.numbers.Addr.{Addr}
use Rattle.mr_model.specs.declared.change.Change.{Change}
use Rattle.mr_model.specs.declared.verdict.Verdict.{Verdict}
use Rattle.mr_model.specs.Tables.{no_tables}
use Rattle.mr_model.specs.Verdict.{verdict_in}
use Rattle.mr_tables.specs.Values.{TablesValue, applied}
use Rattle.mr_tables.specs.Fitting.{fits}

-- no vif, no entry, pim and assert off
abbrev pub empty_tables : ℕ → List Device → TablesValue
empty_tables slots devices = record { tables = no_tables; slots = slots; devices = devices }

-- the tables that changes make, one after another
abbrev pub tables_after : TablesValue → List Change → TablesValue
tables_after start changes = fold applied start changes

-- a copy passes over a change that does not fit
abbrev pub taken : TablesValue → Change → TablesValue
taken v c = if fits v c then applied v c else v

-- the verdict on a packet that came in on a device, with this TTL
abbrev pub verdict_of : TablesValue → ℕ → Addr → Addr → ℕ → Verdict
verdict_of v dev src dst ttl = verdict_in v.tables.vifs v.tables.routes dev src dst ttl
