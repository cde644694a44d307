-- How many control entries reports bring to a daemon.
use Rattle.std.specs.Prelude.{ℕ, List, Some, sum_by}
use Rattle.mr_model.specs.Deeds.{Deed, Received}
use Rattle.mr_model.specs.declared.entry.Entry.{Entry}
use Rattle.mr_model.specs.declared.entry.Entry.TheVariants.{Recv}
use Rattle.mr_model.specs.declared.message.Kind.{Kind}
use Rattle.mr_model.specs.declared.message.Kind.TheVariants as kind

-- A report brings at most so many: its receive, and where a packet had no route, the route that is
-- learned and later the removal of that.
abbrev pub brought_by : Kind → ℕ
brought_by kind.NoCache = 3
brought_by kind.WrongVif = 1
brought_by kind.WholePkt = 1

abbrev pub brought : Deed → ℕ
brought (Received (Some told)) = brought_by told.kind
brought d = 0

-- what the reports that stand in these deeds bring
abbrev pub brought_in : List Deed → ℕ
brought_in deeds = sum_by brought deeds

-- what the report that an entry gives brings
abbrev pub brought_at : Entry → ℕ
brought_at (Recv d (Some message)) = brought_by message.kind
brought_at e = 0

-- what all reports that a history gives bring
abbrev pub brought_to_all : List Entry → ℕ
brought_to_all h = sum_by brought_at h
