-- The packets that met entries in one more entry, by the packets that wait.
use Rattle.std.specs.Prelude.{ℕ, ◌+◌, List, [], ◌∷◌, ◌++◌, map}
use Rattle.mr_model.specs.declared.entry.Entry.{Entry}
use Rattle.mr_model.specs.declared.entry.Entry.TheVariants.{Call, Slow, Settle}
use Rattle.mr_model.specs.declared.entry.ReleasedId.{ReleasedId}
use Rattle.mr_model.specs.declared.request.Request.{Request}
use Rattle.mr_model.specs.declared.request.Request.TheVariants.{AddMfc, AddProxy}
use Rattle.mr_model.specs.Answer.{packets_of}
use Rattle.mr_model.specs.Counts.{Met, met_by, met_fast}
use Rattle.mr_model.specs.WaitingList.{Waiter, Awaiting, awaiting_of}

-- released packets, with the lengths of those that waited
abbrev pub released_mets : ℕ → List ReleasedId → List Waiter → List Met
released_mets place [] ws = []
released_mets place (x ∷ xs) [] = []
released_mets place (x ∷ xs) (w ∷ ws) =
    met_by place w.flow.length x.outcome ++ released_mets place xs ws

-- the packets that wait for the entry of a request, if it may make one
abbrev pub waiting_for : List Awaiting → Request → List Waiter
waiting_for waiting (AddMfc c) = packets_of (awaiting_of waiting c.src c.dst)
waiting_for waiting (AddProxy c) = packets_of (awaiting_of waiting c.src c.dst)
waiting_for waiting r = []

-- the packets that met entries in e, which stands behind `count` entries
abbrev pub mets_in : ℕ → List Awaiting → Entry → List Met
mets_in count waiting (Call d r reply released) =
    released_mets (count + 1) released (waiting_for waiting r)
mets_in count waiting (Slow lane index look flow o) = met_by count flow.length o
mets_in count waiting (Settle lane records) = map met_fast records
mets_in count waiting e = []
