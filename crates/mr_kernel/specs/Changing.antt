-- What a change of the tables does to the packets that wait.
use Rattle.std.specs.Prelude.{ℕ, Bool, true, if◌then◌else◌, List, []}
use Rattle.std.specs.List.{list_any}
use Rattle.mr_base.specs.declared.numbers.Addr.{Addr}
use Rattle.mr_base.specs.declared.route.Route.{Route}
use Rattle.mr_model.specs.declared.change.What.{What}
use Rattle.mr_model.specs.declared.change.What.TheVariants.{NewRoute, Flush}
use Rattle.mr_model.specs.declared.ending.Fate.TheVariants.{Flushed}
use Rattle.mr_model.specs.declared.ending.FateLine.{FateLine}
use Rattle.mr_model.specs.declared.entry.ReleasedId.{ReleasedId}
use Rattle.mr_model.specs.Answer.{packets_of, release}
use Rattle.mr_model.specs.RouteList.{has_number}
use Rattle.mr_model.specs.State.{State}
use Rattle.mr_model.specs.VifList.{has_flag}
use Rattle.mr_model.specs.WaitingList.{Waiter, Awaiting, awaiting_of, without_awaiting}
use Rattle.mr_fates.specs.After.{ended_all}

-- A new entry takes those of its source and group; MRT_FLUSH with flag 1 drops all.
abbrev pub waiting_after : What → List Awaiting → List Awaiting
waiting_after (NewRoute src dst parent ttls fixed) ws = without_awaiting ws src dst
waiting_after (Flush bits) ws = if has_flag bits 1 then [] else ws
waiting_after what ws = ws

-- the packets that a new entry takes, oldest first
abbrev pub freed_by : What → List Awaiting → List Waiter
freed_by (NewRoute src dst parent ttls fixed) ws = packets_of (awaiting_of ws src dst)
freed_by what ws = []

-- the lines of fates behind change n, but for those of released packets
abbrev pub lines_after : ℕ → What → List Awaiting → List FateLine → List FateLine
lines_after n (Flush bits) ws lines =
    if has_flag bits 1 then ended_all (Flushed n) ws lines else lines
lines_after n what ws lines = lines

abbrev pub route_of : ℕ → Addr → Addr → ℕ → List ℕ → Bool → Route
route_of n src dst parent ttls fixed =
    record { number = n; src = src; dst = dst; parent = parent; ttls = ttls; fixed = fixed }

-- what becomes of packets that wait for the entry that change n makes, if it makes one
abbrev pub released_by : State → ℕ → What → List Waiter → List ReleasedId
released_by s n (NewRoute src dst parent ttls fixed) ws =
    release s (route_of n src dst parent ttls fixed) ws
released_by s n what ws = []

-- an entry that change n makes is there
abbrev pub is_made : ℕ → What → List Route → Bool
is_made n (NewRoute src dst parent ttls fixed) routes = list_any (has_number n) routes
is_made n what routes = true
