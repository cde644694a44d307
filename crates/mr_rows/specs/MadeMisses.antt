-- Histories that differ from that of two lanes and two daemons beside each other in one point, and do not have what the
-- scenario asks.
use Rattle.std.specs.Prelude.{None, List, [], ◌∷◌, ◌++◌, take, drop}
use Rattle.mr_model.specs.declared.entry.Entry.{Entry}
use Rattle.mr_model.specs.declared.entry.Entry.TheVariants.{EndPhase, Recv, Slow}
use Rattle.mr_model.specs.declared.reply.Reply.TheVariants.{Value}
use Rattle.mr_model.specs.declared.request.Request.TheVariants.{GetVersion}
use Rattle.mr_rows.specs.Samples.{source, group, daemon, lane, add_vif, call, good, packet, forward}
use Rattle.mr_rows.specs.SideBySide.{flow, tables_made, first_part, second_part, history}

-- an entry behind the last phase
abbrev pub behind_the_last : List Entry
behind_the_last = history ++ Recv (daemon 2) None ∷ []

-- no end of the last phase
abbrev pub unended : List Entry
unended = first_part ++ EndPhase ∷ second_part

-- the packet of lane 1 one phase late
abbrev pub one_phase_late : List Entry
one_phase_late = take 7 history ++ EndPhase ∷ Slow (lane 1) 1 7 flow (forward 6 0 (1 ∷ [])) ∷ drop 9 history

-- another TTL in a packet's flow
abbrev pub other_ttl : List Entry
other_ttl = tables_made ++ Slow (lane 2) 2 6 (packet 1 source group 3) (forward 6 0 (1 ∷ [])) ∷ drop 7 history

-- a packet twice
abbrev pub packet_twice : List Entry
packet_twice = take 7 history ++ drop 6 history

-- a line missing: the tick of daemon 2
abbrev pub line_missing : List Entry
line_missing = take 4 history ++ drop 5 history

-- two lines of one daemon exchanged
abbrev pub lines_exchanged : List Entry
lines_exchanged = take 2 history ++ good 1 (add_vif 1 8 2) ∷ good 1 (add_vif 0 8 1) ∷ drop 4 history

-- a packet of a third lane, where there are two
abbrev pub third_lane : List Entry
third_lane = first_part ++ Slow (lane 3) 1 8 flow (forward 6 0 (1 ∷ [])) ∷ EndPhase ∷ second_part ++ EndPhase ∷ []

-- a call of a third daemon, where there are two
abbrev pub third_daemon : List Entry
third_daemon = first_part ++ call 3 GetVersion (Value 773) ∷ EndPhase ∷ second_part ++ EndPhase ∷ []
