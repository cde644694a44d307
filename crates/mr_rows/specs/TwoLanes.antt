-- Two lanes in one phase, one with a packet that is forwarded without the lock and one with a packet that misses, in both orders.
use Rattle.std.specs.Prelude.{true, Some, None, List, [], ◌∷◌, ◌++◌}
use Rattle.mr_model.specs.declared.ending.Ending.{Ending}
use Rattle.mr_model.specs.declared.ending.Fate.TheVariants.{Released}
use Rattle.mr_model.specs.declared.entry.Entry.{Entry}
use Rattle.mr_model.specs.declared.entry.Entry.TheVariants.{Call, EndPhase, Slow}
use Rattle.mr_model.specs.declared.limits.Limits.{Limits}
use Rattle.mr_model.specs.declared.message.Kind.TheVariants.{NoCache}
use Rattle.mr_model.specs.declared.outcome.Outcome.TheVariants.{Parked}
use Rattle.mr_model.specs.declared.reply.Reply.TheVariants.{Good}
use Rattle.mr_rows.specs.Samples.{addr, source, group, devices_at, limits_of, daemon, lane, add_mfc, good, opening, recv, packet, forward, route, vif, route_totals, vif_totals, fast, settle}

abbrev pub limits : Limits
limits = limits_of 3 (1 ∷ 1 ∷ []) (true ∷ []) (devices_at (0 ∷ 1 ∷ 2 ∷ []))

abbrev pub start : List Entry
start = opening (0 ∷ 1 ∷ 2 ∷ []) ++ good 1 (add_mfc source group 0 ((1, 1) ∷ (2, 1) ∷ [])) ∷ EndPhase ∷ []

-- The second item of lane 1: the first one was no packet.
abbrev pub forwarded : Entry
forwarded = settle (fast 2 6 (packet 1 source group 2) 5 0 (1 ∷ 2 ∷ []) ∷ [])

-- the first item of lane 2
abbrev pub missed : Entry
missed = Slow (lane 2) 1 6 (packet 3 (addr 10 0 2 7) (addr 239 2 3 4) 9) Parked

-- what follows in both orders
abbrev pub last_phase : List Entry
last_phase =
    recv (Some (record { kind = NoCache; vif = 2; lane = lane 2; index = 1 }))
    ∷ Call (daemon 1) (add_mfc (addr 10 0 2 7) (addr 239 2 3 4) 2 ((1, 1) ∷ [])) Good
    (record { lane = lane 2; index = 1; outcome = forward 11 2 (1 ∷ []) } ∷ [])
    ∷ recv None
    ∷ EndPhase ∷ []

abbrev pub history : List Entry
history = start ++ forwarded ∷ missed ∷ EndPhase ∷ last_phase

abbrev pub other_history : List Entry
other_history = start ++ missed ∷ forwarded ∷ EndPhase ∷ last_phase

abbrev pub tail : Ending
tail = record {
  routes =
      (route 5 source group 0 ((1, 1) ∷ (2, 1) ∷ []), route_totals 1 28 0)
      ∷ (route 11 (addr 10 0 2 7) (addr 239 2 3 4) 2 ((1, 1) ∷ []), route_totals 1 28 0) ∷ [];
  vifs = (vif 0 1 2, vif_totals 1 0 28 0) ∷ (vif 1 2 3, vif_totals 0 2 0 56) ∷ (vif 2 3 4, vif_totals 1 1 28 28) ∷ [];
  fates = record { lane = lane 2; index = 1; fate = Released 11 } ∷ [];
}
