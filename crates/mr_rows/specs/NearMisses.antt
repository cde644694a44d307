-- Histories and endings that differ from worked ones in one value, and are not to be had.
use Rattle.std.specs.Prelude.{true, false, Some, List, [], ◌∷◌, ◌++◌, take}
use Rattle.mr_base.specs.declared.errno.Errno.TheVariants.{Invalid}
use Rattle.mr_model.specs.declared.ending.Ending.{Ending}
use Rattle.mr_model.specs.declared.ending.Fate.TheVariants.{Expired}
use Rattle.mr_model.specs.declared.entry.Entry.{Entry}
use Rattle.mr_model.specs.declared.entry.Entry.TheVariants.{Call, EndPhase, Recv, Slow}
use Rattle.mr_model.specs.declared.limits.Limits.{Limits}
use Rattle.mr_model.specs.declared.message.Kind.TheVariants.{NoCache}
use Rattle.mr_model.specs.declared.outcome.Cause.TheVariants.{Upcall}
use Rattle.mr_model.specs.declared.outcome.Outcome.TheVariants.{Dropped, Parked, Register, Wrong}
use Rattle.mr_model.specs.declared.outcome.Report.TheVariants.{Quiet, Told}
use Rattle.mr_model.specs.declared.reply.Reply.TheVariants.{Good, Sg, Value}
use Rattle.mr_model.specs.declared.request.Request.TheVariants.{Assert, DelVif, GetVersion, Init, Pim}
use Rattle.mr_rows.specs.Samples.{addr, source, group, second_group, usual, daemon, lane, mask, add_vif, call, good, refused, tick, recv, report, packet, slow, forward, freed, route, route_totals, fate_line, fast, settle}
use Rattle.mr_rows.specs.ControlErrors as errors
use Rattle.mr_rows.specs.CountersStartAgain as again
use Rattle.mr_rows.specs.Expiry as expiring
use Rattle.mr_rows.specs.FullSettle as full_settle
use Rattle.mr_rows.specs.NobodyOwns as nobody
use Rattle.mr_rows.specs.OrdinaryPath as ordinary
use Rattle.mr_rows.specs.RegisterCopiesLost as lost
use Rattle.mr_rows.specs.RegisterReport as copied
use Rattle.mr_rows.specs.StarEntry as star
use Rattle.mr_rows.specs.StaticByCaller as leaving
use Rattle.mr_rows.specs.Thresholds as levels
use Rattle.mr_rows.specs.TwoVifsOnADevice as shared
use Rattle.mr_rows.specs.VifAddedLater as later
use Rattle.mr_rows.specs.WaitingEntriesFull as full
use Rattle.mr_rows.specs.WaitingPacketsReleased as release
use Rattle.mr_rows.specs.WildcardReleasesNothing as wildcard
use Rattle.mr_rows.specs.WrongInterface as wrong

-- a vif that is in use is refused, with another errno
abbrev pub other_errno : List Entry
other_errno = take 3 errors.history ++ refused 1 (add_vif 31 8 1) Invalid ∷ []

-- a vif that is not there is deleted
abbrev pub deleted_twice : List Entry
deleted_twice = take 5 errors.history ++ good 1 (DelVif 31) ∷ []

-- a daemon that is neither the owner nor an admin sets a switch
abbrev pub granted_without_access : List Entry
granted_without_access = take 20 errors.history ++ good 2 (Pim 1) ∷ []

-- a daemon takes the place of the owner
abbrev pub second_owner : List Entry
second_owner = take 21 errors.history ++ good 2 Init ∷ []

-- a call of a daemon with number 0
abbrev pub daemon_zero : List Entry
daemon_zero = take 12 errors.history ++ call 0 GetVersion (Value 773) ∷ []

-- a call of a third daemon, where there are two
abbrev pub daemon_three : List Entry
daemon_three = take 12 errors.history ++ call 3 GetVersion (Value 773) ∷ []

-- an entry that is made again keeps its counts
abbrev pub old_counts : List Entry
old_counts = take 9 again.history ++ call 1 again.count (Sg (route_totals 1 28 0)) ∷ []

-- a packet goes out where its TTL is equal to the threshold
abbrev pub equal_ttl : List Entry
equal_ttl = take 8 levels.history ++ slow 1 8 (packet 1 source group 5) (forward 6 0 (1 ∷ 2 ∷ [])) ∷ []

-- a packet goes out on a vif that was added later than its entry
abbrev pub late_vif : List Entry
late_vif = take 7 later.history ++ slow 1 7 (packet 1 source group 255) (forward 5 0 (3 ∷ [])) ∷ []

-- a packet of an entry for any origin goes out on the vif on which it came
abbrev pub sent_back : List Entry
sent_back = take 7 star.history ++ slow 1 7 (packet 2 (addr 10 0 1 9) group 9) (forward 6 0 (0 ∷ 1 ∷ 2 ∷ [])) ∷ []

-- the proxy entry is met before the entry of the group
abbrev pub wildcard_first : List Entry
wildcard_first = take 7 star.history ++ slow 1 7 (packet 2 (addr 10 0 1 9) group 9) (forward 5 0 (0 ∷ [])) ∷ []

-- a packet on a wrong interface is forwarded without the lock
abbrev pub wrong_settled : List Entry
wrong_settled = ordinary.start ++ settle (record ordinary.fast_record { flow = packet 2 source group 2 } ∷ []) ∷ []

-- a packet that is forwarded without the lock goes out on another vif
abbrev pub other_vif_settled : List Entry
other_vif_settled = ordinary.start ++ settle (record ordinary.fast_record { outs = mask (0 ∷ []) } ∷ []) ∷ []

-- packets are counted where there are none
abbrev pub empty_settle : List Entry
empty_settle = ordinary.start ++ settle [] ∷ []

-- a look that is older than the last end of a phase
abbrev pub old_look : List Entry
old_look = ordinary.start ++ slow 1 4 ordinary.only_packet (forward 4 0 (1 ∷ [])) ∷ []

-- the same of a packet that is forwarded without the lock
abbrev pub old_settled_look : List Entry
old_settled_look = ordinary.start ++ settle (record ordinary.fast_record { look = 4 } ∷ []) ∷ []

-- a look at an entry that is yet to come
abbrev pub look_ahead : List Entry
look_ahead = ordinary.start ++ slow 1 6 ordinary.only_packet (forward 4 0 (1 ∷ [])) ∷ []

-- a look that is older than the lane's own packet before
abbrev pub look_before_own : List Entry
look_before_own = take 9 levels.history ++ slow 2 8 (packet 1 source second_group 1) (forward 7 0 []) ∷ []

-- the same of a packet that is forwarded without the lock
abbrev pub settled_before_own : List Entry
settled_before_own = take 9 levels.history ++ settle (fast 2 8 (packet 1 source second_group 1) 7 0 [] ∷ []) ∷ []

-- the index of the lane's packet before
abbrev pub index_again : List Entry
index_again = wildcard.made ++ slow 1 8 wildcard.flow (forward 7 0 (1 ∷ [])) ∷ []

-- a short count of the lane that stands not directly before its slow packet, which has an older look
abbrev pub short_count_apart : List Entry
short_count_apart = take 6 shared.history ++ settle (shared.passed 6 ∷ []) ∷ good 1 (Assert 1) ∷ slow 2 6 shared.missing Parked ∷ []

-- a slow packet with an older look than one of its lane that is counted directly before it
abbrev pub counted_look : List Entry
counted_look = take 6 shared.history ++ good 1 (Assert 1) ∷ settle (shared.passed 7 ∷ []) ∷ slow 2 6 shared.missing Parked ∷ []

-- a full count directly before a slow packet with an older look
abbrev pub full_count : List Entry
full_count = full_settle.start ++ settle full_settle.first_records ∷ slow 65 5 (packet 1 source group 9) (forward 4 0 (1 ∷ [])) ∷ []

-- a packet that is counted twice
abbrev pub record_again : List Entry
record_again = levels.start ++ settle (levels.first_passed 1 ∷ levels.first_passed 1 ∷ []) ∷ []

-- a packet of a second lane, where there is one
abbrev pub lane_two : List Entry
lane_two = ordinary.start ++ Slow (lane 2) 1 5 ordinary.only_packet (forward 4 0 (1 ∷ [])) ∷ []

-- a fifth packet joins those that wait
abbrev pub fifth_parked : List Entry
fifth_parked = release.four_wait ++ slow 5 8 release.missing Parked ∷ []

-- a packet is released twice, and another one is not
abbrev pub released_twice : List Entry
released_twice =
    release.before_entry
    ++ Call (daemon 1) release.entry_made Good
    (freed 1 release.sent ∷ freed 1 release.sent ∷ freed 3 release.sent ∷ freed 4 release.sent ∷ []) ∷ []

-- a packet that a new entry releases is kept back
abbrev pub kept_back : List Entry
kept_back =
    release.before_entry
    ++ Call (daemon 1) release.entry_made Good (freed 1 release.sent ∷ freed 2 release.sent ∷ freed 3 release.sent ∷ []) ∷ []

-- a packet that was released is released again by the next call
abbrev pub released_again : List Entry
released_again =
    take 13 release.history
    ++ Call (daemon 1) release.entry_made Good (freed 1 release.sent ∷ []) ∷ []

-- an entry for any origin releases a packet
abbrev pub wildcard_releases : List Entry
wildcard_releases = wildcard.parked ++ Call (daemon 1) wildcard.entry_made Good (freed 1 (forward 7 0 (1 ∷ [])) ∷ []) ∷ []

-- a packet waits though there is an entry for it
abbrev pub parked_again : List Entry
parked_again = wildcard.made ++ slow 2 8 wildcard.flow Parked ∷ []

-- a packet that misses where nobody owns the machine is dropped with another cause
abbrev pub wrong_cause : List Entry
wrong_cause = nobody.start ++ slow 1 2 nobody.missing (Dropped Upcall) ∷ []

-- an eleventh source has a waiting entry
abbrev pub eleventh_parked : List Entry
eleventh_parked = full.ten_wait ++ slow 11 14 (full.from 21) Parked ∷ []

-- a wrong interface is reported just three seconds after the last report
abbrev pub told_though_quiet : List Entry
told_though_quiet = wrong.three_seconds_later ++ slow 2 10 wrong.strayed (Wrong 5 (Some 1) Told) ∷ []

-- the first wrong interface is not reported
abbrev pub quiet_at_first : List Entry
quiet_at_first = take 6 wrong.history ++ slow 1 6 wrong.strayed (Wrong 5 (Some 1) Quiet) ∷ []

-- the report of a copy is lost though there is room
abbrev pub lost_with_room : List Entry
lost_with_room = take 6 copied.history ++ slow 1 6 (packet 1 source group 2) (Register 5 (Some 0) (mask (1 ∷ 2 ∷ [])) false) ∷ []

-- a 65th report is told
abbrev pub told_without_room : List Entry
told_without_room = lost.all_told ++ lost.copy 65 true ∷ []

-- a miss is reported with the lower vif of its device
abbrev pub lower_vif : List Entry
lower_vif = shared.before_receive ++ recv (Some (report NoCache 0 2)) ∷ []

-- a receive gives a report that there is not
abbrev pub other_message : List Entry
other_message = release.before_receive ++ recv (Some (report NoCache 0 2)) ∷ []

-- a receive gives a report again
abbrev pub read_twice : List Entry
read_twice = take 11 release.history ++ recv (Some (report NoCache 0 1)) ∷ []

-- a daemon that is not the owner receives a report
abbrev pub read_by_another : List Entry
read_by_another = leaving.before_leaving ++ Recv (daemon 2) (Some (report NoCache 0 1)) ∷ []

-- a packet that expires at the tick before
abbrev pub early_tail : Ending
early_tail = record expiring.tail { fates = fate_line 1 (Expired 6) ∷ [] }

-- a history whose ticks are a millisecond short of ten seconds
abbrev pub short_ticks : List Entry
short_ticks = expiring.parked ++ tick 9998 ∷ tick 1 ∷ EndPhase ∷ []

-- an ending in which the entry that stays is not static
abbrev pub plain_tail : Ending
plain_tail = record leaving.tail { routes = (route 5 source group 0 ((1, 1) ∷ []), route_totals 0 0 0) ∷ [] }

-- The ordinary history for two packets, the second of which follows in another settling of the same phase.
abbrev pub two_packets : Limits
two_packets = usual 2 2 (0 ∷ 1 ∷ [])

abbrev pub second_settle : Entry
second_settle = settle (record ordinary.fast_record { index = 2; look = 6 } ∷ [])

abbrev pub split_settles : List Entry
split_settles = ordinary.start ++ ordinary.settled ∷ second_settle ∷ EndPhase ∷ []

-- the limits of the ordinary history with no packet, one phase, and three control entries
abbrev pub no_packets : Limits
no_packets = usual 2 0 (0 ∷ 1 ∷ [])

abbrev pub one_phase : Limits
one_phase = usual 1 1 (0 ∷ 1 ∷ [])

abbrev pub three_controls : Limits
three_controls = record ordinary.limits { controls = 3 }
