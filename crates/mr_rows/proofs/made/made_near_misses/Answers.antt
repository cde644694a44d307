-- Each near miss breaks one fact of one phase, which computing refutes.
use Rattle.std.proofs.Common.{rules, ◌≡◌, true, List, [], refl, arith}
use Rattle.std.specs.List.{AllByRecursion, list_any}
use Rattle.mr_base.specs.Heads.{cause_in}
use Rattle.mr_load.specs.Callers.{IsCalled}
use Rattle.mr_load.specs.Made.{Made, sent, asked, to_send, to_ask}
use Rattle.mr_model.specs.Past.{is_end}
use Rattle.mr_model.specs.declared.entry.Entry.{Entry}
use Rattle.mr_rows.specs.MadeMisses as misses
use Rattle.mr_rows.specs.SideBySide.{files, scenario, first_phase}
use Rattle.mr_rows.proofs.MadeParts.{Parts, before_end, behind_end, made_parts}
use Rattle.mr_rows.proofs.made.made_near_misses.Goals as goal

parts : (h : List Entry) → Made files scenario h → Parts files scenario [] scenario.phases h
parts h m = made_parts files scenario [] scenario.phases h m.phases

behind_the_last : behind_end (behind_end misses.behind_the_last) ≡ [] → ⊥
unfolding cause_in
behind_the_last = search rules

pub returns-clause-behind_the_last : goal.returns-clause-behind_the_last
returns-clause-behind_the_last c m = behind_the_last (parts misses.behind_the_last m).2.2

unended : list_any is_end (behind_end misses.unended) ≡ true → ⊥
unfolding cause_in
unended = search rules

pub returns-clause-unended : goal.returns-clause-unended
returns-clause-unended c m = unended (parts misses.unended m).2.0

one_phase_late : sent 1 (before_end misses.one_phase_late) ≡ to_send files 1 [] first_phase → ⊥
unfolding cause_in
one_phase_late = search rules

pub returns-clause-one_phase_late : goal.returns-clause-one_phase_late
returns-clause-one_phase_late c m = one_phase_late ((parts misses.one_phase_late m).1.lanes 1 (omega arith) (omega arith))

other_ttl : sent 2 (before_end misses.other_ttl) ≡ to_send files 2 [] first_phase → ⊥
unfolding cause_in
other_ttl = search rules

pub returns-clause-other_ttl : goal.returns-clause-other_ttl
returns-clause-other_ttl c m = other_ttl ((parts misses.other_ttl m).1.lanes 2 (omega arith) (omega arith))

packet_twice : sent 2 (before_end misses.packet_twice) ≡ to_send files 2 [] first_phase → ⊥
unfolding cause_in
packet_twice = search rules

pub returns-clause-packet_twice : goal.returns-clause-packet_twice
returns-clause-packet_twice c m = packet_twice ((parts misses.packet_twice m).1.lanes 2 (omega arith) (omega arith))

line_missing : asked 2 (before_end misses.line_missing) ≡ to_ask 2 first_phase → ⊥
unfolding cause_in
line_missing = search rules

pub returns-clause-line_missing : goal.returns-clause-line_missing
returns-clause-line_missing c m = line_missing ((parts misses.line_missing m).1.daemons 2 (omega arith) (omega arith) refl)

lines_exchanged : asked 1 (before_end misses.lines_exchanged) ≡ to_ask 1 first_phase → ⊥
unfolding cause_in
lines_exchanged = search rules

pub returns-clause-lines_exchanged : goal.returns-clause-lines_exchanged
returns-clause-lines_exchanged c m = lines_exchanged ((parts misses.lines_exchanged m).1.daemons 1 (omega arith) (omega arith) refl)

third_lane : AllByRecursion (IsCalled scenario) (before_end misses.third_lane) → ⊥
unfolding cause_in
third_lane = search rules

pub returns-clause-third_lane : goal.returns-clause-third_lane
returns-clause-third_lane c m = third_lane (parts misses.third_lane m).1.callers

third_daemon : AllByRecursion (IsCalled scenario) (before_end misses.third_daemon) → ⊥
unfolding cause_in
third_daemon = search rules

pub returns-clause-third_daemon : goal.returns-clause-third_daemon
returns-clause-third_daemon c m = third_daemon (parts misses.third_daemon m).1.callers
