use Rattle.mr_replay.proofs.Taking.{play_turn}
use Rattle.mr_replay.proofs.turns.drive_turn.Goals as goal

pub returns : goal.returns
returns g c =
    let was = c.new-bound.ensures in
    let is = c.into_daemon-daemon.ensures.daemon in
    let drive = c.drive-ended.ensures in
    play_turn g.C.RunName.limits c.args.script.now c.args.number c.args.machine c.drive-ended.new.smc c.drive-ended.result c.args.daemon c.into_daemon-daemon.result
    (record { went_on = rw c.requires.turn c.into_daemon-daemon.ensures.went_on; knew = c.facts.ensures; knows = c.facts-2.ensures })
    (rw (is, ← was) drive.plays)
    drive.idle
    (rw (is, ← was) drive.breaks_off)
    (rw is drive.full)
