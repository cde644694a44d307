use Rattle.std.proofs.Common.{◌≡◌, ◌∙◌, List, map, sym, subst, ap}
use Rattle.mr_model.specs.declared.packet.Freed.{Freed}
use Rattle.mr_fates.specs.After.{released_each}
use Rattle.mr_unres.specs.Entries.{WaitingEntries, awaiting}
use Rattle.mr_kernel.specs.Changing.{waiting_after, freed_by, lines_after}
use Rattle.mr_kernel.specs.Flows.{id_of}
use Rattle.mr_kernel.proofs.Calls.{Planned, Stages, call_fits, call_above, call_moments}
use Rattle.mr_kernel.proofs.Calls.{call_lengths, call_named, call_released, call_packets}
use Rattle.mr_kernel.proofs.Calls.{call_agrees, call_holds}
use Rattle.mr_kernel.proofs.calling.make.Goals as goal

pub apply-requires-clause-fits : goal.apply-requires-clause-fits
apply-requires-clause-fits c =
    call_fits c.args.journal.now c.args.live.now c.args.fates.now c.args.daemon
    c.args.request.now c.args.change.now
    (record {
      daemon = c.requires.daemon;
      room = c.requires.room;
      is = c.requires.plan;
      holds = c.requires.holds;
    })

pub apply-requires-clause-above : goal.apply-requires-clause-above
apply-requires-clause-above c =
    call_above c.args.journal.now c.args.live.now c.args.fates.now c.args.daemon
    c.args.request.now c.args.change.now
    (record {
      daemon = c.requires.daemon;
      room = c.requires.room;
      is = c.requires.plan;
      holds = c.requires.holds;
    })

pub apply-requires-clause-moments : goal.apply-requires-clause-moments
apply-requires-clause-moments c =
    call_moments c.args.journal.now c.args.live.now c.args.fates.now c.args.daemon
    c.args.request.now c.args.change.now
    (record {
      daemon = c.requires.daemon;
      room = c.requires.room;
      is = c.requires.plan;
      holds = c.requires.holds;
    })

pub returns : goal.returns
returns c =
    let j = c.args.journal.now in
    let k = c.apply.new.journal in
    let l = c.args.live.now in
    let l2 = c.set_owner.new.live in
    let l3 = record l2 { waiting = c.settle_waiting-packets.new.waiting } in
    let f = c.args.fates.now in
    let f4 = c.end_released.new.fates in
    let d = c.args.daemon in
    let r = c.args.request.now in
    let ch = c.args.change.now in
    let ps = c.settle_waiting-packets.result.items in
    let freed = c.free-freed.result.items in
    let l1 = c.apply.new.live in
    let l4 = c.free-freed.new.live in
    let f3 = c.settle_waiting-packets.new.fates in
    let same : l2.waiting ≡ l1.waiting = c.set_owner.ensures.waiting in
    let planned : Planned j l f d r ch =
    record {
      daemon = c.requires.daemon;
      room = c.requires.room;
      is = c.requires.plan;
      holds = c.requires.holds;
    } in
    let stages : Stages j k l l1 l3 l4 f f3 f4 d r ch ps freed = record {
      tables1 = c.apply.ensures.tables;
      attempts1 = c.apply.ensures.attempts;
      room1 = c.apply.ensures.room;
      owner1 = c.apply.ensures.owner;
      moment1 = c.apply.ensures.moment;
      waiting1 = c.apply.ensures.waiting;
      unread1 = c.apply.ensures.unread;
      entries1 = c.apply.ensures.entries;
      limits1 = c.apply.ensures.limits;
      counts1 = c.apply.ensures.counts;
      owner3 = c.set_owner.ensures.owner;
      unread3 = c.set_owner.ensures.unread;
      heads3 = c.set_owner.ensures.heads;
      tables3 = c.set_owner.ensures.tables;
      moment3 = c.set_owner.ensures.moment;
      attempts3 = c.set_owner.ensures.attempts;
      waiting3 = c.settle_waiting-packets.ensures.waiting
          ∙ ap (λ (w : WaitingEntries). waiting_after ch.what (awaiting w.entries)) same;
      limit3 = c.settle_waiting-packets.ensures.limit ∙ ap (λ (w : WaitingEntries). w.limit) same;
      packets3 = c.settle_waiting-packets.ensures.packets
          ∙ ap (λ (w : WaitingEntries). freed_by ch.what (awaiting w.entries)) same;
      lines3 = c.settle_waiting-packets.ensures.lines
          ∙ ap (λ (w : WaitingEntries). lines_after ch.number ch.what
          (awaiting w.entries) f.lines) same;
      lanes3 = c.settle_waiting-packets.ensures.lanes;
      outcomes4 = c.free-freed.ensures.outcomes;
      stands4 = c.free-freed.ensures.stands;
      known4 = c.free-freed.ensures.known;
      heads4 = c.free-freed.ensures.heads;
      tables4 = c.free-freed.ensures.tables;
      moment4 = c.free-freed.ensures.moment;
      lines4 = c.end_released.ensures.lines
          ∙ ap (λ (fs : List Freed). released_each ch.number (map id_of fs) f3.lines)
          c.as_slice.ensures.value;
      lanes4 = c.end_released.ensures.lanes;
    } in
    record {
      entries = c.apply.ensures.entries;
      limits = c.apply.ensures.limits;
      few = c.free-freed.ensures.few;
      lengths = call_lengths j k l l1 l3 l4 f f3 f4 d r ch ps freed planned stages;
      named = call_named j k l l1 l3 l4 f f3 f4 d r ch ps freed planned stages;
      released = call_released j k l l1 l3 l4 f f3 f4 d r ch ps freed planned stages;
      reply = sym (call_agrees j k l l1 l3 l4 f f3 f4 d r ch ps freed planned stages).replies;
      known = c.free-freed.ensures.known j.entries
          (call_packets j k l l1 l3 l4 f f3 f4 d r ch ps freed planned stages);
      holds = call_holds j k l l1 l3 l4 f f3 f4 d r ch ps freed planned stages;
    }
