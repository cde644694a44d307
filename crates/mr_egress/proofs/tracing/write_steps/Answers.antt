use Rattle.std.proofs.Common.{◌≡◌, ◌∙◌, ◌≤◌, List, ap, arith, length, sym, take}
use Rattle.std.proofs.lemmas.Option.{slice_get_within}
use Rattle.mr_base.specs.declared.device.Device.{Device}
use Rattle.mr_history.specs.Seen.{entry_seen}
use Rattle.mr_model.specs.declared.entry.Entry.{Entry}
use Rattle.mr_egress.specs.Places.{Place, behind, place_of}
use Rattle.mr_egress.proofs.Listing.{take_found}
use Rattle.mr_egress.proofs.Merging.{same_on}
use Rattle.mr_egress.proofs.Standing.{may_stand, place_push}
use Rattle.mr_egress.proofs.Walking.{agrees_at, count_at, walk_end, walk_step}
use Rattle.mr_egress.proofs.tracing.write_steps.Goals as goal

pub pass-requires-clause-good : goal.pass-requires-clause-good
pass-requires-clause-good c =
    let h = c.args.journal.now.entries in
    let limits = c.args.journal.now.limits in
    rw (c.devices_of-devices.ensures, c.limits.ensures, c.loop-place.invariant.at)
    (may_stand limits (take c.loop-place.place h) _
    (agrees_at limits h c.loop-place.place _ c.requires.legal c.entry-entry.ensures))

pub pass-requires-clause-count : goal.pass-requires-clause-count
pass-requires-clause-count c =
    let h = c.args.journal.now.entries in
    count_at c.args.journal.now.limits c.args.device h c.loop-place.place _ c.loop-place.invariant.at
    (slice_get_within h c.loop-place.place _ c.entry-entry.ensures) c.facts.ensures.few

pub loop-place-preserved : goal.loop-place-preserved
loop-place-preserved c =
    let h = c.args.journal.now.entries in
    let limits = c.args.journal.now.limits in
    let v = c.loop-place.invariant in
    let s = c.in_ok-rest.ensures in
    let e = entry_seen c.entry-entry.result in
    record {
      so_far = walk_step limits c.args.lanes.now c.args.device h c.args.out.now.items c.loop-place.place e
          c.loop-place.out.items _ _ c.loop-place.rest.now c.loop-place.at c.entry-entry.ensures v.same v.at s.copies
          c.in_ok-write_entry.ensures v.so_far;
      sorted = s.sorted;
      from = s.from;
      same = same_on c.loop-place.place _ _ _ s.same v.same;
      at = c.pass.ensures
          ∙ ap (λ (ds : List Device). behind ds c.loop-place.at e) (c.devices_of-devices.ensures ∙ ap (λ l. l.devices) c.limits.ensures)
          ∙ ap (λ (p : Place). behind limits.devices p e) v.at
          ∙ place_push limits c.args.device (take c.loop-place.place h) e
          ∙ ap (λ (k : List Entry). place_of limits c.args.device k) (sym (take_found h c.loop-place.place e c.entry-entry.ensures));
    }

pub returns : goal.returns
returns c =
    let h = c.args.journal.now.entries in
    let v = c.loop-place.invariant in
    let last : c.len.result ≡ c.loop-place.place = omega (arith, c.len.ensures, c.len-place-end.ensures) in
    let past : length h ≤ c.loop-place.place = omega (arith, c.len.ensures, last) in
    walk_end c.args.journal.now.limits c.args.lanes.now c.args.device h c.args.out.now.items c.loop-place.place c.len.result
    c.loop-place.out.items _ c.loop-place.rest.now c.loop-place.at last past v.same v.at c.in_ok-write_seen.ensures.copies v.so_far
