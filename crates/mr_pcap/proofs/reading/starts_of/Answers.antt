use Rattle.std.proofs.Common.{◌≡◌, ◌∙◌, ap, sym, refl, drop, subst, Some, IsSome, ℕ}
use Rattle.std.proofs.lemmas.List.Elements.{All-push, All-nil}
use Rattle.mr_pcap.proofs.Records.{one_more, starts_within, same_start}
use Rattle.mr_pcap.specs.Places.{AreWhole}
use Rattle.mr_pcap.specs.Traces.{whole_length}
use Rattle.mr_pcap.proofs.reading.starts_of.Goals as goal

pub loop-start-init : goal.loop-start-init
loop-start-init c =
    let a = c.args in
    record {
      within = c.requires;
      whole = subst (AreWhole a.order a.file.now) (sym c.new-starts.ensures.items) (All-nil (λ (start : ℕ). IsSome (whole_length a.order (drop start a.file.now))));
      same = rw (c.new-starts.ensures.items) (same_start a.order 1 24 a.file.now);
    }

pub loop-start-preserved : goal.loop-start-preserved
loop-start-preserved c =
    let a = c.args in
    let l = c.loop-start in
    let pushed = c.in_ok-push.ensures.items in
    let is : whole_length a.order (drop l.start a.file.now) ≡ Some c.in-Some.length = ap (whole_length a.order) (sym c.from_index.ensures) ∙ sym c.in-Some.ensures in
    record {
      within = starts_within a.order l.start c.in-Some.length a.file.now c.loop-start-test.true is;
      whole = subst (AreWhole a.order a.file.now) (sym pushed)
          (All-push (λ (start : ℕ). IsSome (whole_length a.order (drop start a.file.now))) l.starts.items l.start l.invariant.whole (subst IsSome (sym is) refl));
      same = rw (pushed, c.saturating_add-number.ensures)
          (one_more a.order l.number l.start c.in-Some.length a.file.now l.starts.items c.loop-start-test.true is
          ∙ l.invariant.same);
    }
