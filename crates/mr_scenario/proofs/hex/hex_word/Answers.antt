use Rattle.std.proofs.Common.{rules, ◌/◌, ◌∙◌, sym, arith, length}
use Rattle.mr_scenario.proofs.Pairs.{pairs_are, odd_none, pair_first, pair_none, pairs_done, hex_read, hex_refused}
use Rattle.mr_scenario.proofs.hex.hex_word.Goals as goal

pub returns-then-word-ne0 : goal.returns-then-word-ne0
returns-then-word-ne0 c =
    rw c.bad_hex-then-word-ne0.ensures (hex_refused c.args.place c.args.word.now (odd_none (length c.args.word.now / 2) c.args.word.now (omega (arith, c.if-word-ne0.true))))

pub returns-in_default : goal.returns-in_default
returns-in_default c =
    rw c.bad_hex-in_default.ensures
    (hex_refused c.args.place c.args.word.now
    (sym (pairs_are c.args.word.now c.as_chunks.result.0.now c.if-word-ne0.false c.as_chunks.ensures.front)
    ∙ pair_none c.loop-pair.bytes.items c.as_chunks.result.0.now c.loop-pair.pair-index _ _ c.loop-pair-test.true (sym c.byte_of.ensures ∙ c.in_default.is) c.loop-pair.invariant.same))

pub loop-pair-preserved : goal.loop-pair-preserved
loop-pair-preserved c = record {
  same = rw c.push_reserved.ensures.items
      (pair_first c.loop-pair.bytes.items c.as_chunks.result.0.now c.loop-pair.pair-index _ c.in-Some.byte c.loop-pair-test.true (sym c.byte_of.ensures ∙ c.in-Some.is)
      ∙ c.loop-pair.invariant.same);
  room = search rules;
}

pub returns : goal.returns
returns c =
    hex_read c.args.place c.args.word.now c.loop-pair.bytes.items (search rules)
    (sym (pairs_are c.args.word.now c.as_chunks.result.0.now c.if-word-ne0.false c.as_chunks.ensures.front)
    ∙ pairs_done c.loop-pair.bytes.items c.as_chunks.result.0.now c.loop-pair.pair-index _ c.loop-pair-test.false c.loop-pair.invariant.same)
