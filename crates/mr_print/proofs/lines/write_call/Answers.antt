use Rattle.std.proofs.Common.{◌++◌, ◌∷◌, codes, decimal}
use Rattle.mr_lines.specs.Lines.{request_words, reply_words}
use Rattle.mr_print.proofs.WritingLemmas.{line_put}
use Rattle.mr_print.proofs.lines.write_call.Goals as goal

pub returns : goal.returns
returns c =
    line_put _ _ _ _ _ (codes "call" ∷ decimal c.args.daemon.0 ∷ (request_words c.args.request.now ++ codes "=" ∷ reply_words c.args.reply.now))
    c.in_ok-write_number.ensures c.in_ok-write_call_words.ensures c.in_ok-extend_from_slice.ensures.items
