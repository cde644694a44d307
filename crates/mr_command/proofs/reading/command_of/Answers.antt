use Rattle.std.proofs.Common.{rules, sym}
use Rattle.std.specs.Prelude.{string_bytes}
use Rattle.mr_command.proofs.Forms.{few, many}
use Rattle.mr_command.proofs.reading.command_of.Goals as goal
use Rattle.mr_command.proofs.reading.command_of.Goals.{in_default-via-then-words-lt2, in_default-via-else-words-lt2+else-words-lt3+else-words-lt4+else-words-lt5}

pub returns-in_default-clause-asked : goal.returns-in_default-clause-asked
returns-in_default-clause-asked c =
    elim c.in_default.branch [
      | in_default-via-then-words-lt2 w ↦ sym (few string_bytes c.args.words.now (search rules))
      | in_default-via-else-words-lt2+else-words-lt3+else-words-lt4+else-words-lt5 w ↦ sym (many string_bytes c.args.words.now (search rules))
    ]
