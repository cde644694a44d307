-- What a caller did, one thing after another.
use Rattle.std.specs.Prelude.{ℕ, Option}
use Rattle.mr_model.specs.declared.message.Told.{Told}
use Rattle.mr_model.specs.declared.reply.Reply.{Reply}
use Rattle.mr_model.specs.declared.request.Request.{Request}

pub data Deed : Type 0 where
  -- it made this call, and got this answer
  Asked : Request → Reply → Deed
  -- it asked for a report, and got this one or none
  Received : Option Told → Deed
  -- it let so many milliseconds pass
  Ticked : ℕ → Deed
