-- The 72 entries in parts, since one search computes no more than some thirty.
use Rattle.std.proofs.Common.{rules, [], take, drop}
use Rattle.mr_model.specs.Legal.{LegalFrom}
use Rattle.mr_rows.specs.NoRoomTwice.{limits, history}
use Rattle.mr_rows.proofs.Parts.{legal_joined}
use Rattle.mr_rows.proofs.waiting.no_room_twice.Goals as goal

first : LegalFrom limits [] (take 20 history)
first = search rules

second : LegalFrom limits (take 20 history) (take 20 (drop 20 history))
second = search rules

third : LegalFrom limits (take 40 history) (take 20 (drop 40 history))
third = search rules

fourth : LegalFrom limits (take 60 history) (drop 60 history)
fourth = search rules

pub returns-clause-legal : goal.returns-clause-legal
returns-clause-legal c =
    legal_joined limits [] (take 20 history) (drop 20 history) first
    (legal_joined limits (take 20 history) (take 20 (drop 20 history)) (drop 40 history) second
    (legal_joined limits (take 40 history) (take 20 (drop 40 history)) (drop 60 history) third fourth))
