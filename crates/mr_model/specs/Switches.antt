-- The switches pim and assert (ipmr.c, mroute_do_pim and mroute_do_assert), both off at first: a good MRT_PIM
-- whose truth value differs from pim sets both, a good MRT_ASSERT sets assert.
use Rattle.std.specs.Prelude.{Bool, false, if◌then◌else◌, List, fold}
use Rattle.mr_model.specs.declared.entry.Entry.{Entry}
use Rattle.mr_model.specs.declared.entry.Entry.TheVariants.{Call}
use Rattle.mr_model.specs.declared.reply.Reply.TheVariants.{Good}
use Rattle.mr_model.specs.declared.request.Request.TheVariants.{Pim, Assert}
use Rattle.mr_model.specs.Granting.{truth}
use Rattle.mr_model.specs.Tables.{is_same}

pub record Switches : Type 0 where
  pub pim : Bool
  pub asserts : Bool

abbrev pub switches_after : Switches → Entry → Switches
switches_after s (Call d (Pim n) Good released) =
    record { pim = truth n; asserts = if is_same (truth n) s.pim then s.asserts else truth n }
switches_after s (Call d (Assert n) Good released) = record s { asserts = truth n }
switches_after s _ = s

abbrev pub switches : List Entry → Switches
switches h = fold switches_after (record { pim = false; asserts = false }) h

abbrev pub pim : List Entry → Bool
pim h = (switches h).pim

-- `assert`, which is on
abbrev pub asserts : List Entry → Bool
asserts h = (switches h).asserts
