-- The switches pim and assert: pim sets both where it changes, assert sets itself.
use Rattle.std.specs.Prelude.{List, [], ◌∷◌, ◌++◌}
use Rattle.mr_model.specs.declared.ending.Ending.{Ending}
use Rattle.mr_model.specs.declared.entry.Entry.{Entry}
use Rattle.mr_model.specs.declared.entry.Entry.TheVariants.{EndPhase}
use Rattle.mr_model.specs.declared.limits.Limits.{Limits}
use Rattle.mr_model.specs.declared.reply.Reply.TheVariants.{Value}
use Rattle.mr_model.specs.declared.request.Request.TheVariants.{Assert, GetAssert, GetPim, Init, Pim}
use Rattle.mr_rows.specs.Samples.{usual, call, good}

abbrev pub limits : Limits
limits = usual 1 0 (0 ∷ [])

-- up to where pim is on and assert off
abbrev pub apart : List Entry
apart =
    good 1 Init
    ∷ call 1 GetPim (Value 0)
    ∷ good 1 (Assert 5)
    ∷ call 1 GetAssert (Value 1)
    ∷ good 1 (Pim 0)
    ∷ call 1 GetAssert (Value 1)
    ∷ good 1 (Pim 7)
    ∷ call 1 GetPim (Value 1)
    ∷ good 1 (Assert 0)
    ∷ call 1 GetAssert (Value 0)
    ∷ good 1 (Pim 1)
    ∷ call 1 GetAssert (Value 0) ∷ []

abbrev pub history : List Entry
history =
    apart
    ++ good 1 (Pim 0)
    ∷ good 1 (Assert 1)
    ∷ good 1 (Pim 0)
    ∷ call 1 GetPim (Value 0)
    ∷ call 1 GetAssert (Value 1)
    ∷ EndPhase ∷ []

abbrev pub tail : Ending
tail = record { routes = []; vifs = []; fates = [] }
