-- What the plain machine keeps.
use Rattle.std.specs.Prelude.{◌≡◌, ℕ, ◌*◌, ◌<◌, ◌≤◌, List, [], ◌∷◌, ◌++◌, length, map}
use Rattle.std.specs.List.{AllByRecursion}
use Rattle.mr_base.specs.declared.numbers.LaneNo.{LaneNo}
use Rattle.mr_model.specs.declared.ending.Fate.TheVariants.{Waiting}
use Rattle.mr_model.specs.declared.ending.FateLine.{FateLine}
use Rattle.mr_model.specs.declared.entry.Entry.{Entry}
use Rattle.mr_model.specs.declared.limits.Limits.{Limits}
use Rattle.mr_model.specs.Counts.{met}
use Rattle.mr_model.specs.Fate.{fate, fates}
use Rattle.mr_model.specs.Past.{last_index}
use Rattle.mr_model.specs.State.{state}
use Rattle.mr_plain_lists.specs.declared.known.Known.{Known}
use Rattle.mr_plain_lists.specs.declared.known.Meeting.{Meeting}
use Rattle.mr_plain.specs.declared.past.Past.{Past}
use Rattle.mr_plain_lists.specs.Knowing.{AreGroups, awaiting, met_of, state_of}
use Rattle.mr_plain.specs.Pasts.{AreSmall, IsPast}
use Rattle.mr_plain.specs.Sent.{AreSent, IsIndexed}

-- each packet that is still to come has no fate yet
abbrev pub AreFresh : Limits → List Entry → Type 0
AreFresh limits h = (lane : LaneNo) (index : ℕ) → last_index lane h < index →
    fate limits h lane index ≡ Waiting

-- the limits, and the history that was judged
pub record Judged : Type 0 where
  pub limits : Limits
  pub history : List Entry

-- the same with one more entry
abbrev pub with_entry : Judged → Entry → Judged
with_entry j e = record j { history = j.history ++ e ∷ [] }

-- The lists are those that the definitions give of the history.
pub record Holds (limits : Limits) (h : List Entry) (known : Known) (mets : List Meeting)
    (past : Past) (lines : List FateLine) : Type 0 where
  pub small : AreSmall limits
  pub state : state limits h ≡ state_of known
  pub vifs : AllByRecursion (λ v. v.vif < 32) known.vifs.items
  pub groups : AreGroups known.waiting.items
  pub meets : met h ≡ map met_of mets
  pub few : length mets ≤ length h * 64
  -- no tick is longer than 32 bits tell
  pub early : known.moment ≤ length h * 4294967296
  pub left : IsPast limits h past
  pub sent : AreSent h (map awaiting known.waiting.items)
  pub indexed : IsIndexed h
  pub fates : lines ≡ fates limits h
  -- a packet that is still to come has no fate
  pub fresh : AreFresh limits h
