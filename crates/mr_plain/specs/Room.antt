-- What an entry needs of the lists that take it.
use Rattle.std.specs.Prelude.{◌≡◌, ℕ, ◌+◌, ◌<◌, ◌≤◌, IfSome, List, find, length}
use Rattle.std.specs.Vec.{vec_len, vec_capacity}
use Rattle.mr_model.specs.declared.entry.Entry.{Entry}
use Rattle.mr_model.specs.declared.entry.Entry.TheVariants.{Call, Slow, Settle}
use Rattle.mr_model.specs.declared.outcome.Outcome.TheVariants.{Parked}
use Rattle.mr_model.specs.declared.reply.Reply.TheVariants.{Good}
use Rattle.mr_model.specs.WaitingList.{is_awaiting}
use Rattle.mr_plain_lists.specs.Finding.{HasPlace}
use Rattle.mr_plain_lists.specs.Knowing.{awaiting}
use Rattle.mr_plain_lists.specs.SmallRequests.{IsSmall}
use Rattle.mr_plain_lists.specs.declared.known.Group.{Group}
use Rattle.mr_plain_lists.specs.declared.known.Known.{Known}

-- a good call names a vif or a parent that there may be
abbrev pub IsSmallEntry : Entry → Type 0
IsSmallEntry (Call d r Good released) = IsSmall r
IsSmallEntry _ = Unit {0}

-- a packet that is parked finds room beside those of its source and group
abbrev pub JoinsOne : Entry → List Group → Type 0
JoinsOne (Slow lane index look flow Parked) groups =
    IfSome (find (λ g. is_awaiting flow.src flow.dst (awaiting g)) groups) (λ g. g.count < 4)
JoinsOne _ groups = Unit {0}

-- how many packets an entry decides
abbrev pub size_of : Entry → ℕ
size_of (Call d r reply released) = length released
size_of (Slow lane index look flow o) = 1
size_of (Settle lane records) = length records
size_of _ = 0

-- there is room for one vif, one entry and one source and group, and for what the entry's packets
-- tell and attempt
pub record HasRoom (size : ℕ) (k : Known) : Type 0 where
  pub vifs : vec_len k.vifs < vec_capacity k.vifs
  pub routes : HasPlace k.routes
  pub waiting : vec_len k.waiting < vec_capacity k.waiting
  pub unread : vec_len k.unread + size ≤ vec_capacity k.unread
  pub attempts : vec_len k.attempts + size ≤ vec_capacity k.attempts

-- only the room in the lists differs
pub record SameLists (old new : Known) : Type 0 where
  pub count : new.count ≡ old.count
  pub owner : new.owner ≡ old.owner
  pub vifs : new.vifs.items ≡ old.vifs.items
  pub routes : new.routes.items ≡ old.routes.items
  pub pim : new.pim ≡ old.pim
  pub asserts : new.asserts ≡ old.asserts
  pub moment : new.moment ≡ old.moment
  pub waiting : new.waiting.items ≡ old.waiting.items
  pub unread : new.unread.items ≡ old.unread.items
  pub attempts : new.attempts.items ≡ old.attempts.items
