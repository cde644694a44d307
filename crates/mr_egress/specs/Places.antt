-- What a walk over a history knows of the vifs at its place.
use Rattle.std.specs.Prelude.{◌≡◌, ℕ, ◌+◌, ◌<◌, ◌==◌, Bool, false, not, Option, Some, None, List, [], ◌∷◌, ◌++◌}
use Rattle.mr_base.specs.declared.device.Device.{Device}
use Rattle.mr_base.specs.declared.numbers.DaemonNo.{DaemonNo}
use Rattle.mr_base.specs.declared.numbers.Mask.{Mask}
use Rattle.mr_base.specs.declared.vif_record.VifRecord.{VifRecord}
use Rattle.mr_model.specs.declared.entry.Entry.{Entry}
use Rattle.mr_model.specs.declared.entry.Entry.TheVariants.{Call}
use Rattle.mr_model.specs.declared.limits.Limits.{Limits}
use Rattle.mr_model.specs.declared.reply.Reply.TheVariants.{Good}
use Rattle.mr_model.specs.declared.request.Request.{Request}
use Rattle.mr_model.specs.declared.request.Request.TheVariants.{Finish, AddVif, DelVif, Flush}
use Rattle.mr_model.specs.State.{State, state, owner_by}
use Rattle.mr_model.specs.Verdict.{is_in}
use Rattle.mr_model.specs.VifList.{vif_at, add_vif_error, del_vif_error, new_vif, without_vif, vifs_kept}
use Rattle.mr_egress.specs.Copies.{leads_to}

-- a place of a history, for a device: what the entries before it leave
pub record Place : Type 0 where
  pub device : ℕ
  -- in the order in which they were added
  pub vifs : List VifRecord
  pub owner : Option DaemonNo
  -- how many entries stand before it
  pub count : ℕ

abbrev pub place_in : ℕ → State → Place
place_in dev s = record { device = dev; vifs = s.tables.vifs; owner = s.owner; count = s.count }

-- the place behind a history
abbrev pub place_of : Limits → ℕ → List Entry → Place
place_of limits dev g = place_in dev (state limits g)

abbrev pub owns : Option DaemonNo → DaemonNo → Bool
owns None d = false
owns (Some o) d = o.0 == d.0

-- the vifs after a good request, which is call n; `fixed`: who asks is not the owner
abbrev pub vifs_by : List Device → List VifRecord → Bool → ℕ → Request → List VifRecord
vifs_by devices vs fixed n (AddVif c) = vs ++ new_vif devices c fixed n ∷ []
vifs_by devices vs fixed n (DelVif i) = without_vif vs i
vifs_by devices vs fixed n Finish = vifs_kept 5 vs
vifs_by devices vs fixed n (Flush bits) = vifs_kept bits vs
vifs_by devices vs fixed n _ = vs

-- behind a good call
abbrev pub called : List Device → Place → DaemonNo → Request → Place
called devices p d r = record p {
  vifs = vifs_by devices p.vifs (not (owns p.owner d)) (p.count + 1) r;
  owner = owner_by p.owner d r;
  count = p.count + 1;
}

-- behind one more entry
abbrev pub behind : List Device → Place → Entry → Place
behind devices p (Call d r Good released) = called devices p d r
behind devices p _ = record p { count = p.count + 1 }

-- the vifs do not refuse a request
abbrev pub Allows : List Device → List VifRecord → Request → Type 0
Allows devices vs (AddVif c) = add_vif_error devices vs c ≡ None
Allows devices vs (DelVif i) = del_vif_error vs i ≡ None
Allows devices vs _ = Unit {0}

-- the entry may stand at a place, as far as its vifs know
abbrev pub MayStand : List Device → List VifRecord → Entry → Type 0
MayStand devices vs (Call d r Good released) = Allows devices vs r
MayStand devices vs _ = Unit {0}

-- the mask has just the vifs by which packets leave by a device
abbrev pub AreWays : ℕ → List VifRecord → Mask → Type 0
AreWays dev vs ways = (i : ℕ) → i < 32 → is_in ways i ≡ leads_to dev (vif_at vs i)
