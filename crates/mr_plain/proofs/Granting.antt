-- The state in which a new entry releases packets is that of the lists but for the entry in front.
use Rattle.std.proofs.Common.{◌≡◌, ◌+◌, Bool, false, not, Option, Some, None, List, [], ◌∷◌, find, refl}
use Rattle.std.specs.List.{list_any}
use Rattle.std.proofs.lemmas.Grind.{common_steps}
use Rattle.std.proofs.Common.{arith}
use Rattle.mr_base.specs.declared.numbers.DaemonNo.{DaemonNo}
use Rattle.mr_base.specs.declared.route.Route.{Route}
use Rattle.mr_model.specs.declared.limits.Limits.{Limits}
use Rattle.mr_model.specs.declared.request.MfcCtl.{MfcCtl}
use Rattle.mr_model.specs.declared.request.Request.TheVariants.{AddMfc, AddProxy}
use Rattle.mr_model.specs.Answer.{made_route}
use Rattle.mr_model.specs.Granting.{route_change, numbered}
use Rattle.mr_model.specs.RouteList.{is_named}
use Rattle.mr_model.specs.State.{State, granted, is_owner}
use Rattle.mr_model.specs.Tables.{changed_by}
use Rattle.mr_model.specs.WaitingList.{Awaiting}
use Rattle.mr_plain_lists.specs.declared.known.Known.{Known}
use Rattle.mr_plain_lists.specs.Knowing.{state_of}
use Rattle.mr_plain.specs.Releasing.{IsGranted}

pub none_found : (test : Route → Bool) (rs : List Route) → list_any test rs ≡ false → find test rs ≡ None
none_found test [] none = refl
none_found test (r ∷ rs) none = grind (arith, common_steps, none_found test rs)

-- the state of the lists with an entry set, where o was found
abbrev with_entry : Known → DaemonNo → MfcCtl → List Awaiting → Option Route → State
with_entry known d c ws o = record (state_of known) {
  tables = changed_by (state_of known).tables (numbered (known.count + 1) (route_change known.vifs.items (not (is_owner (state_of known) d)) c o));
  waiting = ws;
}

new_entry : (known : Known) (d : DaemonNo) (c : MfcCtl) (ws : List Awaiting) (o : Option Route) → o ≡ None → IsGranted known (made_route (state_of known) d c) (with_entry known d c ws o)
new_entry known d c ws None none = record {
  releases = record { vifs = refl; routes = refl; owner = refl; pim = refl; asserts = refl; moment = refl };
  unread = refl;
  attempts = refl;
}
new_entry known d c ws (Some r) none = absurd cc

pub granted_mfc : (limits : Limits) (known : Known) (d : DaemonNo) (c : MfcCtl) → list_any (is_named c.src c.dst None) known.routes.items ≡ false
    → IsGranted known (made_route (state_of known) d c) (granted limits (state_of known) d (AddMfc c))
granted_mfc limits known d c none = new_entry known d c _ (find (is_named c.src c.dst None) known.routes.items) (none_found (is_named c.src c.dst None) known.routes.items none)

pub granted_proxy : (limits : Limits) (known : Known) (d : DaemonNo) (c : MfcCtl) → list_any (is_named c.src c.dst (Some c.parent)) known.routes.items ≡ false
    → IsGranted known (made_route (state_of known) d c) (granted limits (state_of known) d (AddProxy c))
granted_proxy limits known d c none = new_entry known d c _ (find (is_named c.src c.dst (Some c.parent)) known.routes.items) (none_found (is_named c.src c.dst (Some c.parent)) known.routes.items none)
