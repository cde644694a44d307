-- No packet waits for an entry that is live.
use Rattle.std.proofs.Common.{◌≡◌, ℕ, ◌+◌, ◌||◌, Bool, true, false, not, if◌then◌else◌, Option, Some, None, is_some, List, [], ◌∷◌, ◌++◌, find, refl, sym, subst, subst₂, ◌∙◌}
use Rattle.std.proofs.lemmas.Bool.{or_parts, or_from}
use Rattle.std.specs.List.{list_any}
use Rattle.mr_base.specs.declared.numbers.Addr.{Addr}
use Rattle.mr_base.specs.declared.numbers.DaemonNo.{DaemonNo}
use Rattle.mr_base.specs.declared.numbers.Mask.{Mask}
use Rattle.mr_base.specs.declared.route.Route.{Route}
use Rattle.mr_base.specs.declared.vif_record.VifRecord.{VifRecord}
use Rattle.mr_model.specs.declared.change.What.TheVariants.{Flush}
use Rattle.mr_model.specs.declared.entry.Entry.{Entry}
use Rattle.mr_model.specs.declared.entry.Entry.TheVariants.{Call, Slow, Tick, Recv}
use Rattle.mr_model.specs.declared.flow.Flow.{Flow}
use Rattle.mr_model.specs.declared.limits.Limits.{Limits}
use Rattle.mr_model.specs.declared.outcome.Outcome.TheVariants as outcome
use Rattle.mr_model.specs.declared.reply.Reply.TheVariants.{Good}
use Rattle.mr_model.specs.declared.request.MfcCtl.{MfcCtl}
use Rattle.mr_model.specs.declared.request.Request.{Request}
use Rattle.mr_model.specs.declared.request.Request.TheVariants as request
use Rattle.mr_model.specs.declared.verdict.Verdict.TheVariants as verdict
use Rattle.mr_model.specs.Found.{or_else, wildcard_in}
use Rattle.mr_model.specs.Granting.{route_change}
use Rattle.mr_model.specs.Legal.{Agrees, IsLegal}
use Rattle.mr_model.specs.Outcome.{decided, outcome_met, outcome_in}
use Rattle.mr_model.specs.RouteList.{is_entry, is_named, new_route, has_number, changed_to, change_first, remove_first}
use Rattle.mr_model.specs.State.{State, state, step, granted, is_there, is_owner}
use Rattle.mr_model.specs.Tables.{Tables, routes_after}
use Rattle.mr_model.specs.VifList.{vif_on, has_flag}
use Rattle.mr_model.specs.WaitingList.{Waiter, Awaiting, is_awaiting, park, without_awaiting}
use Rattle.mr_model.proofs.Induction.{state_induction}
use Rattle.mr_model.proofs.Stepping.{released_does}
use Rattle.mr_laws.specs.Served.{is_served}
use Rattle.mr_laws.proofs.Keys.{none_filtered, eqb_swap}

abbrev pub Unserved : List Route → List Awaiting → Type 0
Unserved routes ws = list_any (is_served routes) ws ≡ false

-- the entries of one list have no source and group that the other's have not
abbrev Fewer : List Route → List Route → Type 0
Fewer new old = (src dst : Addr) → list_any (is_entry src dst) old ≡ false → list_any (is_entry src dst) new ≡ false

fewer_serve : (new old : List Route) (ws : List Awaiting) → Fewer new old → Unserved old ws → Unserved new ws
fewer_serve new old [] less p = refl
fewer_serve new old (a ∷ ws) less p =
    let parts = or_parts (is_served old a) (list_any (is_served old) ws) p in
    or_from (is_served new a) (list_any (is_served new) ws) (less a.src a.dst parts.0) (fewer_serve new old ws less parts.1)

-- a change of an entry, or its removal, makes no new name
changed_fewer : (test : Route → Bool) (parent : ℕ) (ttls : List ℕ) (fixed : Bool) (rs : List Route) (src dst : Addr) → list_any (is_entry src dst) rs ≡ false → list_any (is_entry src dst) (change_first test (changed_to parent ttls fixed) rs) ≡ false
changed_fewer test parent ttls fixed [] src dst p = refl
changed_fewer test parent ttls fixed (r ∷ rs) src dst p =
    let parts = or_parts (is_entry src dst r) (list_any (is_entry src dst) rs) p in
    let more = changed_fewer test parent ttls fixed rs src dst parts.1 in
    elim (test r) as (λ b. list_any (is_entry src dst) (if b then changed_to parent ttls fixed r ∷ rs else r ∷ change_first test (changed_to parent ttls fixed) rs) ≡ false) [
      | true ↦ p
      | false ↦ or_from (is_entry src dst r) _ parts.0 more
    ]

removed_fewer : (test : Route → Bool) (rs : List Route) (src dst : Addr) → list_any (is_entry src dst) rs ≡ false → list_any (is_entry src dst) (remove_first test rs) ≡ false
removed_fewer test [] src dst p = refl
removed_fewer test (r ∷ rs) src dst p =
    let parts = or_parts (is_entry src dst r) (list_any (is_entry src dst) rs) p in
    let more = removed_fewer test rs src dst parts.1 in
    elim (test r) as (λ b. list_any (is_entry src dst) (if b then rs else r ∷ remove_first test rs) ≡ false) [
      | true ↦ parts.1
      | false ↦ or_from (is_entry src dst r) _ parts.0 more
    ]

-- a new entry serves none of those that are of another source and group
added_serves : (x : Route) (rs : List Route) (ws : List Awaiting) → list_any (is_served rs) ws ≡ false → Unserved (x ∷ rs) (without_awaiting ws x.src x.dst)
added_serves x rs [] p = refl
added_serves x rs (a ∷ ws) p = by (is_awaiting x.src x.dst a) refl (added_serves x rs ws parts.1)
  where
    parts : (is_served rs a ≡ false) × (list_any (is_served rs) ws ≡ false)
    parts = or_parts (is_served rs a) (list_any (is_served rs) ws) p

    by : (b : Bool) → is_awaiting x.src x.dst a ≡ b → Unserved (x ∷ rs) (without_awaiting ws x.src x.dst) → Unserved (x ∷ rs) (if not b then a ∷ without_awaiting ws x.src x.dst else without_awaiting ws x.src x.dst)
    by true same more = more
    by false other more =
        let here : is_entry a.src a.dst x ≡ false =
        rw (eqb_swap x.src.0 a.src.0, eqb_swap x.dst.0 a.dst.0) other in
        or_from (is_entry a.src a.dst x || list_any (is_entry a.src a.dst) rs) _ (or_from (is_entry a.src a.dst x) (list_any (is_entry a.src a.dst) rs) here parts.0) more

pub any_found : (test : Route → Bool) (rs : List Route) → list_any test rs ≡ is_some (find test rs)
any_found test [] = refl
any_found test (r ∷ rs) =
    let more = any_found test rs in
    elim (test r) as (λ b. (b || list_any test rs) ≡ is_some (if b then Some r else find test rs)) [ true ↦ refl | false ↦ more ]

-- an entry that is made takes what waits for it, one that changes keeps its name
made_unserved : (vifs : List VifRecord) (n : ℕ) (fixed : Bool) (c : MfcCtl) (rs : List Route) (ws : List Awaiting) (o : Option Route) → Unserved rs ws → Unserved (routes_after rs n (route_change vifs fixed c o)) (if is_some o then ws else without_awaiting ws c.src c.dst)
made_unserved vifs n fixed c rs ws None p = added_serves (new_route vifs c fixed n) rs ws p
made_unserved vifs n fixed c rs ws (Some r) p =
    fewer_serve _ rs ws (changed_fewer (has_number r.number) c.parent _ (r.fixed || fixed) rs) p

named_unserved : (limits : Limits) (s : State) (d : DaemonNo) (c : MfcCtl) (parent : Option ℕ) → Unserved s.tables.routes s.waiting → Unserved (routes_after s.tables.routes (s.count + 1) (route_change s.tables.vifs (not (is_owner s d)) c (find (is_named c.src c.dst parent) s.tables.routes))) (if is_there s c parent then s.waiting else without_awaiting s.waiting c.src c.dst)
named_unserved limits s d c parent p =
    let o = find (is_named c.src c.dst parent) s.tables.routes in
    subst (λ (b : Bool). Unserved (routes_after s.tables.routes (s.count + 1) (route_change s.tables.vifs (not (is_owner s d)) c o)) (if b then s.waiting else without_awaiting s.waiting c.src c.dst))
    (sym (any_found (is_named c.src c.dst parent) s.tables.routes))
    (made_unserved s.tables.vifs (s.count + 1) (not (is_owner s d)) c s.tables.routes s.waiting o p)

granted_unserved : (limits : Limits) (s : State) (d : DaemonNo) (r : Request) → Unserved s.tables.routes s.waiting → Unserved (granted limits s d r).tables.routes (granted limits s d r).waiting
granted_unserved limits s d request.Finish p = refl
granted_unserved limits s d (request.Flush bits) p =
    let kept = fewer_serve (routes_after s.tables.routes (s.count + 1) (Flush bits)) s.tables.routes s.waiting (λ src dst q. none_filtered (is_entry src dst) _ s.tables.routes q) p in
    elim (has_flag bits 1) as (λ b. Unserved (routes_after s.tables.routes (s.count + 1) (Flush bits)) (if b then [] else s.waiting)) [ true ↦ refl | false ↦ kept ]
granted_unserved limits s d (request.AddMfc c) p = named_unserved limits s d c None p
granted_unserved limits s d (request.AddProxy c) p = named_unserved limits s d c (Some c.parent) p
granted_unserved limits s d (request.DelMfc k) p = fewer_serve _ s.tables.routes s.waiting (removed_fewer _ s.tables.routes) p
granted_unserved limits s d (request.DelProxy k) p = fewer_serve _ s.tables.routes s.waiting (removed_fewer _ s.tables.routes) p
granted_unserved limits s d r p = p

-- the outcome of a packet that meets an entry is not that it waits
pub met_decided : (s : State) (r : Route) (passed copied : Bool) (n : ℕ) (input vif : Option ℕ) (outs : Mask) → outcome.Parked ≡ decided s r (if passed then (if copied then verdict.Register n input outs else verdict.Forward n input outs) else verdict.Wrong n vif) → ⊥
met_decided s r true true n input vif outs p = cc
met_decided s r true false n input vif outs p = cc
met_decided s r false copied n input vif outs p = cc

pub parked_meets_none : (limits : Limits) (s : State) (flow : Flow) → outcome.Parked ≡ outcome_in limits s flow → list_any (is_entry flow.src flow.dst) s.tables.routes ≡ false
parked_meets_none limits s flow p = any_found (is_entry flow.src flow.dst) s.tables.routes ∙ by (find (is_entry flow.src flow.dst) s.tables.routes) p
  where
    by : (o : Option Route) → outcome.Parked ≡ outcome_met limits s flow (or_else o (wildcard_in s.tables.routes (vif_on s.tables.vifs flow.dev) flow.dst)) → is_some o ≡ false
    by None q = refl
    by (Some r) q = absurd (met_decided s r _ _ _ _ _ _ q)

parked_unserved : (rs : List Route) (now : ℕ) (w : Waiter) (ws : List Awaiting) → list_any (is_entry w.flow.src w.flow.dst) rs ≡ false → Unserved rs ws → Unserved rs (park ws now w)
parked_unserved rs now w [] new p = or_from (list_any (is_entry w.flow.src w.flow.dst) rs) false new refl
parked_unserved rs now w (a ∷ ws) new p =
    let parts = or_parts (is_served rs a) (list_any (is_served rs) ws) p in
    let more = parked_unserved rs now w ws new parts.1 in
    elim (is_awaiting w.flow.src w.flow.dst a) as (λ b. Unserved rs (if b then record a { packets = a.packets ++ w ∷ [] } ∷ ws else a ∷ park ws now w)) [
      | true ↦ p
      | false ↦ or_from (is_served rs a) _ parts.0 more
    ]

unserved_step : (limits : Limits) (g : List Entry) (e : Entry) → Agrees limits g e → Unserved (state limits g).tables.routes (state limits g).waiting → Unserved (step limits (state limits g) e).tables.routes (step limits (state limits g) e).waiting
unserved_step limits g (Call d r Good released) a p =
    let after = released_does (granted limits (state limits g) d r) released in
    subst₂ (λ (t : Tables) (ws : List Awaiting). Unserved t.routes ws) (sym after.tables) (sym after.waiting) (granted_unserved limits (state limits g) d r p)
unserved_step limits g (Slow lane index look flow outcome.Parked) a p =
    parked_unserved (state limits g).tables.routes (state limits g).now (record { lane = lane; index = index; flow = flow }) (state limits g).waiting
    (parked_meets_none limits (state limits g) flow a.is_outcome) p
unserved_step limits g (Tick d ms) a p = none_filtered (is_served (state limits g).tables.routes) _ (state limits g).waiting p
unserved_step limits g (Recv d None) a p = p
unserved_step limits g (Recv d (Some m)) a p = p
unserved_step limits g e a p = p

pub none_waits_served : (limits : Limits) (h : List Entry) → IsLegal limits h → Unserved (state limits h).tables.routes (state limits h).waiting
none_waits_served limits h l =
    state_induction limits (λ s. Unserved s.tables.routes s.waiting) refl (λ g e legal a p. unserved_step limits g e a p) h l
