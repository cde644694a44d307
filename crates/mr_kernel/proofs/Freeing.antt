-- The turns of a release.
use Rattle.std.proofs.Common.{◌≡◌, ℕ, ◌+◌, ◌≤◌, true, List, [], ◌∷◌, ◌++◌, length, map, fold, refl}
use Rattle.std.proofs.Common.{sym, ap, ◌∙◌, subst, arith, append-nil, length-append, append_assoc}
use Rattle.std.proofs.lemmas.List.{map-append}
use Rattle.std.proofs.lemmas.List.Sums.{fold_push}
use Rattle.std.specs.List.{list_any, AllByRecursion}
use Rattle.mr_base.specs.declared.route.Route.{Route}
use Rattle.mr_model.specs.declared.entry.Entry.{Entry}
use Rattle.mr_model.specs.declared.entry.ReleasedId.{ReleasedId}
use Rattle.mr_model.specs.declared.limits.Limits.{Limits}
use Rattle.mr_model.specs.declared.packet.Freed.{Freed}
use Rattle.mr_model.specs.declared.packet.Packet.{Packet}
use Rattle.mr_model.specs.Answer.{release}
use Rattle.mr_model.specs.Outcome.{judged}
use Rattle.mr_model.specs.RouteList.{has_number}
use Rattle.mr_model.specs.State.{State, reported, after_released}
use Rattle.mr_model.specs.Tables.{Tables}
use Rattle.mr_model.proofs.Stepping.{released_does}
use Rattle.mr_unres.specs.Entries.{waiter_of}
use Rattle.mr_kernel.specs.declared.live.Live.{Live}
use Rattle.mr_kernel.specs.Flows.{AreHeads, AreKnown, AreOwnHeads, IsHeadOf, IsKnown, id_of}
use Rattle.mr_kernel.specs.Standing.{StandsFor}

abbrev pub IsThere : Route → State → Type 0
IsThere route s = list_any (has_number route.number) s.tables.routes ≡ true

abbrev pub after : State → List Freed → State
after s freed = fold after_released s (map id_of freed)

-- some packets are free, others are left
pub record Halfway (route : Route) (old : Live) (all : List Packet) (live : Live)
    (freed : List Freed) (left : List Packet) : Type 0 where
  pub few : length freed + length left ≤ 4
  pub packets : map (λ f. f.packet) freed ++ left ≡ all
  pub outcomes : (limits : Limits) (s : State) → StandsFor limits s old → IsThere route s
      → map id_of freed ++ release (after s freed) route (map waiter_of left)
      ≡ release s route (map waiter_of all)
  pub stands : (limits : Limits) (s : State) → StandsFor limits s old → IsThere route s
      → StandsFor limits (after s freed) live
  pub heads : (h : List Entry) → AreHeads h old.unread → AreOwnHeads h all
      → AreHeads h live.unread × AreOwnHeads h left
  pub tables : live.tables ≡ old.tables
  pub moment : live.moment ≡ old.moment

pub begin_halfway : (route : Route) (old : Live) (all : List Packet) → length all ≤ 4
    → Halfway route old all old [] all
begin_halfway route old all few = record {
  few = omega arith;
  packets = refl;
  outcomes = λ limits s st there. refl;
  stands = λ limits s st there. st;
  heads = λ h heads own. (heads, own);
  tables = refl;
  moment = refl;
}

-- what freeing one packet gives
pub record Frees (route : Route) (old : Live) (p : Packet) (live : Live) (f : Freed) : Type 0 where
  pub outcome : (limits : Limits) (s : State) → StandsFor limits s old → IsThere route s
      → f.outcome ≡ judged s route p.dev p.head.ttl
  pub stands : (limits : Limits) (s : State) → StandsFor limits s old → IsThere route s
      → StandsFor limits (reported s p.lane p.index f.outcome) live
  pub packet : f.packet ≡ p
  pub heads : (h : List Entry) → AreHeads h old.unread → IsHeadOf h p.lane p.index p.head
      → AreHeads h live.unread
  pub tables : live.tables ≡ old.tables
  pub moment : live.moment ≡ old.moment

after_push : (s : State) (freed : List Freed) (f : Freed)
    → after s (freed ++ f ∷ []) ≡ reported (after s freed) f.packet.lane f.packet.index f.outcome
after_push s freed f = ap (λ (ids : List ReleasedId). fold after_released s ids)
    (map-append id_of freed (f ∷ [])) ∙ fold_push after_released s (map id_of freed) (id_of f)

there_after : (route : Route) (s : State) (freed : List Freed) → IsThere route s
    → IsThere route (after s freed)
there_after route s freed there =
    let does = released_does s (map id_of freed) in
    subst (λ (t : Tables). list_any (has_number route.number) t.routes ≡ true)
    (sym does.tables) there

pub next_halfway : (route : Route) (old live new : Live) (all left : List Packet)
    (freed : List Freed) (p : Packet) (f : Freed)
    → Halfway route old all live freed (p ∷ left) → Frees route live p new f
    → Halfway route old all new (freed ++ f ∷ []) left
next_halfway route old live new all left freed p f half frees = record {
  few = rw length-append (omega (arith, half.few));
  packets = rw (map-append, append_assoc, frees.packet) half.packets;
  outcomes = λ limits s st there.
      let o = frees.outcome limits (after s freed) (half.stands limits s st there)
      (there_after route s freed there) in
      rw (after_push s freed f, map-append, append_assoc, frees.packet, o)
      (half.outcomes limits s st there);
  stands = λ limits s st there.
      let stands = frees.stands limits (after s freed) (half.stands limits s st there)
      (there_after route s freed there) in
      rw (after_push s freed f, frees.packet) stands;
  heads = λ h heads own. let both = half.heads h heads own in
      (frees.heads h both.0 both.1.0, both.1.1);
  tables = frees.tables ∙ half.tables;
  moment = frees.moment ∙ half.moment;
}

pub all_outcomes : (route : Route) (old live : Live) (all left : List Packet)
    (freed : List Freed) → left ≡ [] → Halfway route old all live freed left
    → (limits : Limits) (s : State) → StandsFor limits s old → IsThere route s
    → map id_of freed ≡ release s route (map waiter_of all)
all_outcomes route old live all left freed none half limits s st there =
    let done = subst (λ (ps : List Packet). Halfway route old all live freed ps) none half in
    sym (append-nil (map id_of freed)) ∙ done.outcomes limits s st there

pub freed_known : (h : List Entry) (freed : List Freed) → AreKnown h (map (λ f. f.packet) freed)
    → AllByRecursion (λ f. IsKnown h f.packet) freed
freed_known h [] all = tt
freed_known h (f ∷ fs) all = (all.0, freed_known h fs all.1)
