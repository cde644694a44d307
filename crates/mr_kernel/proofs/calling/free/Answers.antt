use Rattle.std.proofs.Common.{◌≡◌, ◌+◌, ◌∙◌, ℕ, Bool, true, List, map, refl, sym, subst, ap}
use Rattle.std.proofs.lemmas.List.{length-map}
use Rattle.std.specs.List.{AllByRecursion}
use Rattle.mr_model.specs.declared.change.What.{What}
use Rattle.mr_model.specs.declared.packet.Packet.{Packet}
use Rattle.mr_unres.specs.Entries.{waiter_of}
use Rattle.mr_kernel.specs.Changing.{is_made, released_by}
use Rattle.mr_kernel.specs.Flows.{AreKnown, id_of}
use Rattle.mr_kernel.proofs.Freeing.{freed_known}
use Rattle.mr_kernel.proofs.calling.free.Goals as goal

pub returns-in-NewRoute-clause-outcomes : goal.returns-in-NewRoute-clause-outcomes
returns-in-NewRoute-clause-outcomes c limits s st made =
    let there = subst (λ (w : What). is_made c.args.change.now.number w s.tables.routes ≡ true)
    c.in-NewRoute.is made in
    c.release.ensures.outcomes limits s st there
    ∙ ap (λ (w : What). released_by s c.args.change.now.number w
    (map waiter_of c.args.packets.items)) (sym c.in-NewRoute.is)

pub returns-in-NewRoute-clause-stands : goal.returns-in-NewRoute-clause-stands
returns-in-NewRoute-clause-stands c limits s st made =
    let there = subst (λ (w : What). is_made c.args.change.now.number w s.tables.routes ≡ true)
    c.in-NewRoute.is made in
    c.release.ensures.stands limits s st there

pub returns-in-NewRoute-clause-known : goal.returns-in-NewRoute-clause-known
returns-in-NewRoute-clause-known c h known =
    freed_known h c.release.result.items
    (subst (λ (ps : List Packet). AreKnown h ps) (sym c.release.ensures.packets) known)
