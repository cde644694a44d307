-- Caches stay sound.
use Rattle.std.proofs.Common.{◌≡◌, refl, ℕ, ◌≤◌, Bool, List, [], ◌∷◌, length, filter, arith}
use Rattle.std.proofs.lemmas.Grind.{common_steps}
use Rattle.mr_base.specs.declared.route.Route.{Route}
use Rattle.mr_model.specs.RouteList.{changed_to, change_first, remove_first, routes_left}
use Rattle.mr_mfc.specs.Caches.{IsFalling, IsSound}
use Rattle.mr_mfc.proofs.Falling.{change_falls, remove_falls, flush_falls}

-- no more entries, whose numbers fall, are sound in the same room
fewer_sound : (rs new : List Route) (slots : ℕ) → IsSound (record { routes = rs; slots = slots }) → length new ≤ length rs → IsFalling new →
    IsSound (record { routes = new; slots = slots })
fewer_sound rs new slots sound fewer falls = record {
  some = sound.some;
  most = sound.most;
  within = omega (arith, sound.within, fewer);
  falling = falls;
}

length_changed : (test : Route → Bool) (change : Route → Route) (rs : List Route) → length (change_first test change rs) ≡ length rs
length_changed test change [] = refl
length_changed test change (r ∷ rs) = grind (arith, common_steps, length_changed test change rs)

length_removed : (test : Route → Bool) (rs : List Route) → length (remove_first test rs) ≤ length rs
length_removed test [] = omega arith
length_removed test (r ∷ rs) = grind (arith, common_steps, length_removed test rs)

length_kept : (test : Route → Bool) (rs : List Route) → length (filter test rs) ≤ length rs
length_kept test [] = omega arith
length_kept test (r ∷ rs) = grind (arith, common_steps, length_kept test rs)

pub change_sound : (test : Route → Bool) (parent : ℕ) (ttls : List ℕ) (fixed : Bool) (rs new : List Route) (slots : ℕ) →
    IsSound (record { routes = rs; slots = slots }) → new ≡ change_first test (changed_to parent ttls fixed) rs →
    IsSound (record { routes = new; slots = slots })
change_sound test parent ttls fixed rs new slots sound is =
    rw is
    (fewer_sound rs _ slots sound
    (omega (arith, length_changed test (changed_to parent ttls fixed) rs))
    (change_falls test parent ttls fixed rs sound.falling))

pub remove_sound : (test : Route → Bool) (rs new : List Route) (slots : ℕ) →
    IsSound (record { routes = rs; slots = slots }) → new ≡ remove_first test rs → IsSound (record { routes = new; slots = slots })
remove_sound test rs new slots sound is =
    rw is (fewer_sound rs _ slots sound (length_removed test rs) (remove_falls test rs sound.falling))

pub flush_sound : (loose fixed : Bool) (rs new : List Route) (slots : ℕ) →
    IsSound (record { routes = rs; slots = slots }) → new ≡ routes_left loose fixed rs → IsSound (record { routes = new; slots = slots })
flush_sound loose fixed rs new slots sound is =
    rw is (fewer_sound rs _ slots sound (length_kept _ rs) (flush_falls loose fixed rs sound.falling))
