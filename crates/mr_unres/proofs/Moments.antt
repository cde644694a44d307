-- The machine's waiting list has no entry from a later moment, whatever a call does to it.
use Rattle.std.proofs.Common.{◌≡◌, ℕ, ◌≤◌, Bool, true, false, List, [], ◌∷◌, ◌++◌, filter, refl, arith}
use Rattle.std.specs.Prelude.{if◌then◌else◌}
use Rattle.mr_model.specs.WaitingList.{Waiter, Awaiting, is_awaiting, park}
use Rattle.mr_unres.specs.Entries.{NoneAfter}

pub none_after_later : (m n : ℕ) (ws : List Awaiting) → m ≤ n → NoneAfter m ws → NoneAfter n ws
none_after_later m n [] le none = tt
none_after_later m n (a ∷ ws) le none = (omega (arith, none.0), none_after_later m n ws le none.1)

pub none_after_park : (now : ℕ) (w : Waiter) (ws : List Awaiting) → NoneAfter now ws → NoneAfter now (park ws now w)
none_after_park now w [] none = (omega arith, tt)
none_after_park now w (a ∷ ws) none = by (is_awaiting w.flow.src w.flow.dst a) (none_after_park now w ws none.1)
  where
    by : (b : Bool) → NoneAfter now (park ws now w)
        → NoneAfter now (if b then record a { packets = a.packets ++ w ∷ [] } ∷ ws else a ∷ park ws now w)
    by true more = none
    by false more = (none.0, more)

pub none_after_filter : (now : ℕ) (p : Awaiting → Bool) (ws : List Awaiting) → NoneAfter now ws → NoneAfter now (filter p ws)
none_after_filter now p [] none = tt
none_after_filter now p (a ∷ ws) none = by (p a) refl (none_after_filter now p ws none.1)
  where
    by : (b : Bool) → p a ≡ b → NoneAfter now (filter p ws) → NoneAfter now (filter p (a ∷ ws))
    by true so more = rw so (none.0, more)
    by false so more = rw so more
