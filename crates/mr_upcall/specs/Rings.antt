-- How a queue lies in its slots.
use Rattle.std.specs.Prelude.{◌≡◌, ℕ, ◌<◌, ◌≤◌, List, length, Option}
use Rattle.circular_buffer.specs.Places.{somes, filled, from_start}

module _ {X : Type 0} where
  -- the messages, oldest first: what the slots hold from the oldest on, and round their end
  abbrev pub in_ring : ℕ → List (Option X) → List X
  in_ring oldest slots = somes (from_start oldest slots)

  -- Of n slots so many hold a message, in a row from the oldest on, and the others none.
  pub record IsRing (n oldest count : ℕ) (slots : List (Option X)) : Type 0 where
    pub places : length slots ≡ n
    pub start : oldest < n
    pub fits : count ≤ n
    pub counted : count ≡ length (in_ring oldest slots)
    pub laid : from_start oldest slots ≡ filled (in_ring oldest slots) n
