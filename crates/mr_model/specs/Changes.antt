-- The changes that the good calls of a history make in the tables (ipmr.c, ip_mroute_setsockopt).
use Rattle.std.specs.Prelude.{ℕ, ◌+◌, not, nat_le, List, [], ◌∷◌, ◌++◌, filter, option_map, option_to_list}
use Rattle.mr_model.specs.declared.change.Change.{Change}
use Rattle.mr_model.specs.declared.entry.Entry.{Entry}
use Rattle.mr_model.specs.declared.entry.Entry.TheVariants.{Call}
use Rattle.mr_model.specs.declared.limits.Limits.{Limits}
use Rattle.mr_model.specs.declared.reply.Reply.TheVariants.{Good}
use Rattle.mr_model.specs.Granting.{what_of, numbered}
use Rattle.mr_model.specs.State.{State, state, is_owner}

-- the change that an entry makes in a state, if it makes one; also one that sets what was there before
abbrev pub change_by : Limits → State → Entry → List Change
change_by limits s (Call d r Good released) =
    option_to_list (option_map (numbered (s.count + 1)) (what_of limits.devices s.tables (not (is_owner s d)) r))
change_by limits s _ = []

-- those of the entries h behind the history g
abbrev pub changes_from : Limits → List Entry → List Entry → List Change
changes_from limits g [] = []
changes_from limits g (e ∷ h) = change_by limits (state limits g) e ++ changes_from limits (g ++ e ∷ []) h

abbrev pub changes : Limits → List Entry → List Change
changes limits h = changes_from limits [] h

-- those that the first n entries made
abbrev pub up_to : ℕ → List Change → List Change
up_to n cs = filter (λ c. nat_le c.number n) cs
