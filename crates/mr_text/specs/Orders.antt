-- Skips stand by lane and then by item, no item twice; live entries by rising number, live vifs by rising index.
use Rattle.std.specs.Prelude.{◌-◌, ◌==◌, ◌&&◌, ◌||◌, Bool, true, nat_lt, Option, Some, None, List, length, slice_get}
use Rattle.mr_lines.specs.declared.skip.Skip.{Skip}
use Rattle.mr_lines.specs.declared.tail.RouteLine.{RouteLine}
use Rattle.mr_lines.specs.declared.tail.VifLine.{VifLine}

-- by lane, and then by item
abbrev pub is_before : Skip → Skip → Bool
is_before a b = nat_lt a.lane.0 b.lane.0 || (a.lane.0 == b.lane.0 && nat_lt a.index b.index)

-- what stands last
abbrev pub last_of : {A : Type 0} → List A → Option A
last_of xs = slice_get xs (length xs - 1)

-- Something may come behind what stands last so far.
abbrev pub comes_behind : {A : Type 0} → (A → A → Bool) → Option A → A → Bool
comes_behind before None x = true
comes_behind before (Some last) x = before last x

-- what may come behind the skips, route lines and vif lines before it
abbrev pub skip_follows : List Skip → Skip → Bool
skip_follows skips s = comes_behind is_before (last_of skips) s

abbrev pub route_follows : List RouteLine → RouteLine → Bool
route_follows routes r = comes_behind (λ a b. nat_lt a.number b.number) (last_of routes) r

abbrev pub vif_follows : List VifLine → VifLine → Bool
vif_follows vifs v = comes_behind (λ a b. nat_lt a.vif b.vif) (last_of vifs) v
