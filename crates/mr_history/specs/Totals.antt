-- What the totals kept are: the sums over the packets that met entries.
use Rattle.std.specs.Prelude.{◌≡◌, ℕ, ◌+◌, ◌-◌, ◌^◌, ◌<◌, min, nat_le, if◌then◌else◌, Option, Some}
use Rattle.std.specs.Prelude.{None, option_map, List, [], ◌∷◌, ◌++◌, map, length, slice_index_or}
use Rattle.std.specs.List.{AllByRecursion}
use Rattle.mr_model.specs.Counts.{Met, met_by, route_sums, vif_sums}
use Rattle.mr_model.specs.declared.entry.ReleasedId.{ReleasedId}
use Rattle.mr_model.specs.declared.reply.RouteTotals.{RouteTotals}
use Rattle.mr_history.specs.declared.meeting.Meeting.{Meeting}
use Rattle.mr_history.specs.declared.totals.Totals.{Totals}
use Rattle.mr_history.specs.declared.totals.VifKept.{VifKept}
use Rattle.mr_history.specs.Journals.{numbered_vif}
use Rattle.mr_history.specs.Numbers.{numbers_of}

-- the packet that met an entry, as the definitions see it
abbrev pub met_of : Meeting → Met
met_of m = record {
  place = m.place;
  entry = m.entry;
  input = m.input;
  outs = m.outs;
  wrong = m.wrong;
  length = m.length;
}

abbrev pub vif_numbers : List (Option VifKept) → List (Option ℕ)
vif_numbers vifs = map (option_map (λ k. k.number)) vifs

-- the vif that is kept at an index
abbrev pub vif_at : List (Option VifKept) → ℕ → Option VifKept
vif_at vifs i = slice_index_or vifs i None

-- a sum of 64 bits, which stands still at its end
abbrev pub sum_64 : ℕ → ℕ → ℕ
sum_64 a b = min (a + b) (2 ^ 64 - 1)

-- the totals of an entry with one packet more
abbrev pub route_with : Met → RouteTotals → RouteTotals
route_with m t = record {
  packets = sum_64 t.packets 1;
  bytes = sum_64 t.bytes m.length;
  wrong = sum_64 t.wrong (if m.wrong then 1 else 0);
}

-- the totals of a vif with one packet more that came in, where it was made by then
abbrev pub with_in : Met → Option VifKept → Option VifKept
with_in m None = None
with_in m (Some k) =
    if nat_le k.number m.place
    then Some (record {
      number = k.number;
      totals = record k.totals {
        packets_in = sum_64 k.totals.packets_in 1;
        bytes_in = sum_64 k.totals.bytes_in m.length;
      };
    })
    else Some k

-- the same with one packet more that went out
abbrev pub with_out : Met → Option VifKept → Option VifKept
with_out m None = None
with_out m (Some k) =
    if nat_le k.number m.place
    then Some (record {
      number = k.number;
      totals = record k.totals {
        packets_out = sum_64 k.totals.packets_out 1;
        bytes_out = sum_64 k.totals.bytes_out m.length;
      };
    })
    else Some k

-- what came in at vif i is counted
abbrev pub IsIn : ℕ → List Met → Option VifKept → Type 0
IsIn i ms None = Unit {0}
IsIn i ms (Some k) =
    (k.totals.packets_in ≡ (vif_sums ms (numbered_vif i k.number)).packets_in)
    × (k.totals.bytes_in ≡ (vif_sums ms (numbered_vif i k.number)).bytes_in)

-- what went out there is counted
abbrev pub IsOut : ℕ → List Met → Option VifKept → Type 0
IsOut i ms None = Unit {0}
IsOut i ms (Some k) =
    (k.totals.packets_out ≡ (vif_sums ms (numbered_vif i k.number)).packets_out)
    × (k.totals.bytes_out ≡ (vif_sums ms (numbered_vif i k.number)).bytes_out)

-- the totals of all entries that are kept are the sums over these packets
abbrev pub AreRoutes : List (ℕ × RouteTotals) → List Met → Type 0
AreRoutes routes ms = AllByRecursion (λ p. p.1 ≡ route_sums ms p.0) routes

-- So few packets are counted that no sum comes to its end, each of a length of 16 bits.
pub record AreFew (ms : List Met) : Type 0 where
  pub few : length ms < 2 ^ 32
  pub short : AllByRecursion (λ m. m.length < 2 ^ 16) ms

-- all totals that are kept are the sums over these packets
pub record AreTotals (t : Totals) (ms : List Met) : Type 0 where
  pub routes : AreRoutes t.routes.items ms
  pub ins : (i : ℕ) → IsIn i ms (vif_at t.vifs i)
  pub outs : (i : ℕ) → IsOut i ms (vif_at t.vifs i)

-- the same entries and vifs are kept
pub record SameKept (old new : Totals) : Type 0 where
  pub numbers : numbers_of new.routes.items ≡ numbers_of old.routes.items
  pub room : new.routes.room ≡ old.routes.room
  pub vifs : vif_numbers new.vifs ≡ vif_numbers old.vifs

-- each length has 16 bits
abbrev pub AreShort : List Met → Type 0
AreShort ms = AllByRecursion (λ m. m.length < 2 ^ 16) ms

-- the meetings of released packets with their lengths, at the place of their call
abbrev pub released_mets : ℕ → List ReleasedId → List ℕ → List Met
released_mets place [] lengths = []
released_mets place (x ∷ xs) [] = []
released_mets place (x ∷ xs) (n ∷ ns) = met_by place n x.outcome ++ released_mets place xs ns
