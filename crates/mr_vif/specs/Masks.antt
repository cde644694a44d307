-- Vifs as bits of a number.
use Rattle.std.specs.Prelude.{ℕ, ◌^◌, nat_lt, List, fold, filter, bit_or, slice_index_or}
use Rattle.mr_base.specs.declared.numbers.Mask.{Mask}
use Rattle.mr_base.specs.declared.vif_record.VifRecord.{VifRecord}

-- the mask of these vifs: bit i is vif i
abbrev pub mask_of : List VifRecord → Mask
mask_of vifs = record { 0 = fold (λ m v. bit_or m (2 ^ v.vif)) 0 vifs }

-- the vifs whose threshold a TTL exceeds
abbrev pub vifs_below : List ℕ → ℕ → List VifRecord → List VifRecord
vifs_below ttls ttl vifs = filter (λ v. nat_lt (slice_index_or ttls v.vif 255) ttl) vifs
