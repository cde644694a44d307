-- What entries and vifs have counted (ipmr.c, mfc_un.res and vif_device): sums over fast records, slows and releases.
use Rattle.std.specs.Prelude.{ℕ, ◌+◌, ◌==◌, ◌&&◌, Bool, true, false, nat_le, if◌then◌else◌, Option, None, List, [], ◌∷◌, ◌++◌, length, map, flat_map, sum_by, count_by}
use Rattle.mr_base.specs.declared.numbers.LaneNo.{LaneNo}
use Rattle.mr_base.specs.declared.numbers.Mask.{Mask}
use Rattle.mr_base.specs.declared.vif_record.VifRecord.{VifRecord}
use Rattle.mr_model.specs.declared.entry.Entry.{Entry}
use Rattle.mr_model.specs.declared.entry.Entry.TheVariants.{Call, Slow, Settle}
use Rattle.mr_model.specs.declared.entry.FastRecord.{FastRecord}
use Rattle.mr_model.specs.declared.outcome.Outcome.{Outcome}
use Rattle.mr_model.specs.declared.outcome.Outcome.TheVariants.{Forward, Register, Wrong, Parked, Dropped}
use Rattle.mr_model.specs.declared.reply.RouteTotals.{RouteTotals}
use Rattle.mr_model.specs.declared.reply.VifTotals.{VifTotals}
use Rattle.mr_model.specs.Verdict.{is_in, is_vif}

-- a packet that met an entry
pub record Met : Type 0 where
  -- how many history entries there were where it was decided
  pub place : ℕ
  pub entry : ℕ
  -- the vif on which it counts in
  pub input : Option ℕ
  pub outs : Mask
  pub wrong : Bool
  -- its total length, in bytes
  pub length : ℕ

abbrev pub no_outs : Mask
no_outs = record { 0 = 0 }

-- the meeting of an outcome; a packet that is parked or dropped met none
abbrev pub met_by : ℕ → ℕ → Outcome → List Met
met_by place len (Forward entry input outs) = record { place = place; entry = entry; input = input; outs = outs; wrong = false; length = len } ∷ []
met_by place len (Register entry input outs told) = record { place = place; entry = entry; input = input; outs = outs; wrong = false; length = len } ∷ []
met_by place len (Wrong entry vif report) = record { place = place; entry = entry; input = None; outs = no_outs; wrong = true; length = len } ∷ []
met_by place len Parked = []
met_by place len (Dropped cause) = []

-- a fast record counts at its look
abbrev pub met_fast : FastRecord → Met
met_fast r = record { place = r.look; entry = r.entry; input = r.input; outs = r.outs; wrong = false; length = r.flow.length }

-- the total length of a lane's packet, which its Slow keeps
abbrev pub length_of : List Entry → LaneNo → ℕ → ℕ
length_of [] lane index = 0
length_of (Slow l i look flow o ∷ h) lane index = if l.0 == lane.0 && i == index then flow.length else length_of h lane index
length_of (e ∷ h) lane index = length_of h lane index

-- The packets that met entries in e, which stands behind the history g: a Slow counts where it stands, a release at its call.
abbrev pub met_in : List Entry → Entry → List Met
met_in g (Call d r reply released) = flat_map (λ x. met_by (length g + 1) (length_of g x.lane x.index) x.outcome) released
met_in g (Slow lane index look flow o) = met_by (length g) flow.length o
met_in g (Settle lane records) = map met_fast records
met_in g _ = []

-- those of the entries h behind the history g
abbrev pub met_from : List Entry → List Entry → List Met
met_from g [] = []
met_from g (e ∷ h) = met_in g e ++ met_from (g ++ e ∷ []) h

abbrev pub met : List Entry → List Met
met h = met_from [] h

-- Each packet that met the entry counts, a wrong one twice over.
abbrev pub route_sums : List Met → ℕ → RouteTotals
route_sums ms entry = record {
  packets = count_by (λ m. m.entry == entry) ms;
  bytes = sum_by (λ m. if m.entry == entry then m.length else 0) ms;
  wrong = count_by (λ m. m.entry == entry && m.wrong) ms;
}

-- A packet counts for a vif that was made at or before its place.
abbrev pub counts_in : VifRecord → Met → Bool
counts_in v m = is_vif m.input v.vif && nat_le v.number m.place

abbrev pub counts_out : VifRecord → Met → Bool
counts_out v m = is_in m.outs v.vif && nat_le v.number m.place

abbrev pub vif_sums : List Met → VifRecord → VifTotals
vif_sums ms v = record {
  packets_in = count_by (counts_in v) ms;
  packets_out = count_by (counts_out v) ms;
  bytes_in = sum_by (λ m. if counts_in v m then m.length else 0) ms;
  bytes_out = sum_by (λ m. if counts_out v m then m.length else 0) ms;
}

-- the totals of an entry by its number, and of a vif by its record, after a history
abbrev pub route_counts : List Entry → ℕ → RouteTotals
route_counts h entry = route_sums (met h) entry

abbrev pub vif_counts : List Entry → VifRecord → VifTotals
vif_counts h v = vif_sums (met h) v
