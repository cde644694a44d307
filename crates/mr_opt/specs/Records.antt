-- The records of mroute.h (structs vifctl, mfcctl, sioc_sg_req and sioc_vif_req), packed.
use Rattle.std.specs.Prelude.{ℕ, ◌==◌, if◌then◌else◌, List, [], ◌∷◌, ◌++◌, take, drop, slice_index}
use Rattle.mr_base.specs.declared.numbers.Addr.{Addr}
use Rattle.mr_model.specs.declared.reply.RouteTotals.{RouteTotals}
use Rattle.mr_model.specs.declared.reply.VifTotals.{VifTotals}
use Rattle.mr_model.specs.declared.request.MfcCtl.{MfcCtl}
use Rattle.mr_model.specs.declared.request.MfcKey.{MfcKey}
use Rattle.mr_model.specs.declared.request.VifCtl.{VifCtl}
use Rattle.mr_opt.specs.Fields.{Field, number, address, bytes, record_bytes, record_numbers}

abbrev pub addr : ℕ → Addr
addr n = record { 0 = n }

-- With flags 8 (VIFF_USE_IFINDEX) the local field is a device's number, else an address.
abbrev pub local_field : ℕ → Field
local_field flags = if flags == 8 then number 4 else address

-- vifctl: vif, flags, threshold, rate, local, remote
abbrev pub vifctl : ℕ → List Field
vifctl flags = number 2 ∷ number 1 ∷ number 1 ∷ number 4 ∷ local_field flags ∷ address ∷ []

-- mfcctl: origin, group, parent, thresholds, four counters
abbrev pub mfcctl : List Field
mfcctl = address ∷ address ∷ number 2 ∷ bytes 32 ∷ number 4 ∷ number 4 ∷ number 4 ∷ number 4 ∷ []

-- a number alone
abbrev pub int : List Field
int = number 4 ∷ []

-- the (S,G) count: source, group, packets, bytes, packets that came in on a wrong interface
abbrev pub sg_count : List Field
sg_count = address ∷ address ∷ number 8 ∷ number 8 ∷ number 8 ∷ []

-- the vif count: vif, packets in, packets out, bytes in, bytes out
abbrev pub vif_count : List Field
vif_count = number 2 ∷ number 8 ∷ number 8 ∷ number 8 ∷ number 8 ∷ []

-- The numbers of each record. Threshold, rate, remote and the four counters are ignored, and
-- written as zeros.
abbrev pub vifctl_numbers : ℕ → ℕ → ℕ → List ℕ
vifctl_numbers vif flags local = vif ∷ flags ∷ 0 ∷ 0 ∷ local ∷ 0 ∷ []

abbrev pub mfcctl_numbers : Addr → Addr → ℕ → List ℕ → List ℕ
mfcctl_numbers src dst parent ttls = src.0 ∷ dst.0 ∷ parent ∷ (ttls ++ 0 ∷ 0 ∷ 0 ∷ 0 ∷ [])

abbrev pub sg_numbers : Addr → Addr → RouteTotals → List ℕ
sg_numbers src dst t = src.0 ∷ dst.0 ∷ t.packets ∷ t.bytes ∷ t.wrong ∷ []

abbrev pub vif_numbers : ℕ → VifTotals → List ℕ
vif_numbers vif t = vif ∷ t.packets_in ∷ t.packets_out ∷ t.bytes_in ∷ t.bytes_out ∷ []

-- The records as bytes.
abbrev pub vifctl_bytes : ℕ → ℕ → ℕ → List ℕ
vifctl_bytes vif flags local = record_bytes (vifctl flags) (vifctl_numbers vif flags local)

abbrev pub mfcctl_bytes : Addr → Addr → ℕ → List ℕ → List ℕ
mfcctl_bytes src dst parent ttls = record_bytes mfcctl (mfcctl_numbers src dst parent ttls)

abbrev pub int_bytes : ℕ → List ℕ
int_bytes n = record_bytes int (n ∷ [])

abbrev pub sg_bytes : Addr → Addr → RouteTotals → List ℕ
sg_bytes src dst t = record_bytes sg_count (sg_numbers src dst t)

abbrev pub vif_bytes : ℕ → VifTotals → List ℕ
vif_bytes vif t = record_bytes vif_count (vif_numbers vif t)

-- What bytes of the right length say.
abbrev pub vifctl_of : List ℕ → VifCtl
vifctl_of bs =
    let ns = record_numbers (vifctl (slice_index bs 2)) bs in
    record { vif = slice_index ns 0; flags = slice_index ns 1; local = slice_index ns 4 }

abbrev pub mfcctl_of : List ℕ → MfcCtl
mfcctl_of bs =
    let ns = record_numbers mfcctl bs in
    record {
      src = addr (slice_index ns 0);
      dst = addr (slice_index ns 1);
      parent = slice_index ns 2;
      ttls = take 32 (drop 3 ns);
    }

abbrev pub mfc_key_of : List ℕ → MfcKey
mfc_key_of bs =
    let ns = record_numbers mfcctl bs in
    record {
      src = addr (slice_index ns 0);
      dst = addr (slice_index ns 1);
      parent = slice_index ns 2;
    }

abbrev pub int_of : List ℕ → ℕ
int_of bs = slice_index (record_numbers int bs) 0

abbrev pub sg_of : List ℕ → Addr × Addr × RouteTotals
sg_of bs =
    let ns = record_numbers sg_count bs in (
      addr (slice_index ns 0),
      addr (slice_index ns 1),
      record { packets = slice_index ns 2; bytes = slice_index ns 3; wrong = slice_index ns 4 },
    )

abbrev pub vif_of : List ℕ → ℕ × VifTotals
vif_of bs =
    let ns = record_numbers vif_count bs in (
      slice_index ns 0,
      record {
        packets_in = slice_index ns 1;
        packets_out = slice_index ns 2;
        bytes_in = slice_index ns 3;
        bytes_out = slice_index ns 4;
      },
    )
