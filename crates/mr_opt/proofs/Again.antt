-- The numbers of a record are read again from its bytes.
use Rattle.std.proofs.Common.{◌≡◌, ℕ, ◌^◌, ◌<◌, List, [], ◌++◌, length, take, drop, refl, ap, ◌∙◌, arith}
use Rattle.std.proofs.lemmas.List.{take-append-le, take_all, drop-append-le}
use Rattle.std.proofs.Math.ListN.{drop_of_length-le}
use Rattle.byteorder.specs.Numbers.{big_number-reads_back, little_number-reads_back}
use Rattle.mr_base.specs.declared.numbers.Addr.{Addr}
use Rattle.mr_opt.specs.Records.{mfcctl_bytes, mfcctl_of, mfc_key_of}

-- the thresholds, and the counters behind them
module _ (ttls rest : List ℕ) (all : length ttls ≡ 32) where
  pub ttls_first : take 32 (ttls ++ rest) ≡ ttls
  ttls_first = take-append-le 32 ttls rest (omega arith) ∙ take_all 32 ttls (omega arith)

  pub rest_behind : drop 32 (ttls ++ rest) ≡ rest
  rest_behind =
      drop-append-le 32 ttls rest (omega arith) ∙ ap (λ l. l ++ rest) (drop_of_length-le ttls {i = 32} (omega arith))

-- an mfcctl
module _ (src dst : Addr) (parent : ℕ) (ttls : List ℕ) where
  module _ (s : src.0 < 2 ^ 32) (d : dst.0 < 2 ^ 32) (p : parent < 2 ^ 16) where
    pub mfc_key_again : mfc_key_of (mfcctl_bytes src dst parent ttls) ≡ record { src = src; dst = dst; parent = parent }
    mfc_key_again =
        let from = big_number-reads_back 4 src.0 [] s in
        let to = big_number-reads_back 4 dst.0 [] d in
        let by = little_number-reads_back 2 parent [] p in
        rw (from, to, by) refl

    pub mfcctl_again : length ttls ≡ 32
        → mfcctl_of (mfcctl_bytes src dst parent ttls) ≡ record { src = src; dst = dst; parent = parent; ttls = ttls }
    mfcctl_again all =
        let from = big_number-reads_back 4 src.0 [] s in
        let to = big_number-reads_back 4 dst.0 [] d in
        let by = little_number-reads_back 2 parent [] p in
        rw (ttls_first ttls _ all, rest_behind ttls _ all, from, to, by, ttls_first ttls _ all, ttls_first ttls _ all) refl
