-- The words of a history: numbers, addresses, vifs, masks and thresholds.
use Rattle.std.specs.Prelude.{ℕ, ◌+◌, ◌/◌, ◌%◌, ◌==◌, if◌then◌else◌, Option, Some, None, List, [], ◌∷◌, ◌++◌, map, codes, decimal, filter}
use Rattle.std.specs.List.{join_with_byte}
use Rattle.mr_base.specs.declared.numbers.Addr.{Addr}
use Rattle.mr_base.specs.declared.numbers.Mask.{Mask}
use Rattle.mr_model.specs.declared.request.MfcCtl.{MfcCtl}
use Rattle.mr_model.specs.declared.request.MfcKey.{MfcKey}
use Rattle.mr_model.specs.declared.request.VifCtl.{VifCtl}
use Rattle.mr_model.specs.Verdict.{is_in}
use Rattle.mr_model.specs.Ending.{indexes}

abbrev pub Word : Type 0
Word = List ℕ

-- words parted by one space
abbrev pub spaced : List Word → List ℕ
spaced ws = join_with_byte 32 ws

-- a line of words: they are parted by one space, and a line feed ends it
abbrev pub line_bytes : List Word → List ℕ
line_bytes ws = spaced ws ++ 10 ∷ []

-- a.b.c.d
unfoldable pub address : Addr → Word
address a =
    decimal (a.0 / 16777216) ++ 46 ∷ decimal (a.0 / 65536 % 256) ++ 46 ∷ decimal (a.0 / 256 % 256) ++ 46 ∷ decimal (a.0 % 256)

-- the vifs of a mask in rising order, parted by commas, or `-`
unfoldable pub mask : Mask → Word
mask m = if m.0 == 0 then codes "-" else join_with_byte 44 (map decimal (filter (is_in m) indexes))

-- a vif, or `-`
unfoldable pub vif_or_none : Option ℕ → Word
vif_or_none None = codes "-"
vif_or_none (Some i) = decimal i

-- the local field: `@N` with flags 8, else an address
unfoldable pub local_word : VifCtl → Word
local_word c = if c.flags == 8 then 64 ∷ decimal c.local else address (record { 0 = c.local })

-- `V:T` for each threshold that isn't 0, from vif i on
abbrev pub thresholds : ℕ → List ℕ → List Word
thresholds i [] = []
thresholds i (t ∷ ts) = if t == 0 then thresholds (i + 1) ts else (decimal i ++ 58 ∷ decimal t) ∷ thresholds (i + 1) ts

abbrev pub route_words : MfcCtl → List Word
route_words c = address c.src ∷ address c.dst ∷ decimal c.parent ∷ thresholds 0 c.ttls

abbrev pub key_words : MfcKey → List Word
key_words k = address k.src ∷ address k.dst ∷ decimal k.parent ∷ []
