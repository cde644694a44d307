-- What the lines of lanes give: a line with the bytes of a packet is one item, and a line with a trace is an item for each
-- record of its file.
use Rattle.std.specs.Prelude.{ℕ, ◌+◌, ◌==◌, if◌then◌else◌, Option, Some, None, Result, Ok, Err, List, [], ◌∷◌, ◌++◌, length, map, sum_by}
use Rattle.mr_base.specs.Outside.{Files}
use Rattle.mr_pcap.specs.Traces.{Capture, capture_of, ip_part_of}
use Rattle.mr_pcap.specs.declared.pcap_error.PcapError.{PcapError}
use Rattle.mr_scenario.specs.declared.scenario.Given.{Given}
use Rattle.mr_scenario.specs.declared.scenario.Given.TheVariants.{Bytes, Trace}
use Rattle.mr_scenario.specs.declared.scenario.Item.{Item}

-- What an item brings: bytes that should begin with an IPv4 head, or none, where its frame does not say IPv4.
abbrev pub Content : Type 0
Content = Option (List ℕ)

-- for each record the IPv4 part of its frame
abbrev pub contents_in : Capture → List Content
contents_in c = map (λ r. ip_part_of c.link r.bytes) c.records

abbrev pub contents_read : Result Capture PcapError → List Content
contents_read (Ok c) = contents_in c
contents_read (Err e) = []

abbrev pub contents_there : Option (List ℕ) → List Content
contents_there None = []
contents_there (Some bytes) = contents_read (capture_of bytes)

-- What the items of a line bring. A file that is not there, or is no trace, gives none: it is refused where it is read.
abbrev pub contents_of : Files → Given → List Content
contents_of files (Bytes bs) = Some bs ∷ []
contents_of files (Trace file) = contents_there (files file)

-- what items in a row give, each by its number, of which the first is n
abbrev pub in_row : {A : Type 0} → (ℕ → Content → List A) → ℕ → List Content → List A
in_row f n [] = []
in_row f n (c ∷ cs) = f n c ++ in_row f (n + 1) cs

-- what the items of a lane among lines give, each by its line and its number, of which the lane's first is n
abbrev pub numbered : {A : Type 0} → (Item → ℕ → Content → List A) → (Given → List Content) → ℕ → ℕ → List Item → List A
numbered f contents lane n [] = []
numbered f contents lane n (i ∷ is) =
    if i.lane.0 == lane
    then in_row (f i) n (contents i.given) ++ numbered f contents lane (n + length (contents i.given)) is
    else numbered f contents lane n is

-- how many items of a lane lines give
abbrev pub items_by : (Given → List Content) → ℕ → List Item → ℕ
items_by contents lane is = sum_by (λ i. if i.lane.0 == lane then length (contents i.given) else 0) is

-- how many items of all lanes they give
abbrev pub all_items : (Given → List Content) → List Item → ℕ
all_items contents is = sum_by (λ i. length (contents i.given)) is
