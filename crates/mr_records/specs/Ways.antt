-- The parts of a record's line: its head `- INDEX LOOK`, and its packet's way, ` ENTRY IN OUTS` with the line feed.
use Rattle.std.specs.Prelude.{ℕ, List, [], ◌∷◌, ◌++◌, decimal}
use Rattle.mr_lines.specs.Forms.{mask, vif_or_none}
use Rattle.mr_model.specs.declared.entry.FastRecord.{FastRecord}
use Rattle.mr_records.specs.declared.way.Way.{Way}

abbrev pub index_bytes : ℕ → List ℕ
index_bytes index = 45 ∷ 32 ∷ decimal index

abbrev pub look_bytes : ℕ → List ℕ
look_bytes look = 32 ∷ decimal look

abbrev pub head_bytes : ℕ → ℕ → List ℕ
head_bytes index look = index_bytes index ++ look_bytes look

-- the way of a record's packet
abbrev pub way_of : FastRecord → Way
way_of r = record { entry = r.entry; input = r.input; outs = r.outs }

abbrev pub way_bytes : Way → List ℕ
way_bytes w = 32 ∷ decimal w.entry ++ 32 ∷ vif_or_none w.input ++ 32 ∷ mask w.outs ++ 10 ∷ []
