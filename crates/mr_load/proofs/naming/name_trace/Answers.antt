use Rattle.std.proofs.Common.{◌≡◌, ◌∙◌, List, ℕ, ap, bytes_eq}
use Rattle.std.specs.Map.{lookup}
use Rattle.indexmap.specs.IndexMap.{insert_entry}
use Rattle.mr_load.specs.Naming.{as_trace, use_of}
use Rattle.mr_load.specs.declared.naming.Use.{Use}
use Rattle.mr_load.proofs.Namings.{insert_naming}
use Rattle.mr_load.proofs.naming.name_trace.Goals as goal

pub returns : goal.returns
returns c =
    let es = c.args.files.now.entries in
    let name : c.new-name.result ≡ c.args.file.now = c.new-name.ensures ∙ c.as_str.ensures.value in
    let used : Use = record { conf = c.use_so_far-used.result.conf; lines = c.in_ok-lines.lines } in
    c.in_ok-insert.ensures.entries
    ∙ ap (λ (n : List ℕ). insert_entry bytes_eq es n used) name
    ∙ insert_naming as_trace es c.args.file.now used
    (ap (λ (k : ℕ). record c.use_so_far-used.result { lines = k }) c.in_ok-lines.ensures ∙ ap as_trace (c.use_so_far-used.ensures ∙ ap (λ (n : List ℕ). use_of (lookup (bytes_eq n) es)) name))
