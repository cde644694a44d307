use Rattle.std.proofs.Common.{◌≡◌, ◌≤◌, true, List, length, subst, sym}
use Rattle.std.specs.List.{AllByRecursion}
use Rattle.mr_load.specs.Naming.{Naming, named_in}
use Rattle.mr_load.proofs.Loads.{all_loads, all_memory, few_kept, file_named, memory_at, scenario_loads, stop_loads}
use Rattle.mr_load.proofs.Namings.{named_files}
use Rattle.mr_load.proofs.ReadOn.{all_back, has_back, stays, stops_back}
use Rattle.mr_load.proofs.Rows.{all_weaker}
use Rattle.mr_load.proofs.loading.load_bytes.Goals as goal
use Rattle.mr_words.specs.Names.{is_file}

pub returns-in-Err-clause-loads : goal.returns-in-Err-clause-loads
returns-in-Err-clause-loads g c = λ told before stay calls.
    scenario_loads told c.args.file.now c.args.bytes.now c.in-Err.status before (g.S.Store.calls c.args.store.now)
    (has_back told (g.S.Store.told c.args.store.now) c.args.file.now c.args.bytes.now stay c.requires.there) c.in-Err.ensures.scenario calls

pub returns-in-Err-named_in-clause-loads : goal.returns-in-Err-named_in-clause-loads
returns-in-Err-named_in-clause-loads g c = λ told before stay calls. memory_at told c.args.file.now before (g.S.Store.calls c.args.store.now) calls

pub read_files-requires : goal.read_files-requires
read_files-requires g c =
    let s = c.in-Ok.scenario in
    record {
      named = subst (λ (ns : List Naming). AllByRecursion (λ n. 1 ≤ length n.0) ns) (sym c.in-Ok-named_in.ensures.files)
          (all_weaker (λ (n : Naming). is_file n.0 ≡ true) (λ (n : Naming). 1 ≤ length n.0) (λ n f. file_named n.0 f) (named_in s) (named_files s c.in-Ok.ensures.fits));
    }

pub returns-in-Err-read_files-clause-loads : goal.returns-in-Err-read_files-clause-loads
returns-in-Err-read_files-clause-loads g c = λ told before stay calls.
    stop_loads told c.args.file.now c.args.bytes.now c.in-Ok.scenario c.in-Err-read_files.status (g.S.Store.calls c.args.store.now) (g.S.Store.calls c.read_files.new.store)
    (has_back told (g.S.Store.told c.args.store.now) c.args.file.now c.args.bytes.now stay c.requires.there)
    (stops_back told (g.S.Store.told c.args.store.now) c.args.file.now c.args.bytes.now c.in-Ok-named_in.named.packets c.in-Ok-named_in.named.files.entries (named_in c.in-Ok.scenario) c.in-Ok.scenario
    c.in-Err-read_files.status (g.S.Store.calls c.args.store.now) (g.S.Store.calls c.read_files.new.store) stay c.in-Ok-named_in.ensures.files c.in-Ok-named_in.ensures.packets c.in-Err-read_files.ensures.stops)
    before c.in-Ok.ensures.scenario calls

pub with_items-requires-clause-items : goal.with_items-requires-clause-items
with_items-requires-clause-items g c =
    let told = g.S.Store.told c.args.store.now in
    few_kept told c.args.file.now c.args.bytes.now c.in-Ok.scenario c.in-Ok-read_files.reading (g.S.Store.calls c.args.store.now) (g.S.Store.calls c.read_files.new.store) c.requires.there c.in-Ok.ensures.fits
    (all_back told told c.args.file.now c.args.bytes.now c.in-Ok-named_in.named.packets c.in-Ok-named_in.named.files.entries (named_in c.in-Ok.scenario) c.in-Ok.scenario c.in-Ok-read_files.reading
    (g.S.Store.calls c.args.store.now) (g.S.Store.calls c.read_files.new.store) (stays told) c.in-Ok-named_in.ensures.files c.in-Ok-named_in.ensures.packets c.in-Ok-read_files.ensures.all)

pub returns-in-Ok-with_items-clause-loads : goal.returns-in-Ok-with_items-clause-loads
returns-in-Ok-with_items-clause-loads g c = λ told before stay calls.
    all_loads told c.args.file.now c.args.bytes.now c.in-Ok.scenario c.in-Ok-read_files.reading (g.S.Store.calls c.args.store.now) (g.S.Store.calls c.read_files.new.store)
    (has_back told (g.S.Store.told c.args.store.now) c.args.file.now c.args.bytes.now stay c.requires.there) c.in-Ok.ensures.fits
    (all_back told (g.S.Store.told c.args.store.now) c.args.file.now c.args.bytes.now c.in-Ok-named_in.named.packets c.in-Ok-named_in.named.files.entries (named_in c.in-Ok.scenario) c.in-Ok.scenario c.in-Ok-read_files.reading
    (g.S.Store.calls c.args.store.now) (g.S.Store.calls c.read_files.new.store) stay c.in-Ok-named_in.ensures.files c.in-Ok-named_in.ensures.packets c.in-Ok-read_files.ensures.all)
    c.in-Ok-with_items.loaded before c.in-Ok.ensures.scenario c.in-Ok-with_items.ensures.scenario c.in-Ok-with_items.ensures.given calls

pub returns-clause-loads : goal.returns-clause-loads
returns-clause-loads g c = λ told before stay calls.
    all_memory told c.args.file.now c.args.bytes.now c.in-Ok.scenario c.in-Ok-read_files.reading (g.S.Store.calls c.args.store.now) (g.S.Store.calls c.read_files.new.store)
    (has_back told (g.S.Store.told c.args.store.now) c.args.file.now c.args.bytes.now stay c.requires.there) c.in-Ok.ensures.fits
    (all_back told (g.S.Store.told c.args.store.now) c.args.file.now c.args.bytes.now c.in-Ok-named_in.named.packets c.in-Ok-named_in.named.files.entries (named_in c.in-Ok.scenario) c.in-Ok.scenario c.in-Ok-read_files.reading
    (g.S.Store.calls c.args.store.now) (g.S.Store.calls c.read_files.new.store) stay c.in-Ok-named_in.ensures.files c.in-Ok-named_in.ensures.packets c.in-Ok-read_files.ensures.all)
    before c.in-Ok.ensures.scenario calls
