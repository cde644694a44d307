-- A draft keeps within its own limits with each line.
use Rattle.std.proofs.Common.{◌≡◌, ℕ, ◌≤◌, ◌<◌, ◌+◌, ◌&&◌, true, Option, Some, None, Result, Ok, Err, List, [], ◌∷◌, ◌++◌, length, fold, refl, sym, ap, ◌∙◌, arith, subst}
use Rattle.std.proofs.lemmas.Bool.{and_parts, ltb-true, leb-true}
use Rattle.std.proofs.lemmas.List.{length-append}
use Rattle.std.proofs.lemmas.List.Sums.{sum_by_push}
use Rattle.std.proofs.lemmas.Result.{IfOk-at_ok}
use Rattle.std.specs.List.{AllByRecursion}
use Rattle.std.specs.Prelude.{Bool, false, if◌then◌else◌, option_and_then, sum_by, IfSome, IfOk, nat_lt, nat_le, not, is_none, option_to_list, bytes_eq, codes, unwrap_or}
use Rattle.mr_scenario.specs.declared.draft.Draft.{Draft}
use Rattle.mr_scenario.specs.declared.scenario.DaemonKind.{DaemonKind}
use Rattle.mr_scenario.specs.declared.scenario.DaemonKind.TheVariants.{Plain, Admin, Smc}
use Rattle.mr_scenario.specs.declared.scenario.Given.TheVariants.{Bytes, Trace}
use Rattle.mr_scenario.specs.declared.scenario.Item.{Item}
use Rattle.mr_scenario.specs.declared.scenario.Named.{Named}
use Rattle.mr_scenario.specs.declared.scenario.Phase.{Phase}
use Rattle.mr_scenario.specs.declared.scenario.Scenario.{Scenario}
use Rattle.mr_scenario.specs.declared.scenario.ScriptLine.{ScriptLine}
use Rattle.mr_scenario.specs.declared.stop.Kind.TheVariants as kind
use Rattle.mr_scenario.specs.declared.stop.Mistake.{Mistake}
use Rattle.mr_scenario.specs.Counts.{Word, none_of, one_of, two_of, four_of, two_led}
use Rattle.mr_scenario.specs.Fits.{Fits, IsDriven, IsItem, IsAsked, IsNamed, NeedsNoMachine, SuitsDaemon, packets_in, packets_of}
use Rattle.mr_scenario.specs.Forms.{number_in, address_word, is_taken, device_from, device_of, hex_word}
use Rattle.mr_scenario.specs.HeadLines.{header_line, limit, entries_limit, unresolved_limit, control_limit, limit_line, lanes_line, with_device, device_line, with_daemon, daemon_line, files_from, smc_line}
use Rattle.mr_scenario.specs.Kinds.{in_line, bad, or_bad}
use Rattle.mr_scenario.specs.Laws.{SpelledFits}
use Rattle.mr_scenario.specs.PhaseLines.{lanes_of, phases_so_far, with_phase, phase_line, device_word, packet_item, trace_item, lane_line, daemon_word, is_smc_at, who_of, script_line}
use Rattle.mr_scenario.specs.Requests.{script_of}
use Rattle.mr_scenario.specs.Spelled.{head_line, phase_part, line_in, line_of, next_line, at_line, draft_from, empty_draft, limits_of, whole}
use Rattle.mr_words.specs.Binds.{◌>>=◌}
use Rattle.mr_words.specs.Names.{is_device_name, is_file}
use Rattle.mr_words.specs.Numbers.{is_numeral, digit_on, number_of}
use Rattle.mr_words.specs.Words.{lines_of, without_return, words_of}
use Rattle.mr_scenario.proofs.Binds.{wanted, ok_bad, ok_at}
use Rattle.mr_scenario.proofs.Suiting.{script_suits}
use Rattle.mr_words.proofs.Binds.{ok_then, then_ok, ok_if, some_if, unwrapped}
use Rattle.mr_scenario.proofs.Each.{all_weaker, all_push, all_front, all_last}

-- from this least number to that greatest one
pub record IsWithin (low high n : ℕ) : Type 0 where
  least : low ≤ n
  most : n ≤ high

-- The phase has items of so many lanes and devices, and its lines are of these daemons, and suit them.
pub record IsFair (lanes devices : ℕ) (daemons : List DaemonKind) (p : Phase) : Type 0 where
  items : AllByRecursion (IsItem lanes devices) p.items
  script : AllByRecursion (IsAsked (length daemons)) p.script
  machine_lines : AllByRecursion (SuitsDaemon daemons) p.script

-- what head lines say is within the machine's limits
pub record IsHeaded (d : Draft) : Type 0 where
  pub entries : IfSome d.entries (IsWithin 1 16384)
  pub unresolved : IfSome d.unresolved (IsWithin 1 64)
  pub controls : IfSome d.controls (IsWithin 1 1048576)
  pub lanes : IfSome d.lanes (λ n. n ≤ 16)
  pub devices : length d.devices ≤ 64
  pub names : AllByRecursion IsNamed d.devices
  pub daemons : length d.daemons ≤ 8
  pub confs : AllByRecursion IsDriven d.daemons

abbrev packets_at : Phase → ℕ
packets_at p = sum_by (λ i. packets_in i.given) p.items

abbrev pub AreFair : Draft → List Phase → Type 0
AreFair d ps = AllByRecursion (IsFair (lanes_of d) (length d.devices) d.daemons) ps

-- The draft keeps within its limits.
pub record Keeps (d : Draft) : Type 0 where
  pub head : IsHeaded d
  pub first : d.current ≡ None → d.phases ≡ []
  pub sent : packets_of (phases_so_far d) ≡ d.sent
  pub most_sent : d.sent ≤ 1048576
  pub phases : length (phases_so_far d) ≤ 1000
  pub fair : AreFair d (phases_so_far d)

abbrev Kept : Result Draft Mistake → Type 0
Kept r = IfOk r Keeps

no_phases : (d : Draft) → d.current ≡ None → d.phases ≡ [] → phases_so_far d ≡ []
no_phases d now none = rw (now, none) refl

-- A head line changes what the head says alone, and there is no phase yet.
head_kept : (d e : Draft) → Keeps d → d.current ≡ None → e.phases ≡ d.phases → e.current ≡ d.current → e.sent ≡ d.sent → IsHeaded e → Keeps e
head_kept d e k now phases current sent head =
    let none : phases_so_far d ≡ [] = no_phases d now (k.first now) in
    let empty : phases_so_far e ≡ [] = no_phases e (current ∙ now) (phases ∙ k.first now) in
    record {
      head = head;
      first = λ _. phases ∙ k.first now;
      sent = ap packets_of empty ∙ sym (ap packets_of none) ∙ k.sent ∙ sym sent;
      most_sent = omega (arith, sent, k.most_sent);
      phases = omega (arith, ap length empty);
      fair = subst (AreFair e) (sym empty) tt;
    }

-- the draft with another phase in place of the one whose lines are read
abbrev moved : Draft → ℕ → Phase → Draft
moved d sent q = record d { sent = sent; current = Some q }

moved_kept : (d : Draft) (p q : Phase) (sent : ℕ) → Keeps d → d.current ≡ Some p → packets_at q + d.sent ≡ packets_at p + sent → sent ≤ 1048576 →
    (IsFair (lanes_of d) (length d.devices) d.daemons p → IsFair (lanes_of d) (length d.devices) d.daemons q) → Keeps (moved d sent q)
moved_kept d p q sent k now more most becomes =
    let fair : AreFair d (d.phases ++ p ∷ []) = subst (λ (c : Option Phase). AreFair d (d.phases ++ option_to_list c)) now k.fair in
    let before : packets_of (d.phases ++ p ∷ []) ≡ d.sent = subst (λ (c : Option Phase). packets_of (d.phases ++ option_to_list c) ≡ d.sent) now k.sent in
    let phases : length (d.phases ++ p ∷ []) ≤ 1000 = subst (λ (c : Option Phase). length (d.phases ++ option_to_list c) ≤ 1000) now k.phases in
    let front : AreFair d d.phases = all_front (IsFair (lanes_of d) (length d.devices) d.daemons) d.phases p fair in
    let last : IsFair (lanes_of d) (length d.devices) d.daemons p = all_last (IsFair (lanes_of d) (length d.devices) d.daemons) d.phases p fair in
    record {
      head = record {
        entries = k.head.entries;
        unresolved = k.head.unresolved;
        controls = k.head.controls;
        lanes = k.head.lanes;
        devices = k.head.devices;
        names = k.head.names;
        daemons = k.head.daemons;
        confs = k.head.confs;
      };
      first = λ e. absurd (cc e);
      sent = omega (arith, before, more, sum_by_push packets_at d.phases p, sum_by_push packets_at d.phases q);
      most_sent = most;
      phases = omega (arith, phases, length-append d.phases (p ∷ []), length-append d.phases (q ∷ []));
      fair = all_push (IsFair (lanes_of d) (length d.devices) d.daemons) d.phases q front (becomes last);
    }

-- The head says the same: nothing but the phases or the first line is another.
same_head : (d e : Draft) → IsHeaded d → e.entries ≡ d.entries → e.unresolved ≡ d.unresolved → e.controls ≡ d.controls → e.lanes ≡ d.lanes → e.devices ≡ d.devices → e.daemons ≡ d.daemons → IsHeaded e
same_head d e h a b c f g i = record {
  entries = subst (λ o. IfSome o (IsWithin 1 16384)) (sym a) h.entries;
  unresolved = subst (λ o. IfSome o (IsWithin 1 64)) (sym b) h.unresolved;
  controls = subst (λ o. IfSome o (IsWithin 1 1048576)) (sym c) h.controls;
  lanes = subst (λ o. IfSome o (λ n. n ≤ 16)) (sym f) h.lanes;
  devices = omega (arith, ap length g, h.devices);
  names = subst (AllByRecursion IsNamed) (sym g) h.names;
  daemons = omega (arith, ap length i, h.daemons);
  confs = subst (AllByRecursion IsDriven) (sym i) h.confs;
}

header_keeps : (d : Draft) (ws : List Word) → Keeps d → Kept (header_line d ws)
header_keeps d ws k =
    then_ok (or_bad (two_of ws) (in_line kind.Header)) _ Keeps (λ w.
    wanted (bytes_eq w.0 (codes "scenario") && bytes_eq w.1 (codes "1")) (in_line kind.Header) _ Keeps (λ _.
    record {
      head = same_head d (record d { begun = true }) k.head refl refl refl refl refl refl;
      first = k.first;
      sent = k.sent;
      most_sent = k.most_sent;
      phases = k.phases;
      fair = k.fair;
    }))

-- a number word is within its range
number_least : (most : ℕ) (w : Word) → IfSome (number_of most w) (λ n. n ≤ most)
number_least most w =
    some_if (is_numeral w && nat_le (fold digit_on 0 w) most) (fold digit_on 0 w) (λ n. n ≤ most)
    (λ e. leb-true (fold digit_on 0 w) most (and_parts (is_numeral w) (nat_le (fold digit_on 0 w) most) e).1)

number_within : (least most : ℕ) (w : Word) → IfSome (number_in least most w) (IsWithin least most)
number_within least most w = by_number (number_of most w) (number_least most w)
  where
    by_number : (o : Option ℕ) → IfSome o (λ n. n ≤ most) → IfSome (option_and_then (λ n. if nat_le least n then Some n else None) o) (IsWithin least most)
    by_number None f = tt
    by_number (Some n) f = some_if (nat_le least n) n (IsWithin least most) (λ e. record { least = leb-true least n e; most = f })

device_within : (n : ℕ) (w : Word) (ds : List Named) → IfSome (device_from n w ds) (λ i. (n ≤ i) × (i < n + length ds))
device_within n w [] = tt
device_within n w (d ∷ ds) = first_or (device_from (n + 1) w ds) (device_within (n + 1) w ds)
  where
    further : (o : Option ℕ) → IfSome o (λ i. (n + 1 ≤ i) × (i < n + 1 + length ds)) → IfSome o (λ i. (n ≤ i) × (i < n + length (d ∷ ds)))
    further None f = tt
    further (Some i) f = (omega (arith, f.0), omega (arith, f.1))

    first_or : (o : Option ℕ) → IfSome o (λ i. (n + 1 ≤ i) × (i < n + 1 + length ds)) → IfSome (if bytes_eq d.name w then Some n else o) (λ i. (n ≤ i) × (i < n + length (d ∷ ds)))
    first_or o f = by_test (bytes_eq d.name w)
      where
        by_test : (test : Bool) → IfSome (if test then Some n else o) (λ i. (n ≤ i) × (i < n + length (d ∷ ds)))
        by_test true = (omega arith, omega arith)
        by_test false = further o f

limit_within : (before : Option ℕ) (most : ℕ) (w : Word) → IfOk (limit before most w) (IsWithin 1 most)
limit_within before most w =
    wanted (is_none before) (in_line kind.Word) _ (IsWithin 1 most) (λ _.
    ok_bad (number_in 1 most w) (bad 2 w (kind.Number 1 most)) (IsWithin 1 most) (number_within 1 most w))

entries_keep : (d : Draft) (w : Word) → Keeps d → d.current ≡ None → Kept (entries_limit d w)
entries_keep d w k now =
    let h = k.head in
    ok_then (limit d.entries 16384 w) _ (IsWithin 1 16384) Keeps (limit_within d.entries 16384 w) (λ n within.
    head_kept d (record d { entries = Some n }) k now refl refl refl
    (record { entries = within; unresolved = h.unresolved; controls = h.controls; lanes = h.lanes; devices = h.devices; names = h.names; daemons = h.daemons; confs = h.confs }))

unresolved_keep : (d : Draft) (w : Word) → Keeps d → d.current ≡ None → Kept (unresolved_limit d w)
unresolved_keep d w k now =
    let h = k.head in
    ok_then (limit d.unresolved 64 w) _ (IsWithin 1 64) Keeps (limit_within d.unresolved 64 w) (λ n within.
    head_kept d (record d { unresolved = Some n }) k now refl refl refl
    (record { entries = h.entries; unresolved = within; controls = h.controls; lanes = h.lanes; devices = h.devices; names = h.names; daemons = h.daemons; confs = h.confs }))

controls_keep : (d : Draft) (w : Word) → Keeps d → d.current ≡ None → Kept (control_limit d w)
controls_keep d w k now =
    let h = k.head in
    ok_then (limit d.controls 1048576 w) _ (IsWithin 1 1048576) Keeps (limit_within d.controls 1048576 w) (λ n within.
    head_kept d (record d { controls = Some n }) k now refl refl refl
    (record { entries = h.entries; unresolved = h.unresolved; controls = within; lanes = h.lanes; devices = h.devices; names = h.names; daemons = h.daemons; confs = h.confs }))

limit_keeps : (d : Draft) (ws : List Word) → Keeps d → d.current ≡ None → Kept (limit_line d ws)
limit_keeps d ws k now =
    then_ok (or_bad (two_of ws) (in_line kind.Word)) _ Keeps (λ w.
    ok_if (bytes_eq w.0 (codes "entries")) _ _ Keeps (entries_keep d w.1 k now)
    (ok_if (bytes_eq w.0 (codes "unresolved")) _ _ Keeps (unresolved_keep d w.1 k now)
    (ok_if (bytes_eq w.0 (codes "control")) (control_limit d w.1) (Err (in_line kind.Word)) Keeps (controls_keep d w.1 k now) tt)))

lanes_keep : (d : Draft) (ws : List Word) → Keeps d → d.current ≡ None → Kept (lanes_line d ws)
lanes_keep d ws k now =
    let h = k.head in
    then_ok (or_bad (one_of ws) (in_line kind.Word)) _ Keeps (λ w.
    wanted (is_none d.lanes) (in_line kind.Word) _ Keeps (λ _.
    ok_then (or_bad (number_of 16 w) (bad 1 w (kind.Number 0 16))) _ (λ n. n ≤ 16) Keeps (ok_bad (number_of 16 w) (bad 1 w (kind.Number 0 16)) (λ n. n ≤ 16) (number_least 16 w)) (λ n within.
    head_kept d (record d { lanes = Some n }) k now refl refl refl
    (record { entries = h.entries; unresolved = h.unresolved; controls = h.controls; lanes = within; devices = h.devices; names = h.names; daemons = h.daemons; confs = h.confs }))))

device_keeps : (d : Draft) (ws : List Word) → Keeps d → d.current ≡ None → Kept (device_line d ws)
device_keeps d ws k now =
    let h = k.head in
    then_ok (or_bad (two_of ws) (in_line kind.Word)) _ Keeps (λ w.
    wanted (is_device_name w.0 && not (is_taken d.devices w.0)) (bad 1 w.0 kind.Name) _ Keeps (λ named.
    then_ok (address_word 2 w.1) _ Keeps (λ a.
    wanted (nat_lt (length d.devices) 64) (in_line kind.Limit) _ Keeps (λ less.
    let more : length (with_device d w.0 a).devices ≤ 64 =
    omega (arith, ltb-true (length d.devices) 64 less, length-append d.devices (record { name = w.0; addr = record { 0 = a } } ∷ [])) in
    head_kept d (with_device d w.0 a) k now refl refl refl
    (record { entries = h.entries; unresolved = h.unresolved; controls = h.controls; lanes = h.lanes; devices = more; names = names_more w.0 a named; daemons = h.daemons; confs = h.confs })))))
  where
    names_more : (w : Word) (a : ℕ) → (is_device_name w && not (is_taken d.devices w)) ≡ true → AllByRecursion IsNamed (with_device d w a).devices
    names_more w a e =
        all_push IsNamed d.devices (record { name = w; addr = record { 0 = a } }) k.head.names
        (and_parts (is_device_name w) (not (is_taken d.devices w)) e).0

with_daemon_keeps : (d : Draft) (one : DaemonKind) → IsDriven one → Keeps d → d.current ≡ None → Kept (with_daemon d one)
with_daemon_keeps d one driven k now =
    let h = k.head in
    wanted (nat_lt (length d.daemons) 8) (in_line kind.Limit) _ Keeps (λ less.
    let more : length (d.daemons ++ one ∷ []) ≤ 8 = omega (arith, ltb-true (length d.daemons) 8 less, length-append d.daemons (one ∷ [])) in
    head_kept d (record d { daemons = d.daemons ++ one ∷ [] }) k now refl refl refl
    (record { entries = h.entries; unresolved = h.unresolved; controls = h.controls; lanes = h.lanes; devices = h.devices; names = h.names; daemons = more; confs = all_push IsDriven d.daemons one h.confs driven }))

daemon_keeps : (d : Draft) (ws : List Word) → Keeps d → d.current ≡ None → Kept (daemon_line d ws)
daemon_keeps d ws k now =
    then_ok (or_bad (one_of ws) (in_line kind.Word)) _ Keeps (λ w.
    ok_if (bytes_eq w (codes "admin")) _ _ Keeps (with_daemon_keeps d Admin tt k now)
    (ok_if (bytes_eq w (codes "plain")) (with_daemon d Plain) (Err (in_line kind.Word)) Keeps (with_daemon_keeps d Plain tt k now) tt))

are_files : (files ws : List Word) → AllByRecursion (λ file. is_file file ≡ true) files → IfOk (files_from files ws) (λ all. AllByRecursion (λ file. is_file file ≡ true) all)
are_files files [] a = a
are_files files (w ∷ ws) a =
    wanted (is_file w && nat_lt (length files) 8) (bad (length files + 1) w kind.File) _ (λ all. AllByRecursion (λ file. is_file file ≡ true) all) (λ e.
    are_files (files ++ w ∷ []) ws (all_push (λ file. is_file file ≡ true) files w a (and_parts (is_file w) (nat_lt (length files) 8) e).0))

smc_keeps : (d : Draft) (ws : List Word) → Keeps d → d.current ≡ None → Kept (smc_line d ws)
smc_keeps d ws k now =
    wanted (nat_lt 0 (length ws)) (in_line kind.Word) _ Keeps (λ _.
    ok_then (files_from [] ws) _ (λ all. AllByRecursion (λ file. is_file file ≡ true) all) Keeps (are_files [] ws tt) (λ files a. with_daemon_keeps d (Smc files) a k now))

phase_keeps : (n : ℕ) (d : Draft) (ws : List Word) → Keeps d → Kept (phase_line n d ws)
phase_keeps n d ws k =
    then_ok (or_bad (none_of ws) (in_line kind.Word)) _ Keeps (λ _.
    wanted (nat_lt (length (phases_so_far d)) 1000) (in_line kind.Limit) _ Keeps (λ less.
    let fresh : Phase = record { line = n; items = []; script = [] } in
    record {
      head = same_head d (with_phase n d) k.head refl refl refl refl refl refl;
      first = λ e. absurd (cc e);
      sent = omega (arith, k.sent, sum_by_push packets_at (phases_so_far d) fresh);
      most_sent = k.most_sent;
      phases = omega (arith, ltb-true (length (phases_so_far d)) 1000 less, length-append (phases_so_far d) (fresh ∷ []));
      fair = all_push (IsFair (lanes_of d) (length d.devices) d.daemons) (phases_so_far d) fresh k.fair (record { items = tt; script = tt; machine_lines = tt });
    }))

head_keeps : (n : ℕ) (d : Draft) (w : Word) (ws : List Word) → Keeps d → d.current ≡ None → Kept (head_line n d w ws)
head_keeps n d w ws k now =
    ok_if (bytes_eq w (codes "limit")) _ _ Keeps (limit_keeps d ws k now)
    (ok_if (bytes_eq w (codes "lanes")) _ _ Keeps (lanes_keep d ws k now)
    (ok_if (bytes_eq w (codes "device")) _ _ Keeps (device_keeps d ws k now)
    (ok_if (bytes_eq w (codes "daemon")) _ _ Keeps (daemon_keeps d ws k now)
    (ok_if (bytes_eq w (codes "smc")) _ _ Keeps (smc_keeps d ws k now)
    (ok_if (bytes_eq w (codes "phase")) (phase_line n d ws) (Err (in_line kind.Word)) Keeps (phase_keeps n d ws k) tt)))))

device_ok : (d : Draft) (w : Word) → IfOk (device_word d w) (IsWithin 1 (length d.devices))
device_ok d w = ok_bad (device_of w d.devices) (bad 3 w kind.Device) (IsWithin 1 (length d.devices)) (by_device (device_of w d.devices) (device_within 1 w d.devices))
  where
    by_device : (o : Option ℕ) → IfSome o (λ i. (1 ≤ i) × (i < 1 + length d.devices)) → IfSome o (IsWithin 1 (length d.devices))
    by_device None f = tt
    by_device (Some i) f = record { least = f.0; most = omega (arith, f.1) }

-- one more item of the phase that is read
item_fair : (d : Draft) (p : Phase) (i : Item) → IsItem (lanes_of d) (length d.devices) i → IsFair (lanes_of d) (length d.devices) d.daemons p →
    IsFair (lanes_of d) (length d.devices) d.daemons (record p { items = p.items ++ i ∷ [] })
item_fair d p i is f = record { items = all_push (IsItem (lanes_of d) (length d.devices)) p.items i f.items is; script = f.script; machine_lines = f.machine_lines }

packet_keeps : (n : ℕ) (d : Draft) (p : Phase) (lane : ℕ) (dev digits : Word) → Keeps d → d.current ≡ Some p → IsWithin 1 (lanes_of d) lane → Kept (packet_item n d p lane dev digits)
packet_keeps n d p lane dev digits k now of_lane =
    ok_then (device_word d dev) _ (IsWithin 1 (length d.devices)) Keeps (device_ok d dev) (λ i of_device.
    then_ok (hex_word 4 digits) _ Keeps (λ bytes.
    wanted (nat_lt d.sent 1048576) (in_line kind.Limit) _ Keeps (λ less.
    let item : Item = record { line = n; lane = record { 0 = lane }; dev = i; given = Bytes bytes } in
    let room : d.sent < 1048576 = ltb-true d.sent 1048576 less in
    let one : packets_in item.given ≡ 1 = refl in
    moved_kept d p (record p { items = p.items ++ item ∷ [] }) (d.sent + 1) k now
    (omega (arith, one, sum_by_push (λ (x : Item). packets_in x.given) p.items item)) (omega (arith, room))
    (item_fair d p item (record { least_lane = of_lane.least; most_lane = of_lane.most; least_device = of_device.least; most_device = of_device.most; file = tt })))))

trace_keeps : (n : ℕ) (d : Draft) (p : Phase) (lane : ℕ) (dev file : Word) → Keeps d → d.current ≡ Some p → IsWithin 1 (lanes_of d) lane → Kept (trace_item n d p lane dev file)
trace_keeps n d p lane dev file k now of_lane =
    ok_then (device_word d dev) _ (IsWithin 1 (length d.devices)) Keeps (device_ok d dev) (λ i of_device.
    wanted (is_file file) (bad 4 file kind.File) _ Keeps (λ named.
    let item : Item = record { line = n; lane = record { 0 = lane }; dev = i; given = Trace file } in
    let none : packets_in item.given ≡ 0 = refl in
    moved_kept d p (record p { items = p.items ++ item ∷ [] }) d.sent k now
    (omega (arith, none, sum_by_push (λ (x : Item). packets_in x.given) p.items item)) k.most_sent
    (item_fair d p item (record { least_lane = of_lane.least; most_lane = of_lane.most; least_device = of_device.least; most_device = of_device.most; file = named }))))

lane_keeps : (n : ℕ) (d : Draft) (p : Phase) (ws : List Word) → Keeps d → d.current ≡ Some p → Kept (lane_line n d p ws)
lane_keeps n d p ws k now =
    then_ok (or_bad (four_of ws) (in_line kind.Word)) _ Keeps (λ w.
    ok_then (or_bad (number_in 1 (lanes_of d) w.0) (bad 1 w.0 kind.Lane)) _ (IsWithin 1 (lanes_of d)) Keeps
    (ok_bad (number_in 1 (lanes_of d) w.0) (bad 1 w.0 kind.Lane) (IsWithin 1 (lanes_of d)) (number_within 1 (lanes_of d) w.0)) (λ lane of_lane.
    ok_if (bytes_eq w.1 (codes "pkt")) _ _ Keeps (packet_keeps n d p lane w.2 w.3 k now of_lane)
    (ok_if (bytes_eq w.1 (codes "trace")) (trace_item n d p lane w.2 w.3) (Err (in_line kind.Word)) Keeps (trace_keeps n d p lane w.2 w.3 k now of_lane) tt)))

script_keeps : (n : ℕ) (d : Draft) (p : Phase) (ws : List Word) → Keeps d → d.current ≡ Some p → Kept (script_line n d p ws)
script_keeps n d p ws k now =
    then_ok (or_bad (two_led ws) (in_line kind.Word)) _ Keeps (λ w.
    ok_then (script_of w.1 (who_of d w.0) w.2) _ (λ s. who_of d w.0 ≡ Ok false → NeedsNoMachine s) Keeps (script_suits w.1 (who_of d w.0) w.2) (λ s suits.
    ok_at (daemon_word d w.0) _ (IsWithin 1 (length d.daemons)) Keeps
    (ok_bad (number_in 1 (length d.daemons) w.0) (bad 1 w.0 kind.Daemon) (IsWithin 1 (length d.daemons)) (number_within 1 (length d.daemons) w.0)) (λ i at of_daemon.
    let l : ScriptLine = record { line = n; daemon = record { 0 = i }; script = s } in
    let who : who_of d w.0 ≡ Ok (is_smc_at d.daemons i) = ap (λ r. r >>= λ j. Ok (is_smc_at d.daemons j)) at in
    moved_kept d p (record p { script = p.script ++ l ∷ [] }) d.sent k now refl k.most_sent
    (λ f. record {
      items = f.items;
      script = all_push (IsAsked (length d.daemons)) p.script l f.script (record { least = of_daemon.least; most = of_daemon.most });
      machine_lines = all_push (SuitsDaemon d.daemons) p.script l f.machine_lines (λ none. suits (who ∙ ap Ok none));
    }))))

part_keeps : (n : ℕ) (d : Draft) (p : Phase) (w : Word) (ws : List Word) → Keeps d → d.current ≡ Some p → Kept (phase_part n d p w ws)
part_keeps n d p w ws k now =
    ok_if (bytes_eq w (codes "lane")) _ _ Keeps (lane_keeps n d p ws k now)
    (ok_if (bytes_eq w (codes "daemon")) _ _ Keeps (script_keeps n d p ws k now)
    (ok_if (bytes_eq w (codes "phase")) (phase_line n d ws) (Err (in_line kind.Word)) Keeps (phase_keeps n d ws k) tt))

in_keeps : (n : ℕ) (d : Draft) (c : Option Phase) (w : Word) (ws : List Word) → Keeps d → d.current ≡ c → Kept (line_in n d c w ws)
in_keeps n d None w ws k now = head_keeps n d w ws k now
in_keeps n d (Some p) w ws k now = part_keeps n d p w ws k now

pub line_keeps : (n : ℕ) (d : Draft) (ws : List Word) → Keeps d → Kept (line_of n d ws)
line_keeps n d [] k = k
line_keeps n d (w ∷ ws) k = ok_if d.begun _ _ Keeps (in_keeps n d d.current w ws k refl) (header_keeps d (w ∷ ws) k)

at_keeps : (n : ℕ) (l : List ℕ) (r : Result Draft Mistake) → Kept r → IfOk (at_line n l r) Keeps
at_keeps n l (Ok d) k = k
at_keeps n l (Err e) k = tt

pub lines_keep : (n : ℕ) (d : Draft) (ls : List (List ℕ)) → Keeps d → IfOk (draft_from n d ls) Keeps
lines_keep n d [] k = k
lines_keep n d (l ∷ ls) k =
    ok_then (at_line n (without_return l) (line_of n d (words_of (without_return l)))) (λ t. draft_from (next_line n) t ls) Keeps Keeps
    (at_keeps n (without_return l) (line_of n d (words_of (without_return l))) (line_keeps n d (words_of (without_return l)) k))
    (λ t kept. lines_keep (next_line n) t ls kept)

whole_fits : (d : Draft) → Keeps d → IfOk (whole d) Fits
whole_fits d k = ok_if d.begun (Ok made) _ Fits fits tt
  where
    made : Scenario
    made = record { limits = limits_of d; devices = d.devices; lanes = lanes_of d; daemons = d.daemons; phases = phases_so_far d }

    entries : IsWithin 1 16384 (unwrap_or d.entries 1024)
    entries = unwrapped d.entries 1024 (IsWithin 1 16384) k.head.entries (record { least = omega arith; most = omega arith })

    unresolved : IsWithin 1 64 (unwrap_or d.unresolved 10)
    unresolved = unwrapped d.unresolved 10 (IsWithin 1 64) k.head.unresolved (record { least = omega arith; most = omega arith })

    controls : IsWithin 1 1048576 (unwrap_or d.controls 65536)
    controls = unwrapped d.controls 65536 (IsWithin 1 1048576) k.head.controls (record { least = omega arith; most = omega arith })

    fits : Fits made
    fits = record {
      least_entries = entries.least;
      most_entries = entries.most;
      least_unresolved = unresolved.least;
      most_unresolved = unresolved.most;
      least_controls = controls.least;
      most_controls = controls.most;
      phases = refl;
      most_phases = k.phases;
      lanes = refl;
      most_lanes = unwrapped d.lanes 1 (λ n. n ≤ 16) k.head.lanes (omega arith);
      admins = refl;
      most_daemons = k.head.daemons;
      confs = k.head.confs;
      devices = refl;
      most_devices = k.head.devices;
      names = k.head.names;
      items = all_weaker (IsFair (lanes_of d) (length d.devices) d.daemons) (λ p. AllByRecursion (IsItem (lanes_of d) (length d.devices)) p.items) (λ p f. f.items) (phases_so_far d) k.fair;
      script = all_weaker (IsFair (lanes_of d) (length d.devices) d.daemons) (λ p. AllByRecursion (IsAsked (length d.daemons)) p.script) (λ p f. f.script) (phases_so_far d) k.fair;
      machine_lines = all_weaker (IsFair (lanes_of d) (length d.devices) d.daemons) (λ p. AllByRecursion (SuitsDaemon d.daemons) p.script) (λ p f. f.machine_lines) (phases_so_far d) k.fair;
      most_packets = omega (arith, k.sent, k.most_sent);
    }

pub empty_keeps : Keeps empty_draft
empty_keeps = record {
  head = record { entries = tt; unresolved = tt; controls = tt; lanes = tt; devices = omega arith; names = tt; daemons = omega arith; confs = tt };
  first = λ _. refl;
  sent = refl;
  most_sent = omega arith;
  phases = omega arith;
  fair = tt;
}

pub spelled_keeps : SpelledFits
spelled_keeps bytes s e =
    IfOk-at_ok Fits e (ok_then (draft_from 1 empty_draft (lines_of bytes)) whole Keeps Fits (lines_keep 1 empty_draft (lines_of bytes) empty_keeps) whole_fits)
