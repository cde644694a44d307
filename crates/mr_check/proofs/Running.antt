-- Every line of a legal history that has what the scenario asks is right.
use Rattle.std.proofs.Common.{◌≡◌, ◌∙◌, ℕ, zero, suc, ◌+◌, ◌≤◌, ◌<◌, Bool, true, false, Some, List, [], ◌∷◌, ◌++◌, length, take, drop, fold, refl, sym, ap, arith, append-nil, append_assoc, subst}
use Rattle.std.proofs.lemmas.Grind.{flat_map-append}
use Rattle.std.specs.List.{AllByRecursion, list_any}
use Rattle.std.specs.Prelude.{IfSome, ◌||◌, if◌then◌else◌, slice_get}
use Rattle.mr_base.specs.Outside.{Files}
use Rattle.mr_base.specs.declared.numbers.DaemonNo.{DaemonNo}
use Rattle.mr_load.specs.Callers.{IsCalled, IsOneTo, has_machine}
use Rattle.mr_load.specs.Loading.{items_in}
use Rattle.mr_load.specs.Loads.{IsLoaded}
use Rattle.mr_load.specs.Made.{MadeFrom, PartOf, Sent, asked, asked_in, sent, sent_in, to_ask, to_send}
use Rattle.mr_load.specs.declared.loading.Loaded.{Loaded}
use Rattle.mr_model.proofs.PushingLists.{phases_push}
use Rattle.mr_model.specs.Legal.{Agrees, IsDaemon, LegalFrom, RecordsAgree, least_look}
use Rattle.mr_model.specs.Past.{is_end, phases}
use Rattle.mr_model.specs.declared.entry.Entry.{Entry}
use Rattle.mr_model.specs.declared.entry.Entry.TheVariants.{Call, Slow, Settle, Tick, Recv, EndPhase}
use Rattle.mr_model.specs.declared.entry.FastRecord.{FastRecord}
use Rattle.mr_model.specs.declared.entry.ReleasedId.{ReleasedId}
use Rattle.mr_model.specs.declared.limits.Limits.{Limits}
use Rattle.mr_plain.proofs.Looking as looking
use Rattle.mr_scenario.specs.declared.scenario.Item.{Item}
use Rattle.mr_scenario.specs.declared.scenario.Phase.{Phase}
use Rattle.mr_scenario.specs.declared.scenario.Script.{Script}
use Rattle.mr_text.specs.Whole.{line_count}
use Rattle.smc_core.specs.Machine.{Machine}
use Rattle.smc_daemon.specs.Courses.{DrivesFrom}
use Rattle.mr_check.specs.Callers.{lines_to, machine_at, packets_to}
use Rattle.mr_check.specs.Judging.{EntriesRight, EntryRight}
use Rattle.mr_check.specs.Rules.{AsksNext, CanEnd, DrivesUpTo, EndsRight, FirstLine, FurtherLine, HasLook, HasSize, IsFront, IsMachines, IsNext, RecordLooks}
use Rattle.mr_check.proofs.Lists.{take_at}
use Rattle.mr_check.proofs.Machines.{InParts, drives_front, parts_push}
use Rattle.mr_check.proofs.Packets.{lines_more, lines_packets, packets_are, packets_more}
use Rattle.mr_check.proofs.Sent.{asked_push, sent_push}

-- the first of two lists stands first in both
front_both : {A : Type 0} (xs ys : List A) → IsFront xs (xs ++ ys)
front_both [] ys = refl
front_both {A} (x ∷ xs) ys = ap (λ (zs : List A). x ∷ zs) (front_both xs ys)

-- Behind g, which has what the phases `done` ask, a phase has this: some of it, and then the rest.
sends_front : (files : Files) (l : Loaded) → IsLoaded files l → (front a b : List Entry) (e : Entry) (k lane : ℕ) (p : Phase) → 1 ≤ lane → lane ≤ l.scenario.lanes
    → slice_get l.scenario.phases k ≡ Some p → sent lane front ≡ lines_packets files l k lane → sent lane (a ++ e ∷ b) ≡ to_send files lane (items_in (take k l.scenario.phases)) p
    → IsFront (sent lane ((front ++ a) ++ e ∷ [])) (packets_to l (k + 1) lane)
sends_front files l is front a b e k lane p least most at before its =
    let now : List Sent = sent lane ((front ++ a) ++ e ∷ []) in
    let rest : List Sent = sent lane b in
    let whole : packets_to l (k + 1) lane ≡ now ++ rest =
    packets_are files l (k + 1) lane is least most ∙ packets_more files l k lane p at
    ∙ ap (λ (xs : List Sent). xs ++ to_send files lane (items_in (take k l.scenario.phases)) p) (sym before)
    ∙ ap (λ (xs : List Sent). sent lane front ++ xs) (sym its)
    ∙ sym (flat_map-append (sent_in lane) front (a ++ e ∷ b))
    ∙ ap (sent lane) (sym (append_assoc front a (e ∷ b)) ∙ sym (append_assoc (front ++ a) (e ∷ []) b))
    ∙ flat_map-append (sent_in lane) ((front ++ a) ++ e ∷ []) b in
    subst (IsFront now) (sym whole) (front_both now rest)

asks_front : (l : Loaded) (front a b : List Entry) (e : Entry) (k d : ℕ) (p : Phase)
    → slice_get l.scenario.phases k ≡ Some p → asked d front ≡ lines_to l k d → asked d (a ++ e ∷ b) ≡ to_ask d p
    → IsFront (asked d ((front ++ a) ++ e ∷ [])) (lines_to l (k + 1) d)
asks_front l front a b e k d p at before its =
    let now : List Script = asked d ((front ++ a) ++ e ∷ []) in
    let rest : List Script = asked d b in
    let whole : lines_to l (k + 1) d ≡ now ++ rest =
    lines_more l k d p at
    ∙ ap (λ (xs : List Script). xs ++ to_ask d p) (sym before)
    ∙ ap (λ (xs : List Script). asked d front ++ xs) (sym its)
    ∙ sym (flat_map-append (asked_in d) front (a ++ e ∷ b))
    ∙ ap (asked d) (sym (append_assoc front a (e ∷ b)) ∙ sym (append_assoc (front ++ a) (e ∷ []) b))
    ∙ flat_map-append (asked_in d) ((front ++ a) ++ e ∷ []) b in
    subst (IsFront now) (sym whole) (front_both now rest)

-- What a history has reached: so many phases have ended, and all that they ask was done.
pub record Reached (files : Files) (l : Loaded) (k : ℕ) (g : List Entry) : Type 0 where
  pub ended : phases g ≡ k
  pub lanes : (lane : ℕ) → 1 ≤ lane → lane ≤ l.scenario.lanes → sent lane g ≡ lines_packets files l k lane
  pub daemons : (d : ℕ) → 1 ≤ d → d ≤ length l.scenario.daemons → has_machine l.scenario d ≡ false → asked d g ≡ lines_to l k d
  pub parts : InParts k g

-- Each daemon with a routing machine did just what it does, in the whole history.
abbrev pub AllDrive : Loaded → List Entry → Type 0
AllDrive l whole = (d : ℕ) (m : Machine) → machine_at l d ≡ Some m → DrivesFrom d m [] l.scenario.phases whole

-- and in the phases up to this one, which stand first in it
drives_up_to : (l : Loaded) (whole g front behind : List Entry) (k d : ℕ) (m : Machine) → AllDrive l whole → machine_at l d ≡ Some m → phases g ≡ k → whole ≡ front ++ behind → InParts (suc k) front → DrivesUpTo l g d m front
drives_up_to l whole g front behind k d m all has same splits parts =
    let next : suc k ≡ phases g + 1 = omega (arith, same) in
    subst (λ (n : ℕ). DrivesFrom d m [] (take n l.scenario.phases) front) next (drives_front (suc k) d m [] l.scenario.phases whole front behind splits parts (all d m has))

-- an entry of a daemon in a phase
daemon_next : (files : Files) (l : Loaded) (whole front a b rest : List Entry) (e : Entry) (d : DaemonNo) (k : ℕ) (p : Phase) → slice_get l.scenario.phases k ≡ Some p → k < length l.scenario.phases → AllDrive l whole
    → whole ≡ (front ++ a) ++ e ∷ (b ++ EndPhase ∷ rest) → Reached files l k front → PartOf files l.scenario (items_in (take k l.scenario.phases)) p (a ++ e ∷ b) → phases (front ++ a) ≡ k
    → IsOneTo (length l.scenario.daemons) d.0 → IsDaemon l.limits d → AsksNext l (front ++ a) d e
daemon_next files l whole front a b rest e d k p at less all splits r0 part same called daemon = record {
  daemon_is = daemon;
  is_open = omega (arith, same, less);
  next = λ plain. subst (λ (n : ℕ). IsFront (asked d.0 ((front ++ a) ++ e ∷ [])) (lines_to l (n + 1) d.0)) (sym same)
      (asks_front l front a b e k d.0 p at (r0.daemons d.0 called.first called.last plain) (part.daemons d.0 called.first called.last plain));
  machine = λ m has. (
    b ++ EndPhase ∷ [],
    drives_up_to l whole (front ++ a) ((front ++ a) ++ e ∷ (b ++ EndPhase ∷ [])) rest k d.0 m all has same
        (splits ∙ sym (append_assoc (front ++ a) (e ∷ (b ++ EndPhase ∷ [])) rest ∙ ap (λ (x : List Entry). (front ++ a) ++ e ∷ x) (append_assoc b (EndPhase ∷ []) rest)))
        (subst (InParts (suc k)) (append_assoc front (a ++ e ∷ b) (EndPhase ∷ []) ∙ ap (λ (x : List Entry). front ++ x) (append_assoc a (e ∷ b) (EndPhase ∷ [])) ∙ sym (append_assoc front a (e ∷ (b ++ EndPhase ∷ []))))
        (parts_push k front (a ++ e ∷ b) r0.parts part.no_end)),
  );
}

-- an entry in a phase is the next one of its caller
is_next : (files : Files) (l : Loaded) → IsLoaded files l → (whole front a b rest : List Entry) (e : Entry) (k : ℕ) (p : Phase) → slice_get l.scenario.phases k ≡ Some p → k < length l.scenario.phases
    → AllDrive l whole → whole ≡ (front ++ a) ++ e ∷ (b ++ EndPhase ∷ rest) → Reached files l k front → PartOf files l.scenario (items_in (take k l.scenario.phases)) p (a ++ e ∷ b) → phases (front ++ a) ≡ k → IsCalled l.scenario e
    → Agrees l.limits (front ++ a) e → IsNext l (front ++ a) e
is_next files l is whole front a b rest (Call d r reply released) k p at less all splits r0 part same called agrees = daemon_next files l whole front a b rest (Call d r reply released) d k p at less all splits r0 part same called agrees.control.daemon
is_next files l is whole front a b rest (Tick d ms) k p at less all splits r0 part same called agrees = daemon_next files l whole front a b rest (Tick d ms) d k p at less all splits r0 part same called agrees.daemon
is_next files l is whole front a b rest (Recv d message) k p at less all splits r0 part same called agrees = daemon_next files l whole front a b rest (Recv d message) d k p at less all splits r0 part same called agrees.control.daemon
is_next files l is whole front a b rest (Slow lane index look flow o) k p at less all splits r0 part same called agrees =
    record {
      lane_is = agrees.lane_is;
      next = subst (λ (n : ℕ). IsFront (sent lane.0 ((front ++ a) ++ Slow lane index look flow o ∷ [])) (packets_to l (n + 1) lane.0)) (sym same)
          (sends_front files l is front a b (Slow lane index look flow o) k lane.0 p called.first called.last at (r0.lanes lane.0 called.first called.last) (part.lanes lane.0 called.first called.last));
    }
is_next files l is whole front a b rest (Settle lane records) k p at less all splits r0 part same called agrees =
    record {
      lane_is = agrees.lane_is;
      next = subst (λ (n : ℕ). IsFront (sent lane.0 ((front ++ a) ++ Settle lane records ∷ [])) (packets_to l (n + 1) lane.0)) (sym same)
          (sends_front files l is front a b (Settle lane records) k lane.0 p called.first called.last at (r0.lanes lane.0 called.first called.last) (part.lanes lane.0 called.first called.last));
    }
is_next files l is whole front a b rest EndPhase k p at less all splits r0 part same called agrees = tt

has_size : (limits : Limits) (g : List Entry) (e : Entry) → Agrees limits g e → HasSize e
has_size limits g (Settle lane records) agrees = (agrees.some, agrees.most)
has_size limits g (Call d r reply released) agrees = tt
has_size limits g (Slow lane index look flow o) agrees = tt
has_size limits g (Tick d ms) agrees = tt
has_size limits g (Recv d message) agrees = tt
has_size limits g EndPhase agrees = tt

is_machines : (limits : Limits) (g : List Entry) (e : Entry) → Agrees limits g e → IsMachines limits g e
is_machines limits g (Call d r reply released) agrees = record { room = agrees.control.room; replies = agrees.replies; many = ap length agrees.releases }
is_machines limits g (Slow lane index look flow o) agrees = agrees.is_outcome
is_machines limits g (Tick d ms) agrees = agrees.room
is_machines limits g (Recv d message) agrees = (agrees.control.room, agrees.gives)
is_machines limits g (Settle lane records) agrees = tt
is_machines limits g EndPhase agrees = tt

has_look : (limits : Limits) (g : List Entry) (e : Entry) → Agrees limits g e → HasLook g e
has_look limits g (Slow lane index look flow o) agrees = looking.looks limits g (Slow lane index look flow o) agrees
has_look limits g (Settle lane records) agrees = tt
has_look limits g (Call d r reply released) agrees = tt
has_look limits g (Tick d ms) agrees = tt
has_look limits g (Recv d message) agrees = tt
has_look limits g EndPhase agrees = tt

record_right : (limits : Limits) (g : List Entry) (index least : ℕ) (rs : List FastRecord) → RecordsAgree limits g index least rs
    → (i : ℕ) → IfSome (slice_get rs i) (RecordLooks limits g (fold (λ b r. r.look) least (take i rs)))
record_right limits g index least [] a i = tt
record_right limits g index least (r ∷ rs) a zero = record { within = a.1; behind = a.2; forward = a.3 }
record_right limits g index least (r ∷ rs) a (suc i) = record_right limits g r.index r.look rs a.4 i

further : (l : Loaded) (g : List Entry) (e : Entry) → Agrees l.limits g e → (i : ℕ) → FurtherLine l g e i
further l g (Call d r reply released) agrees i = ap (λ (rs : List ReleasedId). slice_get rs i) agrees.releases
further l g (Settle lane records) agrees i = record_right l.limits g _ (least_look lane g) records agrees.all i
further l g (Slow lane index look flow o) agrees i = tt
further l g (Tick d ms) agrees i = tt
further l g (Recv d message) agrees i = tt
further l g EndPhase agrees i = tt

ends_not : (l : Loaded) (g : List Entry) (e : Entry) → is_end e ≡ false → EndsRight l g e
ends_not l g (Call d r reply released) none = tt
ends_not l g (Slow lane index look flow o) none = tt
ends_not l g (Settle lane records) none = tt
ends_not l g (Tick d ms) none = tt
ends_not l g (Recv d message) none = tt
ends_not l g EndPhase none = absurd (cc none)

-- neither is one of the two
neither : (x y : Bool) → (x || y) ≡ false → (x ≡ false) × (y ≡ false)
neither true y e = absurd (cc e)
neither false y e = (refl, e)

-- Entries without an end of a phase leave the count of these.
ends_none : (h part : List Entry) → list_any is_end part ≡ false → phases (h ++ part) ≡ phases h
ends_none h [] none = ap phases (append-nil h)
ends_none h (e ∷ part) none =
    let apart = neither (is_end e) (list_any is_end part) none in
    let one : phases (h ++ e ∷ []) ≡ phases h + 0 = phases_push h e ∙ ap (λ (b : Bool). phases h + (if b then 1 else 0)) apart.0 in
    let more : phases ((h ++ e ∷ []) ++ part) ≡ phases (h ++ e ∷ []) = ends_none (h ++ e ∷ []) part apart.1 in
    ap phases (sym (append_assoc h (e ∷ []) part)) ∙ omega (arith, more, one)

legal_behind : (limits : Limits) (g a b : List Entry) → LegalFrom limits g (a ++ b) → LegalFrom limits (g ++ a) b
legal_behind limits g [] b legal = subst (λ (x : List Entry). LegalFrom limits x b) (sym (append-nil g)) legal
legal_behind limits g (e ∷ a) b legal = subst (λ (x : List Entry). LegalFrom limits x b) (append_assoc g (e ∷ []) a) (legal_behind limits (g ++ e ∷ []) a b legal.1)

-- the entries of a phase, of which those of a stand before
in_part : (files : Files) (l : Loaded) → IsLoaded files l → (every front part rest : List Entry) (k n : ℕ) (p : Phase) → slice_get l.scenario.phases k ≡ Some p → k < length l.scenario.phases
    → AllDrive l every → every ≡ (front ++ part) ++ EndPhase ∷ rest → Reached files l k front
    → PartOf files l.scenario (items_in (take k l.scenario.phases)) p part → ((first : ℕ) → EntriesRight l (front ++ part) first (EndPhase ∷ rest) n)
    → (b a : List Entry) → part ≡ a ++ b → LegalFrom l.limits (front ++ a) (b ++ EndPhase ∷ rest) → phases (front ++ a) ≡ k → AllByRecursion (IsCalled l.scenario) b → list_any is_end b ≡ false
    → (first : ℕ) → EntriesRight l (front ++ a) first (b ++ EndPhase ∷ rest) n
in_part files l is every front part rest k n p at less all is_every r0 its behind [] a whole legal same called none first =
    subst (λ (x : List Entry). EntriesRight l (front ++ x) first (EndPhase ∷ rest) n) (whole ∙ append-nil a) (behind first)
in_part files l is every front part rest k n p at less all is_every r0 its behind (e ∷ b) a whole legal same called none first =
    let apart = neither (is_end e) (list_any is_end b) none in
    let now : PartOf files l.scenario (items_in (take k l.scenario.phases)) p (a ++ e ∷ b) = subst (PartOf files l.scenario (items_in (take k l.scenario.phases)) p) whole its in
    let here : every ≡ (front ++ a) ++ e ∷ (b ++ EndPhase ∷ rest) =
    is_every ∙ ap (λ (x : List Entry). (front ++ x) ++ EndPhase ∷ rest) whole ∙ append_assoc front (a ++ e ∷ b) (EndPhase ∷ rest)
    ∙ ap (λ (x : List Entry). front ++ x) (append_assoc a (e ∷ b) (EndPhase ∷ rest)) ∙ sym (append_assoc front a (e ∷ (b ++ EndPhase ∷ rest))) in
    let step : phases ((front ++ a) ++ e ∷ []) ≡ k = phases_push (front ++ a) e ∙ ap (λ (x : Bool). phases (front ++ a) + (if x then 1 else 0)) apart.0 ∙ omega (arith, same) in
    let one : EntryRight l (front ++ a) first e n = record {
      first_line = λ line. record {
        next = is_next files l is every front a b rest e k p at less all here r0 now same called.0 legal.0;
        size = has_size l.limits (front ++ a) e legal.0;
        machine = is_machines l.limits (front ++ a) e legal.0;
        look = has_look l.limits (front ++ a) e legal.0;
        ends = ends_not l (front ++ a) e apart.0;
      };
      further = λ i less line. further l (front ++ a) e legal.0 i;
    } in
    let more : EntriesRight l (front ++ (a ++ e ∷ [])) (first + line_count e) (b ++ EndPhase ∷ rest) n =
    in_part files l is every front part rest k n p at less all is_every r0 its behind b (a ++ e ∷ []) (whole ∙ sym (append_assoc a (e ∷ []) b))
    (subst (λ (x : List Entry). LegalFrom l.limits x (b ++ EndPhase ∷ rest)) (append_assoc front a (e ∷ [])) legal.1)
    (subst (λ (x : List Entry). phases x ≡ k) (append_assoc front a (e ∷ [])) step) called.1 apart.1 (first + line_count e) in
    (one, subst (λ (x : List Entry). EntriesRight l x (first + line_count e) (b ++ EndPhase ∷ rest) n) (sym (append_assoc front a (e ∷ []))) more)

drop_at : (xs : List Phase) (k : ℕ) (x : Phase) (ys : List Phase) → drop k xs ≡ x ∷ ys → (slice_get xs k ≡ Some x) × (drop (suc k) xs ≡ ys)
drop_at [] zero x ys e = absurd (cc e)
drop_at [] (suc k) x ys e = absurd (cc e)
drop_at (z ∷ xs) zero x ys e =
    let first : z ≡ x = cc e in
    let rest : xs ≡ ys = cc e in
    (ap (λ (y : Phase). Some y) first, rest)
drop_at (z ∷ xs) (suc k) x ys e = drop_at xs k x ys e

place_less : (xs : List Phase) (k : ℕ) (x : Phase) → slice_get xs k ≡ Some x → k < length xs
place_less [] k x at = absurd (cc at)
place_less (z ∷ xs) zero x at = omega arith
place_less (z ∷ xs) (suc k) x at = omega (arith, place_less xs k x at)

-- a phase is done
reached_all : (files : Files) (l : Loaded) → IsLoaded files l → (g part : List Entry) (k : ℕ) (p : Phase) → slice_get l.scenario.phases k ≡ Some p → Reached files l k g
    → PartOf files l.scenario (items_in (take k l.scenario.phases)) p part
    → ((lane : ℕ) → 1 ≤ lane → lane ≤ l.scenario.lanes → sent lane (g ++ part) ≡ lines_packets files l (k + 1) lane)
    × ((d : ℕ) → 1 ≤ d → d ≤ length l.scenario.daemons → has_machine l.scenario d ≡ false → asked d (g ++ part) ≡ lines_to l (k + 1) d)
reached_all files l is g part k p at r0 its = (
  λ lane least most. flat_map-append (sent_in lane) g part
      ∙ ap (λ (xs : List Sent). xs ++ sent lane part) (r0.lanes lane least most)
      ∙ ap (λ (xs : List Sent). lines_packets files l k lane ++ xs) (its.lanes lane least most)
      ∙ sym (packets_more files l k lane p at),
  λ d least most plain. flat_map-append (asked_in d) g part
      ∙ ap (λ (xs : List Script). xs ++ asked d part) (r0.daemons d least most plain)
      ∙ ap (λ (xs : List Script). lines_to l k d ++ xs) (its.daemons d least most plain)
      ∙ sym (lines_more l k d p at),
)

items_more : (l : Loaded) (k : ℕ) (p : Phase) → slice_get l.scenario.phases k ≡ Some p → items_in (take k l.scenario.phases) ++ p.items ≡ items_in (take (k + 1) l.scenario.phases)
items_more l k p at =
    sym (ap items_in (take_at l.scenario.phases k p at) ∙ flat_map-append (λ (q : Phase). q.items) (take k l.scenario.phases) (p ∷ [])
    ∙ ap (λ (xs : List Item). items_in (take k l.scenario.phases) ++ xs) (append-nil p.items))

pub phases_right : (files : Files) (l : Loaded) → IsLoaded files l → (every : List Entry) → AllDrive l every → (ps : List Phase) (k : ℕ) → drop k l.scenario.phases ≡ ps → (g : List Entry) → Reached files l k g
    → (h : List Entry) → every ≡ g ++ h → MadeFrom files l.scenario (items_in (take k l.scenario.phases)) ps h → LegalFrom l.limits g h → (first n : ℕ) → EntriesRight l g first h n
phases_right files l is every all [] k left g r0 h is_every made legal first n = subst (λ (x : List Entry). EntriesRight l g first x n) (sym made) tt
phases_right files l is every all (p ∷ ps) k left g r0 h is_every (part, rest, splits, its, made) legal first n =
    let at = drop_at l.scenario.phases k p ps left in
    let next : k + 1 ≡ suc k = omega arith in
    let same : phases (g ++ part) ≡ k = ends_none g part its.no_end ∙ r0.ended in
    let is_open : k < length l.scenario.phases = place_less l.scenario.phases k p at.0 in
    let done = reached_all files l is g part k p at.0 r0 its in
    let parts : InParts (suc k) ((g ++ part) ++ EndPhase ∷ []) = parts_push k g part r0.parts its.no_end in
    let here : every ≡ (g ++ part) ++ EndPhase ∷ rest = is_every ∙ ap (λ (x : List Entry). g ++ x) splits ∙ sym (append_assoc g part (EndPhase ∷ rest)) in
    let behind_it : every ≡ ((g ++ part) ++ EndPhase ∷ []) ++ rest = here ∙ sym (append_assoc (g ++ part) (EndPhase ∷ []) rest) in
    let ended : phases ((g ++ part) ++ EndPhase ∷ []) ≡ k + 1 = omega (arith, phases_push (g ++ part) EndPhase, same) in
    let r1 : Reached files l (k + 1) ((g ++ part) ++ EndPhase ∷ []) = record {
      ended = ended;
      lanes = λ lane least most. sent_push lane (g ++ part) EndPhase ∙ append-nil (sent lane (g ++ part)) ∙ done.0 lane least most;
      daemons = λ d least most plain. asked_push d (g ++ part) EndPhase ∙ append-nil (asked d (g ++ part)) ∙ done.1 d least most plain;
      parts = subst (λ (i : ℕ). InParts i ((g ++ part) ++ EndPhase ∷ [])) (sym next) parts;
    } in
    let whole : LegalFrom l.limits g (part ++ EndPhase ∷ rest) = subst (LegalFrom l.limits g) splits legal in
    let legal' : LegalFrom l.limits (g ++ part) (EndPhase ∷ rest) = legal_behind l.limits g part (EndPhase ∷ rest) whole in
    let items : items_in (take k l.scenario.phases) ++ p.items ≡ items_in (take (k + 1) l.scenario.phases) = items_more l k p at.0 in
    let made' : MadeFrom files l.scenario (items_in (take (k + 1) l.scenario.phases)) ps rest = subst (λ (xs : List Item). MadeFrom files l.scenario xs ps rest) items made in
    let left' : drop (k + 1) l.scenario.phases ≡ ps = ap (λ (m : ℕ). drop m l.scenario.phases) next ∙ at.1 in
    let ends : CanEnd l (g ++ part) = record {
      is_open = omega (arith, same, is_open);
      lanes = λ lane least most. done.0 lane least most ∙ sym (packets_are files l (k + 1) lane is least most) ∙ ap (λ (m : ℕ). packets_to l (m + 1) lane) (sym same);
      daemons = λ d least most plain. done.1 d least most plain ∙ ap (λ (m : ℕ). lines_to l (m + 1) d) (sym same);
      machines = λ d m has. drives_up_to l every (g ++ part) ((g ++ part) ++ EndPhase ∷ []) rest k d m all has same behind_it parts;
    } in
    let end_line : FirstLine l (g ++ part) EndPhase = record { next = tt; size = tt; machine = tt; look = tt; ends = ends } in
    let behind : (f : ℕ) → EntriesRight l (g ++ part) f (EndPhase ∷ rest) n = λ f. (
      record { first_line = λ line. end_line; further = λ i less line. tt },
      phases_right files l is every all ps (k + 1) left' ((g ++ part) ++ EndPhase ∷ []) r1 rest behind_it made' legal'.1 (f + line_count EndPhase) n,
    ) in
    let start : EntriesRight l (g ++ []) first (part ++ EndPhase ∷ rest) n =
    in_part files l is every g part rest k n p at.0 is_open all here r0 its behind part [] refl
    (subst (λ (x : List Entry). LegalFrom l.limits x (part ++ EndPhase ∷ rest)) (sym (append-nil g)) whole)
    (ap phases (append-nil g) ∙ r0.ended) its.callers its.no_end first in
    subst (λ (x : List Entry). EntriesRight l g first x n) (sym splits)
    (subst (λ (x : List Entry). EntriesRight l x first (part ++ EndPhase ∷ rest) n) (append-nil g) start)

-- as many phases have ended as the scenario has
pub all_ended : (files : Files) (l : Loaded) (before : List Item) (ps : List Phase) (g h : List Entry) → MadeFrom files l.scenario before ps h → phases (g ++ h) ≡ phases g + length ps
all_ended files l before [] g h made = ap (λ (x : List Entry). phases (g ++ x)) made ∙ ap phases (append-nil g) ∙ omega arith
all_ended files l before (p ∷ ps) g h (part, rest, splits, its, made) =
    let more : phases (((g ++ part) ++ EndPhase ∷ []) ++ rest) ≡ phases ((g ++ part) ++ EndPhase ∷ []) + length ps = all_ended files l (before ++ p.items) ps ((g ++ part) ++ EndPhase ∷ []) rest made in
    let one : phases ((g ++ part) ++ EndPhase ∷ []) ≡ phases (g ++ part) + 1 = phases_push (g ++ part) EndPhase in
    let none : phases (g ++ part) ≡ phases g = ends_none g part its.no_end in
    let whole : g ++ h ≡ ((g ++ part) ++ EndPhase ∷ []) ++ rest =
    ap (λ (x : List Entry). g ++ x) splits ∙ sym (append_assoc g part (EndPhase ∷ rest)) ∙ sym (append_assoc (g ++ part) (EndPhase ∷ []) rest) in
    ap phases whole ∙ omega (arith, more, one, none)

-- all that a lane has is sent
pub all_lanes : (files : Files) (l : Loaded) (h : List Entry) → MadeFrom files l.scenario [] l.scenario.phases h → (lane : ℕ) → 1 ≤ lane → lane ≤ l.scenario.lanes
    → sent lane h ≡ lines_packets files l (length l.scenario.phases) lane
all_lanes files l h made lane least most = go l.scenario.phases 0 refl [] h made refl ∙ ap (λ (k : ℕ). lines_packets files l k lane) (omega arith)
  where
    go : (ps : List Phase) (k : ℕ) → drop k l.scenario.phases ≡ ps → (g h : List Entry) → MadeFrom files l.scenario (items_in (take k l.scenario.phases)) ps h
        → sent lane g ≡ lines_packets files l k lane → sent lane (g ++ h) ≡ lines_packets files l (k + length ps) lane
    go [] k left g h made before =
        ap (λ (x : List Entry). sent lane (g ++ x)) made ∙ ap (sent lane) (append-nil g) ∙ before ∙ ap (λ (m : ℕ). lines_packets files l m lane) (omega arith)
    go (p ∷ ps) k left g h (part, rest, splits, its, made) before =
        let at = drop_at l.scenario.phases k p ps left in
        let next : k + 1 ≡ suc k = omega arith in
        let now : sent lane ((g ++ part) ++ EndPhase ∷ []) ≡ lines_packets files l (k + 1) lane =
        sent_push lane (g ++ part) EndPhase ∙ append-nil (sent lane (g ++ part)) ∙ flat_map-append (sent_in lane) g part
        ∙ ap (λ (xs : List Sent). xs ++ sent lane part) before ∙ ap (λ (xs : List Sent). lines_packets files l k lane ++ xs) (its.lanes lane least most)
        ∙ sym (packets_more files l k lane p at.0) in
        let items : items_in (take k l.scenario.phases) ++ p.items ≡ items_in (take (k + 1) l.scenario.phases) = items_more l k p at.0 in
        let whole : g ++ h ≡ ((g ++ part) ++ EndPhase ∷ []) ++ rest =
        ap (λ (x : List Entry). g ++ x) splits ∙ sym (append_assoc g part (EndPhase ∷ rest)) ∙ sym (append_assoc (g ++ part) (EndPhase ∷ []) rest) in
        let more = go ps (k + 1) (ap (λ (m : ℕ). drop m l.scenario.phases) next ∙ at.1) ((g ++ part) ++ EndPhase ∷ []) rest
        (subst (λ (xs : List Item). MadeFrom files l.scenario xs ps rest) items made) now in
        ap (sent lane) whole ∙ more ∙ ap (λ (m : ℕ). lines_packets files l m lane) (omega arith)
