-- A good call that changes the tables, stage by stage.
use Rattle.std.proofs.Common.{◌≡◌, ℕ, ◌+◌, ◌<◌, ◌≤◌, ◌==◌, ◌||◌, Bool, true, false, not, Option}
use Rattle.std.proofs.Common.{Some, None, List, [], ◌∷◌, ◌++◌, length, map, fold, refl, sym, ap}
use Rattle.std.proofs.Common.{◌∙◌, subst, arith}
use Rattle.std.proofs.lemmas.Bool.{eq-eqb}
use Rattle.std.specs.List.{list_any, AllByRecursion}
use Rattle.mr_base.specs.declared.numbers.DaemonNo.{DaemonNo}
use Rattle.mr_base.specs.declared.route.Route.{Route}
use Rattle.mr_model.specs.declared.change.Change.{Change}
use Rattle.mr_model.specs.declared.change.What.{What}
use Rattle.mr_model.specs.declared.change.What.TheVariants as what
use Rattle.mr_model.specs.declared.ending.FateLine.{FateLine}
use Rattle.mr_model.specs.declared.entry.Entry.{Entry}
use Rattle.mr_model.specs.declared.entry.Entry.TheVariants.{Call}
use Rattle.mr_model.specs.declared.entry.ReleasedId.{ReleasedId}
use Rattle.mr_model.specs.declared.limits.Limits.{Limits}
use Rattle.mr_model.specs.declared.packet.Freed.{Freed}
use Rattle.mr_model.specs.declared.packet.Packet.{Packet}
use Rattle.mr_model.specs.declared.reply.Reply.{Reply}
use Rattle.mr_model.specs.declared.reply.Reply.TheVariants.{Good}
use Rattle.mr_model.specs.declared.request.Request.{Request}
use Rattle.mr_model.specs.Answer.{answer, error_of, value_of, or_refused, if_good, released_in}
use Rattle.mr_model.specs.Answer.{refused_by_tables}
use Rattle.mr_model.specs.Counts.{length_of}
use Rattle.mr_model.specs.Granting.{what_of, numbered, sets_tables, tables_error}
use Rattle.mr_model.specs.Legal.{CallAgrees, HasControl, IsDaemon, IsLegal}
use Rattle.mr_model.specs.Messages.{Attempt, last_attempt}
use Rattle.mr_model.specs.Past.{controls}
use Rattle.mr_model.specs.RouteList.{has_number}
use Rattle.mr_model.specs.State.{State, state, granted, is_owner, owner_by, unread_by}
use Rattle.mr_model.specs.State.{after_released}
use Rattle.mr_model.specs.Tables.{Tables, changed_by}
use Rattle.mr_model.specs.WaitingList.{Waiter, Awaiting}
use Rattle.mr_model.proofs.Pushing.{state_count}
use Rattle.mr_fates.specs.After.{released_each}
use Rattle.mr_fates.specs.Lines.{FateList}
use Rattle.mr_history.specs.Journals.{JournalValue, NamesUpTo, with_entry}
use Rattle.mr_history.specs.Numbers.{NumberedValue, numbers_of}
use Rattle.mr_mfc.specs.Caches.{is_above}
use Rattle.mr_tables.specs.Fitting.{fits}
use Rattle.mr_tables.specs.Values.{TablesValue, applied}
use Rattle.mr_tables.proofs.Fitted.{granted_fits}
use Rattle.mr_tables.proofs.History.{number_is_above}
use Rattle.mr_unres.specs.Entries.{WaitingEntries, awaiting, waiter_of}
use Rattle.mr_upcall.specs.declared.upcall.Upcall.{Upcall}
use Rattle.mr_kernel.specs.declared.live.Live.{Live}
use Rattle.mr_kernel.specs.declared.plan.Plan.TheVariants as plans
use Rattle.mr_kernel.specs.Changing.{waiting_after, freed_by, lines_after, released_by, is_made}
use Rattle.mr_kernel.specs.Flows.{AreHeads, AreKnown, AreOwnHeads, IsHeadOf, IsKnown, flow_of}
use Rattle.mr_kernel.specs.Flows.{id_of, slow_flow}
use Rattle.mr_kernel.specs.Holding.{CountsFor, Holds}
use Rattle.mr_kernel.specs.Plans.{plan}
use Rattle.mr_kernel.specs.Standing.{StandsFor, moments}
use Rattle.mr_kernel.proofs.Grants.{Changes, plan_changes, makes_sets, sets_good, free_tables}
use Rattle.mr_kernel.proofs.Grants.{released_is, fates_changed, granted_stands, slows_freed}
use Rattle.mr_kernel.proofs.Holds.{Grows, grown_holds, still_early, heads_stay}
use Rattle.mr_kernel.proofs.Known.{IsSlow, length_known, waiters_known, all_more}
use Rattle.mr_kernel.proofs.Naming.{attempts_within, none_attempted, named_released}
use Rattle.mr_kernel.proofs.Planning.{value_in}

-- what a call that is planned changes, in the state before it
pub record Planned (j : JournalValue) (l : Live) (f : FateList) (d : DaemonNo) (r : Request)
    (c : Change) : Type 0 where
  pub daemon : IsDaemon j.limits d
  pub room : controls j.entries < j.limits.controls
  pub is : plan (value_in j) d r ≡ plans.Tables c
  pub holds : Holds j l f

abbrev pub before : JournalValue → State
before j = state j.limits j.entries

pub changes_of : (j : JournalValue) (l : Live) (f : FateList) (d : DaemonNo) (r : Request)
    (c : Change) → Planned j l f d r c
    → Changes (length j.entries + 1) (error_of j.limits (before j) d r)
    (what_of j.limits.devices (before j).tables (not (is_owner (before j) d)) r) c
changes_of j l f d r c p =
    plan_changes (length j.entries + 1) (value_of j.entries (before j) r)
    (error_of j.limits (before j) d r)
    (what_of j.limits.devices (before j).tables (not (is_owner (before j) d)) r) c p.is

sets_of : (j : JournalValue) (l : Live) (f : FateList) (d : DaemonNo) (r : Request) (c : Change)
    → Planned j l f d r c → sets_tables r ≡ true
sets_of j l f d r c p = makes_sets j.limits.devices (before j).tables
    (not (is_owner (before j) d)) r c.what (changes_of j l f d r c p).makes

pub call_above : (j : JournalValue) (l : Live) (f : FateList) (d : DaemonNo) (r : Request)
    (c : Change) → Planned j l f d r c → is_above c.number l.tables.tables.routes ≡ true
call_above j l f d r c p = rw ((changes_of j l f d r c p).number, p.holds.stands.tables)
    (number_is_above j.limits j.entries)

pub call_fits : (j : JournalValue) (l : Live) (f : FateList) (d : DaemonNo) (r : Request)
    (c : Change) → Planned j l f d r c → fits l.tables c ≡ true
call_fits j l f d r c p =
    let st = p.holds.stands in
    let ch = changes_of j l f d r c p in
    let free : refused_by_tables j.limits (before j) r ≡ None =
    free_tables j.limits (before j) d r (sets_of j l f d r c p) ch.free in
    granted_fits l.tables r (not (is_owner (before j) d)) c
    (rw (st.slots, st.devices, st.tables) free) (call_above j l f d r c p)
    (rw (st.devices, st.tables) ch.makes)

numbers_kept : (attempts : List Attempt) (rs : List Route)
    → numbers_of (moments attempts rs) ≡ map (λ r. r.number) rs
numbers_kept attempts [] = refl
numbers_kept attempts (r ∷ rs) = ap (λ ns. r.number ∷ ns) (numbers_kept attempts rs)

pub call_moments : (j : JournalValue) (l : Live) (f : FateList) (d : DaemonNo) (r : Request)
    (c : Change) → Planned j l f d r c
    → numbers_of l.attempts.items ≡ map (λ r. r.number) l.tables.tables.routes
call_moments j l f d r c p = rw (p.holds.stands.attempts, p.holds.stands.tables)
    (numbers_kept (before j).attempts (before j).tables.routes)

-- the stages of the call: l1 behind the change, l3 once the owner is set and the packets are
-- taken, l4 behind the release
pub record Stages (j k : JournalValue) (l l1 l3 l4 : Live) (f f3 f4 : FateList) (d : DaemonNo)
    (r : Request) (c : Change) (ps : List Packet) (freed : List Freed) : Type 0 where
  pub tables1 : l1.tables ≡ applied l.tables c
  pub attempts1 : (attempts : List Attempt)
      → l.attempts.items ≡ moments attempts l.tables.tables.routes
      → last_attempt attempts c.number ≡ None
      → l1.attempts.items ≡ moments attempts l1.tables.tables.routes
  pub room1 : l1.attempts.room ≡ l.attempts.room
  pub owner1 : l1.owner ≡ l.owner
  pub moment1 : l1.moment ≡ l.moment
  pub waiting1 : l1.waiting ≡ l.waiting
  pub unread1 : l1.unread ≡ l.unread
  pub entries1 : k.entries ≡ j.entries
  pub limits1 : k.limits ≡ j.limits
  pub counts1 : CountsFor l1.tables.tables k
  pub owner3 : l3.owner ≡ owner_by l1.owner d r
  pub unread3 : map (λ u. u.id) l3.unread ≡ unread_by (map (λ u. u.id) l1.unread) r
  pub heads3 : (h : List Entry) → AreHeads h l1.unread → AreHeads h l3.unread
  pub tables3 : l3.tables ≡ l1.tables
  pub moment3 : l3.moment ≡ l1.moment
  pub attempts3 : l3.attempts ≡ l1.attempts
  pub waiting3 : awaiting l3.waiting.entries ≡ waiting_after c.what (awaiting l1.waiting.entries)
  pub limit3 : l3.waiting.limit ≡ l1.waiting.limit
  pub packets3 : map waiter_of ps ≡ freed_by c.what (awaiting l1.waiting.entries)
  pub lines3 : f3.lines ≡ lines_after c.number c.what (awaiting l1.waiting.entries) f.lines
  pub lanes3 : f3.packets ≡ f.packets
  pub outcomes4 : (limits : Limits) (s : State) → StandsFor limits s l3
      → is_made c.number c.what s.tables.routes ≡ true
      → map id_of freed ≡ released_by s c.number c.what (map waiter_of ps)
  pub stands4 : (limits : Limits) (s : State) → StandsFor limits s l3
      → is_made c.number c.what s.tables.routes ≡ true
      → StandsFor limits (fold after_released s (map id_of freed)) l4
  pub known4 : (h : List Entry) → AreKnown h ps → AllByRecursion (λ f. IsKnown h f.packet) freed
  pub heads4 : (h : List Entry) → AreHeads h l3.unread → AreOwnHeads h ps → AreHeads h l4.unread
  pub tables4 : l4.tables ≡ l3.tables
  pub moment4 : l4.moment ≡ l3.moment
  pub lines4 : f4.lines ≡ released_each c.number (map id_of freed) f3.lines
  pub lanes4 : f4.packets ≡ f3.packets

pub call_stands : (j k : JournalValue) (l l1 l3 l4 : Live) (f f3 f4 : FateList) (d : DaemonNo)
    (r : Request) (c : Change) (ps : List Packet) (freed : List Freed)
    → Planned j l f d r c → Stages j k l l1 l3 l4 f f3 f4 d r c ps freed
    → StandsFor j.limits (granted j.limits (before j) d r) l3
call_stands j k l l1 l3 l4 f f3 f4 d r c ps freed p g =
    let s = before j in
    let st = p.holds.stands in
    let ch = changes_of j l f d r c p in
    let count : s.count ≡ length j.entries = state_count j.limits j.entries in
    let none : last_attempt s.attempts c.number ≡ None =
    ap (λ n. last_attempt s.attempts n) ch.number
    ∙ none_attempted (length j.entries) s.attempts
    (attempts_within j.limits j.entries p.holds.legal) in
    let kept : l.attempts.items ≡ moments s.attempts l.tables.tables.routes = st.attempts
    ∙ ap (λ (t : Tables). moments s.attempts t.routes) (sym st.tables) in
    granted_stands j.limits s d r c l l3 st ch.makes (ch.number ∙ ap (λ n. n + 1) (sym count))
    (g.tables3 ∙ g.tables1)
    (g.owner3 ∙ ap (λ (o : Option DaemonNo). owner_by o d r) g.owner1)
    (g.moment3 ∙ g.moment1)
    (g.waiting3 ∙ ap (λ (w : WaitingEntries). waiting_after c.what (awaiting w.entries))
    g.waiting1)
    (g.limit3 ∙ ap (λ (w : WaitingEntries). w.limit) g.waiting1)
    (g.unread3 ∙ ap (λ (us : List Upcall). unread_by (map (λ u. u.id) us) r) g.unread1)
    (ap (λ (n : NumberedValue (Option ℕ)). n.items) g.attempts3
    ∙ g.attempts1 s.attempts kept none
    ∙ ap (λ (v : TablesValue). moments s.attempts v.tables.routes) (sym g.tables3))
    (ap (λ (n : NumberedValue (Option ℕ)). n.room) g.attempts3 ∙ g.room1)

made_there : (t : Tables) (n : ℕ) (w : What)
    → is_made n w (changed_by t (numbered n w)).routes ≡ true
made_there t n (what.NewRoute src dst parent ttls fixed) = rw (eq-eqb n n refl) refl
made_there t n (what.AddVif vif dev register fixed) = refl
made_there t n (what.DelVif i) = refl
made_there t n (what.OldRoute target parent ttls fixed) = refl
made_there t n (what.DropRoute target) = refl
made_there t n (what.Flush bits) = refl
made_there t n (what.Pim on) = refl
made_there t n (what.Assert on) = refl

call_made : (j : JournalValue) (l : Live) (f : FateList) (d : DaemonNo) (r : Request)
    (c : Change) → Planned j l f d r c
    → is_made c.number c.what (granted j.limits (before j) d r).tables.routes ≡ true
call_made j l f d r c p =
    let s = before j in
    let ch = changes_of j l f d r c p in
    let number : c.number ≡ s.count + 1 = ch.number
    ∙ ap (λ n. n + 1) (sym (state_count j.limits j.entries)) in
    let after : (granted j.limits s d r).tables
    ≡ changed_by s.tables (numbered (s.count + 1) c.what) = rw (ch.makes) refl in
    rw (number, after) (made_there s.tables (s.count + 1) c.what)

pub call_ids : (j k : JournalValue) (l l1 l3 l4 : Live) (f f3 f4 : FateList) (d : DaemonNo)
    (r : Request) (c : Change) (ps : List Packet) (freed : List Freed)
    → Planned j l f d r c → Stages j k l l1 l3 l4 f f3 f4 d r c ps freed
    → map id_of freed ≡ released_in j.limits (before j) d r
call_ids j k l l1 l3 l4 f f3 f4 d r c ps freed p g =
    let s = before j in
    let ch = changes_of j l f d r c p in
    let after = granted j.limits s d r in
    let number : c.number ≡ s.count + 1 = ch.number
    ∙ ap (λ n. n + 1) (sym (state_count j.limits j.entries)) in
    let waiting : awaiting l1.waiting.entries ≡ s.waiting =
    ap (λ (w : WaitingEntries). awaiting w.entries) g.waiting1 ∙ p.holds.stands.waiting in
    g.outcomes4 j.limits after (call_stands j k l l1 l3 l4 f f3 f4 d r c ps freed p g)
    (call_made j l f d r c p)
    ∙ ap (λ (ws : List Waiter). released_by after c.number c.what ws)
    (g.packets3 ∙ ap (λ (ws : List Awaiting). freed_by c.what ws) waiting)
    ∙ ap (λ n. released_by after n c.what (freed_by c.what s.waiting)) number
    ∙ sym (released_is j.limits s d r c.what ch.makes)

known_packets : (h : List Entry) (ps : List Packet)
    → AllByRecursion (IsSlow h) (map waiter_of ps) → AreKnown h ps
known_packets h [] all = tt
known_packets h (q ∷ ps) all = (all.0, known_packets h ps all.1)

own_heads : (h : List Entry) (ps : List Packet) → AreKnown h ps → AreOwnHeads h ps
own_heads h [] all = tt
own_heads h (q ∷ ps) all = (record { dev = q.dev; known = all.0 }, own_heads h ps all.1)

pub call_packets : (j k : JournalValue) (l l1 l3 l4 : Live) (f f3 f4 : FateList) (d : DaemonNo)
    (r : Request) (c : Change) (ps : List Packet) (freed : List Freed)
    → Planned j l f d r c → Stages j k l l1 l3 l4 f f3 f4 d r c ps freed → AreKnown j.entries ps
call_packets j k l l1 l3 l4 f f3 f4 d r c ps freed p g =
    let s = before j in
    let waiting : awaiting l1.waiting.entries ≡ s.waiting =
    ap (λ (w : WaitingEntries). awaiting w.entries) g.waiting1 ∙ p.holds.stands.waiting in
    let taken : map waiter_of ps ≡ freed_by c.what s.waiting = g.packets3
    ∙ ap (λ (ws : List Awaiting). freed_by c.what ws) waiting in
    known_packets j.entries ps
    (subst (λ (ws : List Waiter). AllByRecursion (IsSlow j.entries) ws) (sym taken)
    (slows_freed j.entries c.what s.waiting (waiters_known j.limits j.entries p.holds.legal)))

lengths_known : (h : List Entry) (freed : List Freed)
    → AllByRecursion (λ f. IsKnown h f.packet) freed
    → map (λ f. f.packet.head.length) freed
    ≡ map (λ r. length_of h r.lane r.index) (map id_of freed)
lengths_known h [] all = refl
lengths_known h (f ∷ fs) all =
    let one : length_of h f.packet.lane f.packet.index ≡ f.packet.head.length =
    length_known h f.packet.lane f.packet.index (flow_of f.packet) all.0 in
    rw (one, lengths_known h fs all.1) refl

pub call_lengths : (j k : JournalValue) (l l1 l3 l4 : Live) (f f3 f4 : FateList) (d : DaemonNo)
    (r : Request) (c : Change) (ps : List Packet) (freed : List Freed)
    → Planned j l f d r c → Stages j k l l1 l3 l4 f f3 f4 d r c ps freed
    → map (λ f. f.packet.head.length) freed
    ≡ map (λ r. length_of k.entries r.lane r.index) (map id_of freed)
call_lengths j k l l1 l3 l4 f f3 f4 d r c ps freed p g =
    rw (g.entries1) (lengths_known j.entries freed
    (g.known4 j.entries (call_packets j k l l1 l3 l4 f f3 f4 d r c ps freed p g)))

pub call_named : (j k : JournalValue) (l l1 l3 l4 : Live) (f f3 f4 : FateList) (d : DaemonNo)
    (r : Request) (c : Change) (ps : List Packet) (freed : List Freed)
    → Planned j l f d r c → Stages j k l l1 l3 l4 f f3 f4 d r c ps freed
    → AllByRecursion (λ r. NamesUpTo (length k.entries + 1) r.outcome) (map id_of freed)
call_named j k l l1 l3 l4 f f3 f4 d r c ps freed p g =
    rw (g.entries1, call_ids j k l l1 l3 l4 f f3 f4 d r c ps freed p g)
    (named_released j.limits j.entries d r)

pub call_agrees : (j k : JournalValue) (l l1 l3 l4 : Live) (f f3 f4 : FateList) (d : DaemonNo)
    (r : Request) (c : Change) (ps : List Packet) (freed : List Freed)
    → Planned j l f d r c → Stages j k l l1 l3 l4 f f3 f4 d r c ps freed
    → CallAgrees j.limits j.entries d r Good (map id_of freed)
call_agrees j k l l1 l3 l4 f f3 f4 d r c ps freed p g =
    let s = before j in
    let ch = changes_of j l f d r c p in
    let good : value_of j.entries s r ≡ Good = sets_good j.entries s r (sets_of j l f d r c p) in
    record {
      control = record { daemon = p.daemon; room = p.room };
      replies = rw (ch.free) (sym good);
      releases = rw (ch.free) (call_ids j k l l1 l3 l4 f f3 f4 d r c ps freed p g);
    }

pub call_holds : (j k : JournalValue) (l l1 l3 l4 : Live) (f f3 f4 : FateList) (d : DaemonNo)
    (r : Request) (c : Change) (ps : List Packet) (freed : List Freed)
    → Planned j l f d r c → Stages j k l l1 l3 l4 f f3 f4 d r c ps freed
    → Holds (with_entry k (Call d r Good (map id_of freed))) l4 f4
call_holds j k l l1 l3 l4 f f3 f4 d r c ps freed p g =
    let s = before j in
    let ch = changes_of j l f d r c p in
    let ids = map id_of freed in
    let e = Call d r Good ids in
    let agrees = call_agrees j k l l1 l3 l4 f f3 f4 d r c ps freed p g in
    let stands = g.stands4 j.limits (granted j.limits s d r)
    (call_stands j k l l1 l3 l4 f f3 f4 d r c ps freed p g) (call_made j l f d r c p) in
    let moment : l4.moment ≡ l.moment = g.moment4 ∙ g.moment3 ∙ g.moment1 in
    let heads = g.heads4 j.entries (g.heads3 j.entries (rw (g.unread1) p.holds.heads))
    (own_heads j.entries ps (call_packets j k l l1 l3 l4 f f3 f4 d r c ps freed p g)) in
    let tables : l4.tables.tables ≡ l1.tables.tables =
    ap (λ (v : TablesValue). v.tables) (g.tables4 ∙ g.tables3) in
    let counts : CountsFor l4.tables.tables k =
    subst (λ (t : Tables). CountsFor t k) (sym tables) g.counts1 in
    let waiting : awaiting l1.waiting.entries ≡ s.waiting =
    ap (λ (w : WaitingEntries). awaiting w.entries) g.waiting1 ∙ p.holds.stands.waiting in
    let changed = fates_changed j.limits j.entries d r c.what ids p.holds.legal agrees ch.makes in
    grown_holds j (with_entry k e) e l f l4 f4 p.holds (record {
      agrees = agrees;
      entries = ap (λ (h : List Entry). h ++ e ∷ []) g.entries1;
      limits = g.limits1;
      stands = stands;
      early = rw moment (still_early l.moment j.entries e p.holds.early);
      heads = heads_stay j.entries (e ∷ []) l4.unread heads;
      counts = record { routes = counts.routes; vifs = counts.vifs };
      fates = rw (g.lines4, g.lines3, waiting, p.holds.fates, ch.number) (sym changed);
      lanes = g.lanes4 ∙ g.lanes3 ∙ p.holds.lanes;
    })

pub call_released : (j k : JournalValue) (l l1 l3 l4 : Live) (f f3 f4 : FateList) (d : DaemonNo)
    (r : Request) (c : Change) (ps : List Packet) (freed : List Freed)
    → Planned j l f d r c → Stages j k l l1 l3 l4 f f3 f4 d r c ps freed
    → map id_of freed ≡ (answer j.limits j.entries d r).released
call_released j k l l1 l3 l4 f f3 f4 d r c ps freed p g =
    (call_agrees j k l l1 l3 l4 f f3 f4 d r c ps freed p g).releases
