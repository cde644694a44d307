-- What the machine keeps of its parts holds after each entry.
use Rattle.std.proofs.Common.{◌≡◌, ℕ, ◌+◌, ◌*◌, ◌<◌, ◌≤◌, Bool, true, false, if◌then◌else◌, Option}
use Rattle.std.proofs.Common.{Some, None, List, [], ◌∷◌, ◌++◌, length, map, drop, refl, sym, ap}
use Rattle.std.proofs.Common.{◌∙◌, subst, arith, append-nil}
use Rattle.std.specs.List.{AllByRecursion}
use Rattle.mr_base.specs.declared.head.Head.{Head}
use Rattle.mr_base.specs.declared.numbers.DaemonNo.{DaemonNo}
use Rattle.mr_base.specs.declared.numbers.LaneNo.{LaneNo}
use Rattle.mr_model.specs.declared.entry.Entry.{Entry}
use Rattle.mr_model.specs.declared.entry.Entry.TheVariants.{Call, Slow, Settle, Tick, Recv}
use Rattle.mr_model.specs.declared.entry.Entry.TheVariants.{EndPhase}
use Rattle.mr_model.specs.declared.entry.FastRecord.{FastRecord}
use Rattle.mr_model.specs.declared.ending.Fate.TheVariants.{Expired}
use Rattle.mr_model.specs.declared.ending.FateLine.{FateLine}
use Rattle.mr_model.specs.declared.flow.Flow.{Flow}
use Rattle.mr_model.specs.declared.limits.Limits.{Limits}
use Rattle.mr_model.specs.declared.message.MessageId.{MessageId}
use Rattle.mr_model.specs.declared.outcome.Outcome.{Outcome}
use Rattle.mr_model.specs.declared.outcome.Outcome.TheVariants as outcome
use Rattle.mr_model.specs.Fate.{fates}
use Rattle.mr_model.specs.Legal.{Agrees, IsDaemon, IsLegal, SlowAgrees, SettleAgrees, message_for}
use Rattle.mr_model.specs.Past.{is_control, controls, phases}
use Rattle.mr_model.specs.State.{State, state, step, effect, counted, arrived, received, ticked}
use Rattle.mr_model.specs.Tables.{Tables}
use Rattle.mr_model.proofs.Pushing.{state_push, legal_push}
use Rattle.mr_model.proofs.PushingLists.{controls_push}
use Rattle.mr_fates.specs.After.{ended_all, expired}
use Rattle.mr_fates.specs.Lines.{FateList}
use Rattle.mr_fates.proofs.Giving.{fates_expired, fates_parked, fates_same}
use Rattle.mr_history.specs.Journals.{JournalValue, with_entry}
use Rattle.mr_tables.specs.Values.{TablesValue}
use Rattle.mr_unres.specs.Entries.{awaiting}
use Rattle.mr_upcall.specs.declared.upcall.Upcall.{Upcall}
use Rattle.mr_kernel.specs.declared.live.Live.{Live}
use Rattle.mr_kernel.specs.Flows.{AreHeads, IsHeadOf, slow_flow, flow_by, begun}
use Rattle.mr_kernel.specs.Holding.{Holds, CountsFor}
use Rattle.mr_kernel.specs.Standing.{StandsFor}
use Rattle.mr_kernel.proofs.Known.{all_more, slow_stays, slow_own}

-- the count of entries is no part of what the live parts stand for
pub stands_counted : (limits : Limits) (s : State) (l : Live) → StandsFor limits s l
    → StandsFor limits (counted s) l
stands_counted limits s l st = record {
  owner = st.owner;
  tables = st.tables;
  slots = st.slots;
  devices = st.devices;
  moment = st.moment;
  waiting = st.waiting;
  limit = st.limit;
  unread = st.unread;
  attempts = st.attempts;
  room = st.room;
}

pub stands_push : (limits : Limits) (h : List Entry) (e : Entry) (l : Live)
    → StandsFor limits (effect limits (state limits h) e) l
    → StandsFor limits (state limits (h ++ e ∷ [])) l
stands_push limits h e l st =
    subst (λ (s : State). StandsFor limits s l) (sym (state_push limits h e))
    (stands_counted limits (effect limits (state limits h) e) l st)

-- heads agree with a longer history too
pub head_stays : (h k : List Entry) (u : Upcall) → IsHeadOf h u.id.lane u.id.index u.head
    → IsHeadOf (h ++ k) u.id.lane u.id.index u.head
head_stays h k u is = record {
  dev = is.dev;
  known = slow_stays h k u.id.lane u.id.index (flow_by is.dev u.head) is.known;
}

pub heads_stay : (h k : List Entry) (us : List Upcall) → AreHeads h us → AreHeads (h ++ k) us
heads_stay h k us all =
    all_more (λ u. IsHeadOf h u.id.lane u.id.index u.head)
    (λ u. IsHeadOf (h ++ k) u.id.lane u.id.index u.head) us (head_stays h k) all

-- the moment stays early with one more entry
pub still_early : (m : ℕ) (h : List Entry) (e : Entry) → m ≤ controls h * 4294967295
    → m ≤ controls (h ++ e ∷ []) * 4294967295
still_early m h e early = by (is_control e) (controls_push h e)
  where
    by : (b : Bool) → controls (h ++ e ∷ []) ≡ controls h + (if b then 1 else 0)
        → m ≤ controls (h ++ e ∷ []) * 4294967295
    by true more = omega (arith, more, early)
    by false more = omega (arith, more, early)

-- what has to be shown after one more entry
pub record Grows (j k : JournalValue) (e : Entry) (l : Live) (f : FateList) : Type 0 where
  pub agrees : Agrees j.limits j.entries e
  pub entries : k.entries ≡ j.entries ++ e ∷ []
  pub limits : k.limits ≡ j.limits
  pub stands : StandsFor j.limits (effect j.limits (state j.limits j.entries) e) l
  pub early : l.moment ≤ controls (j.entries ++ e ∷ []) * 4294967295
  pub heads : AreHeads (j.entries ++ e ∷ []) l.unread
  pub counts : CountsFor l.tables.tables k
  pub fates : f.lines ≡ fates j.limits (j.entries ++ e ∷ [])
  pub lanes : f.packets ≡ j.limits.packets

pub grown_holds : (j k : JournalValue) (e : Entry) (before : Live) (old : FateList) (l : Live)
    (f : FateList) → Holds j before old → Grows j k e l f → Holds k l f
grown_holds j k e before old l f h g =
    let legal : IsLegal j.limits (j.entries ++ e ∷ []) =
    legal_push j.limits j.entries e h.legal g.agrees in
    let stands : StandsFor j.limits (state j.limits (j.entries ++ e ∷ [])) l =
    stands_push j.limits j.entries e l g.stands in
    record {
      fits = rw (g.limits) h.fits;
      legal = rw (g.limits, g.entries) legal;
      stands = rw (g.limits, g.entries) stands;
      early = rw (g.entries) g.early;
      heads = rw (g.entries) g.heads;
      counts = g.counts;
      fates = rw (g.limits, g.entries) g.fates;
      lanes = rw (g.limits) g.lanes;
    }

-- an entry that changes nothing but the history
pub quiet_grows : (j : JournalValue) (l : Live) (f : FateList) (e : Entry) → Holds j l f
    → Agrees j.limits j.entries e
    → effect j.limits (state j.limits j.entries) e ≡ state j.limits j.entries
    → fates j.limits (j.entries ++ e ∷ []) ≡ fates j.limits j.entries
    → Grows j (with_entry j e) e l f
quiet_grows j l f e h agrees none same = record {
  agrees = agrees;
  entries = refl;
  limits = refl;
  stands = rw none h.stands;
  early = still_early l.moment j.entries e h.early;
  heads = heads_stay j.entries (e ∷ []) l.unread h.heads;
  counts = record { routes = h.counts.routes; vifs = h.counts.vifs };
  fates = h.fates ∙ sym same;
  lanes = h.lanes;
}

-- the totals of the same tables and history entries are the same
counts_same : (j : JournalValue) (e : Entry) (t u : Tables) → u ≡ t → CountsFor t j
    → CountsFor u (with_entry j e)
counts_same j e t u same counts =
    subst (λ (x : Tables). CountsFor x (with_entry j e)) (sym same)
    (record { routes = counts.routes; vifs = counts.vifs })

-- a control entry is one more
pub recv_grows : (j : JournalValue) (l new : Live) (f : FateList) (d : DaemonNo)
    (m : Option MessageId) → Holds j l f → IsDaemon j.limits d
    → controls j.entries < j.limits.controls
    → m ≡ message_for (state j.limits j.entries) d
    → StandsFor j.limits (received (state j.limits j.entries)
    (message_for (state j.limits j.entries) d)) new
    → ((h : List Entry) → AreHeads h l.unread → AreHeads h new.unread)
    → new.tables ≡ l.tables → new.moment ≡ l.moment
    → Grows j (with_entry j (Recv d m)) (Recv d m) new f
recv_grows j l new f d m h daemon room gives stands heads tables moment = record {
  agrees = record { control = record { daemon = daemon; room = room }; gives = gives };
  entries = refl;
  limits = refl;
  stands = rw gives stands;
  early = rw moment (still_early l.moment j.entries (Recv d m) h.early);
  heads = heads_stay j.entries (Recv d m ∷ []) new.unread (heads j.entries h.heads);
  counts = counts_same j (Recv d m) l.tables.tables new.tables.tables
      (ap (λ (t : TablesValue). t.tables) tables) h.counts;
  fates = h.fates ∙ sym (fates_same j.limits j.entries (Recv d m) refl);
  lanes = h.lanes;
}

pub tick_grows : (j : JournalValue) (l new : Live) (f g : FateList) (d : DaemonNo) (ms : ℕ)
    → Holds j l f → IsDaemon j.limits d
    → controls j.entries < j.limits.controls → ms ≤ 4294967295
    → StandsFor j.limits (ticked (state j.limits j.entries) ms) new
    → g.lines ≡ ended_all (Expired (length j.entries + 1))
    (expired (l.moment + ms) (awaiting l.waiting.entries)) f.lines
    → g.packets ≡ f.packets
    → new.tables ≡ l.tables → new.unread ≡ l.unread → new.moment ≡ l.moment + ms
    → Grows j (with_entry j (Tick d ms)) (Tick d ms) new g
tick_grows j l new f g d ms h daemon room small stands lines packets tables unread moment =
    record {
      agrees = record { daemon = daemon; room = room };
      entries = refl;
      limits = refl;
      stands = stands;
      early =
          let more : controls (j.entries ++ Tick d ms ∷ []) ≡ controls j.entries + 1 =
          controls_push j.entries (Tick d ms) in
          let early = h.early in
          omega (arith, more, early, moment, small);
      heads = rw unread (heads_stay j.entries (Tick d ms ∷ []) l.unread h.heads);
      counts = counts_same j (Tick d ms) l.tables.tables new.tables.tables
          (ap (λ (t : TablesValue). t.tables) tables) h.counts;
      fates =
          let gone = fates_expired j.limits j.entries d ms h.legal in
          rw (lines, h.fates, h.stands.moment, h.stands.waiting) (sym gone);
      lanes = packets ∙ h.lanes;
    }

-- the line of a packet that is decided
fates_slow : (limits : Limits) (h : List Entry) (lane : LaneNo) (index look : ℕ) (flow : Flow)
    (o : Outcome) → IsLegal limits h → Agrees limits h (Slow lane index look flow o)
    → fates limits (h ++ Slow lane index look flow o ∷ []) ≡ fates limits h ++ begun lane index o
fates_slow limits h lane index look flow outcome.Parked legal a =
    fates_parked limits h lane index look flow legal a
fates_slow limits h lane index look flow o legal a =
    fates_same limits h (Slow lane index look flow o) refl ∙ sym (append-nil (fates limits h))

pub slow_grows : (j : JournalValue) (l new : Live) (f g : FateList) (lane : LaneNo)
    (index look : ℕ) (flow : Flow) (head : Head) (o : Outcome) → Holds j l f
    → SlowAgrees j.limits j.entries lane index look flow o
    → flow ≡ flow_by flow.dev head
    → StandsFor j.limits (arrived (state j.limits j.entries) lane index flow o) new
    → ((h : List Entry) → AreHeads h l.unread → IsHeadOf h lane index head → AreHeads h new.unread)
    → g.lines ≡ f.lines ++ begun lane index o → g.packets ≡ f.packets
    → new.tables ≡ l.tables → new.moment ≡ l.moment
    → Grows j (with_entry j (Slow lane index look flow o)) (Slow lane index look flow o) new g
slow_grows j l new f g lane index look flow head o h a is stands heads lines packets tables
    moment =
    let e = Slow lane index look flow o in
    let own : slow_flow (j.entries ++ e ∷ []) lane index ≡ Some flow =
    slow_own j.limits j.entries lane index look flow o h.legal a.next in
    record {
      agrees = a;
      entries = refl;
      limits = refl;
      stands = stands;
      early = rw moment (still_early l.moment j.entries e h.early);
      heads = heads (j.entries ++ e ∷ []) (heads_stay j.entries (e ∷ []) l.unread h.heads)
          (record { dev = flow.dev; known = own ∙ ap (λ (x : Flow). Some x) is });
      counts = counts_same j e l.tables.tables new.tables.tables
          (ap (λ (t : TablesValue). t.tables) tables) h.counts;
      fates = lines ∙ ap (λ (xs : List FateLine). xs ++ begun lane index o) h.fates
          ∙ sym (fates_slow j.limits j.entries lane index look flow o h.legal a);
      lanes = packets ∙ h.lanes;
    }
