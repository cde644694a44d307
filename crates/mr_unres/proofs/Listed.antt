-- What an edit of the places does to the list of entries, and to the machine's waiting list that it stands for.
use Rattle.std.proofs.Common.{◌≡◌, ℕ, zero, suc, ◌+◌, ◌<◌, ◌≤◌, Bool, true, false, Option, Some, None, List, [], ◌∷◌, ◌++◌, length, map, take, slice_get, slice_set, is_some, filter, not, nat_lt, refl, sym, ap, ◌∙◌, arith, subst, add-one, Bor}
use Rattle.std.proofs.Math.Seq.{take-append_seam}
use Rattle.std.proofs.lemmas.List.{length-map, length-append}
use Rattle.std.specs.Prelude.{option_and_then, IfSome, find, if◌then◌else◌}
use Rattle.std.specs.Option.{option_map, option_copied, IsSome}
use Rattle.std.proofs.lemmas.Bool.{ltb-true}
use Rattle.mr_base.specs.declared.numbers.Addr.{Addr}
use Rattle.mr_model.specs.declared.packet.Packet.{Packet}
use Rattle.mr_model.specs.Answer.{packets_of}
use Rattle.mr_model.specs.WaitingList.{Awaiting, awaiting_of, park}
use Rattle.mr_unres.specs.declared.unresolved.Unresolved.{Unresolved}
use Rattle.mr_unres.specs.declared.unresolved.TheConstants.{MOST_PACKETS}
use Rattle.mr_unres.specs.declared.room.Room.TheVariants.{PacketsFull, Join, EntriesFull, New}
use Rattle.mr_unres.specs.Entries.{waiter_of, awaiting_by, awaiting, is_for, room_at, room_in, entry_at, with_packet, joined, packets_in, packets_for}
use Rattle.mr_unres.specs.Slots.{somes, AllFail, StandsAt, StandsFirst, SlotList, with_slots, entry_in}
use Rattle.mr_unres.proofs.Places.{Slot, entry_there}

pub somes_append : (xs ys : List Slot) → somes (xs ++ ys) ≡ somes xs ++ somes ys
somes_append [] ys = refl
somes_append (None ∷ xs) ys = somes_append xs ys
somes_append (Some e ∷ xs) ys = ap (λ (es : List Unresolved). e ∷ es) (somes_append xs ys)

pub somes_filter : (xs : List Slot) → somes (filter is_some xs) ≡ somes xs
somes_filter [] = refl
somes_filter (None ∷ xs) = somes_filter xs
somes_filter (Some e ∷ xs) = ap (λ (es : List Unresolved). e ∷ es) (somes_filter xs)

pub length_filter : (xs : List Slot) → length (filter is_some xs) ≡ length (somes xs)
length_filter [] = refl
length_filter (None ∷ xs) = length_filter xs
length_filter (Some e ∷ xs) = ap suc (length_filter xs)

-- an edit at a place, by what stands before and behind it
pub set_between : (before : List Slot) (s t : Slot) (after : List Slot) → slice_set (before ++ s ∷ after) (length before) t ≡ before ++ t ∷ after
set_between [] s t after = refl
set_between (b ∷ before) s t after = ap (λ (xs : List Slot). b ∷ xs) (set_between before s t after)

pub get_between : (before : List Slot) (s : Slot) (after : List Slot) → slice_get (before ++ s ∷ after) (length before) ≡ Some s
get_between [] s after = refl
get_between (b ∷ before) s after = get_between before s after

-- the entries, by what stands before and behind one of them
pub somes_between : (slots before : List Slot) (e : Unresolved) (after : List Slot) → slots ≡ before ++ Some e ∷ after
    → somes slots ≡ somes before ++ e ∷ somes after
somes_between slots before e after whole = ap somes whole ∙ somes_append before (Some e ∷ after)

pub entry_between : (slots before : List Slot) (e : Unresolved) (after : List Slot) (i : ℕ) → slots ≡ before ++ Some e ∷ after → length before ≡ i
    → entry_in slots i ≡ Some e
entry_between slots before e after i whole place =
    subst (λ (k : ℕ). entry_in slots k ≡ Some e) place
    (subst (λ (xs : List Slot). entry_in xs (length before) ≡ Some e) (sym whole)
    (ap (λ (o : Option Slot). option_and_then (λ s. s) o) (get_between before (Some e) after)))

-- a gap in the place of the entry
pub somes_gap : (slots before : List Slot) (e : Unresolved) (after : List Slot) (i : ℕ) → slots ≡ before ++ Some e ∷ after → length before ≡ i
    → somes (slice_set slots i None) ≡ somes before ++ somes after
somes_gap slots before e after i whole place =
    subst (λ (k : ℕ). somes (slice_set slots k None) ≡ somes before ++ somes after) place
    (subst (λ (xs : List Slot). somes (slice_set xs (length before) None) ≡ somes before ++ somes after) (sym whole)
    (ap somes (set_between before (Some e) None after) ∙ somes_append before (None ∷ after)))

-- another entry in its place
pub somes_set : (slots before : List Slot) (e f : Unresolved) (after : List Slot) (i : ℕ) → slots ≡ before ++ Some e ∷ after → length before ≡ i
    → somes (slice_set slots i (Some f)) ≡ somes before ++ f ∷ somes after
somes_set slots before e f after i whole place =
    subst (λ (k : ℕ). somes (slice_set slots k (Some f)) ≡ somes before ++ f ∷ somes after) place
    (subst (λ (xs : List Slot). somes (slice_set xs (length before) (Some f)) ≡ somes before ++ f ∷ somes after) (sym whole)
    (ap somes (set_between before (Some e) (Some f) after) ∙ somes_append before (Some f ∷ after)))

-- the first entry that passes
pub find_fails : (p : Unresolved → Bool) (es : List Unresolved) → AllFail p es → find p es ≡ None
find_fails p [] none = refl
find_fails p (e ∷ es) none = rw none.0 (find_fails p es none.1)

pub find_between : (p : Unresolved → Bool) (before : List Unresolved) (e : Unresolved) (after : List Unresolved) → AllFail p before → p e ≡ true
    → find p (before ++ e ∷ after) ≡ Some e
find_between p [] e after none passes = rw passes refl
find_between p (b ∷ before) e after none passes = rw none.0 (find_between p before e after none.1 passes)

-- the entries that do not pass
pub filter_fails : (p : Unresolved → Bool) (es : List Unresolved) → AllFail p es → filter (λ e. not (p e)) es ≡ es
filter_fails p [] none = refl
filter_fails p (e ∷ es) none = rw none.0 (ap (λ (xs : List Unresolved). e ∷ xs) (filter_fails p es none.1))

pub filter_between : (p : Unresolved → Bool) (before : List Unresolved) (e : Unresolved) (after : List Unresolved) → AllFail p before → p e ≡ true
    → AllFail p after → filter (λ f. not (p f)) (before ++ e ∷ after) ≡ before ++ after
filter_between p [] e after none passes rest = rw passes (filter_fails p after rest)
filter_between p (b ∷ before) e after none passes rest =
    rw none.0 (ap (λ (xs : List Unresolved). b ∷ xs) (filter_between p before e after none.1 passes rest))

-- a packet joins one entry
pub joined_fails : (p : Packet) (es : List Unresolved) → AllFail (is_for p.head.src p.head.dst) es → map (joined p) es ≡ es
joined_fails p [] none = refl
joined_fails p (e ∷ es) none = rw none.0 (ap (λ (xs : List Unresolved). e ∷ xs) (joined_fails p es none.1))

pub joined_between : (p : Packet) (before : List Unresolved) (e : Unresolved) (after : List Unresolved)
    → AllFail (is_for p.head.src p.head.dst) before → is_for p.head.src p.head.dst e ≡ true → AllFail (is_for p.head.src p.head.dst) after
    → map (joined p) (before ++ e ∷ after) ≡ before ++ with_packet p e ∷ after
joined_between p [] e after none passes rest = rw passes (ap (λ (xs : List Unresolved). with_packet p e ∷ xs) (joined_fails p after rest))
joined_between p (b ∷ before) e after none passes rest =
    rw none.0 (ap (λ (xs : List Unresolved). b ∷ xs) (joined_between p before e after none.1 passes rest))

-- the same of the machine's waiting list
pub awaiting_of_found : (es : List Unresolved) (src dst : Addr) → awaiting_of (awaiting es) src dst ≡ option_map awaiting_by (find (is_for src dst) es)
awaiting_of_found [] src dst = refl
awaiting_of_found (e ∷ es) src dst = by (is_for src dst e) refl (awaiting_of_found es src dst)
  where
    by : (b : Bool) → is_for src dst e ≡ b → awaiting_of (awaiting es) src dst ≡ option_map awaiting_by (find (is_for src dst) es)
        → awaiting_of (awaiting (e ∷ es)) src dst ≡ option_map awaiting_by (find (is_for src dst) (e ∷ es))
    by true so more = rw so refl
    by false so more = rw so more

pub park_new : (p : Packet) (now : ℕ) (es : List Unresolved) → AllFail (is_for p.head.src p.head.dst) es
    → park (awaiting es) now (waiter_of p) ≡ awaiting (es ++ entry_at now p ∷ [])
park_new p now [] none = refl
park_new p now (e ∷ es) none = rw none.0 (ap (λ (xs : List Awaiting). awaiting_by e ∷ xs) (park_new p now es none.1))

pub map_snoc : (p : Packet) (ps : List Packet) → map waiter_of ps ++ waiter_of p ∷ [] ≡ map waiter_of (ps ++ p ∷ [])
map_snoc p [] = refl
map_snoc p (q ∷ ps) = rw (map_snoc p ps) refl

pub park_joins : (p : Packet) (now : ℕ) (before : List Unresolved) (e : Unresolved) (after : List Unresolved)
    → AllFail (is_for p.head.src p.head.dst) before → is_for p.head.src p.head.dst e ≡ true
    → park (awaiting (before ++ e ∷ after)) now (waiter_of p) ≡ awaiting (before ++ with_packet p e ∷ after)
park_joins p now [] e after none passes = rw (passes, map_snoc p e.packets) refl
park_joins p now (b ∷ before) e after none passes =
    rw none.0 (ap (λ (xs : List Awaiting). awaiting_by b ∷ xs) (park_joins p now before e after none.1 passes))

pub awaiting_filter : (p : Awaiting → Bool) (es : List Unresolved) → filter p (awaiting es) ≡ awaiting (filter (λ e. p (awaiting_by e)) es)
awaiting_filter p [] = refl
awaiting_filter p (e ∷ es) = by (p (awaiting_by e)) refl (awaiting_filter p es)
  where
    by : (b : Bool) → p (awaiting_by e) ≡ b → filter p (awaiting es) ≡ awaiting (filter (λ f. p (awaiting_by f)) es)
        → filter p (awaiting (e ∷ es)) ≡ awaiting (filter (λ f. p (awaiting_by f)) (e ∷ es))
    by true so more = rw so (ap (λ (xs : List Awaiting). awaiting_by e ∷ xs) more)
    by false so more = rw so more

-- the entry of a source and group, where it stands
pub entry_stands : (p : Unresolved → Bool) (slots : List Slot) (i : ℕ) (s : StandsAt p slots i) → entry_in slots i ≡ Some s.entry
entry_stands p slots i s = entry_between slots s.before s.entry s.after i s.whole s.place

pub find_stands : (p : Unresolved → Bool) (slots : List Slot) (i : ℕ) (s : StandsAt p slots i) → find p (somes slots) ≡ Some s.entry
find_stands p slots i s =
    ap (λ (xs : List Unresolved). find p xs) (somes_between slots s.before s.entry s.after s.whole)
    ∙ find_between p (somes s.before) s.entry (somes s.after) s.none_before s.passes

-- the room where the entry stands, and where there is none
pub room_there : (slots : List Slot) (src dst : Addr) (i limit : ℕ) (has : Bool) → StandsAt (is_for src dst) slots i
    → IfSome (entry_in slots i) (λ e. has ≡ nat_lt (length e.packets) MOST_PACKETS)
    → room_in (awaiting (somes slots)) limit src dst ≡ (if has then Join else PacketsFull)
room_there slots src dst i limit has s shown =
    let there : awaiting_of (awaiting (somes slots)) src dst ≡ Some (awaiting_by s.entry) =
    awaiting_of_found (somes slots) src dst
    ∙ ap (λ (o : Option Unresolved). option_map awaiting_by o) (find_stands (is_for src dst) slots i s) in
    let few : has ≡ nat_lt (length s.entry.packets) MOST_PACKETS =
    subst (λ (o : Option Unresolved). IfSome o (λ e. has ≡ nat_lt (length e.packets) MOST_PACKETS)) (entry_stands (is_for src dst) slots i s) shown in
    ap (λ (o : Option Awaiting). room_at (length (awaiting (somes slots))) limit o) there
    ∙ (ap (λ (n : ℕ). if nat_lt n MOST_PACKETS then Join else PacketsFull) (length-map s.entry.packets waiter_of)
    ∙ ap (λ (b : Bool). if b then Join else PacketsFull) (sym few))

pub room_none : (es : List Unresolved) (src dst : Addr) (limit count : ℕ) → count ≡ length es → AllFail (is_for src dst) es
    → room_in (awaiting es) limit src dst ≡ (if nat_lt count limit then New else EntriesFull)
room_none es src dst limit count counted none =
    ap (λ (o : Option Awaiting). room_at (length (awaiting es)) limit o)
    (awaiting_of_found es src dst ∙ ap (λ (o : Option Unresolved). option_map awaiting_by o) (find_fails (is_for src dst) es none))
    ∙ ap (λ (n : ℕ). if nat_lt n limit then New else EntriesFull) (length-map es awaiting_by ∙ sym counted)

pub room_absent : (es : List Unresolved) (src dst : Addr) (limit : ℕ) → AllFail (is_for src dst) es
    → room_in (awaiting es) limit src dst ≡ room_at (length es) limit None
room_absent es src dst limit none = room_none es src dst limit (length es) refl none

-- the first entry stands where only gaps are in front of it
pub first_at : (slots : List Slot) (i : ℕ) (e : Unresolved) → slice_get slots i ≡ Some (Some e) → somes (take i slots) ≡ [] → StandsFirst slots i
first_at [] i e at gaps = absurd (cc)
first_at (s ∷ slots) zero e at gaps =
    let here : s ≡ Some e = cc in
    record { before = []; entry = e; after = slots; whole = ap (λ (x : Slot). x ∷ slots) here; place = refl; gaps = refl }
first_at (None ∷ slots) (suc i) e at gaps =
    let rest : StandsFirst slots i = first_at slots i e at gaps in
    record {
      before = None ∷ rest.before;
      entry = rest.entry;
      after = rest.after;
      whole = ap (λ (xs : List Slot). None ∷ xs) rest.whole;
      place = ap suc rest.place;
      gaps = rest.gaps;
    }
first_at (Some f ∷ slots) (suc i) e at gaps = absurd (cc)

-- one more gap
pub gap_more : (slots : List Slot) (i : ℕ) → entry_in slots i ≡ None → somes (take i slots) ≡ [] → somes (take (suc i) slots) ≡ []
gap_more [] i none gaps = refl
gap_more (None ∷ slots) zero none gaps = refl
gap_more (Some e ∷ slots) zero none gaps = absurd (cc)
gap_more (None ∷ slots) (suc i) none gaps = gap_more slots i none gaps
gap_more (Some e ∷ slots) (suc i) none gaps = absurd (cc)

-- an edit leaves only gaps in front
pub gone_gap : (slots : List Slot) (n i : ℕ) → somes (take n slots) ≡ [] → somes (take n (slice_set slots i None)) ≡ []
gone_gap [] n i gone = gone
gone_gap (s ∷ slots) zero i gone = refl
gone_gap (None ∷ slots) (suc n) zero gone = gone
gone_gap (Some e ∷ slots) (suc n) zero gone = absurd (cc)
gone_gap (None ∷ slots) (suc n) (suc i) gone = gone_gap slots n i gone
gone_gap (Some e ∷ slots) (suc n) (suc i) gone = absurd (cc)

pub gone_set : (slots : List Slot) (n i : ℕ) (e f : Unresolved) → slice_get slots i ≡ Some (Some e) → somes (take n slots) ≡ []
    → somes (take n (slice_set slots i (Some f))) ≡ []
gone_set [] n i e f at gone = gone
gone_set (s ∷ slots) zero i e f at gone = refl
gone_set (None ∷ slots) (suc n) zero e f at gone = absurd (cc)
gone_set (Some g ∷ slots) (suc n) i e f at gone = absurd (cc)
gone_set (None ∷ slots) (suc n) (suc i) e f at gone = gone_set slots n i e f at gone

pub gone_push : (slots : List Slot) (n : ℕ) (s : Slot) → n ≤ length slots → somes (take n slots) ≡ [] → somes (take n (slots ++ s ∷ [])) ≡ []
gone_push slots zero s inside gone = refl
gone_push [] (suc n) s inside gone = absurd (omega arith)
gone_push (None ∷ slots) (suc n) s inside gone = gone_push slots n s (omega arith) gone
gone_push (Some e ∷ slots) (suc n) s inside gone = absurd (cc)

-- the entry of a place, by what the look at it gave
pub first_some : (slots : List Slot) (i : ℕ) (o : Option (Bor Unresolved)) → option_copied o ≡ entry_in slots i → true ≡ is_some o
    → somes (take i slots) ≡ [] → StandsFirst slots i
first_some slots i None at some gaps = absurd (cc)
first_some slots i (Some r) at some gaps = first_at slots i r.now (entry_there slots i r.now (sym at)) gaps

pub gap_next : (slots : List Slot) (i : ℕ) (o : Option (Bor Unresolved)) → option_copied o ≡ entry_in slots i → false ≡ is_some o
    → somes (take i slots) ≡ [] → somes (take (i + 1) slots) ≡ []
gap_next slots i None at none gaps = rw add-one (gap_more slots i (sym at) gaps)
gap_next slots i (Some r) at none gaps = absurd (cc)

-- the list, by its first entry
pub somes_first : (slots : List Slot) (i : ℕ) (s : StandsFirst slots i) → somes slots ≡ s.entry ∷ somes s.after
somes_first slots i s = somes_between slots s.before s.entry s.after s.whole ∙ ap (λ (es : List Unresolved). es ++ s.entry ∷ somes s.after) s.gaps

pub entry_first : (slots : List Slot) (i : ℕ) (s : StandsFirst slots i) → entry_in slots i ≡ Some s.entry
entry_first slots i s = entry_between slots s.before s.entry s.after i s.whole s.place

-- the list without its first entry
pub somes_rest : (slots : List Slot) (i : ℕ) (s : StandsFirst slots i) → somes (slice_set slots i None) ≡ somes s.after
somes_rest slots i s =
    somes_gap slots s.before s.entry s.after i s.whole s.place ∙ ap (λ (es : List Unresolved). es ++ somes s.after) s.gaps

pub gaps_before : (slots : List Slot) (i : ℕ) (s : StandsFirst slots i) → somes (take i slots) ≡ []
gaps_before slots i s =
    subst (λ (k : ℕ). somes (take k slots) ≡ []) s.place
    (subst (λ (xs : List Slot). somes (take (length s.before) xs) ≡ []) (sym s.whole)
    (ap somes (take-append_seam s.before (Some s.entry ∷ s.after)) ∙ s.gaps))

-- a place of an entry lies within the list
pub place_within : (slots before : List Slot) (e : Unresolved) (after : List Slot) (i : ℕ) → slots ≡ before ++ Some e ∷ after → length before ≡ i
    → i < length slots
place_within slots before e after i whole place =
    let long : length slots ≡ length before + suc (length after) = ap length whole ∙ length-append before (Some e ∷ after) in
    omega arith

-- there is an entry
pub is_there : (slots : List Slot) (i : ℕ) (e : Unresolved) → entry_in slots i ≡ Some e → IsSome (entry_in slots i)
is_there slots i e at = subst (λ (o : Option Unresolved). IsSome o) (sym at) refl

-- the list without the entry of a source and group
pub left_gap : (p : Unresolved → Bool) (slots : List Slot) (i : ℕ) (s : StandsAt p slots i)
    → somes (slice_set slots i None) ≡ filter (λ e. not (p e)) (somes slots)
left_gap p slots i s =
    somes_gap slots s.before s.entry s.after i s.whole s.place
    ∙ sym (ap (λ (es : List Unresolved). filter (λ e. not (p e)) es) (somes_between slots s.before s.entry s.after s.whole)
    ∙ filter_between p (somes s.before) s.entry (somes s.after) s.none_before s.passes s.none_after)

-- the packets that are released are those of the machine's waiting list
pub waiters_found : (es : List Unresolved) (src dst : Addr) → map waiter_of (packets_for es src dst) ≡ packets_of (awaiting_of (awaiting es) src dst)
waiters_found es src dst =
    inner (find (is_for src dst) es) ∙ ap (λ (o : Option Awaiting). packets_of o) (sym (awaiting_of_found es src dst))
  where
    inner : (o : Option Unresolved) → map waiter_of (packets_in o) ≡ packets_of (option_map awaiting_by o)
    inner None = refl
    inner (Some e) = refl

-- a packet joins the entry of its source and group
pub join_list : (p : Packet) (slots : List Slot) (i : ℕ) (s : StandsAt (is_for p.head.src p.head.dst) slots i)
    → somes (slice_set slots i (Some (with_packet p s.entry))) ≡ map (joined p) (somes slots)
join_list p slots i s =
    somes_set slots s.before s.entry (with_packet p s.entry) s.after i s.whole s.place
    ∙ sym (ap (λ (es : List Unresolved). map (joined p) es) (somes_between slots s.before s.entry s.after s.whole)
    ∙ joined_between p (somes s.before) s.entry (somes s.after) s.none_before s.passes s.none_after)

pub join_model : (p : Packet) (now : ℕ) (slots : List Slot) (i : ℕ) (s : StandsAt (is_for p.head.src p.head.dst) slots i)
    → awaiting (somes (slice_set slots i (Some (with_packet p s.entry)))) ≡ park (awaiting (somes slots)) now (waiter_of p)
join_model p now slots i s =
    ap (λ (es : List Unresolved). awaiting es) (somes_set slots s.before s.entry (with_packet p s.entry) s.after i s.whole s.place)
    ∙ sym (ap (λ (es : List Unresolved). park (awaiting es) now (waiter_of p)) (somes_between slots s.before s.entry s.after s.whole)
    ∙ park_joins p now (somes s.before) s.entry (somes s.after) s.none_before s.passes)

-- the slots once a packet joined an entry there
pub join_slots : (p : Packet) (test : Unresolved → Bool) (old new : SlotList) (i : ℕ) (s : StandsAt test old.items i)
    → IfSome (entry_in old.items i) (λ e. new ≡ with_slots old (slice_set old.items i (Some (with_packet p e))))
    → new ≡ with_slots old (slice_set old.items i (Some (with_packet p s.entry)))
join_slots p test old new i s says =
    subst (λ (o : Option Unresolved). IfSome o (λ e. new ≡ with_slots old (slice_set old.items i (Some (with_packet p e))))) (entry_stands test old.items i s) says

pub few_where : (test : Unresolved → Bool) (slots : List Slot) (i : ℕ) (has : Bool) (s : StandsAt test slots i) → has ≡ true
    → IfSome (entry_in slots i) (λ e. has ≡ nat_lt (length e.packets) MOST_PACKETS) → length s.entry.packets < MOST_PACKETS
few_where test slots i has s so says =
    let few : has ≡ nat_lt (length s.entry.packets) MOST_PACKETS =
    subst (λ (o : Option Unresolved). IfSome o (λ e. has ≡ nat_lt (length e.packets) MOST_PACKETS)) (entry_stands test slots i s) says in
    ltb-true (length s.entry.packets) MOST_PACKETS (sym few ∙ so)
