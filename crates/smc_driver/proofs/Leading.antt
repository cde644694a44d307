-- Courses that go on, one behind another.
use Rattle.std.proofs.Common.{◌≡◌, ◌∙◌, ℕ, zero, suc, ◌<◌, ◌≤◌, ◌+◌, ◌-◌, Option, Some, None, List, [], ◌∷◌, ◌++◌, length, refl, sym, ap, ap₂, subst, append_assoc, append-nil, arith}
use Rattle.std.specs.List.{fold}
use Rattle.std.specs.Prelude.{drop, flat_map, get_or}
use Rattle.std.proofs.Math.Seq.{drop-cons}
use Rattle.std.proofs.Math.ListN.{drop_of_length-le}
use Rattle.std.proofs.Common.{add-one}
use Rattle.std.proofs.lemmas.List.Sums.{fold-append}
use Rattle.mr_scenario.specs.declared.scenario.ScriptLine.{ScriptLine}
use Rattle.smc_daemon.specs.Lines.{of_daemon, lines_among}
use Rattle.mr_model.specs.Deeds.{Deed, Asked, Received, Ticked}
use Rattle.mr_model.specs.declared.caller.CallError.{CallError}
use Rattle.mr_model.specs.declared.caller.CallError.TheVariants as call_error
use Rattle.mr_model.specs.declared.message.Told.{Told}
use Rattle.mr_model.specs.declared.reply.Reply.{Reply}
use Rattle.mr_model.specs.declared.reply.Reply.TheVariants as answer
use Rattle.mr_model.specs.declared.request.Request.{Request}
use Rattle.smc_core.specs.Driving.{Course, Line, Start, Poll, Tick, Command, Answer, Replied, Reported, answers_in, ask, worked_off, received, handled, polled, driven, smc}
use Rattle.smc_core.specs.Machine.{Machine, Turn}
use Rattle.smc_core.specs.Replies.{reply}
use Rattle.smc_driver.specs.Leading.{at, all, Leads, Goes, Lacks, Breaks}
use Rattle.smc_driver.specs.Playing.{Plays, BreaksOff}
use Rattle.smc_daemon.proofs.Extending.{Extends, asks_extend, polls_extend, lines_extend, line_extends}

pub answers_append : (xs ys : List Deed) → answers_in (xs ++ ys) ≡ answers_in xs ++ answers_in ys
answers_append [] ys = refl
answers_append (Asked r a ∷ xs) ys = ap (λ l. Replied a ∷ l) (answers_append xs ys)
answers_append (Received told ∷ xs) ys = ap (λ l. Reported told ∷ l) (answers_append xs ys)
answers_append (Ticked ms ∷ xs) ys = answers_append xs ys

-- nothing done
pub leads_stays : (f : Course → Course) (m : Machine) (did : List Deed) → Leads f f m m did did []
leads_stays f m did = record {
  deeds = [];
  grew = sym (append-nil did);
  same = λ before said left. ap₂ (λ b s. f (at m b s left)) (sym (append-nil before)) (sym (append-nil said));
}

pub leads_trans : (f g h : Course → Course) (m m₁ m₂ : Machine) (old mid new : List Deed) (t u : List ℕ) → Leads f g m m₁ old mid t → Leads g h m₁ m₂ mid new u → Leads f h m m₂ old new (t ++ u)
leads_trans f g h m m₁ m₂ old mid new t u a b = record {
  deeds = a.deeds ++ b.deeds;
  grew = b.grew ∙ ap (λ l. l ++ b.deeds) a.grew ∙ append_assoc old a.deeds b.deeds;
  same = λ before said left.
      ap (λ l. f (at m before said l)) (ap (λ l. l ++ left) (answers_append a.deeds b.deeds) ∙ append_assoc (answers_in a.deeds) (answers_in b.deeds) left)
      ∙ a.same before said (answers_in b.deeds ++ left)
      ∙ b.same (before ++ a.deeds) (said ++ t) left
      ∙ ap₂ (λ x y. h (at m₂ x y left)) (append_assoc before a.deeds b.deeds) (append_assoc said t u);
}

pub leads_under : (k f g : Course → Course) (m m₁ : Machine) (old new : List Deed) (t : List ℕ) → Leads f g m m₁ old new t → Leads (λ c. k (f c)) (λ c. k (g c)) m m₁ old new t
leads_under k f g m m₁ old new t a = record {
  deeds = a.deeds;
  grew = a.grew;
  same = λ before said left. ap k (a.same before said left);
}

pub breaks_behind : (e : CallError) (f g : Course → Course) (m m₁ : Machine) (old mid new : List Deed) (t : List ℕ) → Leads f g m m₁ old mid t → Breaks e g m₁ mid new → Breaks e f m old new
breaks_behind e f g m m₁ old mid new t a b = record {
  deeds = a.deeds ++ b.deeds;
  grew = b.grew ∙ ap (λ l. l ++ b.deeds) a.grew ∙ append_assoc old a.deeds b.deeds;
  lacks = λ before said.
      let l = b.lacks (before ++ a.deeds) (said ++ t) in
      record {
        missing = l.missing;
        is =
            ap (λ x. (f (at m before said x)).deeds) (answers_append a.deeds b.deeds)
            ∙ ap (λ c. c.deeds) (a.same before said (answers_in b.deeds))
            ∙ l.is
            ∙ ap (λ x. x ++ l.missing) (append_assoc before a.deeds b.deeds);
        full = l.full;
      };
}

more_is_longer : (xs ys : List Deed) → 0 < length xs → 0 < length (xs ++ ys)
more_is_longer (x ∷ xs) ys some = omega arith
more_is_longer [] ys some = absurd (omega arith)

-- a course that lacks something, and goes on
pub lacks_then : (e : CallError) (c c' : Course) (done : List Deed) → Extends c c' → Lacks e c done → Lacks e c' done
lacks_then e c c' done more l = record {
  missing = l.missing ++ more.more;
  is = more.is ∙ ap (λ x. x ++ more.more) l.is ∙ append_assoc done l.missing more.more;
  full = λ is. more_is_longer l.missing more.more (l.full is);
}

pub breaks_then : (e : CallError) (f k : Course → Course) (m : Machine) (old new : List Deed) → ((c : Course) → Extends c (k c)) → Breaks e f m old new → Breaks e (λ c. k (f c)) m old new
breaks_then e f k m old new extends b = record {
  deeds = b.deeds;
  grew = b.grew;
  lacks = λ before said.
      let c = f (at m before said (answers_in b.deeds)) in
      lacks_then e c (k c) (before ++ b.deeds) (extends c) (b.lacks before said);
}

-- nothing was done, since no control entry was left for the first deed of f
pub breaks_first : (e : CallError) (f : Course → Course) (m : Machine) (did : List Deed) → ((before : List Deed) (said : List ℕ) → Lacks e (f (at m before said [])) before) → Breaks e f m did did
breaks_first e f m did lacks = record {
  deeds = [];
  grew = sym (append-nil did);
  lacks = λ before said. subst (λ b. Lacks e (f (at m before said [])) b) (sym (append-nil before)) (lacks before said);
}

-- Memory ran out, which may be behind the last deed.
pub lacks_memory : (c c' : Course) → Extends c c' → Lacks call_error.Memory c' c.deeds
lacks_memory c c' more = record { missing = more.more; is = more.is; full = λ is. absurd (cc is) }

-- One request: what was asked, and its reply.
pub asks_one : (r : Request) (a : Reply) (m : Machine) (old new : List Deed) → new ≡ old ++ Asked r a ∷ [] → Leads (λ c. ask c r) all m (reply m a).machine old new (reply m a).text
asks_one r a m old new grew = record { deeds = Asked r a ∷ []; grew = grew; same = λ before said left. refl }

pub asks_none : (e : CallError) (r : Request) (m : Machine) (old new : List Deed) → new ≡ old → Breaks e (λ c. ask c r) m old new
asks_none e r m old new same =
    subst (λ n. Breaks e (λ c. ask c r) m old n) (sym same)
    (breaks_first e (λ c. ask c r) m old (λ before said. record { missing = Asked r answer.Good ∷ []; is = refl; full = λ is. omega arith }))

-- the reply of a request was lost for want of memory
pub asks_lost : (r : Request) (a : Reply) (m : Machine) (old new : List Deed) → new ≡ old ++ Asked r a ∷ [] → Breaks call_error.Memory (λ c. ask c r) m old new
asks_lost r a m old new grew = record {
  deeds = Asked r a ∷ [];
  grew = grew;
  lacks = λ before said. record { missing = []; is = sym (append-nil _); full = λ is. absurd (cc is) };
}

-- from whatever machine a turn is worked off
pub leads_as : (f g : Course → Course) (m m' n : Machine) (old new : List Deed) (t : List ℕ) → m' ≡ m → Leads f g m n old new t → Leads f g m' n old new t
leads_as f g m m' n old new t is a = subst (λ (x : Machine). Leads f g x n old new t) (sym is) a

-- One receive that gives a report, and one that gives none.
pub receives_one : (n : ℕ) (told : Told) (m : Machine) (old new : List Deed) → new ≡ old ++ Received (Some told) ∷ [] → Leads (polled (suc n)) (λ c. polled n (handled c told)) m m old new []
receives_one n told m old new grew = record {
  deeds = Received (Some told) ∷ [];
  grew = grew;
  same = λ before said left. ap (λ s. polled n (handled (at m (before ++ Received (Some told) ∷ []) s left) told)) (sym (append-nil said));
}

pub receives_none : (n : ℕ) (m : Machine) (old new : List Deed) → new ≡ old ++ Received None ∷ [] → Leads (polled (suc n)) all m m old new []
receives_none n m old new grew = record {
  deeds = Received None ∷ [];
  grew = grew;
  same = λ before said left. ap (λ s. at m (before ++ Received None ∷ []) s left) (sym (append-nil said));
}

pub receives_not : (e : CallError) (n : ℕ) (m : Machine) (old new : List Deed) → new ≡ old → Breaks e (polled (suc n)) m old new
receives_not e n m old new same =
    subst (λ x. Breaks e (polled (suc n)) m old x) (sym same)
    (breaks_first e (polled (suc n)) m old (λ before said. record { missing = Received None ∷ []; is = refl; full = λ is. omega arith }))

pub ticks : (ms : ℕ) (m : Machine) (old new : List Deed) → new ≡ old ++ Ticked ms ∷ [] → Leads (λ c. driven c (Tick ms)) all m m old new []
ticks ms m old new grew = record {
  deeds = Ticked ms ∷ [];
  grew = grew;
  same = λ before said left. ap (λ s. at m (before ++ Ticked ms ∷ []) s left) (sym (append-nil said));
}

pub ticks_not : (e : CallError) (ms : ℕ) (m : Machine) (old new : List Deed) → new ≡ old → Breaks e (λ c. driven c (Tick ms)) m old new
ticks_not e ms m old new same =
    subst (λ x. Breaks e (λ c. driven c (Tick ms)) m old x) (sym same)
    (breaks_first e (λ c. driven c (Tick ms)) m old (λ before said. record { missing = Ticked ms ∷ []; is = refl; full = λ is. omega arith }))

-- lines that lead to their end were played
pub plays : (m m' : Machine) (ls : List Line) (old new : List Deed) → Goes (λ c. fold driven c ls) all m m' old new → Plays m ls old new m'
plays m m' ls old new goes =
    let l = goes.leads in
    let is : smc m ls (answers_in l.deeds) ≡ at m' l.deeds goes.text [] =
    ap (λ (x : List Answer). smc m ls x) (sym (append-nil (answers_in l.deeds))) ∙ l.same [] [] [] in
    record {
      deeds = l.deeds;
      grew = l.grew;
      course = sym (ap (λ c. c.deeds) is);
      machine = sym (ap (λ c. c.machine) is);
    }

pub breaks_off : (e : CallError) (m : Machine) (ls : List Line) (old new : List Deed) → Breaks e (λ c. fold driven c ls) m old new → BreaksOff e m ls old new
breaks_off e m ls old new b =
    let l = b.lacks [] [] in
    record { deeds = b.deeds; missing = l.missing; grew = b.grew; begun = l.is; full = l.full }

-- nothing was done, for want of memory
pub lost : (f : Course → Course) (m : Machine) (did : List Deed) → ((c : Course) → Extends c (f c)) → Breaks call_error.Memory f m did did
lost f m did extends = breaks_first call_error.Memory f m did (λ before said. lacks_memory (at m before said []) (f (at m before said [])) (extends (at m before said [])))

-- what a caller goes on to, one behind another
pub goes_trans : (f g h : Course → Course) (m m₁ m₂ : Machine) (old mid new : List Deed) → Goes f g m m₁ old mid → Goes g h m₁ m₂ mid new → Goes f h m m₂ old new
goes_trans f g h m m₁ m₂ old mid new a b = record { text = a.text ++ b.text; leads = leads_trans f g h m m₁ m₂ old mid new a.text b.text a.leads b.leads }

pub goes_under : (k f g : Course → Course) (m m₁ : Machine) (old new : List Deed) → Goes f g m m₁ old new → Goes (λ c. k (f c)) (λ c. k (g c)) m m₁ old new
goes_under k f g m m₁ old new a = record { text = a.text; leads = leads_under k f g m m₁ old new a.text a.leads }

pub breaks_more : (e : CallError) (f g : Course → Course) (m m₁ : Machine) (old mid new : List Deed) → Goes f g m m₁ old mid → Breaks e g m₁ mid new → Breaks e f m old new
breaks_more e f g m m₁ old mid new a b = breaks_behind e f g m m₁ old mid new a.text a.leads b

-- what stands behind an index is the item there, and what stands behind the next index
pub next_item : {A : Type 0} (xs : List A) (i : ℕ) (x : A) → i < length xs → x ≡ get_or xs i x → drop i xs ≡ x ∷ drop (i + 1) xs
next_item xs i x within is =
    rw (add-one)
    (drop-cons xs i x within ∙ ap (λ y. y ∷ drop (suc i) xs) (sym is))

asks_step : (m m' : Machine) (old new : List Deed) (u : List ℕ) (rs : List Request) (i : ℕ) (r : Request) → drop i rs ≡ r ∷ drop (i + 1) rs → Leads (λ c. ask c r) all m m' old new u → Leads (λ c. fold ask c (drop i rs)) (λ c. fold ask c (drop (i + 1) rs)) m m' old new u
asks_step m m' old new u rs i r e a =
    subst (λ (x : List Request). Leads (λ c. fold ask c x) (λ c. fold ask c (drop (i + 1) rs)) m m' old new u) (sym e)
    (leads_under (λ c. fold ask c (drop (i + 1) rs)) (λ c. ask c r) all m m' old new u a)

-- a request more of those that stand in a row
pub asks_next : (f : Course → Course) (m₀ m m' : Machine) (old mid new : List Deed) (t u : List ℕ) (rs : List Request) (i : ℕ) (r : Request) → drop i rs ≡ r ∷ drop (i + 1) rs → Leads f (λ c. fold ask c (drop i rs)) m₀ m old mid t → Leads (λ c. ask c r) all m m' mid new u → Leads f (λ c. fold ask c (drop (i + 1) rs)) m₀ m' old new (t ++ u)
asks_next f m₀ m m' old mid new t u rs i r e a b =
    leads_trans f (λ c. fold ask c (drop i rs)) (λ c. fold ask c (drop (i + 1) rs)) m₀ m m' old mid new t u a
    (asks_step m m' mid new u rs i r e b)

pub asks_broken : (e : CallError) (f : Course → Course) (m₀ m : Machine) (old mid new : List Deed) (t : List ℕ) (rs : List Request) (i : ℕ) (r : Request) → drop i rs ≡ r ∷ drop (i + 1) rs → Leads f (λ c. fold ask c (drop i rs)) m₀ m old mid t → Breaks e (λ c. ask c r) m mid new → Breaks e f m₀ old new
asks_broken e f m₀ m old mid new t rs i r is a b =
    breaks_behind e f (λ c. fold ask c (drop i rs)) m₀ m old mid new t a
    (subst (λ (x : List Request). Breaks e (λ c. fold ask c x) m mid new) (sym is)
    (breaks_then e (λ c. ask c r) (λ c. fold ask c (drop (i + 1) rs)) m mid new (asks_extend (drop (i + 1) rs)) b))

-- the text of a reply was lost for want of memory
pub asks_unsaid : (f : Course → Course) (m₀ m m' : Machine) (old mid new : List Deed) (t u : List ℕ) (rs : List Request) (i : ℕ) (r : Request) → drop i rs ≡ r ∷ drop (i + 1) rs → Leads f (λ c. fold ask c (drop i rs)) m₀ m old mid t → Leads (λ c. ask c r) all m m' mid new u → Breaks call_error.Memory f m₀ old new
asks_unsaid f m₀ m m' old mid new t u rs i r e a b =
    breaks_behind call_error.Memory f (λ c. fold ask c (drop (i + 1) rs)) m₀ m' old new new (t ++ u)
    (asks_next f m₀ m m' old mid new t u rs i r e a b)
    (lost (λ c. fold ask c (drop (i + 1) rs)) m' new (asks_extend (drop (i + 1) rs)))

-- a line of the script, and those behind it
lines_split : (d i : ℕ) (ls : List ScriptLine) (l : ScriptLine) → drop i ls ≡ l ∷ drop (i + 1) ls → (c : Course) → fold driven c (lines_among d (drop i ls)) ≡ fold driven (fold driven c (of_daemon d l)) (lines_among d (drop (i + 1) ls))
lines_split d i ls l e c =
    ap (λ (x : List ScriptLine). fold driven c (lines_among d x)) e
    ∙ fold-append driven c (of_daemon d l) (lines_among d (drop (i + 1) ls))

goes_from : (f g h : Course → Course) (m m' : Machine) (old new : List Deed) → ((c : Course) → f c ≡ g c) → Goes g h m m' old new → Goes f h m m' old new
goes_from f g h m m' old new same a = record {
  text = a.text;
  leads = record {
    deeds = a.leads.deeds;
    grew = a.leads.grew;
    same = λ before said left. same (at m before said (answers_in a.leads.deeds ++ left)) ∙ a.leads.same before said left;
  };
}

breaks_from : (e : CallError) (f g : Course → Course) (m : Machine) (old new : List Deed) → ((c : Course) → f c ≡ g c) → Breaks e g m old new → Breaks e f m old new
breaks_from e f g m old new same b = record {
  deeds = b.deeds;
  grew = b.grew;
  lacks = λ before said. subst (λ (c : Course). Lacks e c (before ++ b.deeds)) (sym (same (at m before said (answers_in b.deeds)))) (b.lacks before said);
}

pub lines_next : (f : Course → Course) (m₀ m m' : Machine) (old mid new : List Deed) (d i : ℕ) (ls : List ScriptLine) (l : ScriptLine) → drop i ls ≡ l ∷ drop (i + 1) ls → Goes f (λ c. fold driven c (lines_among d (drop i ls))) m₀ m old mid → Goes (λ c. fold driven c (of_daemon d l)) all m m' mid new → Goes f (λ c. fold driven c (lines_among d (drop (i + 1) ls))) m₀ m' old new
lines_next f m₀ m m' old mid new d i ls l e a b =
    let k = λ (c : Course). fold driven c (lines_among d (drop (i + 1) ls)) in
    let one = λ (c : Course). fold driven c (of_daemon d l) in
    goes_trans f (λ c. fold driven c (lines_among d (drop i ls))) k m₀ m m' old mid new a
    (goes_from (λ c. fold driven c (lines_among d (drop i ls))) (λ c. k (one c)) k m m' mid new (lines_split d i ls l e)
    (goes_under k one all m m' mid new b))

pub lines_broken : (e : CallError) (f : Course → Course) (m₀ m : Machine) (old mid new : List Deed) (d i : ℕ) (ls : List ScriptLine) (l : ScriptLine) → drop i ls ≡ l ∷ drop (i + 1) ls → Goes f (λ c. fold driven c (lines_among d (drop i ls))) m₀ m old mid → Breaks e (λ c. fold driven c (of_daemon d l)) m mid new → Breaks e f m₀ old new
lines_broken e f m₀ m old mid new d i ls l is a b =
    let k = λ (c : Course). fold driven c (lines_among d (drop (i + 1) ls)) in
    let one = λ (c : Course). fold driven c (of_daemon d l) in
    breaks_more e f (λ c. fold driven c (lines_among d (drop i ls))) m₀ m old mid new a
    (breaks_from e (λ c. fold driven c (lines_among d (drop i ls))) (λ c. k (one c)) m mid new (lines_split d i ls l is)
    (breaks_then e one k m mid new (lines_extend (lines_among d (drop (i + 1) ls))) b))

-- One receive that gives a report, which is handled.
pub receives_more : (n : ℕ) (told : Told) (m m' : Machine) (old mid new : List Deed) → mid ≡ old ++ Received (Some told) ∷ [] → Goes (λ c. handled c told) all m m' mid new → Goes (polled (suc n)) (polled n) m m' old new
receives_more n told m m' old mid new grew a =
    goes_trans (polled (suc n)) (λ c. polled n (handled c told)) (polled n) m m m' old mid new
    (record { text = []; leads = receives_one n told m old mid grew })
    (goes_under (polled n) (λ c. handled c told) all m m' mid new a)

pub receives_broken : (e : CallError) (n : ℕ) (told : Told) (m : Machine) (old mid new : List Deed) → mid ≡ old ++ Received (Some told) ∷ [] → Breaks e (λ c. handled c told) m mid new → Breaks e (polled (suc n)) m old new
receives_broken e n told m old mid new grew b =
    breaks_behind e (polled (suc n)) (λ c. polled n (handled c told)) m m old mid new [] (receives_one n told m old mid grew)
    (breaks_then e (λ c. handled c told) (polled n) m mid new (polls_extend n) b)

-- A poll goes on with one receive less.
pub polls_next : (f g : ℕ → Course → Course) (most left : ℕ) (m₀ m m' : Machine) (old mid new : List Deed) → 0 < left → Goes (polled most) (polled left) m₀ m old mid → ((n : ℕ) → Goes (polled (suc n)) (g n) m m' mid new) → Goes (polled most) (g (left - 1)) m₀ m' old new
polls_next f g most (suc n) m₀ m m' old mid new some a b = goes_trans (polled most) (polled (suc n)) (g (suc n - 1)) m₀ m m' old mid new a (subst (λ (k : ℕ). Goes (polled (suc n)) (g k) m m' mid new) (omega arith) (b n))
polls_next f g most zero m₀ m m' old mid new some a b = absurd (omega arith)

pub polls_broken : (e : CallError) (most left : ℕ) (m₀ m : Machine) (old mid new : List Deed) → 0 < left → Goes (polled most) (polled left) m₀ m old mid → ((n : ℕ) → Breaks e (polled (suc n)) m mid new) → Breaks e (polled most) m₀ old new
polls_broken e most (suc n) m₀ m old mid new some a b = breaks_more e (polled most) (polled (suc n)) m₀ m old mid new a (b n)
polls_broken e most zero m₀ m old mid new some a b = absurd (omega arith)

pub next_at : {A : Type 0} (xs : List A) (i : ℕ) (d : A) → i < length xs → drop i xs ≡ get_or xs i d ∷ drop (i + 1) xs
next_at xs i d within = rw (add-one) (drop-cons xs i d within)

-- all lines of a script were played
pub plays_all : (m m' : Machine) (old new : List Deed) (d i : ℕ) (ls : List ScriptLine) → length ls ≤ i → Goes (λ c. fold driven c (lines_among d ls)) (λ c. fold driven c (lines_among d (drop i ls))) m m' old new → Plays m (lines_among d ls) old new m'
plays_all m m' old new d i ls end goes =
    plays m m' (lines_among d ls) old new
    (subst (λ (x : List ScriptLine). Goes (λ c. fold driven c (lines_among d ls)) (λ c. fold driven c (lines_among d x)) m m' old new) (drop_of_length-le ls end) goes)
