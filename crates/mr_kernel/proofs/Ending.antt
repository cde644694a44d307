-- The turns in which waiting entries come out, the oldest first.
use Rattle.std.proofs.Common.{◌≡◌, ℕ, ◌+◌, ◌-◌, ◌≤◌, nat_lt, Bool, true, false, not, if◌then◌else◌}
use Rattle.std.proofs.Common.{List, [], ◌∷◌, length, map, filter, refl, sym, ap, ◌∙◌, subst, arith}
use Rattle.mr_model.specs.declared.ending.Fate.TheVariants.{Expired, Flushed}
use Rattle.mr_model.specs.declared.ending.Fate.{Fate}
use Rattle.mr_model.specs.declared.ending.FateLine.{FateLine}
use Rattle.mr_model.specs.WaitingList.{Awaiting, unexpired}
use Rattle.mr_fates.specs.After.{ended_all, ended_each, expired}
use Rattle.mr_fates.specs.Lines.{FateList}
use Rattle.mr_unres.specs.Entries.{WaitingEntries, awaiting, awaiting_by, is_young, waiter_of}
use Rattle.mr_unres.specs.declared.unresolved.Unresolved.{Unresolved}

pub record Expiring (number moment : ℕ) (waiting : WaitingEntries) (fates : FateList)
    (left : WaitingEntries) (now : FateList) : Type 0 where
  pub young : unexpired moment (awaiting left.entries)
      ≡ unexpired moment (awaiting waiting.entries)
  pub limit : left.limit ≡ waiting.limit
  pub lines : ended_all (Expired number) (expired moment (awaiting left.entries)) now.lines
      ≡ ended_all (Expired number) (expired moment (awaiting waiting.entries)) fates.lines
  pub packets : now.packets ≡ fates.packets

-- an entry that has waited too long stands before the others that have
expired_first : (moment : ℕ) (e : Unresolved) (es : List Unresolved) → is_young moment e ≡ false
    → expired moment (awaiting (e ∷ es)) ≡ awaiting_by e ∷ expired moment (awaiting es)
expired_first moment e es old = rw old refl

pub next_expiring : (number moment : ℕ) (waiting left new : WaitingEntries)
    (fates now after : FateList) (e : Unresolved)
    → Expiring number moment waiting fates left now → left.entries ≡ e ∷ new.entries
    → is_young moment e ≡ false → new.limit ≡ left.limit
    → unexpired moment (awaiting new.entries) ≡ unexpired moment (awaiting left.entries)
    → after.lines ≡ ended_each (Expired number) (map waiter_of e.packets) now.lines
    → after.packets ≡ now.packets
    → Expiring number moment waiting fates new after
next_expiring number moment waiting left new fates now after e exp whole old limit young lines
    packets = record {
      young = young ∙ exp.young;
      limit = limit ∙ exp.limit;
      lines =
          let before : expired moment (awaiting left.entries)
          ≡ awaiting_by e ∷ expired moment (awaiting new.entries) =
          ap (λ (es : List Unresolved). expired moment (awaiting es)) whole
          ∙ expired_first moment e new.entries old in
          let all = subst (λ (ws : List Awaiting). ended_all (Expired number) ws now.lines
          ≡ ended_all (Expired number) (expired moment (awaiting waiting.entries)) fates.lines)
          before exp.lines in
          rw lines all;
      packets = packets ∙ exp.packets;
    }

short_filter : (test : Unresolved → Bool) (es : List Unresolved)
    → length (filter test es) ≤ length es
short_filter test [] = omega arith
short_filter test (e ∷ es) = by (test e) (short_filter test es)
  where
    by : (b : Bool) → length (filter test es) ≤ length es
        → length (if b then e ∷ filter test es else filter test es) ≤ length (e ∷ es)
    by true le = omega (arith, le)
    by false le = omega (arith, le)

-- where all are young, none is expired
pub none_expired : (moment : ℕ) (es : List Unresolved) → filter (is_young moment) es ≡ es
    → expired moment (awaiting es) ≡ []
none_expired moment [] all = refl
none_expired moment (e ∷ es) all = by (is_young moment e) refl all (none_expired moment es)
  where
    by : (b : Bool) → is_young moment e ≡ b
        → (if is_young moment e then e ∷ filter (is_young moment) es
        else filter (is_young moment) es) ≡ e ∷ es
        → (filter (is_young moment) es ≡ es → expired moment (awaiting es) ≡ [])
        → expired moment (awaiting (e ∷ es)) ≡ []
    by true so all more =
        let rest = subst (λ (b : Bool).
        (if b then e ∷ filter (is_young moment) es else filter (is_young moment) es)
        ≡ e ∷ es) so all in
        rw so (more (cc))
    by false so all more =
        let rest = subst (λ (b : Bool).
        (if b then e ∷ filter (is_young moment) es else filter (is_young moment) es)
        ≡ e ∷ es) so all in
        let short = short_filter (is_young moment) es in
        absurd (omega (arith, short, ap length rest))

pub all_young : (moment : ℕ) (es : List Unresolved) → filter (is_young moment) es ≡ es
    → unexpired moment (awaiting es) ≡ awaiting es
all_young moment [] all = refl
all_young moment (e ∷ es) all = by (is_young moment e) refl all (all_young moment es)
  where
    by : (b : Bool) → is_young moment e ≡ b
        → (if is_young moment e then e ∷ filter (is_young moment) es
        else filter (is_young moment) es) ≡ e ∷ es
        → (filter (is_young moment) es ≡ es → unexpired moment (awaiting es) ≡ awaiting es)
        → unexpired moment (awaiting (e ∷ es)) ≡ awaiting (e ∷ es)
    by true so all more =
        let rest = subst (λ (b : Bool).
        (if b then e ∷ filter (is_young moment) es else filter (is_young moment) es)
        ≡ e ∷ es) so all in
        let tail : unexpired moment (awaiting es) ≡ awaiting es = more cc in
        rw (so, tail) refl
    by false so all more =
        let rest = subst (λ (b : Bool).
        (if b then e ∷ filter (is_young moment) es else filter (is_young moment) es)
        ≡ e ∷ es) so all in
        let short = short_filter (is_young moment) es in
        absurd (omega (arith, short, ap length rest))

pub expired_all : (number moment : ℕ) (waiting left : WaitingEntries) (fates now : FateList)
    → Expiring number moment waiting fates left now
    → filter (is_young moment) left.entries ≡ left.entries
    → now.lines ≡ ended_all (Expired number)
    (expired moment (awaiting waiting.entries)) fates.lines
expired_all number moment waiting left fates now exp all =
    ap (λ (ws : List Awaiting). ended_all (Expired number) ws now.lines)
    (sym (none_expired moment left.entries all)) ∙ exp.lines

pub young_all : (number moment : ℕ) (waiting left : WaitingEntries) (fates now : FateList)
    → Expiring number moment waiting fates left now
    → filter (is_young moment) left.entries ≡ left.entries
    → awaiting left.entries ≡ unexpired moment (awaiting waiting.entries)
young_all number moment waiting left fates now exp all = sym (all_young moment left.entries all)
    ∙ exp.young

pub record Flushing (number : ℕ) (waiting : WaitingEntries) (fates : FateList)
    (left : WaitingEntries) (now : FateList) : Type 0 where
  pub limit : left.limit ≡ waiting.limit
  pub lines : ended_all (Flushed number) (awaiting left.entries) now.lines
      ≡ ended_all (Flushed number) (awaiting waiting.entries) fates.lines
  pub packets : now.packets ≡ fates.packets

pub next_flushing : (number : ℕ) (waiting left new : WaitingEntries) (fates now after : FateList)
    (e : Unresolved)
    → Flushing number waiting fates left now → left.entries ≡ e ∷ new.entries
    → new.limit ≡ left.limit
    → after.lines ≡ ended_each (Flushed number) (map waiter_of e.packets) now.lines
    → after.packets ≡ now.packets
    → Flushing number waiting fates new after
next_flushing number waiting left new fates now after e fl whole limit lines packets = record {
  limit = limit ∙ fl.limit;
  lines =
      let all = subst (λ (es : List Unresolved). ended_all (Flushed number)
      (awaiting es) now.lines ≡ ended_all (Flushed number)
      (awaiting waiting.entries) fates.lines) whole fl.lines in
      rw lines all;
  packets = packets ∙ fl.packets;
}

pub flushed_all : (number : ℕ) (waiting left : WaitingEntries) (fates now : FateList)
    → Flushing number waiting fates left now → left.entries ≡ []
    → now.lines ≡ ended_all (Flushed number) (awaiting waiting.entries) fates.lines
flushed_all number waiting left fates now fl none =
    subst (λ (es : List Unresolved). ended_all (Flushed number) (awaiting es) now.lines
    ≡ ended_all (Flushed number) (awaiting waiting.entries) fates.lines) none fl.lines
