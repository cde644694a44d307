-- What the index says where entries go, change or come.
use Rattle.std.proofs.Common.{◌≡◌, ◌∙◌, refl, sym, ap, subst, ℕ, zero, suc, ◌+◌, ◌≤◌, Some, Bool, true, false, not, ◌&&◌, ◌==◌, if◌then◌else◌, List, [], ◌∷◌, ◌++◌, length, map, get_or, set, slice_get, unwrap_or, Option, ◌⊎◌, inl, inr, arith}
use Rattle.std.proofs.lemmas.Bool.{and_parts}
use Rattle.std.proofs.lemmas.List.{length-set, length-append, length-map}
use Rattle.std.proofs.lemmas.Option.{same_Some, slice_get_within}
use Rattle.std.specs.HashMap.{get}
use Rattle.mr_base.specs.declared.numbers.Addr.{Addr}
use Rattle.mr_base.specs.declared.route.Route.{Route}
use Rattle.mr_model.specs.RouteList.{is_entry}
use Rattle.mr_plain_lists.specs.declared.slots.Slot.{Slot}
use Rattle.mr_plain_lists.specs.Indexed.{oldest_first, Index, same_key, reach, Leads, AreLinked, IsIndexed, flushed}
use Rattle.mr_plain_lists.proofs.Walking.{oldest_append}

-- an entry that may have gone, or have another parent
pub record IsLike (x y : Slot) : Type 0 where
  pub older : y.older ≡ x.older
  pub src : y.route.src ≡ x.route.src
  pub dst : y.route.dst ≡ x.route.dst
  pub live : y.live ≡ true → x.live ≡ true

pub same_slot : (x : Slot) → IsLike x x
same_slot x = record { older = refl; src = refl; dst = refl; live = λ live. live }

pub record Stood (old : List Slot) (i : ℕ) (y : Slot) : Type 0 where
  pub slot : Slot
  pub at : slice_get old i ≡ Some slot
  pub like : IsLike slot y

pub record Fades (old new : List Slot) : Type 0 where
  pub size : length new ≡ length old
  pub stood : (i : ℕ) (y : Slot) → slice_get new i ≡ Some y → Stood old i y

like_entry : (x y : Slot) (src dst : Addr) → IsLike x y → is_entry src dst y.route ≡ is_entry src dst x.route
like_entry x y src dst like =
    ap (λ (a : Addr). a.0 == src.0 && y.route.dst.0 == dst.0) like.src ∙ ap (λ (a : Addr). x.route.src.0 == src.0 && a.0 == dst.0) like.dst

leads_fade : (old new : List Slot) (n i : ℕ) (src dst : Addr) → Fades old new → Leads old n i src dst → Leads new n i src dst
leads_fade old new n i src dst fades leads = record {
  within = leads.within;
  last = λ j y is at. let s = fades.stood j y at in like_entry s.slot y src dst s.like ∙ leads.last j s.slot is s.at;
  none = λ j y low high at live. let s = fades.stood j y at in like_entry s.slot y src dst s.like ∙ leads.none j s.slot low high s.at (s.like.live live);
}

linked_fade : (old new : List Slot) → Fades old new → AreLinked old → AreLinked new
linked_fade old new fades linked i y at =
    let s = fades.stood i y at in
    subst (λ (n : ℕ). Leads new n i y.route.src y.route.dst) (sym s.like.older)
    (subst (λ (a : Addr). Leads new s.slot.older i a y.route.dst) (sym s.like.src)
    (subst (λ (a : Addr). Leads new s.slot.older i s.slot.route.src a) (sym s.like.dst)
    (leads_fade old new s.slot.older i s.slot.route.src s.slot.route.dst fades (linked i s.slot s.at))))

pub indexed_fade : (old new : List Slot) (index : Index) (count left : ℕ) → Fades old new → IsIndexed old index count
    → left ≡ length (oldest_first new) → IsIndexed new index left
indexed_fade old new index count left fades is counted = record {
  linked = linked_fade old new fades is.linked;
  newest = λ src dst. subst (λ (n : ℕ). Leads new (reach index src dst) n src dst) (sym fades.size)
      (leads_fade old new (reach index src dst) (length old) src dst fades (is.newest src dst));
  counted = counted;
}

stood_set : (slots : List Slot) (i : ℕ) (d y : Slot) → IsLike (get_or slots i d) y → (j : ℕ) (z : Slot) → slice_get (set slots i y) j ≡ Some z → Stood slots j z
stood_set [] i d y like j z at = record { slot = z; at = at; like = same_slot z }
stood_set (x ∷ slots) zero d y like zero z at = record { slot = x; at = refl; like = subst (IsLike x) (same_Some y z at) like }
stood_set (x ∷ slots) zero d y like (suc j) z at = record { slot = z; at = at; like = same_slot z }
stood_set (x ∷ slots) (suc i) d y like zero z at = record { slot = z; at = at; like = same_slot z }
stood_set (x ∷ slots) (suc i) d y like (suc j) z at =
    let s = stood_set slots i d y like j z at in record { slot = s.slot; at = s.at; like = s.like }

pub fades_set : (slots : List Slot) (i : ℕ) (d y : Slot) → IsLike (get_or slots i d) y → Fades slots (set slots i y)
fades_set slots i d y like = record { size = length-set slots i y; stood = stood_set slots i d y like }

like_flushed : (loose fixed : Bool) (x : Slot) → IsLike x (flushed loose fixed x)
like_flushed loose fixed x = record { older = refl; src = refl; dst = refl; live = λ live. (and_parts x.live (not (if x.route.fixed then fixed else loose)) live).0 }

stood_flushed : (loose fixed : Bool) (slots : List Slot) (j : ℕ) (z : Slot) → slice_get (map (flushed loose fixed) slots) j ≡ Some z → Stood slots j z
stood_flushed loose fixed [] j z at = record { slot = z; at = at; like = same_slot z }
stood_flushed loose fixed (x ∷ slots) zero z at =
    record { slot = x; at = refl; like = subst (IsLike x) (same_Some (flushed loose fixed x) z at) (like_flushed loose fixed x) }
stood_flushed loose fixed (x ∷ slots) (suc j) z at =
    let s = stood_flushed loose fixed slots j z at in record { slot = s.slot; at = s.at; like = s.like }

pub fades_flushed : (loose fixed : Bool) (slots : List Slot) → Fades slots (map (flushed loose fixed) slots)
fades_flushed loose fixed slots = record { size = length-map slots (flushed loose fixed); stood = stood_flushed loose fixed slots }

get_push : (slots : List Slot) (j : ℕ) (s t : Slot) → slice_get (slots ++ s ∷ []) j ≡ Some t → ((j ≡ length slots) × (s ≡ t)) ⊎ (slice_get slots j ≡ Some t)
get_push [] zero s t at = inl (refl, same_Some s t at)
get_push [] (suc j) s t at = inr at
get_push (x ∷ slots) zero s t at = inr at
get_push (x ∷ slots) (suc j) s t at = elim (get_push slots j s t at) [
  | inl here ↦ inl (ap suc here.0, here.1)
  | inr there ↦ inr there
]

leads_push : (slots : List Slot) (s : Slot) (n i : ℕ) (src dst : Addr) → i ≤ length slots → Leads slots n i src dst → Leads (slots ++ s ∷ []) n i src dst
leads_push slots s n i src dst fits leads = record {
  within = leads.within;
  last = λ j y is at. elim (get_push slots j s y at) [
    | inl here ↦ absurd (omega (arith, here.0, is, leads.within))
    | inr there ↦ leads.last j y is there
  ];
  none = λ j y low high at live. elim (get_push slots j s y at) [
    | inl here ↦ absurd (omega (arith, here.0, high))
    | inr there ↦ leads.none j y low high there live
  ];
}

linked_push : (slots : List Slot) (s : Slot) → AreLinked slots → Leads slots s.older (length slots) s.route.src s.route.dst → AreLinked (slots ++ s ∷ [])
linked_push slots s linked leads i y at = elim (get_push slots i s y at) [
  | inl here ↦
      subst (λ (z : Slot). Leads (slots ++ s ∷ []) z.older i z.route.src z.route.dst) here.1
      (subst (λ (k : ℕ). Leads (slots ++ s ∷ []) s.older k s.route.src s.route.dst) (sym here.0)
      (leads_push slots s s.older (length slots) s.route.src s.route.dst (omega arith) leads))
  | inr there ↦ leads_push slots s y.older i y.route.src y.route.dst (omega (arith, slice_get_within slots i y there)) (linked i y there)
]

grown : (slots : List Slot) (s : Slot) → length (slots ++ s ∷ []) ≡ suc (length slots)
grown [] s = refl
grown (x ∷ slots) s = ap suc (grown slots s)

newest_push : (slots : List Slot) (s : Slot) (n : ℕ) (src dst : Addr) (b : Bool) → is_entry src dst s.route ≡ b
    → Leads slots n (length slots) src dst
    → Leads (slots ++ s ∷ []) (if b then length (slots ++ s ∷ []) else n) (length (slots ++ s ∷ [])) src dst
newest_push slots s n src dst true of leads = record {
  within = omega arith;
  last = λ j y is at. elim (get_push slots j s y at) [
    | inl here ↦ subst (λ (z : Slot). is_entry src dst z.route ≡ true) here.1 of
    | inr there ↦ absurd (omega (arith, grown slots s, is, slice_get_within slots j y there))
  ];
  none = λ j y low high at live. absurd (omega (arith, low, high));
}
newest_push slots s n src dst false of leads = record {
  within = omega (arith, grown slots s, leads.within);
  last = λ j y is at. elim (get_push slots j s y at) [
    | inl here ↦ absurd (omega (arith, here.0, is, leads.within))
    | inr there ↦ leads.last j y is there
  ];
  none = λ j y low high at live. elim (get_push slots j s y at) [
    | inl here ↦ subst (λ (z : Slot). is_entry src dst z.route ≡ false) here.1 of
    | inr there ↦ leads.none j y low (slice_get_within slots j y there) there live
  ];
}

reach_push : (old new : Index) (src dst : Addr) (r : Route) (places : ℕ)
    → ((q : ℕ × ℕ) → get same_key new q ≡ (if same_key (r.src.0, r.dst.0) q then Some places else get same_key old q))
    → (if is_entry src dst r then places else reach old src dst) ≡ reach new src dst
reach_push old new src dst r places leads =
    by (is_entry src dst r) ∙ sym (ap (λ (o : Option ℕ). unwrap_or o 0) (leads (src.0, dst.0)))
  where
    by : (b : Bool) → (if b then places else reach old src dst) ≡ unwrap_or (if b then Some places else get same_key old (src.0, dst.0)) 0
    by true = refl
    by false = refl

pub indexed_push : (slots : List Slot) (s : Slot) (old new : Index) (count left places : ℕ) → IsIndexed slots old count
    → Leads slots s.older (length slots) s.route.src s.route.dst → s.live ≡ true → left ≡ count + 1 → places ≡ length (slots ++ s ∷ [])
    → ((q : ℕ × ℕ) → get same_key new q ≡ (if same_key (s.route.src.0, s.route.dst.0) q then Some places else get same_key old q))
    → IsIndexed (slots ++ s ∷ []) new left
indexed_push slots s old new count left places is older live more size leads = record {
  linked = linked_push slots s is.linked older;
  newest = λ src dst. subst (λ (n : ℕ). Leads (slots ++ s ∷ []) n (length (slots ++ s ∷ [])) src dst)
      (ap (λ (n : ℕ). if is_entry src dst s.route then n else reach old src dst) (sym size) ∙ reach_push old new src dst s.route places leads)
      (newest_push slots s (reach old src dst) src dst (is_entry src dst s.route) refl (is.newest src dst));
  counted = more ∙ ap (λ (n : ℕ). n + 1) is.counted ∙ counted;
}
  where
    counted : length (oldest_first slots) + 1 ≡ length (oldest_first (slots ++ s ∷ []))
    counted = sym (ap length (oldest_append slots (s ∷ [])) ∙ length-append (oldest_first slots) (oldest_first (s ∷ []))
        ∙ ap (λ (b : Bool). length (oldest_first slots) + length (if b then s.route ∷ [] else [])) live)

pub few_live : (slots : List Slot) → length (oldest_first slots) ≤ length slots
few_live [] = omega arith
few_live (x ∷ slots) = by x.live (few_live slots)
  where
    by : (b : Bool) → length (oldest_first slots) ≤ length slots → length (if b then x.route ∷ oldest_first slots else oldest_first slots) ≤ suc (length slots)
    by true few = omega (arith, few)
    by false few = omega (arith, few)

pub indexed_same : (slots : List Slot) (old new : Index) (count : ℕ) → IsIndexed slots old count → ((q : ℕ × ℕ) → get same_key new q ≡ get same_key old q)
    → IsIndexed slots new count
indexed_same slots old new count is same = record {
  linked = is.linked;
  newest = λ src dst. subst (λ (o : Option ℕ). Leads slots (unwrap_or o 0) (length slots) src dst) (sym (same (src.0, dst.0))) (is.newest src dst);
  counted = is.counted;
}
