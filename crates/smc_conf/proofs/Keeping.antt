-- Each line keeps what holds of a configuration.
use Rattle.std.proofs.Common.{◌≡◌, ℕ, ◌+◌, ◌-◌, ◌/◌, ◌^◌, ◌<◌, ◌≤◌, ◌∙◌, ap, sym, subst, refl, arith, Bool, true, false, not, nat_lt, Option, Some, None, Result, Ok, Err, IfOk, List, [], ◌∷◌, ◌++◌, length, count_by, bytes_eq, codes, if◌then◌else◌}
use Rattle.std.proofs.lemmas.Bool.Decides.{nat_tests}
use Rattle.std.proofs.lemmas.List.Elements.{All-push, All-nil}
use Rattle.std.proofs.lemmas.List.Sums.{sum_by-append}
use Rattle.std.proofs.lemmas.Result.{IfOk-at_ok}
use Rattle.std.proofs.Math.Nat.{mul-mod_left}
use Rattle.std.proofs.Math.Seq.{append_snoc}
use Rattle.std.proofs.lemmas.List.{append-nil, length-append}
use Rattle.mr_words.specs.Binds.{◌>>=◌}
use Rattle.mr_words.specs.Numbers.{number_of}
use Rattle.mr_words.specs.Parts.{parts_behind}
use Rattle.mr_words.specs.Words.{lines_of, words_of, without_return}
use Rattle.smc_conf.specs.Fits.{AreNew, Fits, IsPrefix}
use Rattle.smc_conf.specs.Forms.{Word, first_of, keyword, interface_word, prefix_of, length_in, source_word, group_word}
use Rattle.smc_conf.specs.Kinds.{wants, word_as}
use Rattle.smc_conf.specs.Lines.{is_named, enabled_word, from_interface, group_line, nothing_behind, outs_from, phyint_line, rule_line, threshold_in, with_phyint}
use Rattle.smc_conf.specs.Ranges.{Range, any_source, group_first, range_of, source_behind, source_first, source_given}
use Rattle.smc_conf.specs.Spelled.{at_line, conf_of, draft_from, empty_draft, line_of, next_line}
use Rattle.smc_conf.specs.declared.conf.Group.{Group}
use Rattle.smc_conf.specs.declared.conf.Phyint.{Phyint}
use Rattle.smc_conf.specs.declared.conf.Prefix.{Prefix}
use Rattle.smc_conf.specs.declared.conf.Rule.{Rule}
use Rattle.smc_conf.specs.declared.draft.Draft.{Draft}
use Rattle.smc_conf.specs.declared.stop.Kind.{Kind}
use Rattle.smc_conf.specs.declared.stop.Kind.TheVariants as kind

-- what holds behind a step holds of both
then_ok : {A B E : Type 0} (m : Result A E) (f : A → Result B E) (Q : B → Type 0) → ((x : A) → m ≡ Ok x → IfOk (f x) Q) → IfOk (m >>= f) Q
then_ok (Ok x) f Q g = g x refl
then_ok (Err e) f Q g = tt

wanted : (test : Bool) (k : Kind) (u : Unit {0}) → wants test k ≡ Ok u → test ≡ true
wanted true k u e = refl
wanted false k u e = absurd (cc e)

spelled_by : {A : Type 0} (o : Option A) (w : List ℕ) (k : Kind) (x : A) → word_as o w k ≡ Ok x → o ≡ Some x
spelled_by (Some y) w k x e = cc e
spelled_by None w k x e = absurd (cc e)

number_within : (most n : ℕ) (w : List ℕ) → number_of most w ≡ Some n → n ≤ most
number_within most n w e = grind (arith, nat_tests)

length_within : (ls : List Word) (n : ℕ) → length_in ls ≡ Some n → n ≤ 32
length_within [] n e = grind arith
length_within (l ∷ []) n e = number_within 32 n l e
length_within (l ∷ m ∷ ls) n e = absurd (cc e)

prefix_fits : (addr len : ℕ) → len ≤ 32 → IsPrefix (prefix_of addr len)
prefix_fits addr len h = record {
  len = h;
  zeros = mul-mod_left (addr / 2 ^ (32 - len)) (2 ^ (32 - len));
}

prefix_behind : (addr : ℕ) (w : Word) → IfOk (word_as (length_in (parts_behind 47 w)) w kind.Prefix >>= λ len. Ok (prefix_of addr len)) IsPrefix
prefix_behind addr w =
    then_ok _ _ IsPrefix (λ len e. prefix_fits addr len (length_within (parts_behind 47 w) len (spelled_by _ w kind.Prefix len e)))

source_fits : (w : Word) → IfOk (source_word w) IsPrefix
source_fits w = then_ok _ _ IsPrefix (λ addr e. prefix_behind addr w)

group_fits : (w : Word) → IfOk (group_word w) IsPrefix
group_fits w = then_ok _ _ IsPrefix (λ addr e. prefix_behind addr w)

-- both prefixes of a range are proper ones
abbrev RangeFits : Range → Type 0
RangeFits r = IsPrefix r.0 × IsPrefix r.1

source_given_fits : (group : Prefix) (ws : List Word) → IsPrefix group → IfOk (source_given group ws) RangeFits
source_given_fits group ws g =
    then_ok (first_of ws) _ RangeFits (λ (a : Word × List Word) e. then_ok (source_word a.0) _ RangeFits (λ (source : Prefix) s. (IfOk-at_ok IsPrefix s (source_fits a.0), g)))

any_fits : IsPrefix any_source
any_fits = record { len = omega arith; zeros = refl }

either : (b : Bool) (group : Prefix) (w : Word) (ws : List Word) → IsPrefix group
    → IfOk (if b then source_given group ws else Ok (any_source, group, w ∷ ws)) RangeFits
either true group w ws g = source_given_fits group ws g
either false group w ws g = (any_fits, g)

source_behind_fits : (group : Prefix) (ws : List Word) → IsPrefix group → IfOk (source_behind group ws) RangeFits
source_behind_fits group [] g = (any_fits, g)
source_behind_fits group (w ∷ ws) g = either (bytes_eq w (codes "source")) group w ws g

source_first_fits : (ws : List Word) → IfOk (source_first ws) RangeFits
source_first_fits ws =
    then_ok (first_of ws) _ RangeFits (λ (a : Word × List Word) e. then_ok (source_word a.0) _ RangeFits (λ (source : Prefix) s.
    then_ok (keyword (codes "group") a.1) _ RangeFits (λ (rest : List Word) e. then_ok (first_of rest) _ RangeFits (λ (g : Word × List Word) e. then_ok (group_word g.0) _ RangeFits (λ (group : Prefix) t.
    (IfOk-at_ok IsPrefix s (source_fits a.0), IfOk-at_ok IsPrefix t (group_fits g.0)))))))

group_first_fits : (ws : List Word) → IfOk (group_first ws) RangeFits
group_first_fits ws =
    then_ok (first_of ws) _ RangeFits (λ (g : Word × List Word) e. then_ok (group_word g.0) _ RangeFits (λ (group : Prefix) t.
    source_behind_fits group g.1 (IfOk-at_ok IsPrefix t (group_fits g.0))))

by_word_fits : (b c : Bool) (ws : List Word)
    → IfOk (if b then source_first ws else (if c then group_first ws else Err kind.Word)) RangeFits
by_word_fits true c ws = source_first_fits ws
by_word_fits false true ws = group_first_fits ws
by_word_fits false false ws = tt

range_fits : (ws : List Word) → IfOk (range_of ws) RangeFits
range_fits ws =
    then_ok (first_of ws) _ RangeFits (λ (w : Word × List Word) e. by_word_fits (bytes_eq w.0 (codes "source")) (bytes_eq w.0 (codes "group")) w.1)

-- what a draft keeps: how many interfaces are enabled, too
pub record Keeps (d : Draft) : Type 0 where
  pub fits : Fits (conf_of d)
  pub counted : count_by (λ p. p.enabled) d.phyints ≡ d.enabled

pub empty_keeps : Keeps empty_draft
empty_keeps = record {
  fits = record {
    names = tt;
    enabled = omega arith;
    sources = All-nil (λ (g : Group). IsPrefix g.source);
    groups = All-nil (λ (g : Group). IsPrefix g.group);
    rule_sources = All-nil (λ (r : Rule). IsPrefix r.source);
    rule_groups = All-nil (λ (r : Rule). IsPrefix r.group);
    outs = All-nil (λ (r : Rule). 0 < length r.outs);
  };
  counted = refl;
}

new_push : (earlier ps : List Phyint) (p : Phyint) → AreNew earlier ps → is_named (earlier ++ ps) p.name ≡ false
    → AreNew earlier (ps ++ p ∷ [])
new_push earlier [] p all h = (subst (λ (l : List Phyint). is_named l p.name ≡ false) (append-nil earlier) h, tt)
new_push earlier (q ∷ ps) p all h = (
  all.0,
  new_push (earlier ++ q ∷ []) ps p all.1
      (subst (λ (l : List Phyint). is_named l p.name ≡ false) (sym (append_snoc earlier q ps)) h),
)

one_more : (b : Bool) (m n : ℕ) → m ≡ n → m + (if b then 1 else 0) ≡ (if b then n + 1 else n)
one_more true m n e = omega (arith, e)
one_more false m n e = omega (arith, e)

count_more : (ps : List Phyint) (p : Phyint) (n : ℕ) → count_by (λ p. p.enabled) ps ≡ n
    → count_by (λ p. p.enabled) (ps ++ p ∷ []) ≡ (if p.enabled then n + 1 else n)
count_more ps p n e =
    let one : 0 + (if p.enabled then 1 else 0) ≡ (if p.enabled then 1 else 0) = omega arith in
    sum_by-append (λ (p : Phyint). if p.enabled then 1 else 0) ps (p ∷ [])
    ∙ ap (λ m. count_by (λ p. p.enabled) ps + m) one ∙ one_more p.enabled _ n e

few_in : (a b c : Bool) (n : ℕ) (x : Bool) → n ≤ 32 → nat_lt n 32 ≡ c
    → (if a then (if c then Ok true else Err kind.Interface) else (if b then Ok false else Err kind.Word)) ≡ Ok x
    → (if x then n + 1 else n) ≤ 32
few_in true b true n true h lt e = grind (arith, nat_tests)
few_in true b true n false h lt e = h
few_in true b false n x h lt e = absurd (cc e)
few_in false true c n true h lt e = absurd (cc e)
few_in false true c n false h lt e = h
few_in false false c n x h lt e = absurd (cc e)

enabled_few : (n : ℕ) (w : Word) (b : Bool) → n ≤ 32 → enabled_word n w ≡ Ok b → (if b then n + 1 else n) ≤ 32
enabled_few n w b h e = few_in (bytes_eq w (codes "enable")) (bytes_eq w (codes "disable")) (nat_lt n 32) n b h refl e

with_keeps : (d : Draft) (p : Phyint) → Keeps d → is_named d.phyints p.name ≡ false
    → (if p.enabled then d.enabled + 1 else d.enabled) ≤ 32 → Keeps (with_phyint d p)
with_keeps d p k new few =
    let counted = count_more d.phyints p d.enabled k.counted in
    record {
      fits = record {
        names = new_push [] d.phyints p k.fits.names new;
        enabled = omega (arith, counted, few);
        sources = k.fits.sources;
        groups = k.fits.groups;
        rule_sources = k.fits.rule_sources;
        rule_groups = k.fits.rule_groups;
        outs = k.fits.outs;
      };
      counted = counted;
    }

is_false : (b : Bool) → not b ≡ true → b ≡ false
is_false true e = sym e
is_false false e = refl

phyint_keeps : (d : Draft) (ws : List Word) → Keeps d → IfOk (phyint_line d ws) Keeps
phyint_keeps d ws k =
    let few : d.enabled ≤ 32 = omega (arith, k.counted, k.fits.enabled) in
    then_ok (interface_word ws) _ Keeps (λ (i : Word × List Word) e. then_ok (wants (not (is_named d.phyints i.0)) kind.Interface) _ Keeps (λ (u : Unit {0}) new. then_ok (first_of i.1) _ Keeps (λ (w : Word × List Word) e.
    then_ok (enabled_word d.enabled w.0) _ Keeps (λ (b : Bool) enabled. then_ok (threshold_in w.1) _ Keeps (λ (t : ℕ) e.
    with_keeps d (record { name = i.0; enabled = b; threshold = t }) k
    (is_false (is_named d.phyints i.0) (wanted (not (is_named d.phyints i.0)) kind.Interface u new))
    (enabled_few d.enabled w.0 b few enabled))))))

group_keeps : (d : Draft) (ws : List Word) → Keeps d → IfOk (group_line d ws) Keeps
group_keeps d ws k =
    then_ok (from_interface ws) _ Keeps (λ (i : Word × List Word) e. then_ok (range_of i.1) _ Keeps (λ (r : Range) range. then_ok (nothing_behind r.2) _ Keeps (λ (u : Unit {0}) e.
    let fits = IfOk-at_ok RangeFits range (range_fits i.1) in
    let g : Group = record { input = i.0; source = r.0; group = r.1 } in
    record {
      fits = record {
        names = k.fits.names;
        enabled = k.fits.enabled;
        sources = All-push (λ (g : Group). IsPrefix g.source) d.groups g k.fits.sources fits.0;
        groups = All-push (λ (g : Group). IsPrefix g.group) d.groups g k.fits.groups fits.1;
        rule_sources = k.fits.rule_sources;
        rule_groups = k.fits.rule_groups;
        outs = k.fits.outs;
      };
      counted = k.counted;
    })))

longer : (r : Result (List Word) Kind) (m n : ℕ) → n ≤ m → IfOk r (λ (l : List Word). m ≤ length l)
    → IfOk r (λ (l : List Word). n ≤ length l)
longer (Ok l) m n h more = omega (arith, h, more)
longer (Err k) m n h more = tt

-- each word is an output more
outs_more : (outs ws : List Word) → IfOk (outs_from outs ws) (λ (l : List Word). length outs + length ws ≤ length l)
outs_more outs [] = omega arith
outs_more outs (w ∷ ws) =
    then_ok _ _ (λ (l : List Word). length outs + length (w ∷ ws) ≤ length l) (λ u e.
    longer (outs_from (outs ++ w ∷ []) ws) _ _ (omega (arith, length-append outs (w ∷ []))) (outs_more (outs ++ w ∷ []) ws))

some_word : (ws : List Word) (x : Word × List Word) → first_of ws ≡ Ok x → 0 < length ws
some_word [] x e = absurd (cc e)
some_word (w ∷ ws) x e = omega arith

rule_keeps : (d : Draft) (ws : List Word) → Keeps d → IfOk (rule_line d ws) Keeps
rule_keeps d ws k =
    then_ok (from_interface ws) _ Keeps (λ (i : Word × List Word) e. then_ok (range_of i.1) _ Keeps (λ (r : Range) range. then_ok (keyword (codes "to") r.2) _ Keeps (λ (rest : List Word) e.
    then_ok (first_of rest) _ Keeps (λ (x : Word × List Word) some. then_ok (outs_from [] rest) _ Keeps (λ (outs : List Word) made.
    let fits = IfOk-at_ok RangeFits range (range_fits i.1) in
    let rule : Rule = record { input = i.0; source = r.0; group = r.1; outs = outs } in
    let long = IfOk-at_ok (λ (l : List Word). 0 + length rest ≤ length l) made (outs_more [] rest) in
    let nonempty = some_word rest x some in
    record {
      fits = record {
        names = k.fits.names;
        enabled = k.fits.enabled;
        sources = k.fits.sources;
        groups = k.fits.groups;
        rule_sources = All-push (λ (r : Rule). IsPrefix r.source) d.rules rule k.fits.rule_sources fits.0;
        rule_groups = All-push (λ (r : Rule). IsPrefix r.group) d.rules rule k.fits.rule_groups fits.1;
        outs = All-push (λ (r : Rule). 0 < length r.outs) d.rules rule k.fits.outs (omega (arith, long, nonempty));
      };
      counted = k.counted;
    })))))

one_of : (a b c : Bool) (d : Draft) (ws : List Word) → Keeps d
    → IfOk (if a then phyint_line d ws else (if b then group_line d ws else (if c then rule_line d ws else Err kind.Word))) Keeps
one_of true b c d ws k = phyint_keeps d ws k
one_of false true c d ws k = group_keeps d ws k
one_of false false true d ws k = rule_keeps d ws k
one_of false false false d ws k = tt

line_keeps : (d : Draft) (ws : List Word) → Keeps d → IfOk (line_of d ws) Keeps
line_keeps d [] k = k
line_keeps d (w ∷ ws) k =
    one_of (bytes_eq w (codes "phyint")) (bytes_eq w (codes "mgroup")) (bytes_eq w (codes "mroute")) d ws k

good_line : (n : ℕ) (l : List ℕ) (r : Result Draft Kind) (d : Draft) → at_line n l r ≡ Ok d → r ≡ Ok d
good_line n l (Ok x) d e = cc e
good_line n l (Err k) d e = absurd (cc e)

lines_keep : (n : ℕ) (d : Draft) (ls : List (List ℕ)) → Keeps d → IfOk (draft_from n d ls) Keeps
lines_keep n d [] k = k
lines_keep n d (l ∷ ls) k =
    then_ok _ _ Keeps (λ t e. lines_keep (next_line n) t ls
    (IfOk-at_ok Keeps (good_line n _ _ t e) (line_keeps d (words_of (without_return l)) k)))

-- what all lines leave fits
pub read_fits : (bytes rest : List ℕ) (n : ℕ) (d : Draft) → length rest ≡ 0
    → draft_from n d (lines_of rest) ≡ draft_from 1 empty_draft (lines_of bytes) → Fits (conf_of d)
read_fits bytes [] n d none e = (IfOk-at_ok Keeps (sym e) (lines_keep 1 empty_draft (lines_of bytes) empty_keeps)).fits
read_fits bytes (b ∷ bs) n d none e = absurd (omega arith)
