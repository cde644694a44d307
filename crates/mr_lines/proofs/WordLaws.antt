-- Laws of single words.
use Rattle.std.proofs.Common.{◌≡◌, ℕ, ◌+◌, ◌*◌, ◌/◌, ◌%◌, ◌≤◌, ◌==◌, Bool, true, false, List, [], ◌∷◌, Option, Some, None, option_and_then, option_map, decimal, codes, bytes_eq, refl, sym, ap, ◌∙◌, arith, lit<, lit≤, inl, inr, eqb-true, subst, append_assoc, le-leb}
use Rattle.std.proofs.lemmas.Bool.{and_parts, and_from, cases_Bool, or_cases}
use Rattle.std.proofs.lemmas.Bool.Decides.{nat_tests}
use Rattle.std.proofs.lemmas.Option.{cond_some}
use Rattle.std.specs.List.{list_all, join_with_byte}
use Rattle.std.specs.Prelude.{if◌then◌else◌}
use Rattle.mr_base.specs.Errnos.{number_of as errno_number}
use Rattle.mr_base.specs.declared.errno.Errno.{Errno}
use Rattle.mr_base.specs.declared.errno.Errno.TheVariants as errno
use Rattle.mr_base.specs.declared.numbers.Addr.{Addr}
use Rattle.mr_model.specs.declared.message.Kind.{Kind}
use Rattle.mr_model.specs.declared.message.Kind.TheVariants as kind
use Rattle.mr_model.specs.declared.outcome.Cause.{Cause}
use Rattle.mr_model.specs.declared.outcome.Cause.TheVariants as cause
use Rattle.mr_model.specs.declared.outcome.Report.{Report}
use Rattle.mr_model.specs.declared.outcome.Report.TheVariants as report
use Rattle.mr_words.specs.Names.{is_plain, is_clean, is_name_byte}
use Rattle.mr_words.specs.Numbers.{number_of, joined, four_parts, address_of}
use Rattle.mr_words.specs.Parts.{parts_of}
use Rattle.mr_lines.specs.Fit.{AddrFits, Fits8, Fits32, VifFits, is_vif_name}
use Rattle.mr_lines.specs.Forms.{Word, address, vif_or_none}
use Rattle.mr_lines.specs.Laws.{is_free}
use Rattle.mr_lines.specs.Lines.{report_word, cause_word, told_word, kind_word}
use Rattle.mr_lines.specs.Words.{number8, to_addr, addr_of, vif_or_none_of, name_of, errno_of, report_of, told_of, cause_of, kind_of}
use Rattle.mr_lines.proofs.FieldLaws.{IsWord}
use Rattle.mr_lines.proofs.NumberLaws.{number_word, number_takes, no_keyword, same_bytes, decimal_digits, digits_lack}
use Rattle.mr_lines.proofs.PartLaws.{lacks, joined_parts, parts_joined, joined_free}

pub number8_word : IsWord number8 decimal Fits8
number8_word = number_word 255 (lit< tt)

-- One of two readings gave it.
pub pick : {A : Type 0} {P : Type 0} (w k : Word) (x y z : A) → (w ≡ k → x ≡ z → P) → (y ≡ z → P) → (if bytes_eq w k then x else y) ≡ z → P
pick {A} {P} w k x y z f g e = by_case (bytes_eq w k) refl e
  where
    by_case : (t : Bool) → bytes_eq w k ≡ t → (if t then x else y) ≡ z → P
    by_case true same given = f (same_bytes w k same) given
    by_case false other given = g given

-- a vif, or `-`
vif_takes : (w : Word) (x : Option ℕ) → vif_or_none_of w ≡ Some x → (w ≡ vif_or_none x) × VifFits x
unfolding vif_or_none
vif_takes w x e = pick w (codes "-") (Some None) (option_map Some (number8 w)) (Some x) (λ same given. none x same given) (some (number8 w) refl x) e
  where
    none : (x : Option ℕ) → w ≡ codes "-" → ◌≡◌ {A = Option (Option ℕ)} (Some None) (Some x) → (w ≡ vif_or_none x) × VifFits x
    none None same given = (same, tt)
    none (Some n) same given = absurd (cc)

    some : (o : Option ℕ) → number8 w ≡ o → (x : Option ℕ) → option_map Some o ≡ Some x → (w ≡ vif_or_none x) × VifFits x
    some None reads x given = absurd (cc)
    some (Some n) reads None given = absurd (cc)
    some (Some n) reads (Some m) given = number8_word.takes w m (reads ∙ cc)

vif_again : (x : Option ℕ) → VifFits x → vif_or_none_of (vif_or_none x) ≡ Some x
unfolding vif_or_none
vif_again None fits = refl
vif_again (Some n) fits = rw (no_keyword 255 n (codes "-") (lit< tt) fits refl, number8_word.again n fits) refl

vif_clean : (x : Option ℕ) → VifFits x → list_all is_free (vif_or_none x) ≡ true
unfolding vif_or_none
vif_clean None fits = refl
vif_clean (Some n) fits = number8_word.clean n fits

pub vif_word : IsWord vif_or_none_of vif_or_none VifFits
vif_word = record { takes = vif_takes; again = vif_again; clean = vif_clean }

-- the same words
same_word : {A : Type 0} (w k : Word) (text : A → Word) (Fits : A → Type 0) (x y : A) → text x ≡ k → Fits x → w ≡ k → ◌≡◌ {A = Option A} (Some x) (Some y) → (w ≡ text y) × Fits y
same_word w k text Fits x y is fits same given =
    let here : x ≡ y = cc given in
    (same ∙ sym is ∙ ap text here, subst Fits here fits)

-- words without a condition
abbrev pub Any : {A : Type 0} → A → Type 0
Any x = Unit {0}

report_takes : (w : Word) (x : Report) → report_of w ≡ Some x → (w ≡ report_word x) × Any x
report_takes w x e =
    pick w (codes "quiet") _ _ _ (same_word w _ report_word Any report.Quiet x refl tt)
    (pick w (codes "told") _ _ _ (same_word w _ report_word Any report.Told x refl tt)
    (pick w (codes "lost") _ _ _ (same_word w _ report_word Any report.Lost x refl tt) (λ none. absurd (cc)))) e

pub report_is : IsWord report_of report_word Any
report_is = record { takes = report_takes; again = again; clean = clean }
  where
    again : (x : Report) → Any x → report_of (report_word x) ≡ Some x
    again report.Quiet _ = refl
    again report.Told _ = refl
    again report.Lost _ = refl

    clean : (x : Report) → Any x → list_all is_free (report_word x) ≡ true
    clean report.Quiet _ = refl
    clean report.Told _ = refl
    clean report.Lost _ = refl

told_takes : (w : Word) (x : Bool) → told_of w ≡ Some x → (w ≡ told_word x) × Any x
told_takes w x e =
    pick w (codes "told") _ _ _ (same_word w _ told_word Any true x refl tt)
    (pick w (codes "lost") _ _ _ (same_word w _ told_word Any false x refl tt) (λ none. absurd (cc))) e

pub told_is : IsWord told_of told_word Any
told_is = record { takes = told_takes; again = again; clean = clean }
  where
    again : (x : Bool) → Any x → told_of (told_word x) ≡ Some x
    again true _ = refl
    again false _ = refl

    clean : (x : Bool) → Any x → list_all is_free (told_word x) ≡ true
    clean true _ = refl
    clean false _ = refl

cause_takes : (w : Word) (x : Cause) → cause_of w ≡ Some x → (w ≡ cause_word x) × Any x
cause_takes w x e =
    pick w (codes "novif") _ _ _ (same_word w _ cause_word Any cause.NoVif x refl tt)
    (pick w (codes "nodaemon") _ _ _ (same_word w _ cause_word Any cause.NoDaemon x refl tt)
    (pick w (codes "entries") _ _ _ (same_word w _ cause_word Any cause.Entries x refl tt)
    (pick w (codes "packets") _ _ _ (same_word w _ cause_word Any cause.Packets x refl tt)
    (pick w (codes "upcall") _ _ _ (same_word w _ cause_word Any cause.Upcall x refl tt) (λ none. absurd (cc)))))) e

pub cause_is : IsWord cause_of cause_word Any
cause_is = record { takes = cause_takes; again = again; clean = clean }
  where
    again : (x : Cause) → Any x → cause_of (cause_word x) ≡ Some x
    again cause.NoVif _ = refl
    again cause.NoDaemon _ = refl
    again cause.Entries _ = refl
    again cause.Packets _ = refl
    again cause.Upcall _ = refl

    clean : (x : Cause) → Any x → list_all is_free (cause_word x) ≡ true
    clean cause.NoVif _ = refl
    clean cause.NoDaemon _ = refl
    clean cause.Entries _ = refl
    clean cause.Packets _ = refl
    clean cause.Upcall _ = refl

kind_takes : (w : Word) (x : Kind) → kind_of w ≡ Some x → (w ≡ kind_word x) × Any x
kind_takes w x e =
    pick w (codes "nocache") _ _ _ (same_word w _ kind_word Any kind.NoCache x refl tt)
    (pick w (codes "wrongvif") _ _ _ (same_word w _ kind_word Any kind.WrongVif x refl tt)
    (pick w (codes "wholepkt") _ _ _ (same_word w _ kind_word Any kind.WholePkt x refl tt) (λ none. absurd (cc)))) e

pub kind_is : IsWord kind_of kind_word Any
kind_is = record { takes = kind_takes; again = again; clean = clean }
  where
    again : (x : Kind) → Any x → kind_of (kind_word x) ≡ Some x
    again kind.NoCache _ = refl
    again kind.WrongVif _ = refl
    again kind.WholePkt _ = refl

    clean : (x : Kind) → Any x → list_all is_free (kind_word x) ≡ true
    clean kind.NoCache _ = refl
    clean kind.WrongVif _ = refl
    clean kind.WholePkt _ = refl

-- the numbers of errno.h as words
abbrev pub errno_word : Errno → Word
errno_word e = decimal (errno_number e)

spelled : (e : Errno) (w : Word) (n : ℕ) → number_of 255 w ≡ Some n → errno_number e ≡ n → errno_word e ≡ w
spelled e w n reads is = ap decimal is ∙ sym (number_takes 255 (lit< tt) w n reads).0

errno_takes : (w : Word) (x : Errno) → errno_of w ≡ Some x → (w ≡ errno_word x) × Any x
errno_takes w x e =
    pick w (codes "2") _ _ _ (same_word w _ errno_word Any errno.NoEntry x (spelled errno.NoEntry (codes "2") 2 refl refl) tt)
    (pick w (codes "13") _ _ _ (same_word w _ errno_word Any errno.Access x (spelled errno.Access (codes "13") 13 refl refl) tt)
    (pick w (codes "22") _ _ _ (same_word w _ errno_word Any errno.Invalid x (spelled errno.Invalid (codes "22") 22 refl refl) tt)
    (pick w (codes "23") _ _ _ (same_word w _ errno_word Any errno.TooManyVifs x (spelled errno.TooManyVifs (codes "23") 23 refl refl) tt)
    (pick w (codes "92") _ _ _ (same_word w _ errno_word Any errno.NoOption x (spelled errno.NoOption (codes "92") 92 refl refl) tt)
    (pick w (codes "98") _ _ _ (same_word w _ errno_word Any errno.InUse x (spelled errno.InUse (codes "98") 98 refl refl) tt)
    (pick w (codes "99") _ _ _ (same_word w _ errno_word Any errno.NotAvailable x (spelled errno.NotAvailable (codes "99") 99 refl refl) tt)
    (pick w (codes "105") _ _ _ (same_word w _ errno_word Any errno.NoBuffers x (spelled errno.NoBuffers (codes "105") 105 refl refl) tt)
    (λ none. absurd (cc))))))))) e

errno_again : (x : Errno) → Any x → errno_of (errno_word x) ≡ Some x
errno_again errno.NoEntry _ = rw (spelled errno.NoEntry (codes "2") 2 refl refl) refl
errno_again errno.Access _ = rw (spelled errno.Access (codes "13") 13 refl refl) refl
errno_again errno.Invalid _ = rw (spelled errno.Invalid (codes "22") 22 refl refl) refl
errno_again errno.TooManyVifs _ = rw (spelled errno.TooManyVifs (codes "23") 23 refl refl) refl
errno_again errno.NoOption _ = rw (spelled errno.NoOption (codes "92") 92 refl refl) refl
errno_again errno.InUse _ = rw (spelled errno.InUse (codes "98") 98 refl refl) refl
errno_again errno.NotAvailable _ = rw (spelled errno.NotAvailable (codes "99") 99 refl refl) refl
errno_again errno.NoBuffers _ = rw (spelled errno.NoBuffers (codes "105") 105 refl refl) refl

errno_small : (x : Errno) → errno_number x ≤ 255
errno_small errno.NoEntry = lit≤ tt
errno_small errno.Access = lit≤ tt
errno_small errno.Invalid = lit≤ tt
errno_small errno.TooManyVifs = lit≤ tt
errno_small errno.NoOption = lit≤ tt
errno_small errno.InUse = lit≤ tt
errno_small errno.NotAvailable = lit≤ tt
errno_small errno.NoBuffers = lit≤ tt

pub errno_is : IsWord errno_of errno_word Any
errno_is = record { takes = errno_takes; again = errno_again; clean = λ x _. number8_word.clean (errno_number x) (errno_small x) }

-- names of vifs
abbrev pub NameFits : Word → Type 0
NameFits w = is_vif_name w ≡ true

name_byte_free : (b : ℕ) → is_name_byte b ≡ true → is_free b ≡ true
name_byte_free b h = elim (cases_Bool (b == 32)) [
  | inl space ↦ cc (h, eqb-true b 32 space)
  | inr other ↦ elim (cases_Bool (b == 10)) [
    | inl feed ↦ cc (h, eqb-true b 10 feed)
    | inr further ↦ rw (other, further) refl
  ]
]

name_bytes_free : (w : Word) → list_all is_name_byte w ≡ true → list_all is_free w ≡ true
name_bytes_free [] h = refl
name_bytes_free (b ∷ w) h = let split = and_parts _ _ h in and_from _ _ (name_byte_free b split.0) (name_bytes_free w split.1)

-- bytes of names are plain
name_byte_plain : (b : ℕ) → is_name_byte b ≡ true → is_plain b ≡ true
name_byte_plain b h = and_from _ _ (le-leb 32 b (grind (arith, nat_tests))) (le-leb b 126 (grind (arith, nat_tests)))

name_bytes_plain : (w : Word) → list_all is_name_byte w ≡ true → is_clean w ≡ true
name_bytes_plain [] h = refl
name_bytes_plain (b ∷ w) h = let split = and_parts _ _ h in and_from _ _ (name_byte_plain b split.0) (name_bytes_plain w split.1)

pub name_plain : (w : Word) → NameFits w → is_clean w ≡ true
name_plain w fits = elim (or_cases _ _ fits) [
  | inl device ↦ name_bytes_plain w (and_parts _ _ device).1
  | inr register ↦ let same : w ≡ codes "pimreg" = same_bytes w (codes "pimreg") register in rw same refl
]

name_clean : (w : Word) → NameFits w → list_all is_free w ≡ true
name_clean w fits = elim (or_cases _ _ fits) [
  | inl device ↦ name_bytes_free w (and_parts _ _ device).1
  | inr register ↦ let same : w ≡ codes "pimreg" = same_bytes w (codes "pimreg") register in rw same refl
]

pub name_is : IsWord name_of (λ w. w) NameFits
name_is = record {
  takes = λ w x e. let read = cond_some (is_vif_name w) w x e in (read.1, subst NameFits read.1 read.0);
  again = λ w fits. rw fits refl;
  clean = name_clean;
}

-- addresses
address_joined : (a : Addr) → address a ≡ join_with_byte 46 (decimal (a.0 / 16777216) ∷ decimal (a.0 / 65536 % 256) ∷ decimal (a.0 / 256 % 256) ∷ decimal (a.0 % 256) ∷ [])
unfolding address
address_joined a = simp append_assoc

-- the address of four numbers has these
four_numbers : (a b c d n : ℕ) → a ≤ 255 → b ≤ 255 → c ≤ 255 → d ≤ 255 → ((a * 256 + b) * 256 + c) * 256 + d ≡ n →
    (n / 16777216 ≡ a) × ((n / 65536 % 256 ≡ b) × ((n / 256 % 256 ≡ c) × ((n % 256 ≡ d) × (n ≤ 4294967295))))
four_numbers a b c d n p q r s e = (omega arith, (omega arith, (omega arith, (omega arith, omega arith))))

joined_takes : (v w x y : Word) (a b c d : Option ℕ) (n : ℕ) → number_of 255 v ≡ a → number_of 255 w ≡ b → number_of 255 x ≡ c → number_of 255 y ≡ d →
    joined a b c d ≡ Some n → (join_with_byte 46 (v ∷ w ∷ x ∷ y ∷ []) ≡ address (to_addr n)) × AddrFits (to_addr n)
joined_takes v w x y (Some a) (Some b) (Some c) (Some d) n p q r s e =
    let one = number8_word.takes v a p in
    let two = number8_word.takes w b q in
    let three = number8_word.takes x c r in
    let four = number8_word.takes y d s in
    let are = four_numbers a b c d n one.1 two.1 three.1 four.1 cc in
    (rw (one.0, two.0, three.0, four.0, address_joined (to_addr n), are.0, are.1.0, are.1.1.0, are.1.1.1.0) refl, are.1.1.1.1)
joined_takes v w x y None b c d n p q r s e = absurd (cc)
joined_takes v w x y (Some a) None c d n p q r s e = absurd (cc)
joined_takes v w x y (Some a) (Some b) None d n p q r s e = absurd (cc)
joined_takes v w x y (Some a) (Some b) (Some c) None n p q r s e = absurd (cc)

-- an address from its parts
abbrev of_four : (Word × Word × Word × Word) → Option ℕ
of_four p = joined (number_of 255 p.0) (number_of 255 p.1) (number_of 255 p.2) (number_of 255 p.3)

parts_take : (ps : List Word) (n : ℕ) → option_and_then of_four (four_parts ps) ≡ Some n → (join_with_byte 46 ps ≡ address (to_addr n)) × AddrFits (to_addr n)
parts_take (v ∷ w ∷ x ∷ y ∷ []) n e = joined_takes v w x y _ _ _ _ n refl refl refl refl e
parts_take [] n e = absurd (cc)
parts_take (v ∷ []) n e = absurd (cc)
parts_take (v ∷ w ∷ []) n e = absurd (cc)
parts_take (v ∷ w ∷ x ∷ []) n e = absurd (cc)
parts_take (v ∷ w ∷ x ∷ y ∷ z ∷ ps) n e = absurd (cc)

pub address_takes : (w : Word) (n : ℕ) → address_of w ≡ Some n → (w ≡ address (to_addr n)) × AddrFits (to_addr n)
address_takes w n e = let parts = parts_take (parts_of 46 w) n e in (sym (joined_parts 46 w) ∙ parts.0, parts.1)

decimal_lacks_dot : (n : ℕ) → n ≤ 255 → lacks 46 (decimal n) ≡ true
decimal_lacks_dot n small = digits_lack 46 (inl (lit< tt)) (decimal n) (decimal_digits n (omega arith))

pub address_again : (n : ℕ) → Fits32 n → address_of (address (to_addr n)) ≡ Some n
address_again n fits =
    let a : n / 16777216 ≤ 255 = omega arith in
    let b : n / 65536 % 256 ≤ 255 = omega arith in
    let c : n / 256 % 256 ≤ 255 = omega arith in
    let d : n % 256 ≤ 255 = omega arith in
    let lack = and_from _ _ (decimal_lacks_dot (n / 16777216) a) (and_from _ _ (decimal_lacks_dot (n / 65536 % 256) b) (and_from _ _ (decimal_lacks_dot (n / 256 % 256) c) (and_from _ _ (decimal_lacks_dot (n % 256) d) refl))) in
    let cut = parts_joined 46 (decimal (n / 16777216)) (decimal (n / 65536 % 256) ∷ decimal (n / 256 % 256) ∷ decimal (n % 256) ∷ []) lack in
    let whole : ((n / 16777216 * 256 + n / 65536 % 256) * 256 + n / 256 % 256) * 256 + n % 256 ≡ n = omega arith in
    ap address_of (address_joined (to_addr n)) ∙ ap (λ ps. option_and_then of_four (four_parts ps)) cut
    ∙ rw (number8_word.again _ a, number8_word.again _ b, number8_word.again _ c, number8_word.again _ d) (ap Some whole)

pub address_clean : (n : ℕ) → Fits32 n → list_all is_free (address (to_addr n)) ≡ true
address_clean n fits =
    let a = number8_word.clean (n / 16777216) (omega arith) in
    let b = number8_word.clean (n / 65536 % 256) (omega arith) in
    let c = number8_word.clean (n / 256 % 256) (omega arith) in
    let d = number8_word.clean (n % 256) (omega arith) in
    ap (list_all is_free) (address_joined (to_addr n)) ∙ joined_free 46 refl (decimal (n / 16777216) ∷ decimal (n / 65536 % 256) ∷ decimal (n / 256 % 256) ∷ decimal (n % 256) ∷ []) (and_from _ _ a (and_from _ _ b (and_from _ _ c (and_from _ _ d refl))))

addr_takes : (w : Word) (x : Addr) → addr_of w ≡ Some x → (w ≡ address x) × AddrFits x
addr_takes w x e = by_case (address_of w) refl e
  where
    by_case : (o : Option ℕ) → address_of w ≡ o → option_map to_addr o ≡ Some x → (w ≡ address x) × AddrFits x
    by_case None reads given = absurd (cc)
    by_case (Some n) reads given =
        let is : to_addr n ≡ x = cc given in
        let n_is : n ≡ x.0 = ap (λ a. a.0) is in
        address_takes w x.0 (reads ∙ ap Some n_is)

pub addr_is : IsWord addr_of address AddrFits
addr_is = record {
  takes = addr_takes;
  again = λ x fits. ap (option_map to_addr) (address_again x.0 fits);
  clean = λ x fits. address_clean x.0 fits;
}
