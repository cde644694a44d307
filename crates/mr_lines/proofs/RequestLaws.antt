-- Laws of requests.
use Rattle.std.proofs.Common.{◌≡◌, ℕ, ◌==◌, Bool, true, false, List, [], ◌∷◌, ◌++◌, Some, None, option_and_then, decimal, codes, refl, sym, ap, ◌∙◌, arith, lit<, inl, inr, eqb-true, subst, append_assoc}
use Rattle.std.proofs.lemmas.Bool.{and_from, cases_Bool}
use Rattle.std.proofs.lemmas.Option.{some_pair_parts}
use Rattle.std.specs.List.{list_all}
use Rattle.std.specs.Prelude.{if◌then◌else◌}
use Rattle.mr_model.specs.declared.request.MfcCtl.{MfcCtl}
use Rattle.mr_model.specs.declared.request.MfcKey.{MfcKey}
use Rattle.mr_model.specs.declared.request.Request.{Request}
use Rattle.mr_model.specs.declared.request.Request.TheVariants as request
use Rattle.mr_model.specs.declared.request.VifCtl.{VifCtl}
use Rattle.mr_words.specs.Numbers.{address_of}
use Rattle.mr_lines.specs.Fields.{one, both, renamed, closing, by_word, keyword}
use Rattle.mr_lines.specs.Fit.{Fits8, Fits16, Fits32, AddrFits, TtlsFit, VifCtlFits, MfcCtlFits, MfcKeyFits, RequestFits}
use Rattle.mr_lines.specs.Forms.{Word, local_word, thresholds, route_words, key_words}
use Rattle.mr_lines.specs.Laws.{is_free, are_free}
use Rattle.mr_lines.specs.Lines.{request_words}
use Rattle.mr_lines.specs.Reading.{u8, u16, to_vif_ctl, with_local, vif_ctl, key, ttls, to_route_ctl, route_ctl, to_count, request_at, asked}
use Rattle.mr_lines.specs.Words.{number32, at_number, local_of, ttls_from}
use Rattle.mr_lines.proofs.FieldLaws.{IsWord, IsField, bound, free_append, one_field, both_field, Takes, Again, both_takes, both_again, mapped_takes, mapped_again, word_takes, keyed, alone}
use Rattle.mr_lines.proofs.ItemLaws.{ttls_take, ttls_long, ttls_small, ttls_again, ttls_clean}
use Rattle.mr_lines.proofs.NumberLaws.{number_word, number_takes, number_again}
use Rattle.mr_lines.proofs.WordLaws.{pick, address_takes, address_again, address_clean}
use Rattle.mr_lines.proofs.FormLaws.{u8_field, u16_field, u32_field, key_field, count_field}

-- the local field
local_takes : (v flags : ℕ) (w : Word) (n : ℕ) → local_of flags w ≡ Some n → (w ≡ local_word (to_vif_ctl (v, flags) n)) × Fits32 n
unfolding local_word
local_takes v flags w n e = by_case (flags == 8) refl w e
  where
    number : (flags == 8) ≡ true → (b : ℕ) (w : Word) → (if b == 64 then number32 w else None) ≡ Some n → (b ∷ w ≡ local_word (to_vif_ctl (v, flags) n)) × Fits32 n
    number device b w given = elim (cases_Bool (b == 64)) [
      | inr other ↦ let none : None ≡ Some n = rw other at given in absurd (cc none)
      | inl at ↦
          let read : number32 w ≡ Some n = rw at at given in
          let taken = number_takes 4294967295 (lit< tt) w n read in
          (rw device (λ i. eqb-true b 64 at i ∷ taken.0 i), taken.1)
    ]

    by_case : (t : Bool) → (flags == 8) ≡ t → (w : Word) → (if t then at_number w else address_of w) ≡ Some n → (w ≡ local_word (to_vif_ctl (v, flags) n)) × Fits32 n
    by_case true device [] given = absurd (cc)
    by_case true device (b ∷ w) given = number device b w given
    by_case false other w given = let taken = address_takes w n given in (rw other taken.0, taken.1)

local_again : (v flags n : ℕ) → Fits32 n → local_of flags (local_word (to_vif_ctl (v, flags) n)) ≡ Some n
unfolding local_word
local_again v flags n fits = elim (cases_Bool (flags == 8)) [
  | inl device ↦ rw device (number_again 4294967295 n (lit< tt) fits)
  | inr other ↦ rw other (address_again n fits)
]

local_clean : (v flags n : ℕ) → Fits32 n → list_all is_free (local_word (to_vif_ctl (v, flags) n)) ≡ true
unfolding local_word
local_clean v flags n fits = elim (cases_Bool (flags == 8)) [
  | inl device ↦ rw device ((number_word 4294967295 (lit< tt)).clean n fits)
  | inr other ↦ rw other (address_clean n fits)
]

local_is : (v flags : ℕ) → IsWord (local_of flags) (λ n. local_word (to_vif_ctl (v, flags) n)) Fits32
local_is v flags = record { takes = local_takes v flags; again = local_again v flags; clean = local_clean v flags }

local_field : (v flags : ℕ) → IsField (one (local_of flags)) (λ n. local_word (to_vif_ctl (v, flags) n) ∷ []) Fits32
local_field v flags = one_field _ _ _ (local_is v flags)

numbers_field : IsField (both u16 u8) (λ p. decimal p.0 ∷ decimal p.1 ∷ []) (λ p. Fits16 p.0 × Fits8 p.1)
numbers_field = both_field _ _ _ _ _ _ u16_field u8_field

abbrev vif_ctl_words : VifCtl → List Word
vif_ctl_words c = decimal c.vif ∷ decimal c.flags ∷ local_word c ∷ []

vif_ctl_takes : Takes vif_ctl vif_ctl_words VifCtlFits
vif_ctl_takes ws c rest e =
    let first = bound with_local (both u16 u8 ws) (c, rest) e in
    let p = first.0.0 in
    let numbers = numbers_field.takes ws p first.0.1 first.1 in
    let second = bound (renamed (to_vif_ctl p)) (one (local_of p.1) first.0.1) (c, rest) first.2 in
    let parts = some_pair_parts (to_vif_ctl p second.0.0) c second.0.1 rest second.2 in
    let local = (local_field p.0 p.1).takes first.0.1 second.0.0 rest (second.1 ∙ ap (λ r. Some (second.0.0, r)) parts.1) in
    subst (λ x. (ws ≡ vif_ctl_words x ++ rest) × VifCtlFits x) parts.0
    (numbers.0 ∙ ap (λ r. decimal p.0 ∷ decimal p.1 ∷ r) local.0, (numbers.1.0, (numbers.1.1, local.1)))

vif_ctl_again : (c : VifCtl) (rest : List Word) → VifCtlFits c → vif_ctl (vif_ctl_words c ++ rest) ≡ Some (c, rest)
vif_ctl_again c rest fits =
    ap (option_and_then with_local) (numbers_field.again (c.vif, c.flags) (local_word c ∷ rest) (fits.0, fits.1.0))
    ∙ ap (option_and_then (renamed (to_vif_ctl (c.vif, c.flags)))) ((local_field c.vif c.flags).again c.local rest fits.1.1)

vif_ctl_field : IsField vif_ctl vif_ctl_words VifCtlFits
vif_ctl_field = record {
  takes = vif_ctl_takes;
  again = vif_ctl_again;
  clean = λ c fits. and_from _ _ ((number_word 65535 (lit< tt)).clean c.vif fits.0) (and_from _ _ ((number_word 255 (lit< tt)).clean c.flags fits.1.0) (and_from _ _ (local_clean c.vif c.flags c.local fits.1.1) refl));
}

-- thresholds
ttls_takes : Takes ttls (thresholds 0) TtlsFit
ttls_takes ws ts rest e =
    let parts = some_pair_parts (ttls_from 32 0 ws).0 ts (ttls_from 32 0 ws).1 rest e in
    (ttls_take 32 0 ws ∙ (λ i. thresholds 0 (parts.0 i) ++ parts.1 i), subst TtlsFit parts.0 (ttls_long 32 0 ws, ttls_small 32 0 ws))

ttls_before : (rest : List Word) → Again ttls (thresholds 0) TtlsFit (codes "=" ∷ rest)
ttls_before rest ts fits = ap (λ k. Some (ttls_from k 0 (thresholds 0 ts ++ codes "=" ∷ rest))) (sym fits.0) ∙ ap Some (ttls_again ts 0 rest (omega (arith, fits.0)) fits.1)

abbrev to_fit : (c : MfcCtl) → MfcCtlFits c → (AddrFits c.src × (AddrFits c.dst × Fits16 c.parent)) × TtlsFit c.ttls
to_fit c fits = ((fits.0, (fits.1.0, fits.1.1.0)), fits.1.1.1)

abbrev parts_of_ctl : MfcCtl → MfcKey × List ℕ
parts_of_ctl c = (record { src = c.src; dst = c.dst; parent = c.parent }, c.ttls)

abbrev PartsFit : (MfcKey × List ℕ) → Type 0
PartsFit p = MfcKeyFits p.0 × TtlsFit p.1

route_takes : Takes route_ctl route_words MfcCtlFits
route_takes ws c rest e =
    let taken = mapped_takes to_route_ctl parts_of_ctl (both key ttls) (λ p. key_words p.0 ++ thresholds 0 p.1) PartsFit (λ x. refl) (both_takes key key_words MfcKeyFits ttls (thresholds 0) TtlsFit key_field.takes ttls_takes) ws c rest e in
    (taken.0, (taken.1.0.0, (taken.1.0.1.0, (taken.1.0.1.1, taken.1.1))))

route_again : (rest : List Word) → Again route_ctl route_words MfcCtlFits (codes "=" ∷ rest)
route_again rest c fits =
    mapped_again to_route_ctl parts_of_ctl (both key ttls) (λ p. key_words p.0 ++ thresholds 0 p.1) PartsFit (codes "=" ∷ rest) (λ y. refl)
    (both_again key key_words MfcKeyFits ttls (thresholds 0) TtlsFit (codes "=" ∷ rest) (λ more x. key_field.again x more) (ttls_before rest)) c (to_fit c fits)

route_clean : (c : MfcCtl) → MfcCtlFits c → are_free (route_words c) ≡ true
route_clean c fits = free_append (key_words (parts_of_ctl c).0) (thresholds 0 c.ttls) (key_field.clean (parts_of_ctl c).0 (to_fit c fits).0) (ttls_clean c.ttls 0 (omega (arith, fits.1.1.1.0)) fits.1.1.1.1)

request_takes : (w : Word) (ws : List Word) (x : Request) (rest : List Word) → request_at w ws ≡ Some (x, rest) → (w ∷ ws ≡ request_words x ++ rest) × RequestFits x
request_takes w ws x rest e =
    pick w (codes "init") _ _ _ (alone [] (codes "init") request.Init request_words RequestFits refl tt w ws x rest)
    (pick w (codes "done") _ _ _ (alone [] (codes "done") request.Finish request_words RequestFits refl tt w ws x rest)
    (pick w (codes "addvif") _ _ _ (keyed [] (codes "addvif") request.AddVif _ _ _ request_words RequestFits (λ a. refl) (λ a h. h) vif_ctl_field.takes w ws x rest)
    (pick w (codes "delvif") _ _ _ (keyed [] (codes "delvif") request.DelVif _ _ _ request_words RequestFits (λ a. refl) (λ a h. h) u16_field.takes w ws x rest)
    (pick w (codes "addmfc") _ _ _ (keyed [] (codes "addmfc") request.AddMfc _ _ _ request_words RequestFits (λ a. refl) (λ a h. h) route_takes w ws x rest)
    (pick w (codes "delmfc") _ _ _ (keyed [] (codes "delmfc") request.DelMfc _ _ _ request_words RequestFits (λ a. refl) (λ a h. h) key_field.takes w ws x rest)
    (pick w (codes "addproxy") _ _ _ (keyed [] (codes "addproxy") request.AddProxy _ _ _ request_words RequestFits (λ a. refl) (λ a h. h) route_takes w ws x rest)
    (pick w (codes "delproxy") _ _ _ (keyed [] (codes "delproxy") request.DelProxy _ _ _ request_words RequestFits (λ a. refl) (λ a h. h) key_field.takes w ws x rest)
    (pick w (codes "pim") _ _ _ (keyed [] (codes "pim") request.Pim _ _ _ request_words RequestFits (λ a. refl) (λ a h. h) u32_field.takes w ws x rest)
    (pick w (codes "assert") _ _ _ (keyed [] (codes "assert") request.Assert _ _ _ request_words RequestFits (λ a. refl) (λ a h. h) u32_field.takes w ws x rest)
    (pick w (codes "flush") _ _ _ (keyed [] (codes "flush") request.Flush _ _ _ request_words RequestFits (λ a. refl) (λ a h. h) u32_field.takes w ws x rest)
    (pick w (codes "unknown") _ _ _ (keyed [] (codes "unknown") request.Unknown _ _ _ request_words RequestFits (λ a. refl) (λ a h. h) u16_field.takes w ws x rest)
    (pick w (codes "badlength") _ _ _ (keyed [] (codes "badlength") request.BadLength _ _ _ request_words RequestFits (λ a. refl) (λ a h. h) u16_field.takes w ws x rest)
    (pick w (codes "version") _ _ _ (alone [] (codes "version") request.GetVersion request_words RequestFits refl tt w ws x rest)
    (pick w (codes "getpim") _ _ _ (alone [] (codes "getpim") request.GetPim request_words RequestFits refl tt w ws x rest)
    (pick w (codes "getassert") _ _ _ (alone [] (codes "getassert") request.GetAssert request_words RequestFits refl tt w ws x rest)
    (pick w (codes "vifcnt") _ _ _ (keyed [] (codes "vifcnt") request.VifCount _ _ _ request_words RequestFits (λ a. refl) (λ a h. h) u16_field.takes w ws x rest)
    (pick w (codes "sgcnt") _ _ _ (keyed [] (codes "sgcnt") to_count _ _ _ request_words RequestFits (λ a. refl) (λ a h. h) count_field.takes w ws x rest)
    (λ none. absurd (cc))))))))))))))))))) e

-- A request is read from its words before the word `=`.
request_again : (rest : List Word) → Again (by_word request_at) request_words RequestFits (codes "=" ∷ rest)
request_again rest request.Init fits = refl
request_again rest request.Finish fits = refl
request_again rest (request.AddVif a) fits = ap (option_and_then (renamed request.AddVif)) (vif_ctl_field.again a (codes "=" ∷ rest) fits)
request_again rest (request.DelVif a) fits = ap (option_and_then (renamed request.DelVif)) (u16_field.again a (codes "=" ∷ rest) fits)
request_again rest (request.AddMfc a) fits = ap (option_and_then (renamed request.AddMfc)) (route_again rest a fits)
request_again rest (request.DelMfc a) fits = ap (option_and_then (renamed request.DelMfc)) (key_field.again a (codes "=" ∷ rest) fits)
request_again rest (request.AddProxy a) fits = ap (option_and_then (renamed request.AddProxy)) (route_again rest a fits)
request_again rest (request.DelProxy a) fits = ap (option_and_then (renamed request.DelProxy)) (key_field.again a (codes "=" ∷ rest) fits)
request_again rest (request.Pim a) fits = ap (option_and_then (renamed request.Pim)) (u32_field.again a (codes "=" ∷ rest) fits)
request_again rest (request.Assert a) fits = ap (option_and_then (renamed request.Assert)) (u32_field.again a (codes "=" ∷ rest) fits)
request_again rest (request.Flush a) fits = ap (option_and_then (renamed request.Flush)) (u32_field.again a (codes "=" ∷ rest) fits)
request_again rest (request.Unknown a) fits = ap (option_and_then (renamed request.Unknown)) (u16_field.again a (codes "=" ∷ rest) fits)
request_again rest (request.BadLength a) fits = ap (option_and_then (renamed request.BadLength)) (u16_field.again a (codes "=" ∷ rest) fits)
request_again rest request.GetVersion fits = refl
request_again rest request.GetPim fits = refl
request_again rest request.GetAssert fits = refl
request_again rest (request.VifCount a) fits = ap (option_and_then (renamed request.VifCount)) (u16_field.again a (codes "=" ∷ rest) fits)
request_again rest (request.SgCount src dst) fits = ap (option_and_then (renamed to_count)) (count_field.again (src, dst) (codes "=" ∷ rest) fits)

request_clean : (x : Request) → RequestFits x → are_free (request_words x) ≡ true
request_clean request.Init fits = refl
request_clean request.Finish fits = refl
request_clean (request.AddVif a) fits = vif_ctl_field.clean a fits
request_clean (request.DelVif a) fits = u16_field.clean a fits
request_clean (request.AddMfc a) fits = route_clean a fits
request_clean (request.DelMfc a) fits = key_field.clean a fits
request_clean (request.AddProxy a) fits = route_clean a fits
request_clean (request.DelProxy a) fits = key_field.clean a fits
request_clean (request.Pim a) fits = u32_field.clean a fits
request_clean (request.Assert a) fits = u32_field.clean a fits
request_clean (request.Flush a) fits = u32_field.clean a fits
request_clean (request.Unknown a) fits = u16_field.clean a fits
request_clean (request.BadLength a) fits = u16_field.clean a fits
request_clean request.GetVersion fits = refl
request_clean request.GetPim fits = refl
request_clean request.GetAssert fits = refl
request_clean (request.VifCount a) fits = u16_field.clean a fits
request_clean (request.SgCount src dst) fits = count_field.clean (src, dst) fits

-- a request with the word `=` behind it
abbrev pub asked_words : Request → List Word
asked_words r = request_words r ++ codes "=" ∷ []

pub keyword_takes : {A : Type 0} (k : Word) (y x : A) (ws rest : List Word) → keyword k y ws ≡ Some (x, rest) → (ws ≡ k ∷ rest) × (y ≡ x)
keyword_takes k y x [] rest e = absurd (cc)
keyword_takes {A} k y x (w ∷ ws) rest e = pick w k (Some (y, ws)) None (Some (x, rest)) (λ same given. let parts = some_pair_parts y x ws rest given in ((λ i. same i ∷ parts.1 i), parts.0)) (λ none. absurd (cc)) e

asked_takes : Takes asked asked_words RequestFits
asked_takes ws x rest e =
    let first = bound (closing (codes "=")) (by_word request_at ws) (x, rest) e in
    let sign = keyword_takes (codes "=") first.0.0 x first.0.1 rest first.2 in
    let taken = word_takes request_at request_words RequestFits request_takes ws x first.0.1 (first.1 ∙ ap (λ y. Some (y, first.0.1)) sign.1) in
    (taken.0 ∙ ap (λ r. request_words x ++ r) sign.0 ∙ sym (append_assoc (request_words x) (codes "=" ∷ []) rest), taken.1)

asked_again : (x : Request) (rest : List Word) → RequestFits x → asked (asked_words x ++ rest) ≡ Some (x, rest)
asked_again x rest fits =
    ap asked (append_assoc (request_words x) (codes "=" ∷ []) rest) ∙ ap (option_and_then (closing (codes "="))) (request_again rest x fits)

pub asked_field : IsField asked asked_words RequestFits
asked_field = record {
  takes = asked_takes;
  again = asked_again;
  clean = λ x fits. free_append (request_words x) (codes "=" ∷ []) (request_clean x fits) refl;
}
