-- Laws of the fields of lines, and of requests, replies, outcomes, messages and fates.
use Rattle.std.proofs.Common.{◌≡◌, ℕ, true, false, List, [], ◌∷◌, ◌++◌, Option, Some, None, option_and_then, decimal, codes, bytes_eq, refl, ap, lit<}
use Rattle.std.proofs.lemmas.Bool.{and_from}
use Rattle.mr_base.specs.declared.numbers.Mask.{Mask}
use Rattle.mr_model.specs.declared.ending.Fate.{Fate}
use Rattle.mr_model.specs.declared.ending.Fate.TheVariants as fate
use Rattle.mr_model.specs.declared.message.Kind.{Kind}
use Rattle.mr_model.specs.declared.message.Kind.TheVariants as kind
use Rattle.mr_model.specs.declared.message.MessageId.{MessageId}
use Rattle.mr_model.specs.declared.outcome.Outcome.{Outcome}
use Rattle.mr_model.specs.declared.outcome.Outcome.TheVariants as outcome
use Rattle.mr_model.specs.declared.reply.Reply.{Reply}
use Rattle.mr_model.specs.declared.reply.Reply.TheVariants as reply
use Rattle.mr_lines.specs.Fields.{one, both, renamed, by_word}
use Rattle.mr_lines.specs.Fit.{Fits8, Fits16, Fits32, Fits64, AddrFits, LaneFits, DaemonFits, MaskFits, VifFits, MfcKeyFits, RouteTotalsFit, VifTotalsFit, ReplyFits, OutcomeFits, MessageFits, FateFits, SkipFits, RouteLineFits, VifLineFits, FateLineFits}
use Rattle.mr_lines.specs.Forms.{Word, address, vif_or_none as vif_text, mask as mask_text, key_words}
use Rattle.mr_lines.specs.Laws.{are_free}
use Rattle.mr_lines.specs.Lines.{route_total_words, vif_total_words, reply_words, report_word, cause_word, told_word, outcome_words, kind_word, message_words, fate_words}
use Rattle.mr_lines.specs.Reading.{u8, u16, u32, u64, addr, vif_or_none, mask, to_lane, lane, to_daemon, daemon, to_route_totals, route_totals, to_vif_totals, vif_totals, to_key, key, good, reply_at, replied, to_forward, to_register, to_wrong, outcome_at, happened, to_skip, skip, to_route, route, to_vif, vif, fate_at, to_fate, fate_line, to_message, message_of, message_at}
use Rattle.mr_lines.specs.Words.{number8, number16, number32, number64, addr_of, vif_or_none_of, mask_of, name_of, errno_of, report_of, told_of, cause_of, kind_of}
use Rattle.mr_lines.proofs.FieldLaws.{IsField, one_field, both_field, mapped_field, Takes, Again, word_takes, keyed, alone}
use Rattle.mr_lines.proofs.MaskLaws.{mask_is}
use Rattle.mr_lines.proofs.NumberLaws.{number_word}
use Rattle.mr_lines.proofs.WordLaws.{pick, vif_word, report_is, told_is, cause_is, kind_is, errno_word, errno_is, NameFits, name_is, addr_is, Any}

pub u8_field : IsField u8 (λ n. decimal n ∷ []) Fits8
u8_field = one_field number8 decimal Fits8 (number_word 255 (lit< tt))

pub u16_field : IsField u16 (λ n. decimal n ∷ []) Fits16
u16_field = one_field number16 decimal Fits16 (number_word 65535 (lit< tt))

pub u32_field : IsField u32 (λ n. decimal n ∷ []) Fits32
u32_field = one_field number32 decimal Fits32 (number_word 4294967295 (lit< tt))

pub u64_field : IsField u64 (λ n. decimal n ∷ []) Fits64
u64_field = one_field number64 decimal Fits64 (number_word 18446744073709551615 (lit< tt))

pub addr_field : IsField addr (λ a. address a ∷ []) AddrFits
addr_field = one_field addr_of address AddrFits addr_is

pub vif_field : IsField vif_or_none (λ i. vif_text i ∷ []) VifFits
vif_field = one_field vif_or_none_of vif_text VifFits vif_word

pub mask_field : IsField mask (λ m. mask_text m ∷ []) MaskFits
mask_field = one_field mask_of mask_text MaskFits mask_is

pub lane_field : IsField lane (λ l. decimal l.0 ∷ []) LaneFits
lane_field = mapped_field to_lane (λ l. l.0) u32 _ _ (λ x. refl) (λ y. refl) u32_field

pub daemon_field : IsField daemon (λ d. decimal d.0 ∷ []) DaemonFits
daemon_field = mapped_field to_daemon (λ d. d.0) u32 _ _ (λ x. refl) (λ y. refl) u32_field

pub route_totals_field : IsField route_totals route_total_words RouteTotalsFit
route_totals_field =
    mapped_field to_route_totals (λ t. (t.packets, (t.bytes, t.wrong))) _ _ _ (λ x. refl) (λ y. refl)
    (both_field _ _ _ _ _ _ u64_field (both_field _ _ _ _ _ _ u64_field u64_field))

pub vif_totals_field : IsField vif_totals vif_total_words VifTotalsFit
vif_totals_field =
    mapped_field to_vif_totals (λ t. (t.packets_in, (t.packets_out, (t.bytes_in, t.bytes_out)))) _ _ _ (λ x. refl) (λ y. refl)
    (both_field _ _ _ _ _ _ u64_field (both_field _ _ _ _ _ _ u64_field (both_field _ _ _ _ _ _ u64_field u64_field)))

pub key_field : IsField key key_words MfcKeyFits
key_field =
    mapped_field to_key (λ k. (k.src, (k.dst, k.parent))) _ _ _ (λ x. refl) (λ y. refl)
    (both_field _ _ _ _ _ _ addr_field (both_field _ _ _ _ _ _ addr_field u16_field))

pub count_field : IsField (both addr addr) (λ p. address p.0 ∷ address p.1 ∷ []) (λ p. AddrFits p.0 × AddrFits p.1)
count_field = both_field _ _ _ _ _ _ addr_field addr_field

pub skip_field : IsField skip (λ s. decimal s.lane.0 ∷ decimal s.index ∷ decimal s.cause ∷ []) SkipFits
skip_field =
    mapped_field to_skip (λ s. (s.lane, (s.index, s.cause))) _ _ _ (λ x. refl) (λ y. refl)
    (both_field _ _ _ _ _ _ lane_field (both_field _ _ _ _ _ _ u32_field u8_field))

pub route_field : IsField route (λ r. decimal r.number ∷ address r.src ∷ address r.dst ∷ decimal r.parent ∷ route_total_words r.totals) RouteLineFits
route_field =
    mapped_field to_route (λ r. (r.number, (r.src, (r.dst, (r.parent, r.totals))))) _ _ _ (λ x. refl) (λ y. refl)
    (both_field _ _ _ _ _ _ u32_field (both_field _ _ _ _ _ _ addr_field (both_field _ _ _ _ _ _ addr_field (both_field _ _ _ _ _ _ u8_field route_totals_field))))

pub vif_line_field : IsField vif (λ v. decimal v.vif ∷ v.name ∷ vif_total_words v.totals) VifLineFits
vif_line_field =
    mapped_field to_vif (λ v. (v.vif, (v.name, v.totals))) _ _ _ (λ x. refl) (λ y. refl)
    (both_field _ _ _ _ _ _ u8_field (both_field _ _ _ _ _ _ (one_field name_of (λ w. w) NameFits name_is) vif_totals_field))

-- outcomes
abbrev pub FlowFits : (ℕ × (Option ℕ × Mask)) → Type 0
FlowFits p = Fits32 p.0 × (VifFits p.1.0 × MaskFits p.1.1)

abbrev pub forward_words : (ℕ × (Option ℕ × Mask)) → List Word
forward_words p = decimal p.0 ∷ vif_text p.1.0 ∷ mask_text p.1.1 ∷ []

pub forward_field : IsField (both u32 (both vif_or_none mask)) forward_words FlowFits
forward_field = both_field _ _ _ _ _ _ u32_field (both_field _ _ _ _ _ _ vif_field mask_field)

told_field : IsField (one told_of) (λ t. told_word t ∷ []) Any
told_field = one_field told_of told_word Any told_is

register_field : IsField (both u32 (both vif_or_none (both mask (one told_of)))) (λ p. decimal p.0 ∷ vif_text p.1.0 ∷ mask_text p.1.1.0 ∷ told_word p.1.1.1 ∷ []) (λ p. Fits32 p.0 × (VifFits p.1.0 × (MaskFits p.1.1.0 × Any p.1.1.1)))
register_field = both_field _ _ _ _ _ _ u32_field (both_field _ _ _ _ _ _ vif_field (both_field _ _ _ _ _ _ mask_field told_field))

wrong_field : IsField (both u32 (both vif_or_none (one report_of))) (λ p. decimal p.0 ∷ vif_text p.1.0 ∷ report_word p.1.1 ∷ []) (λ p. Fits32 p.0 × (VifFits p.1.0 × Any p.1.1))
wrong_field = both_field _ _ _ _ _ _ u32_field (both_field _ _ _ _ _ _ vif_field (one_field report_of report_word Any report_is))

cause_field : IsField (one cause_of) (λ c. cause_word c ∷ []) Any
cause_field = one_field cause_of cause_word Any cause_is

outcome_takes : (w : Word) (ws : List Word) (x : Outcome) (rest : List Word) → outcome_at w ws ≡ Some (x, rest) → (w ∷ ws ≡ outcome_words x ++ rest) × OutcomeFits x
outcome_takes w ws x rest e =
    pick w (codes "fwd") _ _ _ (keyed [] (codes "fwd") to_forward _ _ _ outcome_words OutcomeFits (λ a. refl) (λ a h. h) forward_field.takes w ws x rest)
    (pick w (codes "reg") _ _ _ (keyed [] (codes "reg") to_register _ _ _ outcome_words OutcomeFits (λ a. refl) (λ a h. (h.0, (h.1.0, h.1.1.0))) register_field.takes w ws x rest)
    (pick w (codes "wrong") _ _ _ (keyed [] (codes "wrong") to_wrong _ _ _ outcome_words OutcomeFits (λ a. refl) (λ a h. (h.0, h.1.0)) wrong_field.takes w ws x rest)
    (pick w (codes "parked") _ _ _ (alone [] (codes "parked") outcome.Parked outcome_words OutcomeFits refl tt w ws x rest)
    (pick w (codes "drop") _ _ _ (keyed [] (codes "drop") outcome.Dropped _ _ _ outcome_words OutcomeFits (λ a. refl) (λ a h. h) cause_field.takes w ws x rest)
    (λ none. absurd (cc)))))) e

outcome_again : (x : Outcome) (rest : List Word) → OutcomeFits x → happened (outcome_words x ++ rest) ≡ Some (x, rest)
outcome_again (outcome.Forward entry input outs) rest fits = ap (option_and_then (renamed to_forward)) (forward_field.again (entry, (input, outs)) rest fits)
outcome_again (outcome.Register entry input outs told) rest fits = ap (option_and_then (renamed to_register)) (register_field.again (entry, (input, (outs, told))) rest (fits.0, (fits.1.0, (fits.1.1, tt))))
outcome_again (outcome.Wrong entry vif report) rest fits = ap (option_and_then (renamed to_wrong)) (wrong_field.again (entry, (vif, report)) rest (fits.0, (fits.1, tt)))
outcome_again outcome.Parked rest fits = refl
outcome_again (outcome.Dropped cause) rest fits = ap (option_and_then (renamed outcome.Dropped)) (cause_field.again cause rest tt)

outcome_clean : (x : Outcome) → OutcomeFits x → are_free (outcome_words x) ≡ true
outcome_clean (outcome.Forward entry input outs) fits = forward_field.clean (entry, (input, outs)) fits
outcome_clean (outcome.Register entry input outs told) fits = register_field.clean (entry, (input, (outs, told))) (fits.0, (fits.1.0, (fits.1.1, tt)))
outcome_clean (outcome.Wrong entry vif report) fits = wrong_field.clean (entry, (vif, report)) (fits.0, (fits.1, tt))
outcome_clean outcome.Parked fits = refl
outcome_clean (outcome.Dropped cause) fits = cause_field.clean cause tt

pub outcome_field : IsField happened outcome_words OutcomeFits
outcome_field = record { takes = word_takes outcome_at outcome_words OutcomeFits outcome_takes; again = outcome_again; clean = outcome_clean }

-- fates
fate_takes : (w : Word) (ws : List Word) (x : Fate) (rest : List Word) → fate_at w ws ≡ Some (x, rest) → (w ∷ ws ≡ fate_words x ++ rest) × FateFits x
fate_takes w ws x rest e =
    pick w (codes "released") _ _ _ (keyed [] (codes "released") fate.Released _ _ _ fate_words FateFits (λ a. refl) (λ a h. h) u32_field.takes w ws x rest)
    (pick w (codes "expired") _ _ _ (keyed [] (codes "expired") fate.Expired _ _ _ fate_words FateFits (λ a. refl) (λ a h. h) u32_field.takes w ws x rest)
    (pick w (codes "flushed") _ _ _ (keyed [] (codes "flushed") fate.Flushed _ _ _ fate_words FateFits (λ a. refl) (λ a h. h) u32_field.takes w ws x rest)
    (pick w (codes "waiting") _ _ _ (alone [] (codes "waiting") fate.Waiting fate_words FateFits refl tt w ws x rest)
    (λ none. absurd (cc))))) e

fate_again : (x : Fate) (rest : List Word) → FateFits x → by_word fate_at (fate_words x ++ rest) ≡ Some (x, rest)
fate_again (fate.Released n) rest fits = ap (option_and_then (renamed fate.Released)) (u32_field.again n rest fits)
fate_again (fate.Expired n) rest fits = ap (option_and_then (renamed fate.Expired)) (u32_field.again n rest fits)
fate_again (fate.Flushed n) rest fits = ap (option_and_then (renamed fate.Flushed)) (u32_field.again n rest fits)
fate_again fate.Waiting rest fits = refl

fate_clean : (x : Fate) → FateFits x → are_free (fate_words x) ≡ true
fate_clean (fate.Released n) fits = u32_field.clean n fits
fate_clean (fate.Expired n) fits = u32_field.clean n fits
fate_clean (fate.Flushed n) fits = u32_field.clean n fits
fate_clean fate.Waiting fits = refl

fate_field : IsField (by_word fate_at) fate_words FateFits
fate_field = record { takes = word_takes fate_at fate_words FateFits fate_takes; again = fate_again; clean = fate_clean }

pub fate_line_field : IsField fate_line (λ f. decimal f.lane.0 ∷ decimal f.index ∷ fate_words f.fate) FateLineFits
fate_line_field =
    mapped_field to_fate (λ f. (f.lane, (f.index, f.fate))) _ _ _ (λ x. refl) (λ y. refl)
    (both_field _ _ _ _ _ _ lane_field (both_field _ _ _ _ _ _ u32_field fate_field))

-- messages
id_field : IsField (both u8 (both lane u32)) (λ p. decimal p.0 ∷ decimal p.1.0.0 ∷ decimal p.1.1 ∷ []) (λ p. Fits8 p.0 × (LaneFits p.1.0 × Fits32 p.1.1))
id_field = both_field _ _ _ _ _ _ u8_field (both_field _ _ _ _ _ _ lane_field u32_field)

kind_takes : (w : Word) (ws : List Word) (x : Option MessageId) (rest : List Word) (k : Option Kind) → kind_of w ≡ k → message_of k ws ≡ Some (x, rest) →
    (w ∷ ws ≡ message_words x ++ rest) × MessageFits x
kind_takes w ws x rest None reads e = absurd (cc)
kind_takes w ws x rest (Some k) reads e =
    keyed [] (kind_word k) (to_message k) _ _ _ message_words MessageFits (λ a. refl) (λ a h. h) id_field.takes w ws x rest (kind_is.takes w k reads).0 e

message_takes : (w : Word) (ws : List Word) (x : Option MessageId) (rest : List Word) → message_at w ws ≡ Some (x, rest) → (w ∷ ws ≡ message_words x ++ rest) × MessageFits x
message_takes w ws x rest e =
    pick w (codes "none") _ _ _ (alone [] (codes "none") None message_words MessageFits refl tt w ws x rest) (kind_takes w ws x rest (kind_of w) refl) e

kind_other : (k : Kind) → bytes_eq (kind_word k) (codes "none") ≡ false
kind_other kind.NoCache = refl
kind_other kind.WrongVif = refl
kind_other kind.WholePkt = refl

message_again : (x : Option MessageId) (rest : List Word) → MessageFits x → by_word message_at (message_words x ++ rest) ≡ Some (x, rest)
message_again None rest fits = refl
message_again (Some m) rest fits =
    rw (kind_other m.kind, kind_is.again m.kind tt) (ap (option_and_then (renamed (to_message m.kind))) (id_field.again (m.vif, (m.lane, m.index)) rest fits))

message_clean : (x : Option MessageId) → MessageFits x → are_free (message_words x) ≡ true
message_clean None fits = refl
message_clean (Some m) fits = and_from _ _ (kind_is.clean m.kind tt) (id_field.clean (m.vif, (m.lane, m.index)) fits)

pub message_field : IsField (by_word message_at) message_words MessageFits
message_field = record { takes = word_takes message_at message_words MessageFits message_takes; again = message_again; clean = message_clean }

-- replies: `ok` alone stands at the end of a line
errno_field : IsField (one errno_of) (λ e. errno_word e ∷ []) Any
errno_field = one_field errno_of errno_word Any errno_is

good_takes : (w : Word) (ws : List Word) (x : Reply) (rest : List Word) → w ≡ codes "ok" → good ws ≡ Some (x, rest) → (w ∷ ws ≡ reply_words x ++ rest) × ReplyFits x
good_takes w [] x rest same e = alone [] (codes "ok") reply.Good reply_words ReplyFits refl tt w [] x rest same e
good_takes w (v ∷ ws) x rest same e = keyed [] (codes "ok") reply.Value _ _ _ reply_words ReplyFits (λ a. refl) (λ a h. h) u32_field.takes w (v ∷ ws) x rest same e

reply_takes : (w : Word) (ws : List Word) (x : Reply) (rest : List Word) → reply_at w ws ≡ Some (x, rest) → (w ∷ ws ≡ reply_words x ++ rest) × ReplyFits x
reply_takes w ws x rest e =
    pick w (codes "ok") _ _ _ (good_takes w ws x rest)
    (pick w (codes "sg") _ _ _ (keyed [] (codes "sg") reply.Sg _ _ _ reply_words ReplyFits (λ a. refl) (λ a h. h) route_totals_field.takes w ws x rest)
    (pick w (codes "vif") _ _ _ (keyed [] (codes "vif") reply.Vif _ _ _ reply_words ReplyFits (λ a. refl) (λ a h. h) vif_totals_field.takes w ws x rest)
    (pick w (codes "err") _ _ _ (keyed [] (codes "err") reply.Refused _ _ _ reply_words ReplyFits (λ a. refl) (λ a h. h) errno_field.takes w ws x rest)
    (λ none. absurd (cc))))) e

pub replied_takes : Takes replied reply_words ReplyFits
replied_takes = word_takes reply_at reply_words ReplyFits reply_takes

pub replied_again : Again replied reply_words ReplyFits []
replied_again reply.Good fits = refl
replied_again (reply.Value n) fits = ap (option_and_then (renamed reply.Value)) (u32_field.again n [] fits)
replied_again (reply.Sg t) fits = ap (option_and_then (renamed reply.Sg)) (route_totals_field.again t [] fits)
replied_again (reply.Vif t) fits = ap (option_and_then (renamed reply.Vif)) (vif_totals_field.again t [] fits)
replied_again (reply.Refused errno) fits = ap (option_and_then (renamed reply.Refused)) (errno_field.again errno [] tt)

pub replied_clean : (x : Reply) → ReplyFits x → are_free (reply_words x) ≡ true
replied_clean reply.Good fits = refl
replied_clean (reply.Value n) fits = u32_field.clean n fits
replied_clean (reply.Sg t) fits = route_totals_field.clean t fits
replied_clean (reply.Vif t) fits = vif_totals_field.clean t fits
replied_clean (reply.Refused errno) fits = errno_field.clean errno tt
