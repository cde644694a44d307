-- Laws of lines.
use Rattle.std.proofs.Common.{◌≡◌, ℕ, ◌<◌, Bool, true, false, List, [], ◌∷◌, ◌++◌, Option, Some, None, option_and_then, length, decimal, codes, refl, sym, ap, ◌∙◌, arith, lit<, subst, append_assoc, append-nil, ◌^◌}
use Rattle.std.proofs.lemmas.Bool.{and_from}
use Rattle.std.proofs.lemmas.Option.{some_pair_parts}
use Rattle.std.specs.List.{list_all}
use Rattle.std.specs.Prelude.{if◌then◌else◌}
use Rattle.mr_base.specs.declared.numbers.DaemonNo.{DaemonNo}
use Rattle.mr_model.specs.declared.outcome.Outcome.{Outcome}
use Rattle.mr_model.specs.declared.outcome.Outcome.TheVariants as outcome
use Rattle.mr_model.specs.declared.reply.Reply.{Reply}
use Rattle.mr_model.specs.declared.request.Request.{Request}
use Rattle.mr_lines.specs.Fields.{both, mapped, renamed, by_word, keyword}
use Rattle.mr_lines.specs.Fit.{Fits32, Fits64, LaneFits, DaemonFits, RequestFits, ReplyFits, OutcomeFits, MessageFits}
use Rattle.mr_lines.specs.Forms.{Word, spaced}
use Rattle.mr_lines.specs.Laws.{is_free, are_free}
use Rattle.mr_lines.specs.Lines.{request_words, reply_words, outcome_words, message_words}
use Rattle.mr_lines.specs.Reading.{u32, u64, vif_or_none, mask, lane, daemon, asked, replied, happened, vif, message_at}
use Rattle.mr_lines.specs.Words.{number64}
use Rattle.mr_lines.proofs.FieldLaws.{IsField, bound, free_append, both_field, Takes, Again, both_takes, both_again, word_takes, keyed, alone}
use Rattle.mr_lines.proofs.NumberLaws.{number_word, number_takes, number_again, no_keyword}
use Rattle.mr_lines.proofs.WordLaws.{pick}
use Rattle.mr_lines.proofs.FormLaws.{u32_field}
use Rattle.mr_lines.proofs.RequestLaws.{asked_words, asked_field, keyword_takes}
use Rattle.mr_lines.proofs.PartLaws.{clean_splits, free_one_line}
use Rattle.mr_lines.proofs.FormLaws.{u64_field, lane_field, daemon_field, skip_field, route_field, vif_line_field, fate_line_field, FlowFits, forward_words, forward_field, outcome_field, message_field, replied_takes, replied_again, replied_clean}
use Rattle.mr_lines.specs.declared.line.Line.{Line}
use Rattle.mr_words.specs.Parts.{parts_of}
use Rattle.mr_lines.specs.declared.line.Line.TheVariants as line
use Rattle.mr_model.specs.declared.entry.FastRecord.{FastRecord}
use Rattle.mr_lines.specs.Fields.{nothing_left}
use Rattle.mr_lines.specs.Fit.{LineFits}
use Rattle.mr_lines.specs.Laws.{LineTakes, LineAgain, LineClean, LineSplits, LineIsOne}
use Rattle.mr_lines.specs.Lines.{line_words}
use Rattle.mr_lines.specs.Reading.{is_outcome, to_released, to_record, dash_at, behind_numbers, dash, to_call, to_slow, to_settle, to_tick, to_recv, entry_at, entry_of, line_at, line_of}

-- both numbers behind `-`
pub pair_field : IsField (both u32 u32) (λ p. decimal p.0 ∷ decimal p.1 ∷ []) (λ p. Fits32 p.0 × Fits32 p.1)
pair_field = both_field _ _ _ _ _ _ u32_field u32_field

-- what stands behind both numbers
dash_rest : (p : ℕ × ℕ) (w : Word) (ws : List Word) (l : Line) (rest : List Word) → Fits32 p.0 × Fits32 p.1 → dash_at p w ws ≡ Some (l, rest) →
    (codes "-" ∷ decimal p.0 ∷ decimal p.1 ∷ w ∷ ws ≡ line_words l ++ rest) × LineFits l
dash_rest p w ws l rest numbers e = by_case (is_outcome w) e
  where
    by_case : (t : Bool) → (if t then mapped (to_released p) happened (w ∷ ws) else mapped (to_record p) (both u32 (both vif_or_none mask)) (w ∷ ws)) ≡ Some (l, rest) →
        (codes "-" ∷ decimal p.0 ∷ decimal p.1 ∷ w ∷ ws ≡ line_words l ++ rest) × LineFits l
    by_case true given =
        let first = bound (renamed (to_released p)) (happened (w ∷ ws)) (l, rest) given in
        let parts = some_pair_parts (to_released p first.0.0) l first.0.1 rest first.2 in
        let taken = outcome_field.takes (w ∷ ws) first.0.0 rest (first.1 ∙ ap (λ r. Some (first.0.0, r)) parts.1) in
        subst (λ x. (codes "-" ∷ decimal p.0 ∷ decimal p.1 ∷ w ∷ ws ≡ line_words x ++ rest) × LineFits x) parts.0
        (ap (λ r. codes "-" ∷ decimal p.0 ∷ decimal p.1 ∷ r) taken.0, (numbers.0, (numbers.1, taken.1)))
    by_case false given =
        let first = bound (renamed (to_record p)) (both u32 (both vif_or_none mask) (w ∷ ws)) (l, rest) given in
        let parts = some_pair_parts (to_record p first.0.0) l first.0.1 rest first.2 in
        let taken = forward_field.takes (w ∷ ws) first.0.0 rest (first.1 ∙ ap (λ r. Some (first.0.0, r)) parts.1) in
        subst (λ x. (codes "-" ∷ decimal p.0 ∷ decimal p.1 ∷ w ∷ ws ≡ line_words x ++ rest) × LineFits x) parts.0
        (ap (λ r. codes "-" ∷ decimal p.0 ∷ decimal p.1 ∷ r) taken.0, (numbers.0, (numbers.1, (taken.1.0, (taken.1.1.0, (taken.1.1.1, refl))))))

dash_takes : (w : Word) (ws : List Word) (l : Line) (rest : List Word) → w ≡ codes "-" → dash ws ≡ Some (l, rest) → (w ∷ ws ≡ line_words l ++ rest) × LineFits l
dash_takes w ws l rest same e =
    let first = bound behind_numbers (both u32 u32 ws) (l, rest) e in
    let numbers = pair_field.takes ws first.0.0 first.0.1 first.1 in
    let inner = behind first.0.0 first.0.1 numbers.1 first.2 in
    ((λ i. same i ∷ numbers.0 i) ∙ inner.0, inner.1)
  where
    behind : (p : ℕ × ℕ) (vs : List Word) → Fits32 p.0 × Fits32 p.1 → behind_numbers (p, vs) ≡ Some (l, rest) → (codes "-" ∷ decimal p.0 ∷ decimal p.1 ∷ vs ≡ line_words l ++ rest) × LineFits l
    behind p [] fits given = absurd (cc)
    behind p (v ∷ vs) fits given = dash_rest p v vs l rest fits given

-- entries
asked_reply_takes : Takes (both asked replied) (λ p. asked_words p.0 ++ reply_words p.1) (λ p. RequestFits p.0 × ReplyFits p.1)
asked_reply_takes = both_takes asked asked_words RequestFits replied reply_words ReplyFits asked_field.takes replied_takes

abbrev CallFits : (DaemonNo × (Request × Reply)) → Type 0
CallFits p = DaemonFits p.0 × (RequestFits p.1.0 × ReplyFits p.1.1)

call_takes : Takes (both daemon (both asked replied)) (λ p. decimal p.0.0 ∷ (asked_words p.1.0 ++ reply_words p.1.1)) CallFits
call_takes = both_takes daemon (λ d. decimal d.0 ∷ []) DaemonFits (both asked replied) (λ p. asked_words p.0 ++ reply_words p.1) (λ p. RequestFits p.0 × ReplyFits p.1) daemon_field.takes asked_reply_takes

call_again : Again (both daemon (both asked replied)) (λ p. decimal p.0.0 ∷ (asked_words p.1.0 ++ reply_words p.1.1)) CallFits []
call_again =
    both_again daemon (λ d. decimal d.0 ∷ []) DaemonFits (both asked replied) (λ p. asked_words p.0 ++ reply_words p.1) (λ p. RequestFits p.0 × ReplyFits p.1) [] (λ more x. daemon_field.again x more)
    (both_again asked asked_words RequestFits replied reply_words ReplyFits [] (λ more x. asked_field.again x more) replied_again)

slow_field : IsField (both lane (both u32 (both u32 happened))) (λ p. decimal p.0.0 ∷ decimal p.1.0 ∷ decimal p.1.1.0 ∷ outcome_words p.1.1.1) (λ p. LaneFits p.0 × (Fits32 p.1.0 × (Fits32 p.1.1.0 × OutcomeFits p.1.1.1)))
slow_field = both_field _ _ _ _ _ _ lane_field (both_field _ _ _ _ _ _ u32_field (both_field _ _ _ _ _ _ u32_field outcome_field))

settle_field : IsField (both lane u64) (λ p. decimal p.0.0 ∷ decimal p.1 ∷ []) (λ p. LaneFits p.0 × Fits64 p.1)
settle_field = both_field _ _ _ _ _ _ lane_field u64_field

tick_field : IsField (both daemon u32) (λ p. decimal p.0.0 ∷ decimal p.1 ∷ []) (λ p. DaemonFits p.0 × Fits32 p.1)
tick_field = both_field _ _ _ _ _ _ daemon_field u32_field

recv_field : IsField (both daemon (by_word message_at)) (λ p. decimal p.0.0 ∷ message_words p.1) (λ p. DaemonFits p.0 × MessageFits p.1)
recv_field = both_field _ _ _ _ _ _ daemon_field message_field

call_words : (n : ℕ) (p : DaemonNo × (Request × Reply)) → line_words (to_call n p) ≡ decimal n ∷ codes "call" ∷ decimal p.0.0 ∷ (asked_words p.1.0 ++ reply_words p.1.1)
call_words n p = ap (λ r. decimal n ∷ codes "call" ∷ decimal p.0.0 ∷ r) (sym (append_assoc (request_words p.1.0) (codes "=" ∷ []) (reply_words p.1.1)))

entry_takes : (n : ℕ) → Fits64 n → (w : Word) (ws : List Word) (l : Line) (rest : List Word) → entry_at n w ws ≡ Some (l, rest) → (decimal n ∷ w ∷ ws ≡ line_words l ++ rest) × LineFits l
entry_takes n number w ws l rest e =
    let front : List Word = decimal n ∷ [] in
    pick w (codes "call") _ _ _ (keyed front (codes "call") (to_call n) _ _ _ line_words LineFits (call_words n) (λ a h. (number, h)) call_takes w ws l rest)
    (pick w (codes "slow") _ _ _ (keyed front (codes "slow") (to_slow n) _ _ _ line_words LineFits (λ a. refl) (λ a h. (number, h)) slow_field.takes w ws l rest)
    (pick w (codes "settle") _ _ _ (keyed front (codes "settle") (to_settle n) _ _ _ line_words LineFits (λ a. refl) (λ a h. (number, h)) settle_field.takes w ws l rest)
    (pick w (codes "tick") _ _ _ (keyed front (codes "tick") (to_tick n) _ _ _ line_words LineFits (λ a. refl) (λ a h. (number, h)) tick_field.takes w ws l rest)
    (pick w (codes "recv") _ _ _ (keyed front (codes "recv") (to_recv n) _ _ _ line_words LineFits (λ a. refl) (λ a h. (number, h)) recv_field.takes w ws l rest)
    (pick w (codes "phase") _ _ _ (alone front (codes "phase") (line.Phase n) line_words LineFits refl number w ws l rest)
    (λ none. absurd (cc))))))) e

numbered_takes : (w : Word) (o : Option ℕ) → number64 w ≡ o → (ws : List Word) (l : Line) (rest : List Word) → entry_of o ws ≡ Some (l, rest) → (w ∷ ws ≡ line_words l ++ rest) × LineFits l
numbered_takes w None reads ws l rest e = absurd (cc)
numbered_takes w (Some n) reads [] l rest e = absurd (cc)
numbered_takes w (Some n) reads (v ∷ vs) l rest e =
    let number = number_takes 18446744073709551615 (lit< tt) w n reads in
    let taken = entry_takes n number.1 v vs l rest e in
    (ap (λ x. x ∷ v ∷ vs) number.0 ∙ taken.0, taken.1)

history_takes : (w : Word) (ws : List Word) (l : Line) (rest : List Word) → w ≡ codes "history" → keyword (codes "1") line.History ws ≡ Some (l, rest) → (w ∷ ws ≡ line_words l ++ rest) × LineFits l
history_takes w ws l rest same e =
    let taken = keyword_takes (codes "1") line.History l ws rest e in
    subst (λ x. (w ∷ ws ≡ line_words x ++ rest) × LineFits x) taken.1 ((λ i. same i ∷ taken.0 i), tt)

line_at_takes : (w : Word) (ws : List Word) (l : Line) (rest : List Word) → line_at w ws ≡ Some (l, rest) → (w ∷ ws ≡ line_words l ++ rest) × LineFits l
line_at_takes w ws l rest e =
    pick w (codes "history") _ _ _ (history_takes w ws l rest)
    (pick w (codes "skip") _ _ _ (keyed [] (codes "skip") line.Skip _ _ _ line_words LineFits (λ a. refl) (λ a h. h) skip_field.takes w ws l rest)
    (pick w (codes "-") _ _ _ (dash_takes w ws l rest)
    (pick w (codes "route") _ _ _ (keyed [] (codes "route") line.Route _ _ _ line_words LineFits (λ a. refl) (λ a h. h) route_field.takes w ws l rest)
    (pick w (codes "vif") _ _ _ (keyed [] (codes "vif") line.Vif _ _ _ line_words LineFits (λ a. refl) (λ a h. h) vif_line_field.takes w ws l rest)
    (pick w (codes "fate") _ _ _ (keyed [] (codes "fate") line.Fate _ _ _ line_words LineFits (λ a. refl) (λ a h. h) fate_line_field.takes w ws l rest)
    (pick w (codes "end") _ _ _ (alone [] (codes "end") line.End line_words LineFits refl tt w ws l rest)
    (numbered_takes w (number64 w) refl ws l rest))))))) e

pub line_takes : LineTakes
line_takes ws l e =
    let first = bound nothing_left (by_word line_at ws) l e in
    whole_of first.0 first.1 first.2
  where
    whole_of : (x : Line × List Word) → by_word line_at ws ≡ Some x → nothing_left x ≡ Some l → (ws ≡ line_words l) × LineFits l
    whole_of (k, []) reads given =
        let same : k ≡ l = cc given in
        let taken = word_takes line_at line_words LineFits line_at_takes ws l [] (reads ∙ ap (λ x. Some (x, [])) same) in
        (taken.0 ∙ append-nil (line_words l), taken.1)
    whole_of (k, v ∷ vs) reads given = absurd (cc)

-- A number is the first word of an entry's line.
number_first : (n : ℕ) (ws : List Word) → Fits64 n → line_at (decimal n) ws ≡ by_word (entry_at n) ws
number_first n ws fits =
    let most : 18446744073709551615 < 2 ^ 64 = lit< tt in
    rw (
      no_keyword 18446744073709551615 n (codes "history") most fits refl,
      no_keyword 18446744073709551615 n (codes "skip") most fits refl,
      no_keyword 18446744073709551615 n (codes "-") most fits refl,
      no_keyword 18446744073709551615 n (codes "route") most fits refl,
      no_keyword 18446744073709551615 n (codes "vif") most fits refl,
      no_keyword 18446744073709551615 n (codes "fate") most fits refl,
      no_keyword 18446744073709551615 n (codes "end") most fits refl,
      number_again 18446744073709551615 n most fits,
    ) refl

number_no_outcome : (n : ℕ) → Fits32 n → is_outcome (decimal n) ≡ false
number_no_outcome n fits =
    let most : 4294967295 < 2 ^ 64 = lit< tt in
    rw (
      no_keyword 4294967295 n (codes "fwd") most fits refl,
      no_keyword 4294967295 n (codes "reg") most fits refl,
      no_keyword 4294967295 n (codes "wrong") most fits refl,
      no_keyword 4294967295 n (codes "parked") most fits refl,
      no_keyword 4294967295 n (codes "drop") most fits refl,
    ) refl

-- what stands behind both numbers of a released packet
released_again : (p : ℕ × ℕ) (o : Outcome) → OutcomeFits o → by_word (dash_at p) (outcome_words o ++ []) ≡ Some (to_released p o, [])
released_again p (outcome.Forward entry input outs) fits = ap (option_and_then (renamed (to_released p))) (outcome_field.again (outcome.Forward entry input outs) [] fits)
released_again p (outcome.Register entry input outs told) fits = ap (option_and_then (renamed (to_released p))) (outcome_field.again (outcome.Register entry input outs told) [] fits)
released_again p (outcome.Wrong entry vif report) fits = ap (option_and_then (renamed (to_released p))) (outcome_field.again (outcome.Wrong entry vif report) [] fits)
released_again p outcome.Parked fits = refl
released_again p (outcome.Dropped cause) fits = ap (option_and_then (renamed (to_released p))) (outcome_field.again (outcome.Dropped cause) [] fits)

record_again : (p : ℕ × ℕ) (r : FastRecord) → FlowFits (r.entry, (r.input, r.outs)) → by_word (dash_at p) (forward_words (r.entry, (r.input, r.outs)) ++ []) ≡ Some (to_record p (r.entry, (r.input, r.outs)), [])
record_again p r fits = rw (number_no_outcome r.entry fits.0) (ap (option_and_then (renamed (to_record p))) (forward_field.again (r.entry, (r.input, r.outs)) [] fits))

line_again_before : (l : Line) → LineFits l → by_word line_at (line_words l ++ []) ≡ Some (l, [])
line_again_before line.History fits = refl
line_again_before (line.Skip s) fits = ap (option_and_then (renamed line.Skip)) (skip_field.again s [] fits)
line_again_before (line.Call n d r reply) fits =
    ap (λ ws. by_word line_at (ws ++ [])) (call_words n (d, (r, reply))) ∙ number_first n (codes "call" ∷ decimal d.0 ∷ ((asked_words r ++ reply_words reply) ++ [])) fits.0 ∙ ap (option_and_then (renamed (to_call n))) (call_again (d, (r, reply)) fits.1)
line_again_before (line.Released r) fits =
    ap (option_and_then behind_numbers) (pair_field.again (r.lane.0, r.index) (outcome_words r.outcome ++ []) (fits.0, fits.1.0)) ∙ released_again (r.lane.0, r.index) r.outcome fits.1.1
line_again_before (line.Slow n lane index look o) fits = number_first n (codes "slow" ∷ decimal lane.0 ∷ decimal index ∷ decimal look ∷ (outcome_words o ++ [])) fits.0 ∙ ap (option_and_then (renamed (to_slow n))) (slow_field.again (lane, (index, (look, o))) [] fits.1)
line_again_before (line.Settle n lane count) fits = number_first n (codes "settle" ∷ decimal lane.0 ∷ decimal count ∷ []) fits.0 ∙ ap (option_and_then (renamed (to_settle n))) (settle_field.again (lane, count) [] fits.1)
line_again_before (line.Record r) fits =
    ap (option_and_then behind_numbers) (pair_field.again (r.index, r.look) (forward_words (r.entry, (r.input, r.outs)) ++ []) (fits.0, fits.1.0))
    ∙ record_again (r.index, r.look) r (fits.1.1.0, (fits.1.1.1.0, fits.1.1.1.1.0))
    ∙ ap (λ f. Some (line.Record (record r { flow = f }), [])) (sym fits.1.1.1.1.1)
line_again_before (line.Tick n d ms) fits = number_first n (codes "tick" ∷ decimal d.0 ∷ decimal ms ∷ []) fits.0 ∙ ap (option_and_then (renamed (to_tick n))) (tick_field.again (d, ms) [] fits.1)
line_again_before (line.Recv n d message) fits = number_first n (codes "recv" ∷ decimal d.0 ∷ (message_words message ++ [])) fits.0 ∙ ap (option_and_then (renamed (to_recv n))) (recv_field.again (d, message) [] fits.1)
line_again_before (line.Phase n) fits = number_first n (codes "phase" ∷ []) fits
line_again_before (line.Route r) fits = ap (option_and_then (renamed line.Route)) (route_field.again r [] fits)
line_again_before (line.Vif v) fits = ap (option_and_then (renamed line.Vif)) (vif_line_field.again v [] fits)
line_again_before (line.Fate f) fits = ap (option_and_then (renamed line.Fate)) (fate_line_field.again f [] fits)
line_again_before line.End fits = refl

pub line_again : LineAgain
line_again l fits = ap line_of (sym (append-nil (line_words l))) ∙ ap (option_and_then nothing_left) (line_again_before l fits)

number_free : (n : ℕ) → Fits64 n → list_all is_free (decimal n) ≡ true
number_free n fits = (number_word 18446744073709551615 (lit< tt)).clean n fits

line_free : (l : Line) → LineFits l → are_free (line_words l) ≡ true
line_free line.History fits = refl
line_free (line.Skip s) fits = skip_field.clean s fits
line_free (line.Call n d r reply) fits =
    ap are_free (call_words n (d, (r, reply)))
    ∙ and_from _ _ (number_free n fits.0) (free_append (decimal d.0 ∷ []) (asked_words r ++ reply_words reply) (daemon_field.clean d fits.1.0) (free_append (asked_words r) (reply_words reply) (asked_field.clean r fits.1.1.0) (replied_clean reply fits.1.1.1)))
line_free (line.Released r) fits = free_append (decimal r.lane.0 ∷ decimal r.index ∷ []) (outcome_words r.outcome) (pair_field.clean (r.lane.0, r.index) (fits.0, fits.1.0)) (outcome_field.clean r.outcome fits.1.1)
line_free (line.Slow n lane index look o) fits = and_from _ _ (number_free n fits.0) (slow_field.clean (lane, (index, (look, o))) fits.1)
line_free (line.Settle n lane count) fits = and_from _ _ (number_free n fits.0) (settle_field.clean (lane, count) fits.1)
line_free (line.Record r) fits =
    free_append (decimal r.index ∷ decimal r.look ∷ []) (forward_words (r.entry, (r.input, r.outs))) (pair_field.clean (r.index, r.look) (fits.0, fits.1.0)) (forward_field.clean (r.entry, (r.input, r.outs)) (fits.1.1.0, (fits.1.1.1.0, fits.1.1.1.1.0)))
line_free (line.Tick n d ms) fits = and_from _ _ (number_free n fits.0) (tick_field.clean (d, ms) fits.1)
line_free (line.Recv n d message) fits = and_from _ _ (number_free n fits.0) (recv_field.clean (d, message) fits.1)
line_free (line.Phase n) fits = and_from _ _ (number_free n fits) refl
line_free (line.Route r) fits = route_field.clean r fits
line_free (line.Vif v) fits = vif_line_field.clean v fits
line_free (line.Fate f) fits = fate_line_field.clean f fits
line_free line.End fits = refl

line_some : (l : Line) → 0 < length (line_words l)
line_some line.History = omega arith
line_some (line.Skip s) = omega arith
line_some (line.Call n d r reply) = omega arith
line_some (line.Released r) = omega arith
line_some (line.Slow n lane index look o) = omega arith
line_some (line.Settle n lane count) = omega arith
line_some (line.Record r) = omega arith
line_some (line.Tick n d ms) = omega arith
line_some (line.Recv n d message) = omega arith
line_some (line.Phase n) = omega arith
line_some (line.Route r) = omega arith
line_some (line.Vif v) = omega arith
line_some (line.Fate f) = omega arith
line_some line.End = omega arith

pub line_clean : LineClean
line_clean l fits = (line_some l, line_free l fits)

pub line_splits : LineSplits
line_splits l fits = clean_splits (line_words l) (line_clean l fits)

-- a line that fits is read from its bytes
pub line_read : (l : Line) → LineFits l → line_of (parts_of 32 (spaced (line_words l))) ≡ Some l
line_read l fits = ap line_of (line_splits l fits) ∙ line_again l fits

pub line_is_one : LineIsOne
line_is_one l fits = free_one_line (line_words l) (line_free l fits)
