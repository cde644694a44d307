-- An operation that asks something of a routing machine is none for a daemon without one.
use Rattle.std.proofs.Common.{◌≡◌, ℕ, zero, suc, ◌-◌, Bool, true, false, Result, Ok, Err, List, [], ◌∷◌, arith, refl}
use Rattle.std.proofs.lemmas.Bool.{lt-ltb}
use Rattle.std.specs.Option.{option_map_or}
use Rattle.std.specs.Prelude.{IfOk, bytes_eq, codes, slice_get}
use Rattle.mr_scenario.specs.Counts.{Word, none_of, one_of, two_of, some_of}
use Rattle.mr_scenario.specs.Fits.{NeedsNoMachine}
use Rattle.mr_scenario.specs.Forms.{number_word, positive_word, raw_word}
use Rattle.mr_scenario.specs.Kinds.{in_line, or_bad, wants}
use Rattle.mr_scenario.specs.PhaseLines.{is_smc, is_smc_at}
use Rattle.mr_scenario.specs.Requests.{Who, by_hand, by_smcroute, joined_from, poll_script, raw_script, recv_script, request_of, script_of, smcroute_script, start_script, tick_script, value, words_script}
use Rattle.mr_scenario.specs.declared.scenario.DaemonKind.{DaemonKind}
use Rattle.mr_scenario.specs.declared.scenario.Script.{Script}
use Rattle.mr_scenario.specs.declared.scenario.Script.TheVariants as script
use Rattle.mr_scenario.specs.declared.stop.Kind.TheVariants as kind
use Rattle.mr_scenario.specs.declared.stop.Mistake.{Mistake}
use Rattle.mr_words.proofs.Binds.{ok_if, ok_then, then_ok}
use Rattle.mr_words.specs.Names.{is_clean}

-- A daemon without a machine does not ask it.
abbrev pub SuitsWho : Who → Script → Type 0
SuitsWho who s = who ≡ Ok false → NeedsNoMachine s

has_one : (who : Who) → IfOk (by_smcroute who) (λ _. who ≡ Ok true)
has_one (Err m) = tt
has_one (Ok true) = refl
has_one (Ok false) = tt

never : (who : Who) (s : Script) → who ≡ Ok true → SuitsWho who s
never who s one none = absurd (cc (one, none))

raw_suits : (who : Who) (ws : List Word) → IfOk (raw_script who ws) (SuitsWho who)
raw_suits who ws =
    then_ok (or_bad (two_of ws) (in_line kind.Word)) _ (SuitsWho who) (λ w.
    then_ok (by_hand who) _ (SuitsWho who) (λ _.
    then_ok (number_word 3 65535 w.0) _ (SuitsWho who) (λ opt.
    then_ok (raw_word 4 w.1) _ (SuitsWho who) (λ bytes. λ _. tt))))

tick_suits : (who : Who) (ws : List Word) → IfOk (tick_script who ws) (SuitsWho who)
tick_suits who ws =
    then_ok (or_bad (one_of ws) (in_line kind.Word)) _ (SuitsWho who) (λ w.
    then_ok who _ (SuitsWho who) (λ _.
    then_ok (number_word 3 4294967295 w) _ (SuitsWho who) (λ ms. λ _. tt)))

recv_suits : (who : Who) (ws : List Word) → IfOk (recv_script who ws) (SuitsWho who)
recv_suits who ws =
    then_ok (or_bad (none_of ws) (in_line kind.Word)) _ (SuitsWho who) (λ _.
    then_ok (by_hand who) _ (SuitsWho who) (λ _. λ _. tt))

start_suits : (who : Who) (ws : List Word) → IfOk (start_script who ws) (SuitsWho who)
start_suits who ws =
    then_ok (or_bad (none_of ws) (in_line kind.Word)) _ (SuitsWho who) (λ _.
    ok_then (by_smcroute who) _ (λ _. who ≡ Ok true) (SuitsWho who) (has_one who) (λ _ one. never who script.Start one))

poll_suits : (who : Who) (ws : List Word) → IfOk (poll_script who ws) (SuitsWho who)
poll_suits who ws =
    then_ok (or_bad (one_of ws) (in_line kind.Word)) _ (SuitsWho who) (λ w.
    ok_then (by_smcroute who) _ (λ _. who ≡ Ok true) (SuitsWho who) (has_one who) (λ _ one.
    then_ok (positive_word 3 64 w) _ (SuitsWho who) (λ n. never who (script.Poll n) one)))

words_suit : (who : Who) (ws : List Word) → IfOk (words_script who ws) (SuitsWho who)
words_suit who ws =
    then_ok (or_bad (some_of ws) (in_line kind.Word)) _ (SuitsWho who) (λ w.
    ok_then (by_smcroute who) _ (λ _. who ≡ Ok true) (SuitsWho who) (has_one who) (λ _ one.
    then_ok (wants (is_clean w.0) (in_line kind.Word)) _ (SuitsWho who) (λ _.
    then_ok (joined_from w.0 w.1) _ (SuitsWho who) (λ text. never who (script.Words text) one))))

smcroute_suits : (op : Word) (who : Who) (ws : List Word) → IfOk (smcroute_script op who ws) (SuitsWho who)
smcroute_suits op who ws =
    ok_if (bytes_eq op (codes "smc")) _ _ (SuitsWho who) (words_suit who ws)
    (ok_if (bytes_eq op (codes "start")) _ _ (SuitsWho who) (start_suits who ws)
    (ok_if (bytes_eq op (codes "poll")) _ _ (SuitsWho who) (poll_suits who ws)
    (then_ok (request_of op who ws) _ (SuitsWho who) (λ r. λ _. tt))))

pub script_suits : (op : Word) (who : Who) (ws : List Word) → IfOk (script_of op who ws) (SuitsWho who)
script_suits op who ws =
    ok_if (bytes_eq op (codes "raw")) _ _ (SuitsWho who) (raw_suits who ws)
    (ok_if (bytes_eq op (codes "table")) _ _ (SuitsWho who) (then_ok (value 4294967295 who ws) _ (SuitsWho who) (λ n. λ _. tt))
    (ok_if (bytes_eq op (codes "tick")) _ _ (SuitsWho who) (tick_suits who ws)
    (ok_if (bytes_eq op (codes "recv")) _ _ (SuitsWho who) (recv_suits who ws) (smcroute_suits op who ws))))

-- the sort of a daemon, by its place from 0
pub smc_at_place : (daemons : List DaemonKind) (i : ℕ) → is_smc_at daemons (suc i) ≡ option_map_or is_smc (slice_get daemons i) false
smc_at_place [] i = refl
smc_at_place (k ∷ ks) zero = refl
smc_at_place (k ∷ ks) (suc i) =
    let less : suc (suc i) - 1 ≡ suc i = omega arith in
    rw (lt-ltb 1 (suc (suc i)) (omega arith), less) (smc_at_place ks i)
