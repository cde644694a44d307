-- No word of an entry's lines has a space or a line feed, whatever its numbers.
use Rattle.std.proofs.Common.{◌≡◌, ℕ, ◌+◌, ◌/◌, ◌%◌, ◌==◌, Bool, true, false, List, [], ◌∷◌, ◌++◌, map, filter, Option, Some, None, codes, decimal, refl, ap, ◌∙◌, append_assoc}
use Rattle.std.proofs.lemmas.Bool.{and_from}
use Rattle.std.proofs.lemmas.List.Folds.{list_all-append}
use Rattle.std.specs.List.{AllByRecursion, list_all, join_with_byte}
use Rattle.std.specs.Prelude.{if◌then◌else◌}
use Rattle.mr_base.specs.Errnos.{number_of}
use Rattle.mr_base.specs.declared.numbers.Addr.{Addr}
use Rattle.mr_base.specs.declared.numbers.Mask.{Mask}
use Rattle.mr_lines.proofs.NumberLaws.{digits_free}
use Rattle.mr_lines.proofs.PartLaws.{joined_free}
use Rattle.mr_lines.specs.Forms.{Word, address, mask, vif_or_none, local_word, thresholds, route_words, key_words}
use Rattle.mr_lines.specs.Laws.{is_free, are_free}
use Rattle.mr_lines.specs.Lines.{request_words, reply_words, report_word, cause_word, told_word, outcome_words, kind_word, message_words, released_words, record_words}
use Rattle.mr_model.specs.Ending.{indexes}
use Rattle.mr_model.specs.Verdict.{is_in}
use Rattle.mr_model.specs.declared.entry.FastRecord.{FastRecord}
use Rattle.mr_model.specs.declared.entry.ReleasedId.{ReleasedId}
use Rattle.mr_model.specs.declared.message.Kind.{Kind}
use Rattle.mr_model.specs.declared.message.Kind.TheVariants as kind
use Rattle.mr_model.specs.declared.message.MessageId.{MessageId}
use Rattle.mr_model.specs.declared.outcome.Cause.{Cause}
use Rattle.mr_model.specs.declared.outcome.Cause.TheVariants as cause
use Rattle.mr_model.specs.declared.outcome.Outcome.{Outcome}
use Rattle.mr_model.specs.declared.outcome.Outcome.TheVariants as outcome
use Rattle.mr_model.specs.declared.outcome.Report.{Report}
use Rattle.mr_model.specs.declared.outcome.Report.TheVariants as report
use Rattle.mr_model.specs.declared.reply.Reply.{Reply}
use Rattle.mr_model.specs.declared.reply.Reply.TheVariants as reply
use Rattle.mr_model.specs.declared.request.MfcCtl.{MfcCtl}
use Rattle.mr_model.specs.declared.request.MfcKey.{MfcKey}
use Rattle.mr_model.specs.declared.request.Request.{Request}
use Rattle.mr_model.specs.declared.request.Request.TheVariants as request
use Rattle.mr_model.specs.declared.request.VifCtl.{VifCtl}
use Rattle.mr_one_text.proofs.Decimals.{decimal_all}

abbrev pub Free : Word → Type 0
Free w = list_all is_free w ≡ true

-- words one by one
pub frees : (ws : List Word) → AllByRecursion Free ws → are_free ws ≡ true
frees [] a = refl
frees (w ∷ ws) a = and_from _ _ a.0 (frees ws a.1)

pub number_free : (n : ℕ) → Free (decimal n)
number_free n = digits_free (decimal n) (decimal_all n)

glued : (sep : ℕ) → is_free sep ≡ true → (v w : Word) → Free v → Free w → Free (v ++ sep ∷ w)
glued sep is v w f g = list_all-append is_free v (sep ∷ w) ∙ and_from _ _ f (and_from _ _ is g)

either_free : (b : Bool) (v w : Word) → Free v → Free w → Free (if b then v else w)
either_free true v w f g = f
either_free false v w f g = g

numbers_free : (ns : List ℕ) → are_free (map decimal ns) ≡ true
numbers_free [] = refl
numbers_free (n ∷ ns) = and_from _ _ (number_free n) (numbers_free ns)

address_joined : (a : Addr) → address a ≡ join_with_byte 46 (decimal (a.0 / 16777216) ∷ decimal (a.0 / 65536 % 256) ∷ decimal (a.0 / 256 % 256) ∷ decimal (a.0 % 256) ∷ [])
unfolding address
address_joined a = simp append_assoc

address_free : (a : Addr) → Free (address a)
address_free a =
    let words = decimal (a.0 / 16777216) ∷ decimal (a.0 / 65536 % 256) ∷ decimal (a.0 / 256 % 256) ∷ decimal (a.0 % 256) ∷ [] in
    let all : are_free words ≡ true = numbers_free (a.0 / 16777216 ∷ a.0 / 65536 % 256 ∷ a.0 / 256 % 256 ∷ a.0 % 256 ∷ []) in
    ap (list_all is_free) (address_joined a) ∙ joined_free 46 refl words all

mask_free : (m : Mask) → Free (mask m)
unfolding mask
mask_free m = either_free (m.0 == 0) (codes "-") _ refl (joined_free 44 refl (map decimal (filter (is_in m) indexes)) (numbers_free (filter (is_in m) indexes)))

vif_free : (i : Option ℕ) → Free (vif_or_none i)
unfolding vif_or_none
vif_free None = refl
vif_free (Some i) = number_free i

local_free : (c : VifCtl) → Free (local_word c)
unfolding local_word
local_free c = either_free (c.flags == 8) (64 ∷ decimal c.local) _ (number_free c.local) (address_free (record { 0 = c.local }))

either_all : (b : Bool) (vs ws : List Word) → are_free vs ≡ true → are_free ws ≡ true → are_free (if b then vs else ws) ≡ true
either_all true vs ws f g = f
either_all false vs ws f g = g

thresholds_free : (i : ℕ) (ts : List ℕ) → are_free (thresholds i ts) ≡ true
thresholds_free i [] = refl
thresholds_free i (t ∷ ts) =
    let more = thresholds_free (i + 1) ts in
    either_all (t == 0) (thresholds (i + 1) ts) ((decimal i ++ 58 ∷ decimal t) ∷ thresholds (i + 1) ts) more
    (and_from _ _ (glued 58 refl (decimal i) (decimal t) (number_free i) (number_free t)) more)

route_free : (c : MfcCtl) → are_free (route_words c) ≡ true
route_free c = and_from _ _ (address_free c.src) (and_from _ _ (address_free c.dst) (and_from _ _ (number_free c.parent) (thresholds_free 0 c.ttls)))

key_free : (k : MfcKey) → are_free (key_words k) ≡ true
key_free k = frees (key_words k) (address_free k.src, (address_free k.dst, (number_free k.parent, tt)))

pub request_free : (r : Request) → are_free (request_words r) ≡ true
request_free request.Init = refl
request_free request.Finish = refl
request_free (request.AddVif c) = frees (request_words (request.AddVif c)) (refl, (number_free c.vif, (number_free c.flags, (local_free c, tt))))
request_free (request.DelVif i) = frees (request_words (request.DelVif i)) (refl, (number_free i, tt))
request_free (request.AddMfc c) = route_free c
request_free (request.DelMfc k) = key_free k
request_free (request.AddProxy c) = route_free c
request_free (request.DelProxy k) = key_free k
request_free (request.Pim n) = frees (request_words (request.Pim n)) (refl, (number_free n, tt))
request_free (request.Assert n) = frees (request_words (request.Assert n)) (refl, (number_free n, tt))
request_free (request.Flush bits) = frees (request_words (request.Flush bits)) (refl, (number_free bits, tt))
request_free (request.Unknown option) = frees (request_words (request.Unknown option)) (refl, (number_free option, tt))
request_free (request.BadLength option) = frees (request_words (request.BadLength option)) (refl, (number_free option, tt))
request_free request.GetVersion = refl
request_free request.GetPim = refl
request_free request.GetAssert = refl
request_free (request.VifCount i) = frees (request_words (request.VifCount i)) (refl, (number_free i, tt))
request_free (request.SgCount src dst) = frees (request_words (request.SgCount src dst)) (refl, (address_free src, (address_free dst, tt)))

pub reply_free : (r : Reply) → are_free (reply_words r) ≡ true
reply_free reply.Good = refl
reply_free (reply.Value n) = frees (reply_words (reply.Value n)) (refl, (number_free n, tt))
reply_free (reply.Sg t) = frees (reply_words (reply.Sg t)) (refl, (number_free t.packets, (number_free t.bytes, (number_free t.wrong, tt))))
reply_free (reply.Vif t) =
    frees (reply_words (reply.Vif t)) (refl, (number_free t.packets_in, (number_free t.packets_out, (number_free t.bytes_in, (number_free t.bytes_out, tt)))))
reply_free (reply.Refused errno) = frees (reply_words (reply.Refused errno)) (refl, (number_free (number_of errno), tt))

report_free : (r : Report) → Free (report_word r)
report_free report.Quiet = refl
report_free report.Told = refl
report_free report.Lost = refl

cause_free : (c : Cause) → Free (cause_word c)
cause_free cause.NoVif = refl
cause_free cause.NoDaemon = refl
cause_free cause.Entries = refl
cause_free cause.Packets = refl
cause_free cause.Upcall = refl

told_free : (b : Bool) → Free (told_word b)
told_free true = refl
told_free false = refl

pub outcome_free : (o : Outcome) → are_free (outcome_words o) ≡ true
outcome_free (outcome.Forward entry input outs) = frees (outcome_words (outcome.Forward entry input outs)) (refl, (number_free entry, (vif_free input, (mask_free outs, tt))))
outcome_free (outcome.Register entry input outs told) =
    frees (outcome_words (outcome.Register entry input outs told)) (refl, (number_free entry, (vif_free input, (mask_free outs, (told_free told, tt)))))
outcome_free (outcome.Wrong entry vif report) = frees (outcome_words (outcome.Wrong entry vif report)) (refl, (number_free entry, (vif_free vif, (report_free report, tt))))
outcome_free outcome.Parked = refl
outcome_free (outcome.Dropped cause) = frees (outcome_words (outcome.Dropped cause)) (refl, (cause_free cause, tt))

kind_free : (k : Kind) → Free (kind_word k)
kind_free kind.NoCache = refl
kind_free kind.WrongVif = refl
kind_free kind.WholePkt = refl

pub message_free : (m : Option MessageId) → are_free (message_words m) ≡ true
message_free None = refl
message_free (Some m) = frees (message_words (Some m)) (kind_free m.kind, (number_free m.vif, (number_free m.lane.0, (number_free m.index, tt))))

pub released_free : (r : ReleasedId) → are_free (released_words r) ≡ true
released_free r = and_from _ _ (number_free r.lane.0) (and_from _ _ (number_free r.index) (outcome_free r.outcome))

pub record_free : (r : FastRecord) → are_free (record_words r) ≡ true
record_free r =
    frees (record_words r) (refl, (number_free r.index, (number_free r.look, (number_free r.entry, (vif_free r.input, (mask_free r.outs, tt))))))
