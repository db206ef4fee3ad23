-- An upstream's replies along a trail, and the answer where they make a valid session.
use Rattle.std.proofs.Common.{ℕ, ◌≡◌, ◌∙◌, Bool, true, false, List, [], ◌∷◌, Option, None, Some, Result, Ok, Err, IfSome, refl, sym, ap, subst, if◌then◌else◌}
use Rattle.std.specs.Option.{option_map_or}
use Rattle.std.specs.List.{list_any}
use Rattle.std.proofs.lemmas.Bool.{true≢false}
use Rattle.std.proofs.lemmas.Option.{same_Some}
use Rattle.dns_model.specs.declared.denial.Denial.{Denial}
use Rattle.dns_model.specs.declared.denial.Denial.TheVariants as denial
use Rattle.dns_model.specs.declared.proof.Proof.{Proof}
use Rattle.dns_model.specs.declared.section.Section.TheVariants.{Answer}
use Rattle.dns_model.specs.Records.{Question, question_eq}
use Rattle.dns_model.specs.Chains.{Judge}
use Rattle.dns_model.specs.SoundAnswers.{Told, ResponseValue}
use Rattle.dns_model.specs.Trails.{AskedValue, Records, Fault, EndingValue, Answered, Denied}
use Rattle.dns_model.proofs.QuestionLemmas.{question_refl, question_back, question_trans, question_right}
use Rattle.dns_rules.specs.Asking.{Limits}
use Rattle.dns_rules.specs.CacheEntries.{EntryValue}
use Rattle.dns_rules.specs.Derivation.{told_in, judged_sets, top_step, in_send_order, derivation}
use Rattle.dns_rules.specs.Marking.{marked_section}
use Rattle.dns_cache.specs.CacheLists.{CacheList}
use Rattle.dns_laws.specs.Complete.{Upstream, HeardAlong, are_secure, shows_secure, ProvesQuery}
use Rattle.dns_laws.specs.Valid.{IsValidSession}
use Rattle.dns_laws.proofs.CompleteLemmas.{valid_reply, valid_session_is_proved}
use Rattle.dns_handle.specs.Errors.{Reply, Dns, Nsec}
use Rattle.dns_handle.specs.Handles.{Replies, reply_to, after_turn, left_after}
use Rattle.dns_handle.specs.Replies.{reply_of}
use Rattle.dns_handle.specs.declared.error.NetError.{NetError}
use Rattle.dns_handle.specs.declared.handle.DnsHandle as handle
use Rattle.dns_validation.specs.Received.{received, heard_from, says_none}
use Rattle.dns_lookup.specs.Caching.{ServeFrom, HasSecureAlone}
use Rattle.dns_lookup.specs.Calls.{Call, limits_of_call}
use Rattle.dns_lookup.specs.Causes.{has_response, AnswersTold}
use Rattle.dns_lookup.specs.Completing.{first_told, AnswersSecurely, Completes}
use Rattle.dns_lookup.specs.LookupAnswers.{UnlessNoMemory, OfAnswer, IsTrail, HasMarksOfTrail}
use Rattle.dns_lookup.specs.Sends.{IsFromReplies}
use Rattle.dns_lookup.specs.Answering.{AnswersLookup}
use Rattle.dns_lookup.proofs.AnsweredLemmas.{lookup_answers}
use Rattle.dns_lookup.proofs.LookupAnswerLemmas.{unless_map, lookup_trail, lookup_marks}

-- ---- what a send leaves

if_true : {X : Type 0} (b : Bool) (x y : X) → b ≡ true → (if b then x else y) ≡ x
if_true b x y is = ap (λ c. if c then x else y) is

if_false : {X : Type 0} (b : Bool) (x y : X) → b ≡ false → (if b then x else y) ≡ y
if_false b x y is = ap (λ c. if c then x else y) is

passed_over : (told : Question × Reply) (rest : List (Question × Reply)) (other : Question)
    → question_eq told.0 other ≡ false
    → reply_to (told ∷ rest) other ≡ reply_to rest other
unfolding reply_to
passed_over told rest other apart = if_false (question_eq told.0 other) told.1 (reply_to rest other) apart

-- the first reply to a question is no reply to another
not_both : (told q other : Question) (b : Bool) → question_eq told other ≡ b → question_eq told q ≡ true
    → question_eq q other ≡ false → b ≡ false
not_both told q other true is asked apart =
    absurd (true≢false (sym (question_trans q told other (question_back told q asked) is) ∙ apart))
not_both told q other false is asked apart = refl

turned_stays : (told : Question × Reply) (rest : List (Question × Reply)) (q other : Question) (b more : Bool)
    → question_eq told.0 q ≡ b
    → question_eq q other ≡ false → reply_to (after_turn rest q) other ≡ reply_to rest other
    → reply_to (if b then (if more then rest else told ∷ rest) else told ∷ after_turn rest q) other ≡ reply_to
    (told ∷ rest) other
unfolding reply_to
turned_stays told rest q other true true is apart later =
    sym (passed_over told rest other (not_both told.0 q other (question_eq told.0 other) refl is apart))
turned_stays told rest q other true false is apart later = refl
turned_stays told rest q other false more is apart later =
    ap (λ reply. if question_eq told.0 other then told.1 else reply) later

-- a turn changes no reply to another question
turn_stays : (list : List (Question × Reply)) (q other : Question) → question_eq q other ≡ false
    → reply_to (after_turn list q) other ≡ reply_to list other
unfolding after_turn
turn_stays [] q other apart = refl
turn_stays (told ∷ rest) q other apart =
    turned_stays told rest q other (question_eq told.0 q) (list_any (λ later. question_eq later.0 q) rest) refl apart
    (turn_stays rest q other apart)

pub left_stays : (by_turn : Bool) (list : List (Question × Reply)) (q other : Question) → question_eq q other ≡ false
    → reply_to (if by_turn then after_turn list q else list) other ≡ reply_to list other
left_stays true list q other apart = turn_stays list q other apart
left_stays false list q other apart = refl

-- the same reply to the same question
pub reply_alike : (list : List (Question × Reply)) (q other : Question) → question_eq q other ≡ true
    → reply_to list q ≡ reply_to list other
unfolding reply_to
reply_alike [] q other same = refl
reply_alike (told ∷ rest) q other same =
    ap (λ b. if b then told.1 else reply_to rest q) (question_right q other told.0 same)
    ∙ ap (λ reply. if question_eq told.0 other then told.1 else reply) (reply_alike rest q other same)

-- an upstream that tells its replies, by turn or not
abbrev pub replying : Upstream Replies
replying = record {
  tells = first_told;
  left = left_after;
  stays = λ replies q other apart. ap received (left_stays replies.by_turn replies.list q other apart);
  alike = λ replies q other same. ap received (reply_alike replies.list q other same);
}

-- ---- what was received

told_value : (o : Option Told) (empty : Bool) → told_in (option_map_or (λ told. Records told empty) o Fault) ≡ o
told_value None empty = refl
told_value (Some told) empty = refl

told_of_reply : (reply : Reply) → told_in (heard_from reply) ≡ received reply
told_of_reply reply = told_value (received reply) (says_none reply)

pub received_replies : (replies : Replies) (steps : List AskedValue) → IsFromReplies replies steps
    → HeardAlong replying replies steps
received_replies replies [] from = tt
received_replies replies (step ∷ steps) from = (
  ap told_in from.0
      ∙ told_of_reply (reply_to replies.list step.query),
  received_replies
      (left_after replies step.query) steps from.1,
)

pub of_some : {X : Type 0} (P : X → Type 0) (o : Option X) (x : X) → o ≡ Some x → IfSome o P → P x
of_some P None x is h = cc
of_some P (Some y) x is h = let same : y ≡ x = cc in subst P same h

-- ---- the trail

-- a trail proves a query by an upstream's replies, and ends with an answer
pub record IsProved (j : Judge) (replies : Replies) (q : Question) (trail : List AskedValue)
    (ending : EndingValue) : Type 0 where
  pub cached : List EntryValue
  pub queries : List Question
  pub proved : ProvesQuery j cached (first_told replies) q queries trail
  pub ends : ending ≡ Answered denial.None

-- a derivation with the query and this ending, whose steps heard the replies of a valid session
pub replies_prove : (j : Judge) (replies : Replies) (limits : Limits) (cached : List EntryValue) (q : Question)
    (trail : List AskedValue) (top : AskedValue)
    (ending : EndingValue) → derivation j limits cached trail ≡ true → are_secure cached ≡ true
    → top_step trail ≡ Some top → top.query ≡ q → top.ending ≡ ending → IsFromReplies replies (in_send_order trail)
    → IsValidSession j (first_told replies) limits.depth q → IsProved j replies q trail ending
replies_prove j replies limits cached q trail top ending derived secure last query ends from valid =
    let asked = ap (question_eq q) query ∙ question_refl q in
    let proved =
    valid_session_is_proved replying replies j limits cached q trail top derived secure last asked
    (received_replies replies (in_send_order trail) from) valid in
    let same = same_Some proved.top top (sym proved.last ∙ last) in
    record {
      cached =
          cached;
      queries =
          valid.queries;
      proved = proved;
      ends = sym ends ∙ ap (λ step. step.ending) (sym same) ∙ proved.ending;
    }

-- the session is valid for the call's query
abbrev IsValidCall : {H : Type 0} → Call H → Replies → Type 0
IsValidCall call replies = IsValidSession call.judge (first_told replies) call.options.max_request_depth call.query

-- what serves says Secure where all that was kept does
pub secure_alone : (before : Option CacheList) (now : ℕ) (cached : List EntryValue) → HasSecureAlone before now
    → ServeFrom before now cached → are_secure cached ≡ true
secure_alone None now cached secure served = absurd secure
secure_alone (Some list) now cached secure served = ap are_secure served ∙ secure

trail_proved : {H : Type 0} (meanings : handle.Ghosts H) (call : Call H) (replies : Replies) (trail : List AskedValue)
    (ending : EndingValue)
    → meanings.told call.old ≡ Some replies → HasSecureAlone call.cache.before call.now → IsValidCall call replies
    → IsTrail meanings call trail ending
    → IsProved call.judge replies call.query trail ending
trail_proved meanings call replies trail ending told secure valid is =
    replies_prove call.judge replies (limits_of_call call) is.cached call.query trail is.top ending is.derived
    (secure_alone call.cache.before call.now is.cached secure is.kept) is.last is.query is.ends
    (of_some (λ known. IsFromReplies known (in_send_order trail)) (meanings.told call.old) replies told is.from) valid

-- ---- the answer

answered_denial : (d : Denial) → Answered d ≡ Answered denial.None → d ≡ denial.None
answered_denial d h = cc

pub denied_never : (proof : Proof) → Denied proof ≡ Answered denial.None → ⊥
denied_never proof h = cc

-- the records of a response with the marks of a trail that proves the query
response_secure : (j : Judge) (replies : Replies) (q : Question) (now : ℕ) (response : ResponseValue)
    (ending : EndingValue)
    → IsProved j replies q response.trail ending → HasMarksOfTrail now response
    → shows_secure q response.message.answers ≡ true
response_secure j replies q now response ending is marks =
    let top = same_Some is.proved.top marks.top (sym is.proved.last ∙ marks.last) in
    let told : is.proved.told ≡ marks.told =
    same_Some is.proved.told marks.told
    (sym is.proved.heard ∙ ap (λ step. told_in step.reply) top ∙ ap told_in marks.heard) in
    ap (λ told. shows_secure q told.answers) marks.marked
    ∙ ap (λ step. shows_secure q (marked_section now (judged_sets step) Answer marks.told.answers)) (sym top)
    ∙ ap (λ told. shows_secure q (marked_section now (judged_sets is.proved.top) Answer told.answers)) (sym told)
    ∙ is.proved.records now

pub answer_secure : (j : Judge) (replies : Replies) (q : Question) (now : ℕ) (response : ResponseValue)
    → IsProved j replies q response.trail (Answered response.denial) → HasMarksOfTrail now response
    → AnswersSecurely q (Ok response)
answer_secure j replies q now response is marks = (
  answered_denial response.denial is.ends,
  response_secure j replies q now response
      (Answered response.denial) is marks,
)

-- what a lookup promises of its answer makes it secure, where the session is valid
secure_answer : {H : Type 0} (meanings : handle.Ghosts H) (call : Call H) (replies : Replies) (answer : Reply)
    → meanings.told call.old ≡ Some replies
    → HasSecureAlone call.cache.before call.now → IsValidCall call replies
    → OfAnswer answer (λ a ending. IsTrail meanings call a.trail ending)
    → OfAnswer answer (λ a ending. HasMarksOfTrail call.now a)
    → has_response answer ≡ true → AnswersSecurely call.query answer
secure_answer meanings call replies (Ok response) told secure valid trail marks ends =
    answer_secure call.judge replies call.query call.now response
    (trail_proved meanings call replies response.trail (Answered response.denial) told secure valid trail) marks
secure_answer meanings call replies (Err (Dns (Nsec asked response proof))) told secure valid trail marks ends =
    denied_never proof ((trail_proved meanings call replies response.trail (Denied proof) told secure valid trail).ends)
secure_answer meanings call replies (Err error) told secure valid trail marks ends = absurd (true≢false (sym ends))

-- the answer of a call that promises a trail, its marks, and that records of the query's class are answered
pub completes : {H : Type 0} (meanings : handle.Ghosts H) (call : Call H) (answer : Reply)
    → OfAnswer answer (λ a ending. IsTrail meanings call a.trail ending)
    → OfAnswer answer (λ a ending. HasMarksOfTrail call.now a) → AnswersTold (meanings.told call.old) call.query answer
    → Completes (meanings.told call.old) call answer
completes meanings call answer trail marks answers = by_told (meanings.told call.old) refl answers
  where
    by_told : (tells : Option Replies) → meanings.told call.old ≡ tells → AnswersTold tells call.query answer
        → Completes tells call answer
    by_told None is answers = tt
    by_told (Some replies) is answers = λ secure valid.
        let reply = valid_reply call.judge (first_told replies) call.options.max_request_depth call.query valid in
        secure_answer meanings call replies answer is secure valid trail marks
        (answers reply.told reply.heard reply.own)

pub lookup_completes : {H : Type 0} (meanings : handle.Ghosts H) (call : Call H)
    (result : Result ResponseValue NetError)
    → UnlessNoMemory result (AnswersLookup meanings call (reply_of result))
    → UnlessNoMemory result (Completes (meanings.told call.old) call (reply_of result))
lookup_completes meanings call result lookup =
    let trail = lookup_trail meanings call result lookup in
    let marks = lookup_marks meanings call result lookup in
    unless_map result (λ answers. completes meanings call (reply_of result) trail marks answers)
    (lookup_answers meanings call result lookup)
