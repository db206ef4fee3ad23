-- Where a known upstream's reply has records of the query's class alone, a lookup answers or denies.
use Rattle.std.proofs.Common.{ℕ, ◌≡◌, ◌∙◌, true, None, Some, Result, Err, refl, sym, ap}
use Rattle.dns_model.specs.Records.{Rr, Question, MessageValue}
use Rattle.dns_model.specs.SoundAnswers.{told_by, ResponseValue}
use Rattle.dns_rules.specs.Marking.{cleared_message}
use Rattle.dns_rules.specs.Outcome.{Outcome, Given, NeedsZone, foreign_record}
use Rattle.dns_rules.specs.Outcome as outcome
use Rattle.dns_handle.specs.Errors.{Reply, ErrorValue}
use Rattle.dns_handle.specs.Handles.{reply_to}
use Rattle.dns_handle.specs.Replies.{reply_of}
use Rattle.dns_handle.specs.declared.error.NetError.{NetError}
use Rattle.dns_handle.specs.declared.handle.DnsHandle as handle
use Rattle.dns_validation.specs.Received.{received_message}
use Rattle.dns_validation.specs.Steps.{Findings, answer_by}
use Rattle.dns_lookup.specs.Calls.{Call}
use Rattle.dns_lookup.specs.LookupAnswers.{UnlessNoMemory}
use Rattle.dns_lookup.specs.Causes.{has_response, AnswersTold}
use Rattle.dns_lookup.specs.Answering.{AnswersLookup, Passes, Names, Judges}
use Rattle.dns_lookup.specs.LookupParts.{KnownReplies, IsReplyTo}
use Rattle.dns_lookup.proofs.LookupAnswerLemmas.{unless_map}
use Rattle.dns_lookup.proofs.CauseLemmas.{none_some, memory_some, told_to, error_memory}
use Rattle.dns_lookup.proofs.ForeignLemmas.{told_records, silent_told}

answers_silent : (tells : KnownReplies) (q : Question) (e : ErrorValue) → IsReplyTo tells q (Err e)
    → received_message (Err e) ≡ None → AnswersTold tells q (Err e)
answers_silent None q e told silent = tt
answers_silent (Some replies) q e told silent =
    λ records is own. absurd (silent_told (reply_to replies.list q) e records told silent is)

answers_foreign : (tells : KnownReplies) (q : Question) (reply answer : Reply) (m : MessageValue) (r : Rr)
    → IsReplyTo tells q reply → received_message reply ≡ Some m
    → foreign_record q (told_by (cleared_message m)) ≡ Some r → AnswersTold tells q answer
answers_foreign None q reply answer m r told hears foreign = tt
answers_foreign (Some replies) q reply answer m r told hears foreign = λ records is own.
    let same = told_records reply (reply_to replies.list q) m records told hears is in
    absurd (none_some (foreign_record q records) r own (ap (foreign_record q) (sym same) ∙ foreign))

answers_judged : (tells : KnownReplies) (q : Question) (answer : Reply) → has_response answer ≡ true
    → AnswersTold tells q answer
answers_judged None q answer answered = tt
answers_judged (Some replies) q answer answered = λ records is own. answered

responds_by : (now : ℕ) (q : Question) (found : Findings) (o : Outcome) → has_response (answer_by now q found o) ≡ true
responds_by now q found (Given d) = refl
responds_by now q found NeedsZone = refl
responds_by now q found (outcome.Denied p) = refl

answers_told : {H : Type 0} (meanings : handle.Ghosts H) (call : Call H) {answer : Reply}
    → AnswersLookup meanings call answer
    → AnswersTold (meanings.told call.old) call.query answer
answers_told meanings call (Passes e made silent remembered) =
    answers_silent (meanings.told call.old) call.query e
    (told_to (meanings.told call.old) call.query (Err e) (error_memory e remembered) made.told) silent
answers_told meanings call (Names reply answer from r made hears foreign is) =
    answers_foreign (meanings.told call.old) call.query reply answer from r
    (told_to (meanings.told call.old) call.query reply (memory_some reply from hears) made.told) hears foreign
answers_told meanings call (Judges answer found f is) =
    answers_judged (meanings.told call.old) call.query answer
    (ap has_response is ∙ responds_by call.now call.query found found.outcome)

pub lookup_answers : {H : Type 0} (meanings : handle.Ghosts H) (call : Call H) (result : Result ResponseValue NetError)
    → UnlessNoMemory result (AnswersLookup meanings call (reply_of result))
    → UnlessNoMemory result (AnswersTold (meanings.told call.old) call.query (reply_of result))
lookup_answers meanings call result lookup = unless_map result (λ l. answers_told meanings call l) lookup
