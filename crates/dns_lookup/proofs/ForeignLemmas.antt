-- A record of another class than the query's is named, and nothing else is complained of so; so each answer has its
-- cause.
use Rattle.std.proofs.Common.{ℕ, ◌≡◌, ◌∙◌, None, Some, Result, Err, sym, ap, inl, inr}
use Rattle.dns_model.specs.Names.{Labels}
use Rattle.dns_model.specs.Records.{Rr, Question, MessageValue}
use Rattle.dns_model.specs.SoundAnswers.{Told, told_by, ResponseValue}
use Rattle.dns_rules.specs.Marking.{cleared_message}
use Rattle.dns_rules.specs.Outcome.{Outcome, Given, NeedsZone, foreign_record}
use Rattle.dns_rules.specs.Outcome as outcome
use Rattle.dns_handle.specs.Errors.{Reply, ErrorValue, ForeignClassRecord}
use Rattle.dns_handle.specs.Handles.{reply_to}
use Rattle.dns_handle.specs.Replies.{reply_of}
use Rattle.dns_handle.specs.declared.error.NetError.{NetError}
use Rattle.dns_handle.specs.declared.handle.DnsHandle as handle
use Rattle.dns_validation.specs.Received.{received_message, received}
use Rattle.dns_validation.specs.Steps.{Findings, answer_by}
use Rattle.dns_lookup.specs.Calls.{Call}
use Rattle.dns_lookup.specs.LookupAnswers.{UnlessNoMemory}
use Rattle.dns_lookup.specs.Causes.{ForeignOnly, ForeignNamed, HasItsCause}
use Rattle.dns_lookup.specs.Answering.{AnswersLookup, Passes, Names, Judges}
use Rattle.dns_lookup.specs.LookupParts.{told_of, KnownReplies, IsReplyTo}
use Rattle.dns_lookup.proofs.LookupAnswerLemmas.{unless_map, or_memory}
use Rattle.dns_lookup.proofs.CauseLemmas.{some_same, none_some, memory_some, told_to, error_memory, passed_on, passed_as, lookup_passed}

-- ---- a record of another class

names_foreign : {H : Type 0} (meanings : handle.Ghosts H) (call : Call H) {answer : Reply}
    → AnswersLookup meanings call answer → ForeignOnly meanings call answer
names_foreign meanings call (Passes e made silent remembered) = λ owner class rtype is.
    inl (passed_as meanings call e (ForeignClassRecord owner class rtype)
    (passed_on meanings call e made silent remembered) is)
names_foreign meanings call (Names reply answer from r made hears foreign is) = λ owner class rtype named. inr (record {
  reply = reply;
  records = told_by (cleared_message from);
  first = r;
  made = made;
  received = ap told_of hears;
  found = foreign;
  named = cc;
})
names_foreign meanings call (Judges answer found f is) = λ owner class rtype named.
    absurd (not_foreign call.now call.query found found.outcome owner class rtype (sym is ∙ named))
  where
    not_foreign : (now : ℕ) (q : Question) (fs : Findings) (o : Outcome) (owner : Labels) (class rtype : ℕ)
        → answer_by now q fs o ≡ Err (ForeignClassRecord owner class rtype) → ⊥
    not_foreign now q fs (Given d) owner class rtype h = cc
    not_foreign now q fs NeedsZone owner class rtype h = cc
    not_foreign now q fs (outcome.Denied p) owner class rtype h = cc

pub lookup_foreign : {H : Type 0} (meanings : handle.Ghosts H) (call : Call H) (result : Result ResponseValue NetError)
    → UnlessNoMemory result (AnswersLookup meanings call (reply_of result))
    → ForeignOnly meanings call (reply_of result)
lookup_foreign meanings call result lookup =
    elim (or_memory result (AnswersLookup meanings call (reply_of result)) lookup) [
      | inl memory ↦ λ owner class rtype is. cc
      | inr l ↦ names_foreign meanings call l
    ]

-- ---- where the upstream tells its replies

-- the records that a told reply has, and those that were received
pub told_records : (reply told : Reply) (m : MessageValue) (records : Told) → told ≡ reply
    → received_message reply ≡ Some m → received told ≡ Some records
    → told_by (cleared_message m) ≡ records
told_records reply told m records same hears is =
    some_same (received reply) (told_by (cleared_message m)) records (ap told_of hears) (ap received (sym same) ∙ is)

-- an error without a message tells no records
pub silent_told : (told : Reply) (e : ErrorValue) (records : Told) → told ≡ Err e → received_message (Err e) ≡ None
    → received told ≡ Some records → ⊥
silent_told told e records same silent is = none_some (received told) records (ap received same ∙ ap told_of silent) is

foreign_silent : (tells : KnownReplies) (q : Question) (e : ErrorValue) → IsReplyTo tells q (Err e)
    → received_message (Err e) ≡ None → ForeignNamed tells q (Err e)
foreign_silent None q e told silent = tt
foreign_silent (Some replies) q e told silent =
    λ records first is found. absurd (silent_told (reply_to replies.list q) e records told silent is)

foreign_received : (tells : KnownReplies) (q : Question) (reply answer : Reply) (m : MessageValue) (r : Rr)
    → IsReplyTo tells q reply → received_message reply ≡ Some m
    → foreign_record q (told_by (cleared_message m)) ≡ Some r
    → answer ≡ Err (ForeignClassRecord r.owner r.class r.rtype) → ForeignNamed tells q answer
foreign_received None q reply answer m r told hears foreign named = tt
foreign_received (Some replies) q reply answer m r told hears foreign named = λ records first is found.
    let same = told_records reply (reply_to replies.list q) m records told hears is in
    let one : r ≡ first =
    some_same (foreign_record q records) r first (ap (foreign_record q) (sym same) ∙ foreign) found in
    named ∙ ap (λ (x : Rr). Err (ForeignClassRecord x.owner x.class x.rtype)) one

foreign_own : (tells : KnownReplies) (q : Question) (reply answer : Reply) (m : MessageValue) → IsReplyTo tells q reply
    → received_message reply ≡ Some m
    → foreign_record q (told_by (cleared_message m)) ≡ None → ForeignNamed tells q answer
foreign_own None q reply answer m told hears own = tt
foreign_own (Some replies) q reply answer m told hears own = λ records first is found.
    let same = told_records reply (reply_to replies.list q) m records told hears is in
    absurd (none_some (foreign_record q records) first (ap (foreign_record q) (sym same) ∙ own) found)

foreign_named : {H : Type 0} (meanings : handle.Ghosts H) (call : Call H) {answer : Reply}
    → AnswersLookup meanings call answer
    → ForeignNamed (meanings.told call.old) call.query answer
foreign_named meanings call (Passes e made silent remembered) =
    foreign_silent (meanings.told call.old) call.query e
    (told_to (meanings.told call.old) call.query (Err e) (error_memory e remembered) made.told) silent
foreign_named meanings call (Names reply answer from r made hears foreign is) =
    foreign_received (meanings.told call.old) call.query reply answer from r
    (told_to (meanings.told call.old) call.query reply (memory_some reply from hears) made.told) hears foreign is
foreign_named meanings call (Judges answer found f is) =
    foreign_own (meanings.told call.old) call.query f.reply answer f.from
    (told_to (meanings.told call.old) call.query f.reply (memory_some f.reply f.from f.received) f.made.told) f.received
    (ap (λ m. foreign_record call.query (told_by m)) (sym f.cleared) ∙ f.own)

pub lookup_names_foreign : {H : Type 0} (meanings : handle.Ghosts H) (call : Call H)
    (result : Result ResponseValue NetError)
    → UnlessNoMemory result (AnswersLookup meanings call (reply_of result))
    → UnlessNoMemory result (ForeignNamed (meanings.told call.old) call.query (reply_of result))
lookup_names_foreign meanings call result lookup = unless_map result (λ l. foreign_named meanings call l) lookup

-- ---- all causes

pub lookup_caused : {H : Type 0} (meanings : handle.Ghosts H) (call : Call H) (result : Result ResponseValue NetError)
    → UnlessNoMemory result (AnswersLookup meanings call (reply_of result))
    → HasItsCause meanings call (reply_of result)
lookup_caused meanings call result lookup =
    record { passed = lookup_passed meanings call result lookup; foreign = lookup_foreign meanings call result lookup }
