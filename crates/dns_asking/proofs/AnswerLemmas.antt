-- What an answer of a lookup comes from, out of what the sends of its handle come from.
use Rattle.std.proofs.Common.{ℕ, ◌≡◌, ◌⊎◌, inl, inr, ◌∙◌, List, [], ◌∷◌, Option, None, Some, Ok, Err, refl, sym, ap, subst}
use Rattle.dns_model.specs.Counts.{RoseBy}
use Rattle.dns_model.specs.Gives.{Unless}
use Rattle.dns_model.specs.Names.{Labels}
use Rattle.dns_model.specs.Records.{MessageValue}
use Rattle.dns_model.specs.SoundAnswers.{ResponseValue, Told}
use Rattle.dns_model.specs.Trails.{AskedValue}
use Rattle.dns_handle.specs.Errors as seen
use Rattle.dns_handle.specs.Errors.{Reply, ErrorValue, Busy, Dns, Message, Msg, NoConnections, Proto, Io, Timeout, QueryCaseMismatch, ForeignClassRecord, Truncated, ResponseCode, NoRecordsFound, Nsec, DnssecBogus}
use Rattle.dns_handle.specs.declared.handle.DnsHandle as handle
use Rattle.dns_handle.specs.declared.protocol.Protocol.{Protocol}
use Rattle.dns_validation.specs.Received.{received_message, received}
use Rattle.dns_flow.specs.declared.asks.Ask.{Ask}
use Rattle.dns_flow.specs.Phases.{judged_ask}
use Rattle.dns_lookup.specs.Calls.{Call, ask_of_call, first_ask_of_call}
use Rattle.dns_lookup.specs.Causes.{PassedOn, NamesForeign}
use Rattle.dns_lookup.specs.LookupAnswers.{IsSoundAnswer}
use Rattle.dns_lookup.specs.LookupParts.{told_of}
use Rattle.dns_lookup.specs.Sending.{IsLookedUp}
use Rattle.dns_lookup.specs.Sends.{SendsAlong}
use Rattle.dns_udp.specs.Met.{DialerView}
use Rattle.dns_asking.specs.Causes.{AnswerCause, HasCome}
use Rattle.dns_asking.proofs.CountLemmas.{rose_by_none, rose_by_then, rose_then}

-- a message comes only where something came
message_came : (protocol : Protocol) (before now : DialerView) (reply : Reply) (message : MessageValue)
    → AnswerCause protocol before now reply → received_message reply ≡ Some message → HasCome before.counts now.counts
message_came protocol before now (Ok response) message cause is = cause
message_came protocol before now (Err Busy) message cause is = absurd cause
message_came protocol before now (Err (Dns (ResponseCode code))) message cause is = absurd cause
message_came protocol before now (Err (Dns (NoRecordsFound missing))) message cause is = absurd cause
message_came protocol before now (Err (Dns (Nsec asked response proof))) message cause is = cause
message_came protocol before now (Err (Dns DnssecBogus)) message cause is = absurd cause
message_came protocol before now (Err (Message notice)) message cause is = let none : None ≡ Some message = is in cc
message_came protocol before now (Err (Msg text)) message cause is = absurd cause
message_came protocol before now (Err NoConnections) message cause is = absurd cause
message_came protocol before now (Err (Proto error)) message cause is = let none : None ≡ Some message = is in cc
message_came protocol before now (Err (Io kind)) message cause is = let none : None ≡ Some message = is in cc
message_came protocol before now (Err Timeout) message cause is = let none : None ≡ Some message = is in cc
message_came protocol before now (Err QueryCaseMismatch) message cause is = absurd cause
message_came protocol before now (Err (ForeignClassRecord owner class rtype)) message cause is = cause
message_came protocol before now (Err Truncated) message cause is = absurd cause
message_came protocol before now (Err seen.NoMemory) message cause is = let none : None ≡ Some message = is in cc

records_came : (protocol : Protocol) (before now : DialerView) (reply : Reply) (records : Told)
    → AnswerCause protocol before now reply → received reply ≡ Some records → HasCome before.counts now.counts
records_came protocol before now reply records cause is = by_message (received_message reply) refl
  where
    by_message : (o : Option MessageValue) → received_message reply ≡ o → HasCome before.counts now.counts
    by_message (Some message) has = message_came protocol before now reply message cause has
    by_message None has = let no : None ≡ Some records = sym (ap told_of has) ∙ is in cc

-- what the sends of a handle come from: the first one of a call has its cause, and by no other does the count of
-- what came fall
pub record Observes {H : Type 0} (meanings : handle.Ghosts H) (call : Call H) (protocol : Protocol)
    (before : DialerView)
    (view : H → DialerView) : Type 0 where
  pub first : (to : H) (reply : Reply) → first_ask_of_call meanings call call.old (judged_ask call.query) to reply
      → AnswerCause protocol before (view to) reply
  pub later : (from to : H) (ask : Ask) (reply : Reply) → ask_of_call meanings call from ask to reply
      → RoseBy 0 (view from).counts.gots (view to).counts.gots

module _ {H : Type 0} (meanings : handle.Ghosts H) (call : Call H) (protocol : Protocol) (before : DialerView)
    (view : H → DialerView)
    (o : Observes meanings call protocol before view) where
  along_later : (steps : List AskedValue) (from to : H) → SendsAlong (ask_of_call meanings call) from steps to
      → RoseBy 0 (view from).counts.gots (view to).counts.gots
  along_later [] from to is = subst (λ h. RoseBy 0 (view from).counts.gots (view h).counts.gots) is (rose_by_none _)
  along_later (step ∷ steps) from to (middle, send, rest) =
      rose_by_then 0 _ _ _ (o.later from middle _ send.reply send.made) (along_later steps middle to rest)

  sound_came : (a : ResponseValue) → IsSoundAnswer meanings call a → HasCome before.counts (view call.new).counts
  sound_came a is =
      rose_then _ _ _ (message_came protocol before (view is.middle) is.reply is.message
      (o.first is.middle is.reply is.made) is.received)
      (along_later _ is.middle call.new is.rest)

  passed_cause : (e : ErrorValue) → PassedOn meanings call e → AnswerCause protocol before (view call.new) (Err e)
  passed_cause e p = o.first call.new (Err e) p.made

  foreign_cause : (owner : Labels) (class rtype : ℕ)
      → PassedOn meanings call (ForeignClassRecord owner class rtype)
      ⊎ NamesForeign meanings call (ForeignClassRecord owner class rtype)
      → HasCome before.counts (view call.new).counts
  foreign_cause owner class rtype (inl p) = passed_cause (ForeignClassRecord owner class rtype) p
  foreign_cause owner class rtype (inr n) =
      records_came protocol before (view call.new) n.reply n.records (o.first call.new n.reply n.made) n.received

  looked_caused : (reply : Reply) → IsLookedUp meanings call reply → AnswerCause protocol before (view call.new) reply
  looked_caused (Ok a) is = sound_came a is.sound
  looked_caused (Err Busy) is = passed_cause _ (is.caused.passed _ refl refl)
  looked_caused (Err (Dns (ResponseCode code))) is = passed_cause _ (is.caused.passed _ refl refl)
  looked_caused (Err (Dns (NoRecordsFound missing))) is = passed_cause _ (is.caused.passed _ refl refl)
  looked_caused (Err (Dns (Nsec asked response proof))) is = sound_came response is.sound
  looked_caused (Err (Dns DnssecBogus)) is = passed_cause _ (is.caused.passed _ refl refl)
  looked_caused (Err (Message notice)) is = passed_cause _ (is.caused.passed _ refl refl)
  looked_caused (Err (Msg text)) is = passed_cause _ (is.caused.passed _ refl refl)
  looked_caused (Err NoConnections) is = passed_cause _ (is.caused.passed _ refl refl)
  looked_caused (Err (Proto error)) is = passed_cause _ (is.caused.passed _ refl refl)
  looked_caused (Err (Io kind)) is = passed_cause _ (is.caused.passed _ refl refl)
  looked_caused (Err Timeout) is = passed_cause _ (is.caused.passed _ refl refl)
  looked_caused (Err QueryCaseMismatch) is = passed_cause _ (is.caused.passed _ refl refl)
  looked_caused (Err (ForeignClassRecord owner class rtype)) is =
      foreign_cause owner class rtype (is.caused.foreign owner class rtype refl)
  looked_caused (Err Truncated) is = passed_cause _ (is.caused.passed _ refl refl)
  looked_caused (Err seen.NoMemory) is = tt

  -- each answer of a lookup has its cause
  pub lookup_caused : (reply : Reply) → Unless seen.NoMemory reply (IsLookedUp meanings call reply)
      → AnswerCause protocol before (view call.new) reply
  lookup_caused (Ok a) is = looked_caused (Ok a) is
  lookup_caused (Err e) (inr is) = looked_caused (Err e) is
  lookup_caused (Err e) (inl none) = subst (λ x. AnswerCause protocol before (view call.new) (Err x)) (sym none) tt
