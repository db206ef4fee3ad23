-- What a lookup answers where its upstream's replies make a valid session (RFC 4035, 4.3 and 5).
use Rattle.std.specs.Prelude.{◌≡◌, true, Option, None, Some, Ok, Err}
use Rattle.dns_model.specs.declared.denial.Denial.TheVariants as denial
use Rattle.dns_model.specs.Records.{Question}
use Rattle.dns_model.specs.SoundAnswers.{Told}
use Rattle.dns_laws.specs.Complete.{shows_secure}
use Rattle.dns_laws.specs.Valid.{IsValidSession}
use Rattle.dns_handle.specs.Errors.{Reply}
use Rattle.dns_handle.specs.Handles.{Replies, reply_to}
use Rattle.dns_validation.specs.Received.{received}
use Rattle.dns_lookup.specs.Caching.{HasSecureAlone}
use Rattle.dns_lookup.specs.Calls.{Call}

-- the records of an upstream's first reply to a query, before any send
abbrev pub first_told : Replies → Question → Option Told
first_told replies q = received (reply_to replies.list q)

-- an answer without a denial, in which the records that were queried stand, each of them Secure
abbrev pub AnswersSecurely : Question → Reply → Type 0
AnswersSecurely q (Ok response) = (response.denial ≡ denial.None) × (shows_secure q response.message.answers ≡ true)
AnswersSecurely q (Err error) = ⊥

-- where a known upstream's replies make a session that is valid for the call's query, and what was kept before says Secure alone, the
-- answer is secure
abbrev pub Completes : {H : Type 0} → Option Replies → Call H → Reply → Type 0
Completes None call answer = Unit {0}
Completes (Some replies) call answer =
    HasSecureAlone call.cache.before call.now → IsValidSession call.judge (first_told replies) call.options.max_request_depth call.query
    → AnswersSecurely call.query answer
