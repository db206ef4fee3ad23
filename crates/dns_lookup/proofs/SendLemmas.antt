-- One send of a lookup, by what a handle promises of it.
use Rattle.std.proofs.Common.{ℕ, ◌≡◌, ◌≤◌, Bool, true, false, Option, Some, Result, Ok, Err, refl, ap, subst, inl, inr}
use Rattle.dns_model.specs.Records.{Question}
use Rattle.dns_model.specs.SoundAnswers.{ResponseValue}
use Rattle.dns_handle.specs.Errors.{Reply}
use Rattle.dns_handle.specs.Causes.{HasCause}
use Rattle.dns_handle.specs.Handles.{ReplyIsTold, IsLeft}
use Rattle.dns_handle.specs.Replies.{error_of, reply_of}
use Rattle.dns_handle.specs.Requests.{RequestValue, first_question}
use Rattle.dns_handle.specs.declared.error.NetError.{NetError}
use Rattle.dns_handle.specs.declared.handle.DnsHandle as handle
use Rattle.dns_handle.specs.declared.request.DnsRequestOptions.{DnsRequestOptions}
use Rattle.dns_validation.specs.Requests.{request_for}
use Rattle.dns_lookup.specs.Calls.{Sending, IsCaused}

-- the request of an ask has its question
pub first_asked : (options : DnsRequestOptions) (q : Question) (judged : Bool)
    → first_question (request_for options (record { query = q; judged = judged })) ≡ Some q
first_asked options q true = refl
first_asked options q false = refl

-- a send of a request, by its first question
pub sending_made : {H : Type 0} (meanings : handle.Ghosts H) (now : ℕ) (from to : H) (request : RequestValue)
    (asked : Option Question) (reply : Reply)
    → first_question request ≡ asked → meanings.sent from (first_question request) to reply
    → meanings.requested from request now to reply → ReplyIsTold (meanings.told from) (first_question request) reply
    → IsLeft (meanings.told from) (first_question request) reply (meanings.told to)
    → meanings.faults from ≤ meanings.faults to → IsCaused (meanings.faults from) (meanings.faults to) reply
    → Sending meanings request asked now from to reply
sending_made meanings now from to request asked reply asks made carried told left later cause =
    let Made : Option Question → Type 0 = λ o. meanings.sent from o to reply in
    let Told : Option Question → Type 0 = λ o. ReplyIsTold (meanings.told from) o reply in
    let Left : Option Question → Type 0 = λ o. IsLeft (meanings.told from) o reply (meanings.told to) in
    record {
      made = subst Made asks made;
      carried = carried;
      told = subst Told asks told;
      left = subst Left asks left;
      later = later;
      cause = cause;
    }

-- what a reply's error was caused by
pub caused : (before now : ℕ) (result : Result ResponseValue NetError) → HasCause before now result
    → IsCaused before now (reply_of result)
caused before now (Ok response) cause = tt
caused before now (Err error) (inl none) = inl (ap error_of none)
caused before now (Err error) (inr cause) = inr cause
