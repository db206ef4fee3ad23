-- What is known of a handle that went along the steps of a trail: its upstream's replies, and its faults.
use Rattle.std.proofs.Common.{ℕ, Bool, true, false, ◌+◌, ◌≤◌, ◌≡◌, ◌∙◌, List, [], ◌∷◌, Option, None, Some, Ok, Err, count_by, refl, sym, ap, subst, inl, inr, arith, if◌then◌else◌}
use Rattle.std.proofs.lemmas.List.Sums.{sum_by-cons}
use Rattle.dns_model.specs.Counts.{RoseBy}
use Rattle.dns_model.specs.Records.{Question, MessageValue}
use Rattle.dns_model.specs.Trails.{AskedValue}
use Rattle.dns_handle.specs.Errors as seen
use Rattle.dns_handle.specs.Errors.{Reply, ErrorValue}
use Rattle.dns_handle.specs.ErrorKinds.{is_no_records_found}
use Rattle.dns_handle.specs.Handles.{Replies, reply_to, left_after, IsLeft, ReplyIsTold}
use Rattle.dns_handle.specs.Requests.{RequestValue}
use Rattle.dns_handle.specs.declared.request.DnsRequestOptions.{DnsRequestOptions}
use Rattle.dns_handle.specs.declared.handle.DnsHandle as handle
use Rattle.dns_validation.specs.Received.{received_message, heard_from}
use Rattle.dns_flow.specs.declared.asks.Ask.{Ask}
use Rattle.dns_validation.specs.Requests.{request_for}
use Rattle.dns_lookup.specs.Calls.{Call, IsCaused, Sending, Asking, ask_of_call, first_ask_of_call}
use Rattle.dns_lookup.specs.Sends.{SendOf, SendsAlong, SendsFrom, heard_fault}
use Rattle.dns_lookup.specs.LookupParts.{IsFrom, KnownReplies}

-- ---- what an upstream tells, and what is left

-- what an upstream tells after a send
abbrev told_next : KnownReplies → Question → KnownReplies
told_next None q = None
told_next (Some replies) q = Some (left_after replies q)

left_over : (old : KnownReplies) (q : Question) (reply : Reply) (new : KnownReplies) → (reply ≡ Err seen.NoMemory → ⊥)
    → IsLeft old (Some q) reply new
    → new ≡ told_next old q
left_over None q reply new remembered left = left
left_over (Some replies) q reply new remembered (inl same) = same
left_over (Some replies) q reply new remembered (inr memory) = absurd (remembered memory.0)

-- a reply that isn't want of memory is the told one
pub told_reply : (replies : Replies) (q : Question) (reply : Reply) → (reply ≡ Err seen.NoMemory → ⊥)
    → ReplyIsTold (Some replies) (Some q) reply
    → reply ≡ reply_to replies.list q
told_reply replies q reply remembered (inl memory) = absurd (remembered memory)
told_reply replies q reply remembered (inr same) = same

one_from : (old : KnownReplies) (step : AskedValue) (steps : List AskedValue) (reply : Reply)
    → (reply ≡ Err seen.NoMemory → ⊥)
    → step.reply ≡ heard_from reply → ReplyIsTold old (Some step.query) reply → IsFrom (told_next old step.query) steps
    → IsFrom old (step ∷ steps)
one_from None step steps reply remembered heard told rest = tt
one_from (Some replies) step steps reply remembered heard told rest =
    (heard ∙ ap heard_from (told_reply replies step.query reply remembered told), rest)

-- a step heard what the upstream replied, and those after it did
step_from : {H : Type 0} (meanings : handle.Ghosts H) (by : Ask → RequestValue) (now : ℕ) (old new : H)
    (step : AskedValue) (steps : List AskedValue)
    → SendOf (λ from ask to reply. Sending meanings (by ask) (Some ask.query) now from to reply) old step new
    → IsFrom (meanings.told new) steps
    → IsFrom (meanings.told old) (step ∷ steps)
step_from meanings by now old new step steps send rest =
    let left = left_over (meanings.told old) step.query send.reply (meanings.told new) send.remembered send.made.left in
    one_from (meanings.told old) step steps send.reply send.remembered send.heard send.made.told
    (subst (λ t. IsFrom t steps) left rest)

-- no step heard anything
none_from : (tells : KnownReplies) → IsFrom tells []
none_from None = tt
none_from (Some replies) = tt

-- the steps heard what the upstream replies, one send after another
along_from : {H : Type 0} (meanings : handle.Ghosts H) (options : DnsRequestOptions) (now : ℕ) (old new : H)
    (steps : List AskedValue)
    → SendsAlong (Asking meanings options now) old steps new → IsFrom (meanings.told old) steps
along_from meanings options now old new [] along = none_from (meanings.told old)
along_from meanings options now old new (step ∷ steps) along =
    step_from meanings (request_for options) now old along.0 step steps along.1
    (along_from meanings options now along.0 new steps along.2)

-- also where the first send is that of a call
pub first_from : {H : Type 0} (meanings : handle.Ghosts H) (call : Call H) (old : H) (steps : List AskedValue)
    → SendsFrom (first_ask_of_call meanings call) (ask_of_call meanings call) old steps call.new
    → IsFrom (meanings.told old) steps
first_from meanings call old [] along = none_from (meanings.told old)
first_from meanings call old (step ∷ steps) along =
    step_from meanings (λ ask. call.request) call.now old along.0 step steps along.1
    (along_from meanings call.options call.now along.0 call.new steps along.2)

-- ---- faults

-- that there are no records is no fault
none_received : (e : ErrorValue) → is_no_records_found e ≡ true → heard_fault (heard_from (Err e)) ≡ false
none_received seen.Busy none = cc
none_received (seen.Dns (seen.ResponseCode code)) none = cc
none_received (seen.Dns (seen.NoRecordsFound missing)) none = refl
none_received (seen.Dns (seen.Nsec asked response proof)) none = refl
none_received (seen.Dns seen.DnssecBogus) none = cc
none_received (seen.Message notice) none = cc
none_received (seen.Msg text) none = cc
none_received seen.NoConnections none = cc
none_received (seen.Proto error) none = cc
none_received (seen.Io kind) none = cc
none_received seen.Timeout none = cc
none_received seen.QueryCaseMismatch none = cc
none_received (seen.ForeignClassRecord owner class rtype) none = cc
none_received seen.Truncated none = cc
none_received seen.NoMemory none = cc

rose_one : (before after : ℕ) (reply : Reply) (o : Option MessageValue) → received_message reply ≡ o
    → (reply ≡ Err seen.NoMemory → ⊥)
    → before ≤ after → IsCaused before after reply
    → RoseBy (if heard_fault (heard_from reply) then 1 else 0) before after
rose_one before after (Ok response) o is remembered later cause = omega arith
rose_one before after (Err error) o is remembered later (inl memory) = absurd (remembered (ap (λ e. Err e) memory))
rose_one before after (Err error) o is remembered later (inr (inl none)) =
    subst (λ b. RoseBy (if b then 1 else 0) before after) (sym (none_received error none)) (omega arith)
rose_one before after (Err error) o is remembered later (inr (inr rose)) =
    at_most (heard_fault (heard_from (Err error)))
  where
    at_most : (b : Bool) → RoseBy (if b then 1 else 0) before after
    at_most true = omega arith
    at_most false = omega arith

rose_then : (a b c n m : ℕ) → RoseBy n a b → RoseBy m b c → RoseBy (n + m) a c
rose_then a b c n m first second = omega arith

-- a step met a fault where it heard one, and those after it did
step_rose : {H : Type 0} (meanings : handle.Ghosts H) (by : Ask → RequestValue) (now : ℕ) (old middle new : H)
    (step : AskedValue) (steps : List AskedValue)
    → SendOf (λ from ask to reply. Sending meanings (by ask) (Some ask.query) now from to reply) old step middle
    → RoseBy (count_by (λ s. heard_fault s.reply) steps) (meanings.faults middle) (meanings.faults new)
    → RoseBy (count_by (λ s. heard_fault s.reply) (step ∷ steps)) (meanings.faults old) (meanings.faults new)
step_rose meanings by now old middle new step steps send rest =
    let one =
    rose_one (meanings.faults old) (meanings.faults middle) send.reply
    (received_message send.reply) refl send.remembered send.made.later send.made.cause in
    let here : RoseBy (if heard_fault step.reply then 1 else 0) (meanings.faults old) (meanings.faults middle) =
    subst (λ h. RoseBy (if heard_fault h then 1 else 0) (meanings.faults old) (meanings.faults middle))
    (sym send.heard) one in
    subst (λ n. RoseBy n (meanings.faults old) (meanings.faults new))
    (sym (sum_by-cons (λ s. if heard_fault s.reply then 1 else 0) step steps))
    (rose_then (meanings.faults old) (meanings.faults middle) (meanings.faults new)
    (if heard_fault step.reply then 1 else 0) (count_by (λ s. heard_fault s.reply) steps) here rest)

-- as many faults were met as steps heard one
along_rose : {H : Type 0} (meanings : handle.Ghosts H) (options : DnsRequestOptions) (now : ℕ) (old new : H)
    (steps : List AskedValue)
    → SendsAlong (Asking meanings options now) old steps new
    → RoseBy (count_by (λ step. heard_fault step.reply) steps) (meanings.faults old) (meanings.faults new)
along_rose meanings options now old new [] along =
    let same : meanings.faults old ≡ meanings.faults new = ap meanings.faults along in omega arith
along_rose meanings options now old new (step ∷ steps) along =
    step_rose meanings (request_for options) now old along.0 new step steps along.1
    (along_rose meanings options now along.0 new steps along.2)

-- also where the first send is that of a call
pub first_rose : {H : Type 0} (meanings : handle.Ghosts H) (call : Call H) (old : H) (steps : List AskedValue)
    → SendsFrom (first_ask_of_call meanings call) (ask_of_call meanings call) old steps call.new
    → RoseBy (count_by (λ step. heard_fault step.reply) steps) (meanings.faults old) (meanings.faults call.new)
first_rose meanings call old [] along =
    let same : meanings.faults old ≡ meanings.faults call.new = ap meanings.faults along in omega arith
first_rose meanings call old (step ∷ steps) along =
    step_rose meanings (λ ask. call.request) call.now old along.0 call.new step steps along.1
    (along_rose meanings call.options call.now along.0 call.new steps along.2)
