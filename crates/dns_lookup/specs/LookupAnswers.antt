-- What a lookup answers: a sound answer with the trail that led to it (RFC 4035, 4.3 and 5).
use Rattle.std.specs.Prelude.{ℕ, ◌≡◌, ◌≤◌, Bool, true, List, length, Option, Some, Result, Ok, Err, IfSome, drop}
use Rattle.std.specs.List.{All, count_by}
use Rattle.dns_model.specs.declared.denial.Denial.TheVariants as denial
use Rattle.dns_model.specs.Counts.{RoseBy}
use Rattle.dns_model.specs.Gives.{Unless}
use Rattle.dns_model.specs.declared.proof.Proof.{Proof}
use Rattle.dns_model.specs.Keys.{VerifierAnswers}
use Rattle.dns_model.specs.Records.{Question, MessageValue}
use Rattle.dns_model.specs.Trails.{AskedValue, Records, EndingValue, Answered, Denied}
use Rattle.dns_model.specs.SoundAnswers.{Told, told_by, ResponseValue, Sound}
use Rattle.dns_rules.specs.Asking.{most_sends, depth_limit}
use Rattle.dns_rules.specs.Derivation.{derivation, top_step, told_in, judged_sets, in_send_order}
use Rattle.dns_rules.specs.Marking.{marked_told}
use Rattle.dns_rules.specs.CacheEntries.{EntryValue}
use Rattle.dns_cache.specs.CacheLists.{CacheList}
use Rattle.dns_laws.specs.Denials.{ShowsDenial, HasDenials}
use Rattle.dns_laws.specs.Ground.{HasGrounds}
use Rattle.dns_laws.specs.OwnDenials.{DeniesByRecords}
use Rattle.dns_handle.specs.Errors.{Reply, Dns, Nsec}
use Rattle.dns_handle.specs.Handles.{Replies}
use Rattle.dns_handle.specs.Replies.{reply_of}
use Rattle.dns_handle.specs.declared.error.NetError.{NetError}
use Rattle.dns_handle.specs.declared.error.NetError.TheVariants.{NoMemory}
use Rattle.dns_handle.specs.declared.handle.DnsHandle as handle
use Rattle.dns_validation.specs.Received.{received_message}
use Rattle.dns_flow.specs.Phases.{judged_ask}
use Rattle.dns_lookup.specs.Caching.{ServeFrom, HasNone}
use Rattle.dns_lookup.specs.Calls.{Call, inner_of, limits_of_call, ask_of_call, first_ask_of_call}
use Rattle.dns_lookup.specs.Sends.{SendsAlong, SendsFrom, IsFromReplies, heard_fault}
use Rattle.dns_lookup.specs.declared.handle.DnssecDnsHandle.{DnssecDnsHandle}

-- a fact, unless memory ran out
abbrev pub UnlessNoMemory : {X : Type 0} → Result X NetError → Type 0 → Type 0
UnlessNoMemory result Fact = Unless NoMemory result Fact

-- a fact of what the handle of a validator tells before a call, of its query and of its answer, unless memory ran out
abbrev pub WhereTold : {H V C : Type 0} → handle.Ghosts H → DnssecDnsHandle H V C → Question → Result ResponseValue NetError
    → (Option Replies → Question → Reply → Type 0) → Type 0
WhereTold meanings old q result Fact = UnlessNoMemory result (Fact (meanings.told (inner_of old)) q (reply_of result))

-- a fact of the response that an answer has, an Ok one or that inside a denial, and of the ending that this answer stands for
abbrev pub OfAnswer : Reply → (ResponseValue → EndingValue → Type 0) → Type 0
OfAnswer (Ok response) Fact = Fact response (Answered response.denial)
OfAnswer (Err (Dns (Nsec asked response proof))) Fact = Fact response (Denied proof)
OfAnswer (Err error) Fact = Unit {0}

-- the response holds the message that the reply to the first ask had, and is sound for its records. The other asks, those of
-- the trail's other steps, come after it
pub record IsSoundAnswer {H : Type 0} (meanings : handle.Ghosts H) (call : Call H) (a : ResponseValue) : Type 0 where
  pub middle : H
  pub reply : Reply
  pub message : MessageValue
  pub made : first_ask_of_call meanings call call.old (judged_ask call.query) middle reply
  pub received : received_message reply ≡ Some message
  pub header : a.message
      ≡ record message { answers = a.message.answers; authorities = a.message.authorities; additionals = a.message.additionals }
  pub sound : Sound call.judge call.now (told_by message) a
  pub rest : SendsAlong (ask_of_call meanings call) middle (drop 1 (in_send_order a.trail)) call.new

-- a trail with this ending: a derivation, from what was kept before, whose last step has the call's query, and whose steps are the asks
-- that were made, one for each send, in the order of the sends. They are as shallow as the options say, and at most as many heard a fault
-- as the handle met
pub record IsTrail {H : Type 0} (meanings : handle.Ghosts H) (call : Call H) (trail : List AskedValue) (ending : EndingValue)
    : Type 0 where
  pub cached : List EntryValue
  pub kept : ServeFrom call.cache.before call.now cached
  pub derived : derivation call.judge (limits_of_call call) cached trail ≡ true
  pub top : AskedValue
  pub last : top_step trail ≡ Some top
  pub query : top.query ≡ call.query
  pub ends : top.ending ≡ ending
  pub few : length trail ≤ most_sends
  pub shallow : All (λ step. step.depth ≤ depth_limit call.options.max_request_depth) trail
  pub each : length (in_send_order trail) ≡ length trail
  pub walked : SendsFrom (first_ask_of_call meanings call) (ask_of_call meanings call) call.old (in_send_order trail) call.new
  pub from : IfSome (meanings.told call.old) (λ replies. IsFromReplies replies (in_send_order trail))
  pub faults : RoseBy (count_by (λ step. heard_fault step.reply) (in_send_order trail))
      (meanings.faults call.old) (meanings.faults call.new)

-- the records of the response are those that the last step of its trail heard, with the marks that the step gives its sets
pub record HasMarksOfTrail (now : ℕ) (a : ResponseValue) : Type 0 where
  pub top : AskedValue
  pub told : Told
  pub empty : Bool
  pub last : top_step a.trail ≡ Some top
  pub heard : top.reply ≡ Records told empty
  pub marked : told_by a.message ≡ marked_told now (judged_sets top) told

-- an answer is explained by its trail, and by what was kept before
pub record IsExplained (verifier : VerifierAnswers) (kept : Option CacheList) (now : ℕ) (a : ResponseValue) : Type 0 where
  -- its marks are those that the last step gives
  pub marks : HasMarksOfTrail now a
  -- each set that a step marks Insecure has a ground in the steps before, where nothing was kept before that may serve
  pub grounds : HasNone kept now → HasGrounds verifier a.trail
  -- each step that ends with an answer shows what it denies
  pub denials : HasDenials a.trail

-- an answer shows what it denies, by the records that the last step of its trail heard: they are its own, with the marks that the
-- step gives its sets; and so it does by its own records alone
pub record ShowsItsDenial (now : ℕ) (q : Question) (a : ResponseValue) : Type 0 where
  pub top : AskedValue
  pub told : Told
  pub last : top_step a.trail ≡ Some top
  pub heard : told_in top.reply ≡ Some told
  pub marked : told_by a.message ≡ marked_told now (judged_sets top) told
  pub shows : ShowsDenial q told (judged_sets top) a.denial
  pub own : DeniesByRecords q (told_by a.message) a.denial

-- a denial names the call's query, and the response inside it denies nothing by itself
abbrev pub DeniesQuery : Question → Reply → Type 0
DeniesQuery q answer =
    (asked : Question) (response : ResponseValue) (proof : Proof) → answer ≡ Err (Dns (Nsec asked response proof))
    → (asked ≡ q) × (response.denial ≡ denial.None)
