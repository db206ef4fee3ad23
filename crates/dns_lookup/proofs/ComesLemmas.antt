-- A lookup came to its answer as its validation did: by the sends that the handle made.
use Rattle.std.proofs.Common.{◌≡◌, ◌≢◌, Bool, true, false, List, [], ◌∷◌, None, Some, Ok, Err, refl, sym, ap, subst, ◌∙◌, true≢false}
use Rattle.dns_model.specs.Records.{Question, MessageValue}
use Rattle.dns_model.specs.SoundAnswers.{told_by}
use Rattle.dns_model.specs.Trails.{AskedValue}
use Rattle.dns_rules.specs.CacheEntries.{EntryValue}
use Rattle.dns_rules.specs.Marking.{cleared_message}
use Rattle.dns_rules.specs.Outcome.{foreign_record}
use Rattle.dns_handle.specs.Errors as seen
use Rattle.dns_handle.specs.Errors.{Reply, ErrorValue}
use Rattle.dns_handle.specs.declared.handle.DnsHandle as handle
use Rattle.dns_flow.specs.declared.asks.Ask.{Ask}
use Rattle.dns_flow.specs.Phases.{judged_ask}
use Rattle.dns_validation.specs.Received.{Message, Failed, no_records_message, received_message, says_none, received_value, is_out_of_memory}
use Rattle.dns_validation.specs.Steps.{Findings}
use Rattle.dns_validation.specs.Machine.{Terms}
use Rattle.dns_validation.specs.Runs.{Sent}
use Rattle.dns_validation.specs.Comes.{IsFirst, IsStepOf, StepsOf, FoundBy, Comes, Passes as PassesBy, Names as NamesBy, Judges as JudgesBy}
use Rattle.dns_lookup.specs.Caching.{ServeFrom}
use Rattle.dns_lookup.specs.Calls.{CacheUse, Sending, Asking, Requesting}
use Rattle.dns_lookup.specs.Sends.{SendOf, SendsAlong}
use Rattle.dns_lookup.specs.Fronts.{MakesSend, MakesSends}
use Rattle.dns_lookup.specs.Answering.{call_by, Found, AnswersLookup, Passes, Names, Judges}

-- ---- what was received

-- the message that was received, with its marks, and whether the reply said that there are no records
record Receives (reply : Reply) (m : MessageValue) (empty : Bool) : Type 0 where
  from : MessageValue
  is : received_message reply ≡ Some from
  cleared : m ≡ cleared_message from
  none : empty ≡ says_none reply

message_same : (m n : MessageValue) (empty other : Bool) → Message m empty ≡ Message n other → (m ≡ n) × (empty ≡ other)
message_same m n empty other h = (cc, cc)

receives : (reply : Reply) (m : MessageValue) (empty : Bool) → received_value reply ≡ Message m empty
    → Receives reply m empty
receives (Ok response) m empty is =
    let same = message_same (cleared_message response.message) m false empty is in
    record { from = response.message; is = refl; cleared = sym same.0; none = sym same.1 }
receives (Err (seen.Dns (seen.NoRecordsFound missing))) m empty is =
    let same = message_same (cleared_message (no_records_message missing)) m true empty is in
    record { from = no_records_message missing; is = refl; cleared = sym same.0; none = sym same.1 }
receives (Err (seen.Dns (seen.Nsec asked response proof))) m empty is =
    let same = message_same (cleared_message response.message) m false empty is in
    record { from = response.message; is = refl; cleared = sym same.0; none = sym same.1 }
receives (Err seen.Busy) m empty is = cc
receives (Err (seen.Dns (seen.ResponseCode code))) m empty is = cc
receives (Err (seen.Dns seen.DnssecBogus)) m empty is = cc
receives (Err (seen.Message notice)) m empty is = cc
receives (Err (seen.Msg text)) m empty is = cc
receives (Err seen.NoConnections) m empty is = cc
receives (Err (seen.Proto error)) m empty is = cc
receives (Err (seen.Io kind)) m empty is = cc
receives (Err seen.Timeout) m empty is = cc
receives (Err seen.QueryCaseMismatch) m empty is = cc
receives (Err (seen.ForeignClassRecord owner class rtype)) m empty is = cc
receives (Err seen.Truncated) m empty is = cc
receives (Err seen.NoMemory) m empty is = cc

-- an error that has no message
pub record Silent (reply : Reply) (error : ErrorValue) : Type 0 where
  pub is : reply ≡ Err error
  pub none : received_message (Err error) ≡ None

failed_same : (a b : ErrorValue) → Failed a ≡ Failed b → a ≡ b
failed_same a b h = cc

silent_as : (e error : ErrorValue) → Failed e ≡ Failed error → received_message (Err e) ≡ None → Silent (Err e) error
silent_as e error h none =
    let same = failed_same e error h in
    record { is = ap (λ x. Err x) same; none = subst (λ x. received_message (Err x) ≡ None) same none }

pub silent : (reply : Reply) (error : ErrorValue) → received_value reply ≡ Failed error → Silent reply error
silent (Ok response) error h = cc
silent (Err (seen.Dns (seen.NoRecordsFound missing))) error h = cc
silent (Err (seen.Dns (seen.Nsec asked response proof))) error h = cc
silent (Err seen.Busy) error h = silent_as seen.Busy error h refl
silent (Err (seen.Dns (seen.ResponseCode code))) error h = silent_as (seen.Dns (seen.ResponseCode code)) error h refl
silent (Err (seen.Dns seen.DnssecBogus)) error h = silent_as (seen.Dns seen.DnssecBogus) error h refl
silent (Err (seen.Message notice)) error h = silent_as (seen.Message notice) error h refl
silent (Err (seen.Msg text)) error h = silent_as (seen.Msg text) error h refl
silent (Err seen.NoConnections) error h = silent_as seen.NoConnections error h refl
silent (Err (seen.Proto e)) error h = silent_as (seen.Proto e) error h refl
silent (Err (seen.Io kind)) error h = silent_as (seen.Io kind) error h refl
silent (Err seen.Timeout) error h = silent_as seen.Timeout error h refl
silent (Err seen.QueryCaseMismatch) error h = silent_as seen.QueryCaseMismatch error h refl
silent (Err (seen.ForeignClassRecord owner class rtype)) error h =
    silent_as (seen.ForeignClassRecord owner class rtype) error h refl
silent (Err seen.Truncated) error h = silent_as seen.Truncated error h refl
silent (Err seen.NoMemory) error h = silent_as seen.NoMemory error h refl

remembered : (reply : Reply) → is_out_of_memory reply ≡ false → reply ≢ Err seen.NoMemory
remembered reply kept = λ is. true≢false (sym (ap is_out_of_memory is) ∙ kept)

-- ---- the sends

-- the first one
first_made : {H : Type 0} (meanings : handle.Ghosts H) (t : Terms) (a b : H) (sent : Sent) → IsFirst t sent
    → MakesSend meanings t.now a sent b
    → Requesting meanings t.request t.now a (judged_ask t.query) b sent.reply
first_made meanings t a b sent first made =
    subst (λ r. Sending meanings r (Some t.query) t.now a b sent.reply) first.request
    (subst (λ (x : Ask). Sending meanings sent.request (Some x.query) t.now a b sent.reply) first.ask made)

-- where it is the only one
one_made : {H : Type 0} (meanings : handle.Ghosts H) (t : Terms) (old new : H) (sends : List Sent) (sent : Sent)
    → sends ≡ sent ∷ [] → IsFirst t sent
    → MakesSends meanings t.now old sends new
    → Requesting meanings t.request t.now old (judged_ask t.query) new sent.reply
one_made meanings t old new sends sent are first way =
    let one = subst (λ xs. MakesSends meanings t.now old xs new) are way in
    first_made meanings t old new sent first (subst (λ h. MakesSend meanings t.now old sent h) one.2 one.1)

abbrev ask_with : Question → Bool → Ask
ask_with q judged = record { query = q; judged = judged }

-- the send of a step
step_made : {H : Type 0} (meanings : handle.Ghosts H) (t : Terms) (a b : H) (step : AskedValue) (sent : Sent)
    → IsStepOf t step sent
    → MakesSend meanings t.now a sent b → SendOf (Asking meanings t.options t.now) a step b
step_made meanings t a b step sent of made =
    let same : sent.ask ≡ ask_with step.query step.judged =
    ap (λ q. ask_with q sent.ask.judged) of.query ∙ ap (ask_with step.query) of.judged in
    let asked = subst (λ r. Sending meanings r (Some sent.ask.query) t.now a b sent.reply) of.request made in
    record {
      reply = sent.reply;
      made = subst (λ x. Asking meanings t.options t.now a x b sent.reply) same asked;
      heard = of.heard;
      remembered = remembered sent.reply of.kept;
    }

along_of : {H : Type 0} (meanings : handle.Ghosts H) (t : Terms) (a b : H) (steps : List AskedValue) (sends : List Sent)
    → StepsOf t steps sends
    → MakesSends meanings t.now a sends b → SendsAlong (Asking meanings t.options t.now) a steps b
along_of meanings t a b [] [] of here = here
along_of meanings t a b [] (sent ∷ sends) of way = absurd of
along_of meanings t a b (step ∷ steps) [] of way = absurd of
along_of meanings t a b (step ∷ steps) (sent ∷ sends) of way =
    (way.0, step_made meanings t a way.0 step sent of.0 way.1, along_of meanings t way.0 b steps sends of.1 way.2)

-- ---- the answer

found_of : {H : Type 0} (meanings : handle.Ghosts H) (t : Terms) (old new : H) (cached : List EntryValue)
    (kept : CacheUse) (sends : List Sent) (found : Findings) → ServeFrom kept.before t.now cached
    → FoundBy t cached sends found
    → MakesSends meanings t.now old sends new → Found meanings (call_by t kept old new) found
found_of meanings t old new cached kept sends found served f way =
    let made = subst (λ xs. MakesSends meanings t.now old xs new) f.are way in
    let h = receives f.first.reply found.message found.empty f.received in
    record {
      reply = f.first.reply;
      from = h.from;
      middle = made.0;
      sends = f.count;
      made = first_made meanings t old made.0 f.first f.begins made.1;
      received = h.is;
      cleared = h.cleared;
      empty = h.none;
      own = f.own;
      cached = cached;
      kept = served;
      part = f.part;
      along = along_of meanings t made.0 new _ f.others f.along made.2;
      judged = f.judged;
      concluded = f.concluded;
      few = f.few;
    }

pub comes_answers : {H : Type 0} (meanings : handle.Ghosts H) (t : Terms) (old new : H) (cached : List EntryValue)
    (kept : CacheUse) (sends : List Sent) {answer : Reply}
    → ServeFrom kept.before t.now cached → Comes t cached sends answer → MakesSends meanings t.now old sends new
    → AnswersLookup meanings (call_by t kept old new) answer
comes_answers meanings t old new cached kept sends served (PassesBy error sent are first is) way =
    let none = silent sent.reply error is in
    Passes error
    (subst (λ r. Requesting meanings t.request t.now old (judged_ask t.query) new r) none.is
    (one_made meanings t old new sends sent are first way)) none.none
    (λ memory. remembered sent.reply first.kept (none.is ∙ ap (λ e. Err e) memory))
comes_answers meanings t old new cached kept sends served
    (NamesBy answer sent m r are first empty is foreign named) way =
    let h = receives sent.reply m empty is in
    Names sent.reply answer h.from r (one_made meanings t old new sends sent are first way) h.is
    (ap (λ x. foreign_record t.query (told_by x)) (sym h.cleared) ∙ foreign) named
comes_answers meanings t old new cached kept sends served (JudgesBy answer found f is) way =
    Judges answer found (found_of meanings t old new cached kept sends found served f way) is

-- it took a send
some_one : (sends others : List Sent) (sent : Sent) → sends ≡ sent ∷ others → sends ≡ [] → ⊥
some_one sends others sent are none = cc

pub comes_some : (t : Terms) (cached : List EntryValue) (sends : List Sent) {answer : Reply}
    → Comes t cached sends answer → sends ≡ [] → ⊥
comes_some t cached sends (PassesBy error sent are first is) none = some_one sends [] sent are none
comes_some t cached sends (NamesBy answer sent m r are first empty is foreign named) none =
    some_one sends [] sent are none
comes_some t cached sends (JudgesBy answer found f is) none = some_one sends f.others f.first f.are none
