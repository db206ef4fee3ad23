-- The first reply to each question, which is given again for ever after (RFC 1035, 4.1.2: a question is a name, a type and a class;
-- RFC 4343, 3: names are compared without the case of their letters).
use Rattle.std.specs.Prelude.{ℕ, ◌≡◌, ◌≢◌, ◌⊎◌, Option, None, Some, Err, if◌then◌else◌}
use Rattle.std.specs.BTreeMap as tree
use Rattle.dns_model.specs.Counts.{one_more}
use Rattle.dns_model.specs.Records.{Question, question_eq}
use Rattle.dns_handle.specs.Causes.{faults_after}
use Rattle.dns_handle.specs.Errors as seen
use Rattle.dns_handle.specs.Errors.{Reply}
use Rattle.dns_handle.specs.QueryKeys.{key_cmp, key_of}
use Rattle.dns_handle.specs.Requests.{RequestValue, first_question}
use Rattle.dns_handle.specs.declared.handle.DnsHandle as handle
use Rattle.dns_handle.specs.declared.notice.Notice.TheVariants.{NoQueryInRequest}
use Rattle.dns_client.specs.declared.memoize_client_handle.MemoizeClientHandle.{MemoizeClientHandle}

-- ---- what is kept

-- the reply that is kept for each question
abbrev pub Kept : Type 0
Kept = Question → Option Reply

-- each question has what it had
abbrev pub IsSame : Kept → Kept → Type 0
IsSame before after = (q : Question) → after q ≡ before q

-- a question has this reply from now on, however its name's letters are spelled; each other question has what it had
abbrev pub IsPut : Kept → Question → Reply → Kept → Type 0
IsPut before asked reply after = (q : Question) → after q ≡ (if question_eq asked q then Some reply else before q)

-- ---- one send

-- a reply is given, unless memory runs out for it
abbrev pub GivesReply : Reply → Reply → Type 0
GivesReply kept reply = (reply ≡ Err seen.NoMemory) ⊎ (reply ≡ kept)

-- the request is sent at a moment, in seconds
abbrev pub IsSent : {H : Type 0} → handle.Ghosts H → RequestValue → ℕ → H → H → Reply → Type 0
IsSent meanings request now old new reply = meanings.sent old (first_question request) new reply × meanings.requested old request now new reply

-- what a request is answered, by what was kept before and by the handle that is asked
pub data AnswersOnce {H : Type 0} (meanings : handle.Ghosts H) (request : RequestValue) (now : ℕ) (before after : Kept) (old new : H)
    : Reply → Type 0 where
  -- without a question it is refused, and nothing is sent
  Refused : first_question request ≡ None → IsSame before after → new ≡ old
      → AnswersOnce meanings request now before after old new (Err (seen.Message NoQueryInRequest))
  -- what is kept for its question is given again, and nothing is sent
  Again : (q : Question) (kept reply : Reply) → first_question request ≡ Some q → before q ≡ Some kept → GivesReply kept reply
      → IsSame before after → new ≡ old → AnswersOnce meanings request now before after old new reply
  -- where nothing is kept for it, it is sent once, and its reply is kept and given
  Asked : (q : Question) (came reply : Reply) → first_question request ≡ Some q → before q ≡ None
      → IsSent meanings request now old new came → came ≢ Err seen.NoMemory → IsPut before q came after → GivesReply came reply
      → AnswersOnce meanings request now before after old new reply
  -- where memory runs out in that send, or for keeping its reply, nothing is kept
  Lost : (q : Question) (came : Reply) → first_question request ≡ Some q → before q ≡ None
      → IsSent meanings request now old new came → IsSame before after
      → AnswersOnce meanings request now before after old new (Err seen.NoMemory)
  -- or memory runs out before anything is sent
  Unsent : (q : Question) → first_question request ≡ Some q → IsSame before after → new ≡ old
      → AnswersOnce meanings request now before after old new (Err seen.NoMemory)

-- ---- the handle

-- the handle that is asked
abbrev pub client_of : {H : Type 0} → MemoizeClientHandle H → H
client_of memo = memo.client

-- the reply that it keeps for each question
abbrev pub kept_of : {H : Type 0} → MemoizeClientHandle H → Kept
kept_of memo q = tree.get key_cmp memo.kept (key_of q)

-- how often it was asked, and how many faults it answered
abbrev pub sends_of : {H : Type 0} → MemoizeClientHandle H → ℕ
sends_of memo = memo.sends

abbrev pub faults_of : {H : Type 0} → MemoizeClientHandle H → ℕ
faults_of memo = memo.faults

-- it answers a request, and counts it; an error that was kept is a fault each time
pub record MemoizesRequest {H : Type 0} (meanings : handle.Ghosts H) (old : MemoizeClientHandle H) (request : RequestValue) (now : ℕ)
    (new : MemoizeClientHandle H) (reply : Reply) : Type 0 where
  pub sends : sends_of new ≡ one_more (sends_of old)
  pub faults : faults_of new ≡ faults_after (faults_of old) reply
  pub answers : AnswersOnce meanings request now (kept_of old) (kept_of new) (client_of old) (client_of new) reply

-- it answers some request with this first question, at some moment
pub record MemoizesQuestion {H : Type 0} (meanings : handle.Ghosts H) (old : MemoizeClientHandle H) (asked : Option Question)
    (new : MemoizeClientHandle H) (reply : Reply) : Type 0 where
  pub request : RequestValue
  pub now : ℕ
  pub asks : first_question request ≡ asked
  pub memoizes : MemoizesRequest meanings old request now new reply
