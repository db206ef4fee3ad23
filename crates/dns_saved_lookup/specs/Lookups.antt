-- A lookup that is over, and what of it is saved: the signatures that its verifier accepted stand with its other parts.
use Rattle.std.specs.Prelude.{ℕ, Bool, List, [], Option, None, Some, Ok, Err}
use Rattle.std.specs.List.{filter}
use Rattle.dns_model.specs.Chains.{judge}
use Rattle.dns_model.specs.Keys.{AnchorValue, AcceptedSignatureValue, VerifierAnswers}
use Rattle.dns_model.specs.Records.{Question}
use Rattle.dns_model.specs.SoundAnswers.{ResponseValue}
use Rattle.dns_model.specs.Trails.{AskedValue}
use Rattle.dns_evidence.specs.Listing.{answers_of}
use Rattle.dns_handle.specs.Errors.{Reply, ErrorValue, Dns, Nsec}
use Rattle.dns_questions.specs.Questions.{questions}
use Rattle.dns_saved_session.specs.Saved.{SavedReplyValue, SavedValue}
use Rattle.dns_session_lookup.specs.Verifying.{listing}
use Rattle.std.specs.Option.{option_map_or}

-- a lookup at a moment in seconds, with what came for its queries, in the order in which they were sent, and with its answer
pub record LookupValue : Type 0 where
  pub moment : ℕ
  pub depth : Option ℕ
  pub algorithms : List ℕ
  pub anchors : List AnchorValue
  pub query : Question
  pub replies : List SavedReplyValue
  pub answer : Reply

-- the response inside an error, which is one that lacks a denial that it needs (RFC 4035, 5.4)
abbrev pub denied_in : ErrorValue → Option ResponseValue
denied_in (Dns (Nsec asked response proof)) = Some response
denied_in _ = None

-- the response that a lookup came to, be it refused
abbrev pub response_in : Reply → Option ResponseValue
response_in (Ok response) = Some response
response_in (Err error) = denied_in error

-- the verifier accepts a signature
abbrev pub is_accepted : VerifierAnswers → AcceptedSignatureValue → Bool
is_accepted answers q = answers.accepts q.algorithm q.key q.bytes q.signature

-- of the questions that a trail could put to a verifier that supports these algorithms, those that this verifier accepts, in order
abbrev pub accepted_in : VerifierAnswers → List ℕ → ℕ → List AskedValue → List AcceptedSignatureValue
accepted_in answers algorithms moment trail =
    filter (is_accepted answers) (questions (judge (answers_of (listing algorithms [])) [] moment) trail)

-- the signatures of a lookup that its verifier accepts: those of the trail of its response; without one nothing was judged
abbrev pub accepted_by : VerifierAnswers → LookupValue → List AcceptedSignatureValue
accepted_by answers l = option_map_or (λ response. accepted_in answers l.algorithms l.moment response.trail) (response_in l.answer) []

-- what is saved of a lookup by a verifier
abbrev pub saved_by : VerifierAnswers → LookupValue → SavedValue
saved_by answers l = record {
  moment = l.moment;
  depth = l.depth;
  algorithms = l.algorithms;
  anchors = l.anchors;
  accepts = accepted_by answers l;
  query = l.query;
  replies = l.replies;
}
