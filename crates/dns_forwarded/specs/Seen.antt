-- For private functions of this crate only: what contracts see of what they give one another.
use Rattle.std.specs.Prelude.{◌≡◌, ℕ, Bool, not, ◌==◌, ◌&&◌, ◌||◌, [], map, Result, Ok, Err}
use Rattle.std.specs.Borrow.{Bor}
use Rattle.dns_model.specs.Records.{Rr, Question, MessageValue}
use Rattle.dns_record.specs.declared.codes.ResponseCode.{ResponseCode}
use Rattle.dns_forwarded.specs.declared.reply.Reply.{Reply}
use Rattle.dns_model.specs.Sections.{is_signature}
use Rattle.dns_model.specs.SoundAnswers.{is_secure}
use Rattle.dns_forwarded.specs.declared.answer.Showing.{Showing}
use Rattle.dns_forwarded.specs.Replies.{reply_with, is_shown_beside}

-- a question that is lent, or a code
abbrev pub course_seen : Result (Bor Question) ResponseCode → Result Question ℕ
course_seen (Ok q) = Ok q.now
course_seen (Err code) = Err code.0

-- a reply to a request, as a message
abbrev pub message_of : MessageValue → Reply → MessageValue
message_of request r = reply_with request (record {
  code = r.code.0;
  answers = map (λ x. x.now) r.answers.items;
  authorities = map (λ x. x.now) r.authorities.items;
  additionals = map (λ x. x.now) r.additionals.items;
}) r.authentic r.truncated

-- a reply without records
pub record IsBare (r : Reply) : Type 0 where
  pub answers : r.answers.items ≡ []
  pub authorities : r.authorities.items ≡ []
  pub additionals : r.additionals.items ≡ []

-- a client is told this record of a section
abbrev pub is_shown_by : Showing → Rr → Bool
is_shown_by s r = is_shown_beside s.bogus s.dnssec_ok s.query_type.0 r

-- what was asked for, as a record of it
abbrev pub is_asked_for : ℕ → Rr → Bool
is_asked_for qtype r = (r.rtype == qtype) && not (is_signature r)

abbrev pub is_secure_or_signature : Rr → Bool
is_secure_or_signature r = is_signature r || is_secure r.proof
