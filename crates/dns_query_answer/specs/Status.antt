-- The status of what a lookup came to: how far all that was asked is proved (RFC 4035, 4.3).
use Rattle.std.specs.Prelude.{ℕ, ◌≡◌, Bool, true, false, not, ◌==◌, ◌||◌, ◌&&◌, List, Option, Some, Ok, Err, IfSome, if◌then◌else◌}
use Rattle.std.specs.Option.{option_map_or}
use Rattle.std.specs.List.{list_any, list_all}
use Rattle.dns_model.specs.declared.proof.Proof.{Proof}
use Rattle.dns_model.specs.declared.proof.Proof.TheVariants.{Secure, Insecure, Bogus, Indeterminate}
use Rattle.dns_model.specs.declared.denial.Denial.{Denial}
use Rattle.dns_model.specs.declared.denial.Denial.TheVariants as denial
use Rattle.std.specs.Prelude as prelude
use Rattle.dns_model.specs.Records.{Rr, Question}
use Rattle.dns_model.specs.Sections.{is_signature}
use Rattle.dns_model.specs.SoundAnswers.{is_secure}
use Rattle.dns_model.specs.Types.{type_rrsig}
use Rattle.dns_handle.specs.Errors as seen
use Rattle.dns_handle.specs.Errors.{ErrorValue, Reply, Dns, Nsec, DnssecBogus}

-- ---- what counts

-- a record counts that isn't a signature; where signatures are asked for, each does
abbrev pub counts : Question → Rr → Bool
counts q r = not (is_signature r) || (q.rtype == type_rrsig)

-- the mark of what is denied, if anything is
abbrev pub denial_mark : Denial → Option Proof
denial_mark denial.None = prelude.None
denial_mark (denial.Absent mark) = Some mark
denial_mark (denial.Expanded mark) = Some mark

-- ---- marks as statuses

-- what nobody judged counts as Bogus
abbrev pub mark_status : Proof → ℕ
mark_status Secure = 0
mark_status Insecure = 1
mark_status Bogus = 3
mark_status Indeterminate = 3

abbrev pub has_status : ℕ → Proof → Bool
has_status n mark = mark_status mark == n

-- a record that counts, or the denial, has this status
abbrev pub shows_status : ℕ → Question → Option Proof → List Rr → Bool
shows_status n q denial records = list_any (λ r. counts q r && has_status n r.proof) records || option_map_or (has_status n) denial false

-- the worst counts; where there is nothing that counts, nothing is shown
unfoldable pub worst_status : Question → Option Proof → List Rr → ℕ
worst_status q denial records =
    if shows_status 3 q denial records then 3
    else if shows_status 1 q denial records then 1
    else if shows_status 0 q denial records then 0
    else 3

-- ---- the status

-- an answer that is refused counts with the mark of its denial; that validation failed is Bogus; 6 where memory ran out, and 4 where
-- another error stands in place of an answer
abbrev pub error_status : Question → ErrorValue → ℕ
error_status q (Dns (Nsec asked response proof)) = worst_status q (Some proof) response.message.answers
error_status q (Dns DnssecBogus) = 3
error_status q seen.NoMemory = 6
error_status q error = 4

-- the status of what a lookup of a question came to
abbrev pub answer_status : Question → Reply → ℕ
answer_status q (Ok answer) = worst_status q (denial_mark answer.denial) answer.message.answers
answer_status q (Err error) = error_status q error

-- ---- what status 0 says

-- each record that counts is Secure, and so is the denial, if there is one; and one of them is there
pub record IsAllSecure (q : Question) (denial : Option Proof) (records : List Rr) : Type 0 where
  pub all : list_all (λ r. not (counts q r) || is_secure r.proof) records ≡ true
  pub denied : IfSome denial (λ mark. mark ≡ Secure)
  pub some : shows_status 0 q denial records ≡ true

-- so it is of an answer; an error is none
abbrev pub IsProved : Question → Reply → Type 0
IsProved q (Ok answer) = IsAllSecure q (denial_mark answer.denial) answer.message.answers
IsProved q (Err (Dns (Nsec asked response proof))) = IsAllSecure q (Some proof) response.message.answers
IsProved q (Err error) = ⊥
