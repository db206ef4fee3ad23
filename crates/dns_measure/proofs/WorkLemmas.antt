-- The status of work on an input.
use Rattle.std.proofs.Common.{◌<◌, ◌≡◌, ℕ, List, Result, Ok, Err, inl, inr, arith}
use Rattle.dns_session.specs.SessionValue.{SessionValue}
use Rattle.dns_session.specs.Grammar.{session_of}
use Rattle.dns_session.specs.Stops.{session_status}
use Rattle.dns_measure.specs.Forms.{EndsWork}
use Rattle.dns_measure.specs.declared.form.Work.{Work}
use Rattle.dns_measure.specs.declared.form.Work.TheVariants.{Decode, OnSession, Signatures, Replies, Responses}

small : (told : Result SessionValue ℕ) → session_status told < 4
small (Ok session) = omega arith
small (Err number) = omega arith

session_done : (bytes : List ℕ) (status : ℕ) → status ≡ session_status (session_of bytes) → status < 4
session_done bytes status is =
    let s : session_status (session_of bytes) < 4 = small (session_of bytes) in
    omega (arith, s, is)

-- it is below 4
pub work_done : (work : Work) (bytes : List ℕ) (status : ℕ) → EndsWork work bytes status → status < 4
work_done Decode bytes status (inl is) = omega (arith, is)
work_done Decode bytes status (inr is) = omega (arith, is)
work_done Signatures bytes status (inl is) = omega (arith, is)
work_done Signatures bytes status (inr is) = omega (arith, is)
work_done Replies bytes status (inl is) = omega (arith, is)
work_done Replies bytes status (inr is) = omega (arith, is)
work_done Responses bytes status (inl is) = omega (arith, is)
work_done Responses bytes status (inr is) = omega (arith, is)
work_done (OnSession on) bytes status is = session_done bytes status is
