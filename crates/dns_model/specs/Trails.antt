-- The trail of a lookup: what it asked, what it heard, and how it judged that, step by step (RFC 4035, 4.3 and 5).
use Rattle.std.specs.Prelude.{ℕ, Bool, List, Option}
use Rattle.dns_model.specs.declared.proof.Proof.{Proof}
use Rattle.dns_model.specs.declared.section.Section.{Section}
use Rattle.dns_model.specs.declared.denial.Denial.{Denial}
use Rattle.dns_model.specs.declared.trail.AskRef.{AskRef}
use Rattle.dns_model.specs.declared.trail.MarkOrigin.{MarkOrigin}
use Rattle.dns_model.specs.Names.{Labels}
use Rattle.dns_model.specs.Records.{Question}
use Rattle.dns_model.specs.Told.{Told}

-- what was heard of a reply: the records that it tells, and whether it said that there are none; or a fault
pub data HeardValue : Type 0 where
  Records : (told : Told) (empty : Bool) → HeardValue
  Fault : HeardValue

-- a set of a step with its mark, where the mark comes from, the place of the signature that decided, and the asks in order
pub record JudgedSetValue : Type 0 where
  pub section : Section
  pub owner : Labels
  pub rtype : ℕ
  pub mark : Proof
  pub origin : MarkOrigin
  pub sig : Option ℕ
  pub asked : List AskRef

-- how a step ends: with an answer, with a denial of it, with a record of another class, without a judgement, or unjudged
pub data EndingValue : Type 0 where
  Answered : (denial : Denial) → EndingValue
  Denied : (proof : Proof) → EndingValue
  Foreign : (owner : Labels) (class rtype : ℕ) → EndingValue
  Failed : EndingValue
  Seen : EndingValue

-- a step: a question asked at a depth, to judge what is heard or only to see it; `excuse` names the asks of its ending
pub record AskedValue : Type 0 where
  pub depth : ℕ
  pub judged : Bool
  pub query : Question
  pub reply : HeardValue
  pub sets : List JudgedSetValue
  pub ending : EndingValue
  pub excuse : List AskRef
