-- What AD in a reply promises: chains, or a denial that holds in every zone (RFC 4035, 3.2.3 and 5.3; RFC 6840, 5.8).
use Rattle.std.specs.Prelude.{◌≡◌, ℕ, Bool, true, not, ◌==◌, ◌&&◌, List, [], Some, IfSome}
use Rattle.std.specs.List.{AllByRecursion, list_any}
use Rattle.dns_model.specs.declared.section.Section.TheVariants.{Answer}
use Rattle.dns_model.specs.Chains.{Judge, judge}
use Rattle.dns_model.specs.Records.{Rr, Question}
use Rattle.dns_model.specs.Sections.{is_signature, sets_of}
use Rattle.dns_model.specs.SoundAnswers.{ChainValue, ResponseValue, PlacedSet, IsChainOf, in_section, told_by}
use Rattle.dns_evidence.specs.declared.verifier.Verifier as verifier
use Rattle.dns_laws.specs.OwnDenials.{DeniesAnswer}
use Rattle.dns_lookup.specs.Calls.{anchors_of, verifier_of}
use Rattle.dns_lookup.specs.declared.handle.DnssecDnsHandle.{DnssecDnsHandle}
use Rattle.dns_forwarded.specs.Laws.{has_ad}
use Rattle.dns_forwarded.specs.Requests.{received_of, query_of}
use Rattle.dns_forwarded.specs.declared.outcome.Outcome.{Outcome}
use Rattle.dns_forwarded.specs.declared.outcome.Outcome.TheVariants.{Answered}
use Rattle.dns_respond.specs.declared.exchanged.Exchanged.{Exchanged}

-- a set has a chain, which ends at it and is justified
pub record HasChain (j : Judge) (placed : PlacedSet) : Type 0 where
  pub chain : ChainValue
  pub is : IsChainOf j chain placed

-- each set of an answer section has one
abbrev pub HaveChains : Judge → List Rr → Type 0
HaveChains j answers = AllByRecursion (λ set. HasChain j (in_section Answer set)) (sets_of answers)

-- an answer section has a record of the type that is asked for, no signature
abbrev pub has_type : ℕ → List Rr → Bool
has_type rtype answers = list_any (λ r. (r.rtype == rtype) && not (is_signature r)) answers

-- what is asked for is there, and each set of the answer section has a justified chain; or that section is empty, and no zone in which the
-- Secure records of the denial are true has an answer
pub data IsProved (j : Judge) (q : Question) (a : ResponseValue) : Type 0 where
  ByChains : has_type q.rtype a.message.answers ≡ true → HaveChains j a.message.answers → IsProved j q a
  ByDenial : a.message.answers ≡ [] → DeniesAnswer q (told_by a.message) → IsProved j q a

-- the question of a request was answered, and that is proved
pub record AnswersProved (j : Judge) (request : List ℕ) (outcome : Outcome) : Type 0 where
  pub query : Question
  pub response : ResponseValue
  pub asked : query_of (received_of request) ≡ Some query
  pub answered : outcome ≡ Answered response
  pub proved : IsProved j query response

-- where AD is set in the reply of an exchange, that is so by what the validator trusts and tests by
abbrev pub ProvesAd : {H V C : Type 0} → verifier.Ghosts V → DnssecDnsHandle H V C → Exchanged → Type 0
ProvesAd tests validator e = IfSome e.reply (λ bytes. has_ad bytes ≡ true
    → AnswersProved (judge (tests.answers (verifier_of validator)) (anchors_of validator) e.moment) e.request e.outcome)
