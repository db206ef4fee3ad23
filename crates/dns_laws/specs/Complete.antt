-- What follows for a valid session: the set that was queried is Secure, and no other queries are asked than those that lead from it to
-- an anchor (RFC 4035, 4.3 and 5).
use Rattle.std.specs.Prelude.{◌≡◌, ℕ, Bool, true, false, not, ◌&&◌, ◌||◌, List, [], ◌∷◌, ◌++◌, Option, Some}
use Rattle.std.specs.List.{list_any, list_all}
use Rattle.dns_model.specs.declared.denial.Denial.TheVariants as denial
use Rattle.dns_model.specs.declared.proof.Proof.TheVariants.{Secure}
use Rattle.dns_model.specs.declared.section.Section.TheVariants.{Answer}
use Rattle.dns_model.specs.Records.{Rr, RrSet, Question, question_eq}
use Rattle.dns_model.specs.Chains.{Judge}
use Rattle.dns_model.specs.SoundAnswers.{Told, is_secure}
use Rattle.dns_model.specs.Trails.{AskedValue, Answered}
use Rattle.dns_rules.specs.MarkedSets.{MarkedSet}
use Rattle.dns_rules.specs.CacheEntries.{EntryValue, mark_of}
use Rattle.dns_rules.specs.Marking.{marked_section}
use Rattle.dns_rules.specs.Derivation.{told_in, judged_sets, top_step, in_send_order}
use Rattle.dns_laws.specs.Straight.{is_queried}
use Rattle.dns_laws.specs.Valid.{straight_set}
use Rattle.dns_model.specs.Paired.{ArePaired}

-- ---- what is told

-- an upstream: what it tells to a query, and what a send leaves of it. A send changes nothing for another query, and the case of
-- letters tells no query from another
pub record Upstream (R : Type 0) : Type 0 where
  pub tells : R → Question → Option Told
  pub left : R → Question → R
  pub stays : (r : R) (q other : Question) → question_eq q other ≡ false → tells (left r q) other ≡ tells r other
  pub alike : (r : R) (q other : Question) → question_eq q other ≡ true → tells r q ≡ tells r other

-- each step heard what the upstream tells at its send
abbrev pub HeardAlong : {R : Type 0} → Upstream R → R → List AskedValue → Type 0
HeardAlong up r [] = Unit {0}
HeardAlong up r (step ∷ steps) = (told_in step.reply ≡ up.tells r step.query) × HeardAlong up (up.left r step.query) steps

-- ---- what was kept before

-- each entry says Secure
abbrev pub are_secure : List EntryValue → Bool
are_secure entries = list_all (λ e. is_secure (mark_of e.found)) entries

-- ---- what follows

-- the steps ask these queries
abbrev pub AreAsked : List Question → List AskedValue → Type 0
AreAsked queries steps = ArePaired (λ q step. question_eq q step.query ≡ true) queries steps

-- the records that were queried are there, and each is Secure
abbrev pub shows_secure : Question → List Rr → Bool
shows_secure q answers =
    list_any (is_queried q) answers && list_all (λ r. not (is_queried q r) || is_secure r.proof) answers

-- a trail that proves a query by the queries after it: its last step ends with an answer, and the set that it judges, its only one,
-- is that of the straight reply, and Secure, with each record that was queried; its steps are the first queries of the list, one for each, in the
-- order of the sends, and all of them where nothing was kept before
pub record ProvesQuery (j : Judge) (cached : List EntryValue) (tells : Question → Option Told) (q : Question) (queries : List Question) (trail : List AskedValue) : Type 0 where
  pub top : AskedValue
  pub last : top_step trail ≡ Some top
  pub told : Told
  pub heard : told_in top.reply ≡ Some told
  pub set : RrSet
  pub straight : straight_set j tells q ≡ Some set
  pub judged : MarkedSet
  pub sets : judged_sets top ≡ judged ∷ []
  pub section : judged.section ≡ Answer
  pub is : judged.set ≡ set
  pub secure : judged.mark ≡ Secure
  pub ending : top.ending ≡ Answered denial.None
  pub front : List Question
  pub unused : List Question
  pub whole : front ++ unused ≡ queries
  pub all : cached ≡ [] → unused ≡ []
  pub asked : AreAsked (q ∷ front) (in_send_order trail)
  pub records : (now : ℕ) → shows_secure q (marked_section now (judged_sets top) Answer told.answers) ≡ true
