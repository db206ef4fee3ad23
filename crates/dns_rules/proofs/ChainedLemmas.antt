-- Sets that were judged stand, whatever the upstream said; and without their chains they are what the tables of marks say.
use Rattle.std.proofs.Common.{◌≡◌, ℕ, true, false, ◌==◌, List, [], ◌∷◌, map, Option, None, Some, refl, ap}
use Rattle.std.specs.Option.{option_map}
use Rattle.std.specs.List.{filter, AllByRecursion}
use Rattle.dns_model.specs.Types.{type_dnskey}
use Rattle.dns_model.specs.Records.{Rr, RrSet, Question}
use Rattle.dns_model.specs.Chains.{LinkValue, Judge}
use Rattle.dns_model.specs.SoundAnswers.{Told, PlacedSet, placed_sets}
use Rattle.dns_model.proofs.EachLemmas.{each_filter}
use Rattle.dns_model.proofs.SetLemmas.{IsProper, proper_placed}
use Rattle.dns_rules.specs.MarkedSets.{placed_of}
use Rattle.dns_rules.specs.Marks.{Verdict, Proved, Failed, is_skipped, verdict_of, judged_by}
use Rattle.dns_rules.specs.Marks as marks
use Rattle.dns_rules.specs.Delegations.{ZoneVerdict, Signed, Insecure, Bogus, zone_verdict}
use Rattle.dns_rules.specs.Unsigned.{unsigned_by}
use Rattle.dns_rules.specs.KeySets.{judged_keys}
use Rattle.dns_rules.specs.ChainedSets.{ChainedSet, bare, stands, chain_by, ChainedVerdict, with_chain, chained_verdict, bare_verdicts, chained_by, chained_unsigned, chained_keys, chained_by_ds}
use Rattle.dns_rules.specs.Asking.{is_judged_at, judged_part}
use Rattle.dns_rules.proofs.StandLemmas.{IsChainFor, IsGoodVerdict, proof_is_chain}

-- ---- what is shown of sets

abbrev pub AllStand : Judge → List ChainedSet → Type 0
AllStand j cs = AllByRecursion (λ c. stands j c ≡ true) cs

abbrev pub AreProper : List PlacedSet → Type 0
AreProper ps = AllByRecursion (λ p. IsProper p.set) ps

-- sets that were judged are the sets, in order, and stand
pub record AreJudged (j : Judge) (ps : List PlacedSet) (cs : List ChainedSet) : Type 0 where
  pub grouped : map placed_of (bare cs) ≡ ps
  pub stand : AllStand j cs

-- the sets of an answer stand
abbrev pub IsGoodAnswer : Judge → Option (List ChainedSet) → Type 0
IsGoodAnswer j None = Unit {0}
IsGoodAnswer j (Some cs) = AllStand j cs

-- ---- without their chains

with_chain-verdict : (v : Verdict) (chain : List LinkValue) → (with_chain v chain).verdict ≡ v
with_chain-verdict Proved chain = refl
with_chain-verdict marks.Insecure chain = refl
with_chain-verdict Failed chain = refl

-- the verdict is that of the table
pub chained_verdict-bare : (j : Judge) (set : RrSet) (r : Rr) (answer : Option (List ChainedSet))
    → (chained_verdict j set r answer).verdict ≡ verdict_of j set r (option_map bare answer)
unfolding chained_verdict
chained_verdict-bare j set r answer = with_chain-verdict (verdict_of j set r (option_map bare answer)) (chain_by j set r answer)

-- so is the set that its verdicts judge
pub chained_by-bare : (p : PlacedSet) (vs : List ChainedVerdict) → (chained_by p vs).judged ≡ judged_by p (bare_verdicts vs)
chained_by-bare p vs = refl

-- and the unsigned set whose zone was searched
pub chained_unsigned-bare : (p : PlacedSet) (zone : ZoneVerdict) → (chained_unsigned p zone).judged ≡ unsigned_by p zone
chained_unsigned-bare p zone = refl

-- and the key set that asks for no DS set
pub chained_keys-bare : (j : Judge) (p : PlacedSet) → (chained_keys j p).judged ≡ judged_keys j p None
unfolding chained_keys judged_keys
chained_keys-bare j p = refl

-- and the key set that asks for one
pub chained_by_ds-bare : (j : Judge) (p : PlacedSet) (answer : Option (List ChainedSet))
    → (chained_by_ds j p answer).judged
    ≡ judged_keys j p (Some (zone_verdict j.answers p.set.class p.set.owner (option_map bare answer)))
unfolding chained_by_ds judged_keys
chained_by_ds-bare j p answer = refl

-- ---- which set was judged

pub placed_of-judged_keys : (j : Judge) (p : PlacedSet) (verdict : Option ZoneVerdict) → placed_of (judged_keys j p verdict) ≡ p
unfolding judged_keys
placed_of-judged_keys j p verdict = refl

pub placed_of-judged_by : (p : PlacedSet) (vs : List Verdict) → placed_of (judged_by p vs) ≡ p
unfolding judged_by
placed_of-judged_by p vs = refl

pub placed_of-unsigned_by : (p : PlacedSet) (zone : ZoneVerdict) → placed_of (unsigned_by p zone) ≡ p
unfolding unsigned_by
placed_of-unsigned_by p zone = refl

-- ---- unsigned sets

-- an unsigned set never is Secure, so that no chain is needed
pub chained_unsigned-stands : (j : Judge) (p : PlacedSet) (zone : ZoneVerdict) → stands j (chained_unsigned p zone) ≡ true
unfolding unsigned_by
chained_unsigned-stands j p (Signed ds) = refl
chained_unsigned-stands j p (Insecure kind) = refl
chained_unsigned-stands j p (Bogus kind) = refl

-- ---- verdicts

verdict_step : (j : Judge) (set : RrSet) (r : Rr) (v : Verdict) (chain : List LinkValue) → (v ≡ Proved → IsChainFor j set chain (Some r))
    → IsGoodVerdict j set r (with_chain v chain)
verdict_step j set r Proved chain h = record { chain = λ proved. h refl }
verdict_step j set r marks.Insecure chain h = record { chain = λ proved. cc }
verdict_step j set r Failed chain h = record { chain = λ proved. cc }

-- a signature that wasn't asked for proves nothing
pub failed_verdict : (j : Judge) (set : RrSet) (r : Rr) → IsGoodVerdict j set r (with_chain Failed [])
failed_verdict j set r = verdict_step j set r Failed [] (λ proved. cc)

none_proves : (j : Judge) (set : RrSet) (r : Rr) → verdict_of j set r None ≡ Proved → ⊥
unfolding verdict_of
none_proves j set r h = cc

-- a verdict by an answer whose sets stand proves its set by a chain that is for it
pub good_verdict : (j : Judge) (set : RrSet) (q : Question) (r : Rr) (answer : Option (List ChainedSet))
    → IsProper set → (set.rtype == type_dnskey) ≡ false → is_skipped q set r ≡ false → IsGoodAnswer j answer
    → IsGoodVerdict j set r (chained_verdict j set r answer)
unfolding chained_verdict
good_verdict j set q r None proper other asked good =
    verdict_step j set r (verdict_of j set r None) (chain_by j set r None) (λ proved. absurd (none_proves j set r proved))
good_verdict j set q r (Some cs) proper other asked good =
    verdict_step j set r (verdict_of j set r (Some (bare cs))) (chain_by j set r (Some cs))
    (proof_is_chain j set q r cs proper other asked good)

-- ---- the sets of a step

filter_all : {X : Type 0} (xs : List X) → filter (λ x. true) xs ≡ xs
filter_all [] = refl
filter_all (x ∷ xs) = ap (λ ys. x ∷ ys) (filter_all xs)

-- at the top all sets are judged
pub judged_part-top : (told : Told) → judged_part 0 told ≡ placed_sets told
judged_part-top told = filter_all (placed_sets told)

-- the sets that are judged of a reply are proper
pub proper_part : (depth : ℕ) (told : Told) → AreProper (judged_part depth told)
proper_part depth told = each_filter (λ p. IsProper p.set) (λ p. is_judged_at depth p.set.rtype) (placed_sets told) (proper_placed told)
