-- A Secure expansion by NSEC3 records holds in each zone in which they are true: no closer name is there (RFC 5155, 8.8).
use Rattle.std.proofs.Common.{◌≡◌, ℕ, ◌+◌, ◌-◌, ◌≤◌, ◌<◌, true, ◌&&◌, List, length, take, Option, None, Some, refl, sym, ap, ◌∙◌, true≢false, arith, length-drop}
use Rattle.std.specs.Prelude.{nat_le, nat_lt}
use Rattle.std.specs.Option.{is_some}
use Rattle.std.specs.List.{find}
use Rattle.std.proofs.lemmas.Bool.{and_parts}
use Rattle.std.proofs.lemmas.Bool.Decides.{nat_tests}
use Rattle.std.proofs.lemmas.List.{take-append-drop}
use Rattle.dns_model.specs.Names.{Labels, name_eq, at_or_above, last_labels, asterisk, star}
use Rattle.dns_model.specs.Records.{Question}
use Rattle.dns_model.specs.Owned.{OwnedNsec3}
use Rattle.dns_model.specs.declared.proof.Proof.{Proof}
use Rattle.dns_model.specs.declared.proof.Proof.TheVariants.{Secure}
use Rattle.dns_model.specs.declared.answered.Answered.{Answered}
use Rattle.dns_model.specs.declared.answered.Answered.TheVariants.{Expanded}
use Rattle.dns_model.proofs.AboveLemmas.{Ends, above_itself, above_nested, above_one_more, above_is_shorter, below_alike}
use Rattle.dns_model.proofs.CommonAncestors.{ends_above}
use Rattle.dns_rules.specs.Nsec3Covering.{nsec3_matches}
use Rattle.dns_rules.specs.Nsec3Verdict.{Parameters, hashed, covering_name, no_closer_name, verdict_at_name, nsec3_verdict}
use Rattle.dns_rules.specs.Zones.{Zone}
use Rattle.dns_hashed_denial.specs.HashedDenial.{IsMissingWithWildcard, HasNoneCloserByHashes, IsExpandedByHashes}
use Rattle.dns_hashed_denial.proofs.HashedVerdicts.{IsHashedBy, hashed_by, apex_is, IsCoveredIn, covered, holds_in, held_inside, judged}
use Rattle.dns_hashed_denial.proofs.HashedPromises.{secured, covered_missing}

last_ends : (n : ℕ) (name : Labels) → Ends (last_labels n name) name
last_ends n name = record { front = take (length name - n) name; whole = sym (take-append-drop (length name - n) name) }

none_closer : (nsec3s : List OwnedNsec3) (name apex : Labels) (labels : ℕ) (zone : Zone) (by : Parameters)
    (o : Option OwnedNsec3)
    → IsHashedBy nsec3s name zone by → name_eq zone.apex apex ≡ true → at_or_above zone.apex name ≡ true
    → length apex ≤ labels → labels < length name
    → covering_name by nsec3s (last_labels (labels + 1) name) ≡ o → is_some o ≡ true
    → HasNoneCloserByHashes nsec3s name labels zone
none_closer nsec3s name apex labels zone by None s same within few more e h = absurd (true≢false (sym h))
none_closer nsec3s name apex labels zone by (Some nsec3) s same within few more e h = record {
  itself = gone name closer;
  ancestors = λ ancestor above longer. gone ancestor
      (above_nested (last_labels (labels + 1) name) ancestor name closer above (omega (arith, size, longer)));
}
  where
    closer : at_or_above (last_labels (labels + 1) name) name ≡ true
    closer = ends_above (last_labels (labels + 1) name) name (last_ends (labels + 1) name)

    size : length (last_labels (labels + 1) name) ≡ labels + 1
    size = omega (arith, length-drop (length name - (labels + 1)) name, more)

    inside : at_or_above zone.apex (last_labels (labels + 1) name) ≡ true
    inside =
        let short = above_is_shorter zone.apex apex
        (below_alike zone.apex zone.apex apex same (above_itself zone.apex)) in
        above_nested zone.apex (last_labels (labels + 1) name) name within closer (omega (arith, short, few, size))

    c : IsCoveredIn nsec3s zone (last_labels (labels + 1) name) nsec3
    c = covered nsec3s name (last_labels (labels + 1) name) zone by nsec3 s e

    gone : (below : Labels) → at_or_above (last_labels (labels + 1) name) below ≡ true
        → IsMissingWithWildcard nsec3s zone below
    gone below under = record {
      itself = covered_missing nsec3s zone (last_labels (labels + 1) name) below nsec3 inside c under;
      wildcard = covered_missing nsec3s zone (last_labels (labels + 1) name) (star below) nsec3 inside c
          (above_one_more (last_labels (labels + 1) name) asterisk below under);
    }

expanded_by : (by : Parameters) (query : Question) (apex : Labels) (code labels : ℕ) (nsec3s : List OwnedNsec3)
    (zone : Zone) (o : Option OwnedNsec3)
    → IsHashedBy nsec3s query.owner zone by → name_eq zone.apex apex ≡ true → at_or_above zone.apex query.owner ≡ true
    → verdict_at_name by query apex code (Expanded labels) nsec3s o ≡ Secure
    → HasNoneCloserByHashes nsec3s query.owner labels zone
expanded_by by query apex code labels nsec3s zone (Some nsec3) s same within h = cc
expanded_by by query apex code labels nsec3s zone None s same within h =
    let closer = is_some (covering_name by nsec3s (last_labels (labels + 1) query.owner)) in
    let one = and_parts (nat_le (length apex) labels) (nat_lt labels (length query.owner) && closer)
    (secured (no_closer_name by apex nsec3s query.owner labels) h) in
    let two = and_parts (nat_lt labels (length query.owner)) closer one.1 in
    let few : length apex ≤ labels = grind (arith, nat_tests, one.0) in
    let more : labels < length query.owner = grind (arith, nat_tests, two.0) in
    none_closer nsec3s query.owner apex labels zone by
    (covering_name by nsec3s (last_labels (labels + 1) query.owner)) s same within few more refl two.1

-- a Secure verdict on an expanded answer holds in each zone
pub expansion_holds : (query : Question) (apex : Labels) (code labels : ℕ) (nsec3s : List OwnedNsec3) (soft hard : ℕ)
    → nsec3_verdict query apex code (Expanded labels) nsec3s soft hard ≡ Secure → IsExpandedByHashes query labels nsec3s
expansion_holds query apex code labels nsec3s soft hard h =
    let j = judged query apex code (Expanded labels) nsec3s soft hard h in
    λ plain zone shown.
    let same = apex_is nsec3s query.owner apex zone j.by shown j.parameters j.of_zone in
    expanded_by j.by query apex code labels nsec3s zone (find (nsec3_matches (hashed j.by query.owner)) nsec3s)
    (hashed_by nsec3s query.owner zone j.by shown j.parameters) same
    (held_inside zone.apex query (holds_in zone apex query same j.holds)) j.secure

-- the same of what a function answers
pub expansion_of : (query : Question) (apex : Labels) (code : ℕ) (answered : Answered) (nsec3s : List OwnedNsec3)
    (soft hard : ℕ) (proof : Proof) (labels : ℕ)
    → proof ≡ nsec3_verdict query apex code answered nsec3s soft hard → proof ≡ Secure → answered ≡ Expanded labels
    → IsExpandedByHashes query labels nsec3s
expansion_of query apex code answered nsec3s soft hard proof labels is secure expanded =
    expansion_holds query apex code labels nsec3s soft hard
    (ap (λ a. nsec3_verdict query apex code a nsec3s soft hard) (sym expanded) ∙ sym is ∙ secure)
