-- For the calls of this crate, and for no promise of a check or a lookup: verdicts of signatures with their chains, as
-- the plain ones.
use Rattle.std.specs.Prelude.{List, [], map, Option, None, Some, if◌then◌else◌, Vec}
use Rattle.std.specs.List.{find}
use Rattle.dns_model.specs.declared.proof.Proof.TheVariants.{Secure}
use Rattle.dns_model.specs.Names.{Labels}
use Rattle.dns_model.specs.Records.{Rr, RrSet}
use Rattle.dns_model.specs.Chains.{Judge, LinkValue}
use Rattle.dns_evidence.specs.Link.{link_value}
use Rattle.dns_rules.specs.Marks as marks
use Rattle.dns_rules.specs.MarkParts.{by_key_set}
use Rattle.dns_rules.specs.ChainedSets.{ChainedSet, ChainedVerdict, with_chain, chain_by_key, chain_by_set}
use Rattle.dns_trust.specs.declared.set_signature.SetSignature.{SetSignature}
use Rattle.dns_trust.specs.declared.verdict.Verdict.{Verdict}
use Rattle.dns_trust.specs.declared.verdict.Verdict.TheVariants.{Proved, Insecure, Failed}
use Rattle.dns_trust.specs.SetSignatures.{is_good_of}

abbrev pub verdict_value : Verdict → ChainedVerdict
verdict_value (Proved links) = record { verdict = marks.Proved; chain = map link_value links.items }
verdict_value Insecure = record { verdict = marks.Insecure; chain = [] }
verdict_value Failed = record { verdict = marks.Failed; chain = [] }

-- the links of a verdict that proves
abbrev pub links_of : ChainedVerdict → Option (List LinkValue)
links_of v = if marks.is_proved v.verdict then Some v.chain else None

-- the sets of an answer, if there is one
abbrev pub listed : {X Z : Type 0} → Option (Vec X Z) → Option (List X)
listed None = None
listed (Some sets) = Some sets.items

-- for private functions of this crate only

-- the verdict by the key set that was asked for
abbrev pub chained_by_set : Judge → RrSet → Rr → Labels → ChainedSet → ChainedVerdict
chained_by_set j set r signer keys =
    with_chain (by_key_set j set r signer (Some keys.judged)) (chain_by_set j set r signer (Some keys))

-- the verdict by some counted keys of a Secure key set, which a chain shows
abbrev pub chained_by_secure : Judge → SetSignature → List LinkValue → List Rr → ChainedVerdict
chained_by_secure j signature chain keys =
    with_chain (marks.by_keys j signature.set.now signature.sig.now Secure keys)
    (chain_by_key signature.set.now signature.sig.now chain (find (is_good_of j signature) keys))
