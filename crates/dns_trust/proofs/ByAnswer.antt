-- The verdict of a signature by the answer to its ask, and the chain by which it proves its set.
use Rattle.std.proofs.Common.{◌≡◌, Bool, true, false, List, [], Option, None, Some, refl, ap, ◌∙◌}
use Rattle.std.specs.Prelude.{if◌then◌else◌}
use Rattle.std.specs.Option.{option_map}
use Rattle.std.specs.List.{find}
use Rattle.dns_model.specs.Names.{Labels}
use Rattle.dns_model.specs.Views.{RrsigValue}
use Rattle.dns_model.specs.RecordViews.{rrsig_of}
use Rattle.dns_model.specs.Records.{Rr, RrSet}
use Rattle.dns_model.specs.Chains.{Judge}
use Rattle.dns_model.proofs.EachLemmas.{find-map}
use Rattle.dns_rules.specs.Marks.{Failed, is_key_set_of, may_be_signed, verdict_of}
use Rattle.dns_rules.specs.ChainedSets.{ChainedSet, bare, ChainedVerdict, with_chain, chain_by_set, chain_by_read, chained_verdict}
use Rattle.dns_rules.specs.MarkParts.{by_key_set, verdict_by}
use Rattle.dns_trust.specs.Verdicts.{chained_by_set}

-- no verdict but a proof has a chain
abbrev pub failed : ChainedVerdict
failed = record { verdict = Failed; chain = [] }

pub no_answer : (j : Judge) (set : RrSet) (r : Rr) → failed ≡ chained_verdict j set r None
unfolding chained_verdict verdict_of
no_answer j set r = refl

-- the verdict by a key set, if there is one
abbrev by_found : Judge → RrSet → Rr → Labels → Option ChainedSet → ChainedVerdict
by_found j set r signer o = with_chain (by_key_set j set r signer (option_map (λ c. c.judged) o)) (chain_by_set j set r signer o)

abbrev by_whole : Judge → RrSet → Rr → List ChainedSet → RrsigValue → Bool → ChainedVerdict
by_whole j set r cs sig whole =
    with_chain (if whole then by_key_set j set r sig.signer (find (is_key_set_of set.class sig.signer) (bare cs)) else Failed)
    (chain_by_set j set r sig.signer (find (λ c. is_key_set_of set.class sig.signer c.judged) cs))

by_read : (j : Judge) (set : RrSet) (r : Rr) (cs : List ChainedSet) (sig : RrsigValue) → rrsig_of r ≡ Some sig
    → chained_verdict j set r (Some cs)
    ≡ by_whole j set r cs sig (may_be_signed set sig)
unfolding chained_verdict verdict_of
by_read j set r cs sig is = ap (λ o. with_chain (verdict_by j set r (bare cs) o) (chain_by_read j set r cs o)) is

-- a set that its signature doesn't fit is proved by none
pub unfit : (j : Judge) (set : RrSet) (r : Rr) (cs : List ChainedSet) (sig : RrsigValue) → rrsig_of r ≡ Some sig
    → may_be_signed set sig ≡ false
    → chained_verdict j set r (Some cs) ≡ failed
unfit j set r cs sig is h = by_read j set r cs sig is ∙ ap (by_whole j set r cs sig) h

by_fit : (j : Judge) (set : RrSet) (r : Rr) (cs : List ChainedSet) (sig : RrsigValue) (o : Option ChainedSet) → rrsig_of r ≡ Some sig
    → may_be_signed set sig ≡ true
    → find (λ c. is_key_set_of set.class sig.signer c.judged) cs ≡ o → chained_verdict j set r (Some cs) ≡ by_found j set r sig.signer o
by_fit j set r cs sig o is h found =
    let test = is_key_set_of set.class sig.signer in
    by_read j set r cs sig is ∙ ap (by_whole j set r cs sig) h
    ∙ ap (λ k. with_chain (by_key_set j set r sig.signer k) (chain_by_set j set r sig.signer (find (λ c. test c.judged) cs)))
    (find-map test (λ c. c.judged) cs)
    ∙ ap (by_found j set r sig.signer) found

-- none is proved where the answer has no key set of the signer
pub no_key_set : (j : Judge) (set : RrSet) (r : Rr) (cs : List ChainedSet) (sig : RrsigValue) → rrsig_of r ≡ Some sig
    → may_be_signed set sig ≡ true
    → find (λ c. is_key_set_of set.class sig.signer c.judged) cs ≡ None → chained_verdict j set r (Some cs) ≡ failed
no_key_set j set r cs sig is h found = by_fit j set r cs sig None is h found

pub key_set_decides : (j : Judge) (set : RrSet) (r : Rr) (cs : List ChainedSet) (sig : RrsigValue) (keys : ChainedSet)
    → rrsig_of r ≡ Some sig
    → may_be_signed set sig ≡ true
    → find (λ c. is_key_set_of set.class sig.signer c.judged) cs ≡ Some keys
    → chained_verdict j set r (Some cs) ≡ chained_by_set j set r sig.signer keys
key_set_decides j set r cs sig keys is h found = by_fit j set r cs sig (Some keys) is h found
