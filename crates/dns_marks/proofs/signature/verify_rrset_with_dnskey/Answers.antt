use Rattle.std.proofs.Common.{◌≡◌, ◌+◌, sym, subst, ◌∙◌}
use Rattle.dns_cache.specs.Kinds.{out_of_memory}
use Rattle.dns_marks.specs.KeySignatures.{Unless}
use Rattle.dns_marks.proofs.CallLemmas.{calls_as_read}
use Rattle.dns_marks.proofs.signature.verify_rrset_with_dnskey.Goals as goal

pub returns-clause-calls : goal.returns-clause-calls
returns-clause-calls g c =
    subst (λ n. Unless out_of_memory c.verify_read.result (c.verify_read.new.steps ≡ c.args.steps.now + n))
    (sym (calls_as_read (g.V.Verifier.answers c.args.verifier.now) _ _ _ _ _ _ (sym c.of.ensures
    ∙ c.in-Some-Some.is-0) (sym c.of-2.ensures ∙ c.in-Some-Some.is-1)))
    c.verify_read.ensures.calls

pub verify_read-requires : goal.verify_read-requires
verify_read-requires g c = sym c.of.ensures ∙ c.in-Some-Some.is-0
