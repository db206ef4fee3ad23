use Rattle.std.proofs.Common.{None, ap, ◌∙◌}
use Rattle.std.specs.Prelude.{min, slice_get}
use Rattle.dns_model.specs.SoundAnswers.{ttl_of}
use Rattle.dns_cache.specs.Proofs.{proved_with}
use Rattle.dns_marks.proofs.CallLemmas.{proved_as_read}
use Rattle.dns_marks.proofs.rrset_proof.proved_by_tested.Goals as goal

pub returns : goal.returns
returns g c =
    c.proved_with.ensures
    ∙ ap (λ ttl. proved_with ttl None)
    (c.ttl_by.ensures ∙ ap (λ left. min (ttl_of (slice_get c.args.tested.now.signature.set.now.records 0)) left) c.ttl_left-left.ensures)
    ∙ proved_as_read c.args.tested.now.moment c.args.tested.now.signature.set.now c.args.tested.now.signature.sig.now
    c.args.tested.now.signature.read.now None c.requires
