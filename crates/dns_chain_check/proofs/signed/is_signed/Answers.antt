use Rattle.std.proofs.Common.{sym, ap, ◌∙◌}
use Rattle.dns_model.specs.Views.{rrsig_in}
use Rattle.dns_chain_check.specs.LinkJudges.{link_judge}
use Rattle.dns_chain_check.proofs.Fitting.{by_key, not_good, unfit}
use Rattle.dns_chain_check.proofs.signed.is_signed.Goals as goal

pub returns-then-not-fits : goal.returns-then-not-fits
returns-then-not-fits g c =
    unfit (link_judge g.V.Verifier.answers c.args.judge.now) c.args.earlier.now c.args.set.now.name.now c.args.set.now.dns_class.0
    c.args.set.now.record_type.0 c.args.set.now.rdatas.now c.args.by.now.key_link c.args.by.now.key.now _ c.in-Some.read
    (ap rrsig_in (sym c.as_slice.ensures.bytes) ∙ sym c.read.ensures ∙ c.in-Some.is) (sym c.fits.ensures ∙ c.if-not-fits.true)

pub returns-then-not-branch : goal.returns-then-not-branch
returns-then-not-branch g c =
    not_good (link_judge g.V.Verifier.answers c.args.judge.now) c.args.earlier.now c.args.set.now.name.now c.args.set.now.dns_class.0
    c.args.set.now.record_type.0 c.args.set.now.rdatas.now c.args.by.now.key_link c.args.by.now.key.now _ c.in-Some.read
    (ap rrsig_in (sym c.as_slice.ensures.bytes) ∙ sym c.read.ensures ∙ c.in-Some.is) (sym c.fits.ensures
    ∙ c.if-not-fits.false) (sym c.in_ok-is_good.ensures ∙ c.if-not-branch.true)

pub returns : goal.returns
returns g c =
    c.key_comes.ensures
    ∙ by_key (link_judge g.V.Verifier.answers c.args.judge.now) c.args.earlier.now c.args.set.now.name.now c.args.set.now.dns_class.0
    c.args.set.now.record_type.0 c.args.set.now.rdatas.now c.args.by.now.key_link c.args.by.now.key.now _ c.in-Some.read
    (ap rrsig_in (sym c.as_slice.ensures.bytes) ∙ sym c.read.ensures ∙ c.in-Some.is) (sym c.fits.ensures
    ∙ c.if-not-fits.false) (sym c.in_ok-is_good.ensures ∙ c.if-not-branch.false)
