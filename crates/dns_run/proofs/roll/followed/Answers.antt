use Rattle.std.proofs.Common.{rules, ◌≡◌, ◌∙◌}
use Rattle.std.proofs.lemmas.Result.{IfOk-weaker}
use Rattle.dns_evidence.specs.Listing.{answers_of}
use Rattle.dns_session_lookup.specs.Verifying.{listing}
use Rattle.dns_run.proofs.RollLemmas.{followed_is}
use Rattle.dns_run.proofs.roll.followed.Goals as goal

pub returns : goal.returns
returns c =
    let told : answers_of c.in_ok-verifier.verifier
    ≡ answers_of (listing c.args.text.algorithms c.args.text.accepts) = search rules in
    let in_zone : c.text.inside.zone ≡ c.args.text.zone = search rules in
    let given : c.deref-2.result.now ≡ c.args.text.keys = search rules in
    let seen : c.deref-3.result.now ≡ c.args.text.sights = search rules in
    IfOk-weaker c.write_trusted.result _ _
    (λ v is. is ∙ followed_is c.args.text _ _ _ _ told in_zone given seen)
    c.write_trusted.ensures
