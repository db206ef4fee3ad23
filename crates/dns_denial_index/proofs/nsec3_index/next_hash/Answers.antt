use Rattle.std.proofs.Common.{◌≡◌, Some, take, ap, ◌∙◌, rules}
use Rattle.dns_denial.proofs.HashTexts.{first_twenty}
use Rattle.dns_denial_index.proofs.nsec3_index.next_hash.Goals as goal

pub returns : goal.returns
returns c =
    let next = c.args.nsec3.now.fields.next in
    let bytes : c.as_slice.result.now ≡ next = search rules in
    ap Some (c.in_ok-hash.ensures.cases.0 ∙ ap (take 20) bytes ∙ first_twenty next c.requires)
