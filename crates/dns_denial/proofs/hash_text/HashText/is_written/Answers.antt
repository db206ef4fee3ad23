use Rattle.std.proofs.Common.{map, sym, ap, ◌∙◌}
use Rattle.std.specs.Char.{to_ascii_lowercase}
use Rattle.dns_model.specs.Nsec3Hash.{base32hex, base32hex_bytes}
use Rattle.dns_model.proofs.HashTextLemmas.{text_low}
use Rattle.dns_denial.proofs.HashTexts.{folded_is}
use Rattle.dns_denial.proofs.hash_text.HashText.is_written.Goals as goal

pub returns-clause-same : goal.returns-clause-same
returns-clause-same c =
    let text = c.self.inside.text in
    let low =
    ap (map to_ascii_lowercase) (c.as_slice.ensures ∙ sym c.self.invariant) ∙ text_low (base32hex_bytes text)
    ∙ ap base32hex c.self.view_is in
    folded_is c.args.label.now (map to_ascii_lowercase c.as_slice.result.now) c.args.self.now
    c.eq_ignore_ascii_case.result
    c.eq_ignore_ascii_case.ensures.test low
