use Rattle.std.proofs.Common.{◌≡◌, length, ap, ◌∙◌, arith, rules}
use Rattle.std.specs.Cmp.Lexicographic.{slice_cmp}
use Rattle.std.specs.Ordering.{nat_cmp, is_lt}
use Rattle.dns_model.specs.Nsec3Hash.{base32hex_bytes}
use Rattle.dns_rules.specs.Nsec3Covering.{hash_before}
use Rattle.dns_denial.proofs.HashTexts.{texts_order}
use Rattle.dns_denial.proofs.hash_text.HashText.comes_before.Goals as goal

pub returns : goal.returns
returns c =
    let one = c.self.inside.text in
    let two = c.other.inside.text in
    let first : length one ≡ 32 = omega (arith, c.self.told) in
    let second : length two ≡ 32 = omega (arith, c.other.told) in
    let texts : c.cmp.result ≡ slice_cmp nat_cmp one two = search rules in
    let less : c.eq.result ≡ is_lt c.cmp.result = search rules in
    less ∙ ap is_lt (texts ∙ texts_order one two first second c.self.invariant c.other.invariant)
    ∙ ap (λ h. hash_before h (base32hex_bytes two)) c.self.view_is ∙ ap (hash_before c.args.self.now) c.other.view_is
