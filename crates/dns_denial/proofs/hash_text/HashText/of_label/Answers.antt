use Rattle.std.proofs.Common.{◌≡◌, ℕ, true, List, cond, map, None, Some, sym, ap, ◌∙◌}
use Rattle.std.specs.Char.{to_ascii_lowercase}
use Rattle.dns_model.specs.Nsec3Hash.{base32hex, base32hex_bytes, is_hash_text}
use Rattle.dns_denial.proofs.HashTexts.{label_lowered, label_written}
use Rattle.dns_denial.proofs.hash_text.HashText.of_label.Goals as goal

pub invariant_of-result : goal.invariant_of-result
invariant_of-result c =
    let label = c.args.label.now in
    let text : is_hash_text label ≡ true = sym c.if-not-is_hash_text.ensures in
    let low = c.make_ascii_lowercase.ensures.after ∙ ap (map to_ascii_lowercase) c.copy_from_slice.ensures.after in
    ap (λ (t : List ℕ). base32hex (base32hex_bytes t)) low ∙ ap base32hex (label_lowered label text)
    ∙ label_written label text ∙ sym low

pub returns : goal.returns
returns c =
    let label = c.args.label.now in
    let text : is_hash_text label ≡ true = sym c.if-not-is_hash_text.ensures in
    let low = c.make_ascii_lowercase.ensures.after ∙ ap (map to_ascii_lowercase) c.copy_from_slice.ensures.after in
    ap Some (ap base32hex_bytes low ∙ label_lowered label text)
    ∙ sym (ap (λ b. cond b (Some (base32hex_bytes label)) None) text)
