use Rattle.std.proofs.Common.{◌≡◌, ℕ, Bool, List, true, false, map, sym, ap, ◌∙◌}
use Rattle.std.specs.Prelude.{nat_eq}
use Rattle.std.specs.Char.{to_ascii_lowercase}
use Rattle.std.specs.Cmp.Lexicographic.{pointwise}
use Rattle.dns_model.specs.Names.{Labels}
use Rattle.dns_model.specs.Nsec3Hash.{base32hex}
use Rattle.dns_model.specs.Owned.{OwnedNsec3}
use Rattle.dns_rules.specs.Nsec3Covering.{first_label}
use Rattle.dns_denial.proofs.HashTexts.{matched}
use Rattle.dns_denial.proofs.nsec3_fields.matches.Goals as goal

-- the test that was made is that of the record's own label
told : (nsec3 : OwnedNsec3) (owner : Labels) (label hash : List ℕ) (written said : Bool) → owner ≡ nsec3.owner
    → label ≡ first_label owner
    → written ≡ pointwise nat_eq (map to_ascii_lowercase label) (base32hex hash) → written ≡ said
    → pointwise nat_eq (map to_ascii_lowercase (first_label nsec3.owner)) (base32hex hash) ≡ said
told nsec3 owner label hash written said inside is same says =
    let own : first_label nsec3.owner ≡ label = sym (is ∙ ap first_label inside) in
    ap (λ l. pointwise nat_eq (map to_ascii_lowercase l) (base32hex hash)) own ∙ sym same ∙ says

pub returns-then-is_written : goal.returns-then-is_written
returns-then-is_written c =
    let hash = c.args.hash.now in
    let inside = ap (λ (n : OwnedNsec3). n.owner) c.nsec3.view_is in
    let says =
    told c.args.nsec3.now c.nsec3.inside.owner c.first_label.result.now hash c.is_written.result true inside
    c.first_label.ensures c.is_written.ensures.same c.if-is_written.true in
    c.is_considered.ensures ∙ matched c.args.nsec3.now hash true c.is_written.ensures.read says

pub returns-else-is_written : goal.returns-else-is_written
returns-else-is_written c =
    let hash = c.args.hash.now in
    let inside = ap (λ (n : OwnedNsec3). n.owner) c.nsec3.view_is in
    let says =
    told c.args.nsec3.now c.nsec3.inside.owner c.first_label.result.now hash c.is_written.result false inside
    c.first_label.ensures c.is_written.ensures.same c.if-is_written.false in
    c.if-is_written.false ∙ matched c.args.nsec3.now hash false c.is_written.ensures.read says
