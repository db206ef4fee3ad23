use Rattle.std.proofs.Common.{◌≡◌, true, false, rules, ap, ◌∙◌}
use Rattle.dns_model.specs.Names.{Labels, is_name, star, strictly_above}
use Rattle.dns_rules.specs.NsecVerdict.{closest_encloser}
use Rattle.dns_denial.proofs.Enclosers.{wildcard_is_name, covering_spans}
use Rattle.dns_denial.proofs.verdict.is_proved_by.Goals as goal

pub is_wildcard_denied-requires : goal.is_wildcard_denied-requires
is_wildcard_denied-requires g c =
    let name : Labels = c.args.query.now.owner in
    let nsec = c.args.nsec.now in
    let same : c.copy-name.result ≡ name = search rules in
    let good : is_name name ≡ true = search rules in
    let apart : strictly_above name nsec.fields.next ≡ false = search rules in
    let fits : is_name (star (closest_encloser name nsec)) ≡ true = wildcard_is_name name nsec good
    (covering_spans name (g.R.NsecRecords.records c.args.records.now) nsec c.requires) apart in
    ap (λ n. is_name (star n)) (c.closest_encloser-encloser.ensures ∙ ap (λ n. closest_encloser n nsec) same) ∙ fits
