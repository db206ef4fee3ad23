use Rattle.std.proofs.Common.{◌++◌, sym, ap, ◌∙◌, append_assoc, rules}
use Rattle.std.specs.List.{flat_map}
use Rattle.std.proofs.Output.{has_written_append}
use Rattle.dns_model.specs.NameText.{printed_label}
use Rattle.dns_record.proofs.shown.NameRefDisplay.fmt.Goals as goal

pub labels-preserved : goal.labels-preserved
labels-preserved g c =
    λ plain.
    let now = c.labels.invariant plain in
    let label = c.in-Some.label.now in (
      now.0 ++ printed_label label,
      has_written_append _ _ _ _ _ _ now.1 (search rules),
      append_assoc now.0 (printed_label label) _ ∙ ap (λ l. now.0 ++ flat_map printed_label l) (sym c.in-Some.ensures) ∙ now.2,
    )
