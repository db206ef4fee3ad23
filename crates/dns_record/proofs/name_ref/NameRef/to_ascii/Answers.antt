use Rattle.std.proofs.Common.{ap, ◌∙◌}
use Rattle.dns_model.specs.NameText.{printed, read_name}
use Rattle.dns_record.proofs.TextLemmas.{read_printed}
use Rattle.dns_record.proofs.name_ref.NameRef.to_ascii.Goals as goal

pub returns-clause-back : goal.returns-clause-back
returns-clause-back c =
    ap read_name (c.from_string.ensures ∙ c.in_ok-text.ensures.ok ∙ ap printed c.copy-name.ensures.value)
    ∙ read_printed c.args.self.now c.copy-name.ensures.name c.copy-name.ensures.bytes
