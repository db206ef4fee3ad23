use Rattle.std.proofs.Common.{◌≡◌, [], ◌∙◌}
use Rattle.dns_handle.specs.LetterCase.{label_cased}
use Rattle.dns_handle.proofs.CaseLemmas.{form_cased, labels_of_cased}
use Rattle.dns_handle.proofs.letter_case.name_cased.Goals as goal

pub from_octets-requires : goal.from_octets-requires
from_octets-requires c =
    let same : c.from_vec.result ≡ label_cased c.args.bits.now [] c.wire.result.now = c.from_vec.ensures ∙ c.in_ok-wire.ensures in
    rw (same, c.wire.ensures.value) (form_cased c.args.bits.now c.args.name.now c.wire.ensures.name)

pub returns : goal.returns
returns c =
    let same : c.from_vec.result ≡ label_cased c.args.bits.now [] c.wire.result.now = c.from_vec.ensures ∙ c.in_ok-wire.ensures in
    c.from_octets.ensures ∙ (rw (same, c.wire.ensures.value) (labels_of_cased c.args.bits.now c.args.name.now c.wire.ensures.name))
