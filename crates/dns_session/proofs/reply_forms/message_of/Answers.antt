use Rattle.std.proofs.Common.{◌≤◌, length, arith, sym, ◌∙◌}
use Rattle.dns_text.proofs.OctetLaws.{octets_short}
use Rattle.dns_session.proofs.reply_forms.message_of.Goals as goal

pub from_octets-message-requires : goal.from_octets-message-requires
from_octets-message-requires c =
    let short : length c.in-Some.bytes ≤ length c.args.word.now =
    octets_short c.args.word.now c.in-Some.bytes (sym c.in_ok-bytes.ensures ∙ c.in-Some.is) in
    omega (arith, short)
