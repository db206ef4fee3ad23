use Rattle.std.proofs.Common.{◌≤◌, length, arith}
use Rattle.dns_session.proofs.WordLengths.{third_short}
use Rattle.dns_session.proofs.reply_forms.message_after.Goals as goal

pub message_of-requires : goal.message_of-requires
message_of-requires c =
    let short : length c.in-Some.message.now ≤ length c.args.line.now =
    third_short c.args.word.now c.args.line.now _ _ _ c.in-Some.ensures in
    omega (arith, short)
