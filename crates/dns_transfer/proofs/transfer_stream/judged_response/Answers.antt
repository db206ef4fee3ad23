use Rattle.std.proofs.Common.{rules}
use Rattle.dns_transfer.specs.Transfers.{stage_after}
use Rattle.dns_transfer.proofs.StreamLemmas.{given_err}
use Rattle.dns_transfer.proofs.transfer_stream.judged_response.Goals as goal

pub returns-in-Err-clause-given : goal.returns-in-Err-clause-given
returns-in-Err-clause-given c =
    given_err (stage_after c.args.transfer.now c.args.response.message.answers) c.in-Err.notice c.args.response (search rules)
