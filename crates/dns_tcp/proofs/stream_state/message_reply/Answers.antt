use Rattle.std.proofs.Common.{◌≡◌, Bool, true, false, ap, sym}
use Rattle.dns_tcp.specs.Feeding.{message_reply}
use Rattle.dns_tcp.proofs.FeedLemmas.{some_reply}
use Rattle.dns_tcp.proofs.stream_state.message_reply.Goals as goal

not_both : (b : Bool) → b ≡ true → b ≡ false → ⊥
not_both true t f = cc
not_both false t f = cc

pub returns-then-is_empty : goal.returns-then-is_empty
returns-then-is_empty c = ap (message_reply c.args.peer) (sym (c.is_empty.ensures.0 c.if-is_empty.true))

pub returns : goal.returns
returns c = sym (some_reply c.args.peer c.args.bytes (λ e. not_both _ (c.is_empty.ensures.1 e) c.if-is_empty.false))
