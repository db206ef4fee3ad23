use Rattle.std.proofs.Common.{◌≡◌, true, refl}
use Rattle.dns_udp.specs.Questions.{asks_alike}
use Rattle.dns_udp.proofs.TalkLemmas.{ok_reply}
use Rattle.dns_udp.proofs.exchange.exchange.Goals as goal

pub returns : goal.returns
returns g c = record {
  id = c.id-id.result;
  mid = c.id-id.new.self;
  drawn = c.id-id.ensures;
  talk = rw c.under_id-request.ensures at c.ask.ensures.talk;
  asks_for = rw c.under_id-request.ensures at c.ask.ensures.asked;
  has_id = ok_reply (λ r. r.message.id ≡ c.id-id.result) c.ask.result
      (rw c.under_id-request.ensures at c.ask.ensures.id);
  has_questions = ok_reply (λ r. asks_alike c.args.request.message.queries r.message.queries ≡ true) c.ask.result
      (rw c.under_id-request.ensures at c.ask.ensures.questions);
  stream = refl;
}
