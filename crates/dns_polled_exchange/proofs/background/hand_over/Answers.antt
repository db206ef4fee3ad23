use Rattle.std.proofs.Common.{rules, ◌≡◌, ℕ, List, subst}
use Rattle.dns_polled_exchange.specs.Backgrounds.{IsHanded}
use Rattle.dns_polled_exchange.proofs.BackgroundLemmas.{handed_by}
use Rattle.dns_polled_exchange.proofs.background.hand_over.Goals as goal

pub returns-clause-handed : goal.returns-clause-handed
returns-clause-handed g c =
    let before = c.args.token.now.known in
    let now = c.arrive.new.token.known in
    let is : c.as_slice.result.now ≡ c.args.message.now.bytes = search rules in
    subst (λ (bytes : List ℕ). IsHanded bytes before now) is
    (handed_by c.as_slice.result.now c.arrive.result before now c.arrive.ensures.ok c.arrive.ensures.err)
