use Rattle.std.proofs.Common.{◌≡◌, ◌++◌, ◌∷◌, [], OnOk, subst}
use Rattle.dns_bench_zones.specs.NestedZones.{told_with}
use Rattle.dns_bench_zones.proofs.upstream.tell_signed.Goals as goal

pub returns : goal.returns
returns c =
    let before = c.args.handle.now in
    subst
    (λ s. OnOk c.tell.result
    (c.tell.new.handle ≡ record before { replies = before.replies ++ told_with c.args.about (s ∷ []) ∷ [] }))
    c.in_ok-signature.ensures c.tell.ensures
