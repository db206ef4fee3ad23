use Rattle.std.proofs.Common.{rules, ◌≡◌, ◌++◌, List, subst, sym}
use Rattle.dns_aggressive.specs.Flags.{IsStored}
use Rattle.dns_aggressive.specs.Lists.{AreAmong, kept_after}
use Rattle.dns_aggressive.specs.Records.{KeptValue}
use Rattle.dns_aggressive.specs.Taking.{taken}
use Rattle.dns_aggressive.proofs.Learned.{after_among, stored_after}
use Rattle.dns_aggressive.proofs.negative_store.NegativeStore.learn.Goals as goal

pub invariant_of-self-2 : goal.invariant_of-self-2
invariant_of-self-2 c =
    let before = c.self.inside.kept in
    let limit = c.self.inside.limit in
    let same : c.learn.new.self
    ≡ kept_after limit before (taken c.args.response.now c.args.now) = search rules in
    subst IsStored (sym same) (stored_after limit before c.args.response.now c.args.now c.self.invariant)

pub returns-clause-from : goal.returns-clause-from
returns-clause-from c =
    let before = c.args.self.now.kept in
    let limit = c.args.self.now.limit in
    let same : c.learn.new.self
    ≡ kept_after limit before (taken c.args.response.now c.args.now) = search rules in
    subst (λ (l : List KeptValue). AreAmong l (before ++ taken c.args.response.now c.args.now)) (sym same)
    (after_among limit (before ++ taken c.args.response.now c.args.now))
