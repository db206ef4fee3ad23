use Rattle.std.proofs.Common.{◌≡◌, ℕ, List, Option, Some, ap, ◌∙◌}
use Rattle.dns_rules.specs.Nsec3Covering.{lies_between, owner_hash}
use Rattle.dns_denial.proofs.HashTexts.{owner_decoded}
use Rattle.dns_denial.proofs.hash_covering.is_farther.Goals as goal

of_some : {X : Type 0} {x y : X} → ◌≡◌ {A = Option X} (Some x) (Some y) → x ≡ y
of_some h = cc

pub returns-in-Some-Some : goal.returns-in-Some-Some
returns-in-Some-Some c =
    let one = c.args.one.now in
    let two = c.args.two.now in
    let first : c.in-Some-Some.first ≡ owner_hash one = of_some
    (c.in-Some-Some.ensures ∙ owner_decoded one c.requires.one) in
    let second : c.in-Some-Some.second ≡ owner_hash two = of_some
    (c.in-Some-Some.ensures' ∙ owner_decoded two c.requires.two) in
    c.lies_between.ensures ∙ ap (λ (h : List ℕ). lies_between h c.args.hash.now c.in-Some-Some.second) first
    ∙ ap (lies_between (owner_hash one) c.args.hash.now) second
