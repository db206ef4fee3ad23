use Rattle.std.proofs.Common.{ℕ, ◌%◌, ap, ◌∙◌}
use Rattle.edwards_curves.specs.Ed25519.{challenge}
use Rattle.edwards_curves.specs.Numbers.{little, order}
use Rattle.edwards_curves.proofs.ed25519.challenge.Goals as goal

pub returns : goal.returns
unfolding challenge order
returns c =
    c.remainder.ensures ∙ ap (λ (n : ℕ). n % order) (c.read_little-number.ensures
    ∙ ap little c.digest_of-digest.ensures)
