use Rattle.std.proofs.Common.{◌≡◌, length, map}
use Rattle.dns_model.specs.Chains.{all_shown}
use Rattle.dns_evidence.specs.Link.{link_value}
use Rattle.dns_evidence.proofs.link_shows.all_shown.Given as goal

-- what is left decides
abbrev pub invariant-keys : goal.invariant-keys
invariant-keys l =
    all_shown (map link_value l.earlier) l.owner l.class.0 l.keys l.numbers
    ≡ all_shown (map link_value l.earlier) l.owner l.class.0 l.fn.keys l.fn.numbers

abbrev pub decreases-keys : goal.decreases-keys
decreases-keys l = length l.keys
