use Rattle.std.proofs.Common.{◌≡◌, length, map}
use Rattle.std.specs.Option.{option_map}
use Rattle.dns_cache.specs.Kinds.{kind_value}
use Rattle.dns_validation.specs.Machine.{leaving}
use Rattle.dns_validation.specs.Terms.{terms_of}
use Rattle.dns_validation.proofs.keeping.keep_sets.Given as goal

-- the sets that are left leave the rest
abbrev pub invariant-sets : goal.invariant-sets
invariant-sets g l =
    leaving (terms_of g.V.Verifier.answers l.context) l.number l.query l.sets
    (map (option_map kind_value) l.causes) l.state
    ≡ leaving (terms_of g.V.Verifier.answers l.context) l.number l.query l.fn.sets
    (map (option_map kind_value) l.fn.causes) l.initial.state

abbrev pub decreases-sets : goal.decreases-sets
decreases-sets g l = length l.sets
