use Rattle.std.proofs.Common.{◌≡◌, ◌+◌, ◌*◌, drop}
use Rattle.dns_rules.specs.DerivationParts.{asks_of_sets}
use Rattle.dns_trail.specs.Counting.{count_asks, asking_step}
use Rattle.dns_trail.proofs.order.+count.Given as goal

abbrev pub decreases-count_step : goal.decreases-count_step
decreases-count_step l = 4 * l.n + 3

abbrev pub decreases-count_sets : goal.decreases-count_sets
decreases-count_sets l = 4 * l.n + 2

abbrev pub decreases-count_asks : goal.decreases-count_asks
decreases-count_asks l = 4 * l.n + 1

abbrev pub decreases-count_ask : goal.decreases-count_ask
decreases-count_ask l = 4 * l.n

-- the walk over the sets that are left, from here on, is that over all sets
abbrev pub invariant-count_sets-loop-set : goal.invariant-count_sets-loop-set
invariant-count_sets-loop-set l =
    count_asks (asking_step l.steps l.n) l.n (asks_of_sets (drop l.set-index l.sets)) l.counts
    ≡ count_asks (asking_step l.steps l.n) l.n (asks_of_sets l.sets) l.fn.from

-- the walk over the asks that are left, from here on, is that over all asks
abbrev pub invariant-count_asks-loop-ask : goal.invariant-count_asks-loop-ask
invariant-count_asks-loop-ask l =
    count_asks (asking_step l.steps l.n) l.n (drop l.ask-index l.asks) l.counts ≡ count_asks (asking_step l.steps l.n) l.n l.asks l.fn.from
