use Rattle.std.proofs.Common.{length}
use Rattle.dns_anchor_keys.proofs.AskLemmas.{Continues}
use Rattle.dns_anchor_keys.proofs.asking.ask_zones.Given as goal

-- what the zones that are left answer is, behind the keys so far, what all answer
abbrev pub invariant-zones : goal.invariant-zones
invariant-zones g l = Continues g.H.DnsHandle l.now l.initial.rest l.initial.handle l.keys.items l.rest l.handle

abbrev pub decreases-zones : goal.decreases-zones
decreases-zones g l = length l.rest
