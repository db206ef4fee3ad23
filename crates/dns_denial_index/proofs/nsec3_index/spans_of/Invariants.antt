use Rattle.dns_denial_index.specs.HashParts.{AreSpannedTo}
use Rattle.dns_denial_index.proofs.nsec3_index.spans_of.Given as goal

-- the spans of the records so far
abbrev pub invariant-loop-nsec3 : goal.invariant-loop-nsec3
invariant-loop-nsec3 l = AreSpannedTo l.points l.nsec3s l.nsec3-index l.next l.spans.items
