use Rattle.std.proofs.Common.{◌≡◌, take, false}
use Rattle.std.specs.List.{list_any}
use Rattle.dns_rules.specs.Outcome.{is_wildcard_signature}
use Rattle.dns_outcome.proofs.answering.has_wildcard_signature.Given as goal

-- none of the records so far is one
abbrev pub invariant-loop-signature : goal.invariant-loop-signature
invariant-loop-signature l = list_any is_wildcard_signature (take l.signature-index l.records) ≡ false
