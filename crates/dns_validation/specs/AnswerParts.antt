-- For private functions of this crate only: what was found by a reply whose sets are judged.
use Rattle.dns_rules.specs.Outcome.{Outcome}
use Rattle.dns_validation.specs.Steps.{Findings}
use Rattle.dns_validation.specs.declared.answers.JudgedReply.{JudgedReply}

-- what was found, where the sets come to this
abbrev pub found_by : JudgedReply → Outcome → Findings
found_by reply o = record {
  message = reply.received.message;
  empty = reply.received.empty;
  steps = reply.steps.items;
  sets = reply.sets.items;
  entries = reply.entries.items;
  outcome = o;
  excuse = reply.excuse.items;
}
