use Rattle.std.proofs.Common.{◌≡◌, take, map}
use Rattle.std.specs.List.{filter}
use Rattle.dns_forwarded.specs.Seen.{is_shown_by}
use Rattle.dns_forwarded.proofs.answer.shown.Given as goal

-- the records so far that are told
abbrev pub invariant-loop-next : goal.invariant-loop-next
invariant-loop-next l = map (λ r. r.now) l.all.items ≡ filter (is_shown_by l.showing) (take l.next-index l.section)
