use Rattle.std.proofs.Common.{take}
use Rattle.dns_handle.specs.AnswerIndex.{AllNoted}
use Rattle.dns_handle.proofs.answered.note_section.Given as goal

-- the records so far are noted
abbrev pub invariant-loop-next : goal.invariant-loop-next
invariant-loop-next l = AllNoted l.initial.index l.index (take l.next-index l.section)
