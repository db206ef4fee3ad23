use Rattle.dns_roll.specs.TrustedText.{texts_of}
use Rattle.dns_roll.proofs.Firsts.{Kept}
use Rattle.dns_roll.proofs.naming.first_rdatas.Given as goal

-- the keys so far are kept once
abbrev pub invariant-loop-rdata : goal.invariant-loop-rdata
invariant-loop-rdata l = Kept (texts_of l.rdatas) l.rdata-index (texts_of l.all.items) l.seen
