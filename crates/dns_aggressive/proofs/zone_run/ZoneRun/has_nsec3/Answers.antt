use Rattle.std.proofs.Common.{◌-◌, is_some, length, sym, ap, ◌∙◌, arith}
use Rattle.dns_aggressive.specs.Records.{nsec3_of}
use Rattle.dns_aggressive.proofs.ZoneRuns.{no_hashed, none_hashed}
use Rattle.dns_aggressive.proofs.zone_run.ZoneRun.has_nsec3.Goals as goal

pub returns-then-number-eq0 : goal.returns-then-number-eq0
returns-then-number-eq0 c = λ list zone now h no.
    none_hashed c.args.self.now now (omega (arith, c.if-number-eq0.true))

pub returns : goal.returns
returns c = λ list zone now h no.
    let run = c.args.self.now in
    no_hashed list zone run now h (length run.positions.now - 1) (omega (arith, c.if-number-eq0.false))
    (sym no ∙ c.is_nsec3.ensures ∙ ap (λ k. is_some (nsec3_of k.item)) c.record_at.ensures)
