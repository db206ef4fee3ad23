use Rattle.std.proofs.Common.{◌<◌, length, arith}
use Rattle.dns_forward_run.specs.Settings.{carried_by}
use Rattle.dns_forward_run.proofs.JudgedLemmas.{tells_answered}
use Rattle.dns_forward_run.proofs.LineLemmas.{as_many, lines_of}
use Rattle.dns_forward_run.proofs.RetiredLemmas.{are_back}
use Rattle.dns_forward_run.proofs.serving.serve_and_retire.Goals as goal

pub returns-clause-len : goal.returns-clause-len
returns-clause-len g c =
    omega (
      arith,
      as_many _ c.in_ok-served.served.items c.in_ok-lines.lines.items c.in_ok-lines.ensures.lines,
      c.in_ok-served.ensures.len,
      c.in_ok-served.served.ok.0,
      c.args.seats.ok.0,
    )

pub returns-clause-back : goal.returns-clause-back
returns-clause-back g c =
    let some : 0 < length c.in_ok-lines.lines.items =
    omega (
      arith,
      as_many _ c.in_ok-served.served.items c.in_ok-lines.lines.items c.in_ok-lines.ensures.lines,
      c.in_ok-served.ensures.len,
      c.in_ok-served.served.ok.0,
      c.args.seats.ok.0,
      c.requires.some,
    ) in
    are_back c.args.count c.in_ok-lines.lines.items _ _ _ some
    (lines_of c.args.count _ _ c.in_ok-served.served.items c.in_ok-lines.lines.items c.in_ok-lines.ensures.lines
    c.in_ok-served.ensures.each) c.in_ok-lines.ensures.back

pub returns-clause-answered : goal.returns-clause-answered
returns-clause-answered g c = λ by alike.
    tells_answered by (λ s. carried_by g.N.Port.Port s.seat.port) c.in_ok-served.served.items _ _
    c.in_ok-lines.ensures.told
    (c.in_ok-served.ensures.answered by alike)
