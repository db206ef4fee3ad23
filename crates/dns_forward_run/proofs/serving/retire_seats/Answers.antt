use Rattle.std.proofs.Common.{◌≡◌, ◌∙◌, ◌∷◌, [], map, Some, ap, sym, subst}
use Rattle.std.specs.Prelude.{IfOk}
use Rattle.std.proofs.lemmas.List.{map-append, map-id}
use Rattle.std.proofs.lemmas.Iterator.Consumers.{YieldsList-end}
use Rattle.std.proofs.lemmas.Iterator.Adapters.{YieldsList-from_vec}
use Rattle.dns_listener.specs.Listening.{TellsPorts, with_port}
use Rattle.dns_forward_run.specs.Retired.{met_by, with_ports}
use Rattle.dns_forward_run.specs.Settings.{carried_by}
use Rattle.dns_forward_run.specs.Steps.{line_by, lines_by, served_carried, served_met}
use Rattle.dns_forward_run.proofs.JudgedLemmas.{tells_on}
use Rattle.dns_forward_run.proofs.LineLemmas.{lines_more}
use Rattle.dns_forward_run.proofs.RetiredLemmas.{back_more}
use Rattle.dns_forward_run.proofs.serving.retire_seats.Goals as goal

pub loop-one-preserved : goal.loop-one-preserved
loop-one-preserved g c = (
  lines_more (λ s. line_by s) c.loop-one.yielded c.in-Some.one c.retire_seat-line.result.0 c.loop-one.lines
      c.with_line-lines.result c.with_line-lines.ensures c.retire_seat-line.ensures.line c.loop-one.invariant.0,
  c.retire_seat-line.ensures.back
      ∙ (ap (λ counts. with_port counts (met_by g.N.Port.Port c.in-Some.one.seat.port)) c.loop-one.invariant.1
      ∙ sym (back_more (λ s. met_by g.N.Port.Port s.seat.port) _ c.loop-one.yielded c.in-Some.one)),
  subst (λ all. TellsPorts (g.N.Listener.told c.args.listen.now) all (g.N.Listener.told c.retire_seat-line.new.listen))
      (sym (map-append (λ s. carried_by g.N.Port.Port s.seat.port) c.loop-one.yielded (c.in-Some.one ∷ [])))
      (tells_on _ _ _ (served_carried g.N.Port.Port c.loop-one.yielded)
      (carried_by g.N.Port.Port c.in-Some.one.seat.port ∷ []) c.loop-one.invariant.2 c.retire_seat-line.ensures.told),
)

pub returns-clause-lines : goal.returns-clause-lines
returns-clause-lines g c =
    let all =
    YieldsList-end
    (YieldsList-from_vec c.args.served.items (cc) (cc)) c.loop-one.yielded c.loop-one.one-iterator
    c.loop-one.yielded_by c.next.result c.next.new.self c.in-None.is c.next.ensures.steps in
    let same : c.loop-one.yielded ≡ c.args.served.items = sym (map-id c.loop-one.yielded) ∙ all.0 in
    subst (λ all. IfOk c.loop-one.lines (λ lines. map Some lines.items ≡ lines_by all)) same c.loop-one.invariant.0

pub returns-clause-back : goal.returns-clause-back
returns-clause-back g c =
    let all =
    YieldsList-end
    (YieldsList-from_vec c.args.served.items (cc) (cc)) c.loop-one.yielded c.loop-one.one-iterator
    c.loop-one.yielded_by c.next.result c.next.new.self c.in-None.is c.next.ensures.steps in
    let same : c.loop-one.yielded ≡ c.args.served.items = sym (map-id c.loop-one.yielded) ∙ all.0 in
    c.loop-one.invariant.1
    ∙ ap (λ all. with_ports (g.N.Listener.counts c.args.listen.now) (served_met g.N.Port.Port all)) same

pub returns-clause-told : goal.returns-clause-told
returns-clause-told g c =
    let all =
    YieldsList-end
    (YieldsList-from_vec c.args.served.items (cc) (cc)) c.loop-one.yielded c.loop-one.one-iterator
    c.loop-one.yielded_by c.next.result c.next.new.self c.in-None.is c.next.ensures.steps in
    let same : c.loop-one.yielded ≡ c.args.served.items = sym (map-id c.loop-one.yielded) ∙ all.0 in
    subst (λ all. TellsPorts (g.N.Listener.told c.args.listen.now) (served_carried g.N.Port.Port all)
    (g.N.Listener.told c.loop-one.listen)) same c.loop-one.invariant.2
