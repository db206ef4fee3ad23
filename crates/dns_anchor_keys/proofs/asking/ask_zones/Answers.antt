use Rattle.std.proofs.Common.{subst}
use Rattle.std.proofs.lemmas.Result.{err_from_is_err_and}
use Rattle.dns_anchor_keys.proofs.AskLemmas.{Continues, continues_end, continues_failed, continues_more, none_left}
use Rattle.dns_anchor_keys.proofs.asking.ask_zones.Goals as goal

pub returns-in_err-ask_zone : goal.returns-in_err-ask_zone
returns-in_err-ask_zone g c =
    let p = err_from_is_err_and c.from_residual.result c.from_residual.ensures.1 in
    rw (p.1, p.2)
    (continues_failed g.H.DnsHandle c.args.now c.args.zones.now c.args.handle.now c.zones.keys.items c.in-Some.zone.now
    c.in-Some.more.now c.zones.handle c.ask_zone.new.handle c.in_err-ask_zone.field-0.0
    (subst
    (λ rest. Continues g.H.DnsHandle c.args.now c.args.zones.now c.args.handle.now c.zones.keys.items rest
    c.zones.handle)
    c.in-Some.ensures.cases.0 c.zones.invariant)
    c.in_err-ask_zone.ensures)

pub zones-preserved : goal.zones-preserved
zones-preserved g c =
    continues_more g.H.DnsHandle c.args.now c.args.zones.now c.args.handle.now c.zones.keys.items c.in-Some.zone.now
    c.in-Some.more.now c.zones.handle c.ask_zone.new.handle c.ask_zone.new.into.items
    (subst
    (λ rest. Continues g.H.DnsHandle c.args.now c.args.zones.now c.args.handle.now c.zones.keys.items rest
    c.zones.handle)
    c.in-Some.ensures.cases.0 c.zones.invariant)
    c.in_ok-ask_zone.ensures

pub returns : goal.returns
returns g c =
    continues_end g.H.DnsHandle c.args.now c.args.zones.now c.args.handle.now c.zones.keys.items c.zones.handle
    (subst
    (λ rest. Continues g.H.DnsHandle c.args.now c.args.zones.now c.args.handle.now c.zones.keys.items rest
    c.zones.handle)
    (none_left c.zones.rest.now c.in_default.ensures.cases) c.zones.invariant)
