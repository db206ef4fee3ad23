use Rattle.std.proofs.Common.{◌+◌, ◌∙◌, sym, ap, subst}
use Rattle.dns_roll.specs.TrustedText.{texts_of}
use Rattle.dns_roll.proofs.Firsts.{Kept, none_kept, kept_new, kept_same, kept_all}
use Rattle.dns_roll.proofs.Listing.{item, item_at, texts_end, texts_push, texts_within}
use Rattle.dns_roll.proofs.naming.first_rdatas.Goals as goal
use Rattle.dns_roll.proofs.naming.first_rdatas.Goals.{then-branch+in_ok-push, else-branch}

pub loop-rdata-init : goal.loop-rdata-init
loop-rdata-init c =
    none_kept (texts_of c.args.rdatas.now) _ _ c.new-seen.ensures.empty (ap texts_of c.new-all.ensures.items)

pub loop-rdata-preserved : goal.loop-rdata-preserved
loop-rdata-preserved c =
    let rdatas = texts_of c.args.rdatas.now in
    let i = c.loop-rdata.rdata-index in
    let r = (item c.args.rdatas.now i).now in
    let key = c.behind_protocol.result in
    let within = texts_within c.args.rdatas.now i c.loop-rdata-test.true in
    let at = item_at c.args.rdatas.now i c.loop-rdata-test.true in
    elim c.if-branch.branch [
      | then-branch+in_ok-push w ↦
          kept_new rdatas i _ _ _ _ r key _ within at c.behind_protocol.ensures c.loop-rdata.invariant
          c.in_ok-insert.ensures.updates c.in_ok-insert.ensures.added w.if-branch.true
          (ap (λ o. texts_of o.items) w.all-is ∙ texts_push _ _ _ w.in_ok-push.ensures.items)
      | else-branch w ↦
          subst (λ o. Kept rdatas (i + 1) (texts_of o.items) c.insert.new.self) (sym w.all-is)
          (kept_same rdatas i _ _ _ r key _ within at c.behind_protocol.ensures c.loop-rdata.invariant
          c.in_ok-insert.ensures.updates c.in_ok-insert.ensures.added w.if-branch.false)
    ]

pub returns : goal.returns
returns c =
    kept_all (texts_of c.args.rdatas.now) c.loop-rdata.rdata-index _ _
    (texts_end c.args.rdatas.now c.loop-rdata.rdata-index c.loop-rdata-test.false) c.loop-rdata.invariant
