use Rattle.std.proofs.Common.{◌∙◌, sym, ap, refl, take}
use Rattle.std.specs.List.{filter}
use Rattle.std.proofs.lemmas.List.{take_all}
use Rattle.dns_anchor_roll.specs.Trust.{trusted}
use Rattle.dns_anchor_roll.proofs.Records.{kept_more, left_more}
use Rattle.dns_roll.specs.TrustedText.{is_trusted_key, texts_of}
use Rattle.dns_roll.proofs.Listing.{item, item_at, texts_end, texts_push, texts_within}
use Rattle.dns_roll.proofs.trusting.trusted_of.Goals as goal
use Rattle.dns_roll.proofs.trusting.trusted_of.Goals.{then-is_trusted+in_ok-push, else-is_trusted}

pub loop-rdata-preserved : goal.loop-rdata-preserved
loop-rdata-preserved g c = λ start list is.
    let test = is_trusted_key (trusted start list) in
    let all = texts_of c.args.rdatas.now in
    let i = c.loop-rdata.rdata-index in
    let x = (item c.args.rdatas.now i).now in
    let within = texts_within c.args.rdatas.now i c.loop-rdata-test.true in
    let at = item_at c.args.rdatas.now i c.loop-rdata-test.true in
    let tells = c.is_trusted.ensures start list is in
    elim c.if-is_trusted.branch [
      | then-is_trusted+in_ok-push w ↦
          ap (λ v. texts_of v.items) w.all-is
          ∙ kept_more test all i x x _ _ within at (sym tells ∙ w.if-is_trusted.true)
          (c.loop-rdata.invariant start list is) refl
          (texts_push _ _ _ w.in_ok-push.ensures.items)
      | else-is_trusted w ↦
          ap (λ v. texts_of v.items) w.all-is
          ∙ left_more test all i x _ within at (sym tells ∙ w.if-is_trusted.false)
          (c.loop-rdata.invariant start list is)
    ]

pub returns : goal.returns
returns g c = λ start list is.
    let all = texts_of c.args.rdatas.now in
    let i = c.loop-rdata.rdata-index in
    c.loop-rdata.invariant start list is
    ∙ ap (filter (is_trusted_key (trusted start list)))
    (take_all i all (texts_end c.args.rdatas.now i c.loop-rdata-test.false))
