use Rattle.std.proofs.Common.{◌∙◌, ◌++◌, ◌∷◌, [], take, sym, ap}
use Rattle.std.specs.List.{flat_map}
use Rattle.std.proofs.lemmas.List.{flat_map_more, take_all, take_more}
use Rattle.dns_roll.specs.TrustedText.{texts_of, trusted_line}
use Rattle.dns_roll.proofs.Listing.{item, item_at, texts_end, texts_within}
use Rattle.dns_roll.proofs.writing.trusted_lines.Goals as goal

pub loop-rdata-preserved : goal.loop-rdata-preserved
loop-rdata-preserved c =
    let all = texts_of c.args.rdatas.now in
    let i = c.loop-rdata.rdata-index in
    let x = (item c.args.rdatas.now i).now in
    c.in_ok-push_trusted.ensures
    ∙ ap (λ ts. ts ++ trusted_line x) c.loop-rdata.invariant
    ∙ flat_map_more trusted_line [] (take i all) x
    ∙ sym (ap (flat_map trusted_line) (take_more all i x (texts_within c.args.rdatas.now i c.loop-rdata-test.true)
    ∙ ap (λ y. take i all ++ y ∷ []) (sym (item_at c.args.rdatas.now i c.loop-rdata-test.true))))

pub returns : goal.returns
returns c =
    let i = c.loop-rdata.rdata-index in
    c.loop-rdata.invariant
    ∙ ap (flat_map trusted_line)
    (take_all i (texts_of c.args.rdatas.now) (texts_end c.args.rdatas.now i c.loop-rdata-test.false))
