use Rattle.std.proofs.Common.{◌≡◌, [], List, ℕ, IfOk, reverse, ◌∙◌, ap, subst}
use Rattle.std.specs.List.{filter, flat_map}
use Rattle.dns_anchor_roll.specs.After.{IsAfter, starting}
use Rattle.dns_anchor_roll.specs.Trust.{trusted}
use Rattle.dns_roll.specs.TrustedText.{first_rdatas, is_trusted_key, named_rdatas, sightings_in, texts_of, trusted_line}
use Rattle.dns_roll.proofs.writing.write_trusted.Goals as goal

pub returns : goal.returns
returns g c =
    let answers = g.V.Verifier.answers in
    let zone = c.args.zone in
    let start = starting (answers c.args.verifier) zone c.args.keys.now in
    let list = reverse (sightings_in zone c.args.sights.now) in
    let followed = c.in_ok-followed.followed in
    let is : IsAfter answers start list followed =
    subst (λ ks. IsAfter answers (starting (answers c.args.verifier) zone ks) list followed) c.in_ok-given.ensures
    (subst (λ l. IsAfter answers (starting (answers c.args.verifier) zone c.in_ok-given.given.items) (reverse l)
    followed)
    (c.deref.ensures.value ∙ c.in_ok-sightings.ensures) c.in_ok-followed.ensures) in
    let named = c.in_ok-named.ensures
    ∙ ap (named_rdatas c.args.keys.now) (c.deref-2.ensures.value ∙ c.in_ok-sightings.ensures) in
    let kept = c.in_ok-trusted.ensures start list is
    ∙ ap (filter (is_trusted_key (trusted start list))) (ap texts_of c.deref-3.ensures.value ∙ named) in
    let first = c.in_ok-first.ensures ∙ ap (first_rdatas []) (ap texts_of c.deref-4.ensures.value ∙ kept) in
    let text = ap (flat_map trusted_line) (ap texts_of c.deref-5.ensures.value ∙ first) in
    subst (λ (b : List ℕ). IfOk c.trusted_lines.result (λ v. v.items ≡ b)) text c.trusted_lines.ensures
