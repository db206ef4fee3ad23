use Rattle.std.proofs.Common.{rules, ◌≡◌, true, sym, ◌∙◌}
use Rattle.dns_rules.specs.CacheKeys.{key_eq, key_of}
use Rattle.dns_rules.specs.CacheEntries.{is_live}
use Rattle.dns_rules.specs.Derivation.{has_mark_of}
use Rattle.dns_rules.specs.Serving.{judged_as, still_holds}
use Rattle.dns_trust.specs.Judge.{judge_of}
use Rattle.dns_trail.proofs.OkLemmas.{ok_map}
use Rattle.dns_trail.proofs.ServedLemmas.{holding_decides, of_another_mark}
use Rattle.dns_trail.proofs.served.serves.Goals as goal

pub returns-then-not-says : goal.returns-then-not-says
returns-then-not-says g c =
    let placed = c.args.placed.now in
    let kept = c.args.kept.now in
    of_another_mark (is_live c.args.context.now.judge.now.moment kept) (key_eq (key_of c.args.context.now.query.now placed.set) kept.key)
    (still_holds (judge_of g.V.Verifier.answers c.args.context.now.judge.now) placed kept)
    (has_mark_of (judged_as placed kept.found) c.args.entry.now) (sym (c.says.ensures placed) ∙ c.if-not-says.true)

pub returns : goal.returns
returns g c =
    let placed = c.args.placed.now in
    let kept = c.args.kept.now in
    let now = c.args.context.now.judge.now.moment in
    let key = key_eq (key_of c.args.context.now.query.now placed.set) kept.key in
    let holds = still_holds (judge_of g.V.Verifier.answers c.args.context.now.judge.now) placed kept in
    let mark = has_mark_of (judged_as placed kept.found) c.args.entry.now in
    let is_here : is_live now kept ≡ true = search rules in
    let is_key : key ≡ true = search rules in
    ok_map c.still_holds.result
    (λ b h. holding_decides (is_live now kept) key holds mark b is_here is_key (sym (c.says.ensures placed) ∙ c.if-not-says.false) h)
    c.still_holds.ensures
