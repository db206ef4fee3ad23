use Rattle.std.proofs.Common.{ℕ, List, Option, [], ◌∷◌, ◌++◌, take, sym, subst, ap, ◌∙◌}
use Rattle.std.specs.Option.{option_copied}
use Rattle.std.proofs.lemmas.List.{take_more}
use Rattle.dns_model.specs.Owned.{OwnedNsec}
use Rattle.dns_aggressive.specs.Orders.{nth}
use Rattle.dns_aggressive.specs.Reaching.{nearer, IsBest}
use Rattle.dns_aggressive.proofs.NsecSearch.{best_more, best_none}
use Rattle.dns_aggressive.proofs.nsec_search.best_of.Goals as goal

pub loop-position-init : goal.loop-position-init
loop-position-init c = best_none c.args.run.now c.args.now c.args.name.now

pub loop-position-preserved : goal.loop-position-preserved
loop-position-preserved c =
    let run = c.args.run.now in
    let xs = c.args.positions.now in
    let i = c.loop-position.position-index in
    let best = option_copied c.loop-position.best in
    subst (λ (l : List ℕ). IsBest c.args.run.now c.args.now c.args.name.now l (option_copied c.nearer-best.result))
    (sym (take_more xs i 0 c.loop-position-test.true))
    (subst (λ (o : Option OwnedNsec). IsBest c.args.run.now c.args.now c.args.name.now (take i xs ++ nth xs i ∷ []) o)
    (sym (c.nearer-best.ensures ∙ ap (nearer (option_copied c.loop-position.best)) c.spanning_at.ensures))
    (best_more run c.args.now c.args.name.now (take i xs) (nth xs i) best c.loop-position.invariant))
