use Rattle.std.proofs.Common.{◌≡◌, ◌≤◌, drop, length, ap, arith}
use Rattle.std.proofs.lemmas.List.{length-drop}
use Rattle.dns_aggressive.proofs.Expiring.{kept_list_left}
use Rattle.dns_aggressive.proofs.kept_list.KeptList.let_go.Goals as goal

pub invariant_of-self : goal.invariant_of-self
invariant_of-self c =
    let records = c.self.inside.records.items in
    let gone = c.self.inside.gone in
    let seen : length (drop c.self.inside.gone c.self.inside.records.items) ≡ length c.args.self.now =
    ap length c.self.view_is in
    let le : c.args.more ≤ length c.args.self.now = c.requires in
    let within = c.self.invariant.within in
    kept_list_left records gone c.args.more c.self.inside.by_place.items c.self.inside.expiries c.let_go.new.self
    c.self.inside.reaching.items c.self.invariant
    (omega (arith, le, seen, within, length-drop gone records)) c.let_go.ensures.zone c.let_go.ensures.group
