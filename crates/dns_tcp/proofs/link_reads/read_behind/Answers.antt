use Rattle.std.proofs.Common.{◌≡◌, ◌<◌, ◌≤◌, ◌+◌, ◌-◌, ℕ, List, length, take, ap, ◌∙◌, arith, rules}
use Rattle.std.proofs.lemmas.Grind.{common_steps}
use Rattle.std.proofs.lemmas.Slice.{overwrites}
use Rattle.dns_tcp.proofs.LinkLemmas.{read_final, read_part, read_same}
use Rattle.dns_tcp.proofs.link_reads.read_behind.Goals as goal

pub returns-clause-read : goal.returns-clause-read
returns-clause-read g c =
    let buf = c.read.new.buf in
    let xs = c.deref_mut.result.now in
    let items = c.make_room.new.bytes.items in
    let is : xs ≡ items = first_of (search rules, cc, grind (arith, common_steps)) in
    let counted : c.make_room.new.bytes.len ≡ length items = search rules in
    let some : 0 < length buf = first_of (grind (arith, common_steps), grind (arith, overwrites)) in
    let within : length buf ≤ c.args.most = first_of (grind (arith, common_steps), grind (arith, overwrites)) in
    let known : c.args.len ≤ length items = first_of (omega arith, grind (arith, common_steps)) in
    let size = ap length is in
    let long : c.args.len ≤ length xs = omega (arith, size, known) in
    let same : take c.args.len items ≡ take c.args.len c.args.bytes.now.items = first_of (grind (arith, common_steps), search rules) in
    let kept = ap (λ (l : List ℕ). take c.args.len l) is ∙ same in
    let room : c.args.len + length buf ≤ length items = first_of (grind (arith, common_steps), grind (arith, overwrites)) in
    let fits : c.args.len + length buf ≤ c.make_room.new.bytes.len = omega (arith, room, counted) in
    read_same _ _ _ _ _ _ _ _
    (read_final _ (c.args.len + c.min.result - c.args.len) xs buf c.make_room.new.bytes.len _ _ long fits c.read.ensures.bound)
    (read_part _ _ _ (c.args.len + c.min.result - c.args.len) _ _ _ xs buf _ long kept some within c.read.ensures.bound
    c.read.ensures.counts c.read.ensures.given c.read.ensures.left c.read.ensures.end c.read.ensures.taken c.read.ensures.calls)
