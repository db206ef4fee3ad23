use Rattle.std.proofs.Common.{◌+◌, ◌-◌, ◌<◌, length, arith}
use Rattle.dns_message.proofs.NameKeeping.{kept_put, put_kept}
use Rattle.dns_message.proofs.known_names.KnownNames.put.Goals as goal

pub returns-then-place-len-clause-known : goal.returns-then-place-len-clause-known
returns-then-place-len-clause-known c =
    let names = c.args.self.now in
    let name = c.args.name.now in
    let one = c.args.one in
    let inside : one.place < length names.sizes.items = omega (arith, c.if-place-len.true, c.from-place.ensures, c.len.ensures) in
    let kept = put_kept c.args.bytes.now names.spelled.items name c.args.base one c.requires.there c.requires.inside c.requires.passed in
    rw (c.from-place.ensures, c.from.ensures, c.from-then-place-len.ensures)
    (kept_put c.args.bytes.now names.spelled.items names.starts.items names.sizes.items one.place (c.args.base + one.size)
    (length name - one.size)
    c.requires.known inside kept)
