use Rattle.std.proofs.Common.{◌≡◌, ◌+◌, false, length, refl, arith}
use Rattle.std.specs.Prelude.{nat_lt}
use Rattle.std.proofs.lemmas.Bool.Decides.{nat_tests}
use Rattle.dns_message.specs.Reading.{u32_field}
use Rattle.dns_message.proofs.number_reader.u32_of.Goals as goal

pub returns-clause-reads : goal.returns-clause-reads
unfolding u32_field
returns-clause-reads c =
    let whole : nat_lt (length c.args.bytes.now) (c.args.at + 4) ≡ false = grind (arith, nat_tests, c.if-bytes-at.false) in
    rw (whole, c.u32_at.ensures) refl
