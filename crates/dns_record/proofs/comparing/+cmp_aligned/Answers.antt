use Rattle.std.proofs.Common.{◌≡◌, ap, refl, length, arith}
use Rattle.dns_model.proofs.OrderLemmas.{name_cmp-cons}
use Rattle.dns_record.proofs.comparing.+cmp_aligned.Goals as goal

pub returns-in-Some-Some : goal.returns-in-Some-Some
returns-in-Some-Some t c =
    let same : length c.in-Some-Some.above ≡ length c.in-Some-Some.other =
    omega (arith, ap length c.in-Some-Some.ensures, ap length c.in-Some-Some.ensures', c.requires) in
    rw (
      c.in-Some-Some.ensures,
      c.in-Some-Some.ensures',
      name_cmp-cons c.in-Some-Some.first.now c.in-Some-Some.second.now c.in-Some-Some.above c.in-Some-Some.other same,
      c.then.ensures,
      c.cmp_aligned.ensures,
      c.cmp_lowered.ensures,
    ) refl
