use Rattle.std.proofs.Common.{refl}
use Rattle.std.specs.Prelude.{nat_eq}
use Rattle.std.specs.Cmp.Lexicographic.{pointwise}
use Rattle.std.proofs.lemmas.Bool.Decides.{same_from_decides}
use Rattle.std.proofs.lemmas.Slice.Eq.{slice_eq-Decides, bytes_eq-Decides}
use Rattle.dns_udp.proofs.questions.is_spelled_alike.Goals as goal

pub returns : goal.returns
returns c =
    let other = pointwise (pointwise nat_eq) c.args.one.now c.args.other.now in
    same_from_decides c.eq_case.result other c.eq_case.ensures
    (slice_eq-Decides bytes_eq-Decides c.args.one.now c.args.other.now other refl)
