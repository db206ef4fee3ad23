use Rattle.std.proofs.Common.{◌≡◌, ◌+◌, ◌≤◌, ◌++◌, map, length, ap, ◌∙◌, arith}
use Rattle.std.specs.Int.Digits.{number_from_digits}
use Rattle.dns_model.specs.Nsec3Hash.{symbol_bits, five_bytes}
use Rattle.dns_rdata.proofs.HashLemmas.{more_bytes, whole_bytes, unwrapped, held}
use Rattle.dns_rdata.proofs.base32hex.bytes_of.Goals as goal

pub groups-preserved : goal.groups-preserved
groups-preserved c =
    let hash = c.groups.hash.items in
    let group = c.in-Some.group.now in
    let split = c.in-Some.ensures.cases in
    let piece : c.as_slice.result.now ≡ five_bytes (number_from_digits 32 (map symbol_bits group)) =
    c.as_slice.ensures ∙ c.five_bytes.ensures ∙ ap five_bytes c.symbols_number.ensures in
    let size : length c.as_slice.result.now ≡ 5 = ap length piece in
    let fits : length hash + length c.as_slice.result.now ≤ 20 = omega (arith, size, split.2, c.groups.invariant.1) in
    let pushed = held c.try_extend_from_slice-fits.result (c.try_extend_from_slice-fits.ensures.variant.1 fits)
    c.try_extend_from_slice-fits.ensures.ok in
    more_bytes c.args.text.now c.groups.rest.now group c.in-Some.after.now hash c.try_extend_from_slice-fits.new.self.items
    c.groups.invariant.0 c.groups.invariant.1 split.0 split.1 split.2 (pushed ∙ ap (λ p. hash ++ p) piece)

pub returns : goal.returns
returns c =
    let all = whole_bytes c.args.text.now c.groups.rest.now c.groups.hash.items c.groups.invariant.0 c.groups.invariant.1
    c.in_default.ensures.cases in
    c.unwrap_or.ensures ∙ unwrapped c.into_inner.result c.groups.hash.items _ (c.into_inner.ensures.variant.1 all.size)
    c.into_inner.ensures.ok ∙ all.same
