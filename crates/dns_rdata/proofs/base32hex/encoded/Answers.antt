use Rattle.std.proofs.Common.{◌≡◌, ◌+◌, ◌%◌, ◌≤◌, ◌++◌, map, length, ap, ◌∙◌, arith}
use Rattle.std.proofs.Math.Facts.{Fits-lt-pow}
use Rattle.std.specs.Int.Digits.{number_from_digits}
use Rattle.dns_model.specs.Nsec3Hash.{symbol, groups_of_five, base32hex_bytes}
use Rattle.dns_model.proofs.HashTextLemmas.{below_from, text_read}
use Rattle.dns_record.proofs.ReadSteps.{is_bytes-from_reads}
use Rattle.dns_rdata.proofs.HashLemmas.{more_text, whole_text, unwrapped, held}
use Rattle.dns_rdata.proofs.base32hex.encoded.Goals as goal

pub groups-preserved : goal.groups-preserved
groups-preserved c =
    let text = c.groups.text.items in
    let group = c.in-Some.group.now in
    let split = c.in-Some.ensures.cases in
    let piece : c.as_slice.result.now ≡ map symbol (groups_of_five (number_from_digits 256 group)) =
    c.as_slice.ensures ∙ c.symbols.ensures ∙ ap (λ n. map symbol (groups_of_five n)) c.forty_bits.ensures in
    let size : length c.as_slice.result.now ≡ 8 = ap length piece in
    let fits : length text + length c.as_slice.result.now ≤ 32 = omega (arith, size, split.2, c.groups.invariant.1) in
    let pushed = held c.try_extend_from_slice-fits.result (c.try_extend_from_slice-fits.ensures.variant.1 fits)
    c.try_extend_from_slice-fits.ensures.ok in
    more_text c.args.hash.now c.groups.rest.now group c.in-Some.after.now text c.try_extend_from_slice-fits.new.self.items
    c.groups.invariant.0 c.groups.invariant.1 split.0 split.1 split.2 (pushed ∙ ap (λ p. text ++ p) piece)

pub returns-clause-text : goal.returns-clause-text
returns-clause-text c =
    let all = whole_text c.args.hash.now c.groups.rest.now c.groups.text.items c.groups.invariant.0 c.groups.invariant.1
    c.in_default.ensures.cases in
    c.unwrap_or.ensures ∙ unwrapped c.into_inner.result c.groups.text.items _ (c.into_inner.ensures.variant.1 all.size)
    c.into_inner.ensures.ok ∙ all.same

pub returns-clause-read : goal.returns-clause-read
returns-clause-read c =
    let hash = c.args.hash.now in
    let all = whole_text hash c.groups.rest.now c.groups.text.items c.groups.invariant.0 c.groups.invariant.1 c.in_default.ensures.cases in
    let text = c.unwrap_or.ensures ∙ unwrapped c.into_inner.result c.groups.text.items _ (c.into_inner.ensures.variant.1 all.size)
    c.into_inner.ensures.ok ∙ all.same in
    let bytes = is_bytes-from_reads hash (λ k. Fits-lt-pow (c.type_inv.hash k)) in
    let size = c.requires in
    let whole : length hash % 5 ≡ 0 = omega (arith, size) in
    ap base32hex_bytes text ∙ text_read hash (below_from hash bytes) whole
