use Rattle.std.proofs.Common.{sym, ◌∙◌, inr, arith}
use Rattle.dns_record.proofs.TextLemmas.{byte_shorter}
use Rattle.dns_record.proofs.ReadSteps.{text_end, text_dot, text_byte, text_broken}
use Rattle.dns_record.proofs.text_reading.read_label.Goals as goal

pub returns-then-byte-eq46-clause-label : goal.returns-then-byte-eq46-clause-label
returns-then-byte-eq46-clause-label c =
    c.bytes.invariant.so_far ∙ text_dot c.bytes.label.items c.in-Some.byte.now c.bytes.left.now c.in-Some.rest.now
    c.in-Some.ensures.cases.0 c.if-byte-eq46.true

pub returns-in_default-byte_at-clause-label : goal.returns-in_default-byte_at-clause-label
returns-in_default-byte_at-clause-label c =
    inr (c.bytes.invariant.so_far ∙ text_broken c.bytes.label.items c.in-Some.byte.now c.bytes.left.now c.in-Some.rest.now
    c.in-Some.ensures.cases.0 c.if-byte-eq46.false (sym c.in_default-byte_at.ensures))

pub bytes-smaller : goal.bytes-smaller
bytes-smaller c =
    omega (
      arith,
      byte_shorter c.in-Some.byte.now c.in-Some.rest.now c.in-Some-byte_at.more.now c.in-Some-byte_at.value
          (sym c.in-Some-byte_at.ensures),
      c.in-Some.ensures.cases.1,
    )

pub bytes-preserved : goal.bytes-preserved
bytes-preserved c = record {
  so_far = rw c.in_ok-push.ensures.items (c.bytes.invariant.so_far
      ∙ text_byte c.bytes.label.items c.in-Some.byte.now c.bytes.left.now c.in-Some.rest.now c.in-Some-byte_at.more.now
      c.in-Some-byte_at.value c.in-Some.ensures.cases.0 c.if-byte-eq46.false (sym c.in-Some-byte_at.ensures));
  size = omega (
    arith,
    byte_shorter c.in-Some.byte.now c.in-Some.rest.now c.in-Some-byte_at.more.now c.in-Some-byte_at.value
        (sym c.in-Some-byte_at.ensures),
    c.in-Some.ensures.cases.1,
    c.bytes.invariant.size,
  );
}

pub returns-clause-label : goal.returns-clause-label
returns-clause-label c = c.bytes.invariant.so_far ∙ text_end c.bytes.label.items c.bytes.left.now c.in_default.ensures.cases
