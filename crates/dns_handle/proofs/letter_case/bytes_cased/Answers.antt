use Rattle.std.proofs.Common.{◌≡◌, ◌<◌, ◌+◌, [], length, take, refl, sym, ◌∙◌, arith}
use Rattle.std.proofs.lemmas.List.Sums.{count_by_more_yes, count_by_more_no}
use Rattle.dns_handle.specs.LetterCase.{label_cased, is_letter}
use Rattle.dns_handle.proofs.CaseLemmas.{cased_none, cased_more}
use Rattle.dns_handle.proofs.letter_case.bytes_cased.Goals as goal
use Rattle.dns_handle.proofs.letter_case.bytes_cased.Goals.{then-is_ascii_alphabetic, else-is_ascii_alphabetic}

pub loop-byte-init : goal.loop-byte-init
loop-byte-init c = record { cased = c.new-all.ensures.items ∙ sym (cased_none c.args.bits.now); counted = refl; bounded = omega arith }

pub loop-byte-preserved : goal.loop-byte-preserved
loop-byte-preserved c =
    let bytes = c.args.bytes.now in
    let i = c.loop-byte.byte-index in
    let within : i < length bytes = omega arith in
    let more = cased_more c.args.bits.now bytes i within in
    let grown : c.push.new.self.items ≡ label_cased c.args.bits.now [] (take (i + 1) bytes) = cc (more, c.in_ok-push.ensures.items) in
    elim c.if-is_ascii_alphabetic.branch [
      | then-is_ascii_alphabetic w ↦
          let one = count_by_more_yes is_letter bytes i 0 within (sym c.is_ascii_alphabetic.ensures.value
          ∙ w.if-is_ascii_alphabetic.true) in
          record { cased = grown; counted = cc; bounded = omega arith }
      | else-is_ascii_alphabetic w ↦
          let none = count_by_more_no is_letter bytes i 0 within (sym c.is_ascii_alphabetic.ensures.value
          ∙ w.if-is_ascii_alphabetic.false) in
          record { cased = grown; counted = cc; bounded = omega arith }
    ]
