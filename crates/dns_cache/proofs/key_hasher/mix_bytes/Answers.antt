use Rattle.std.proofs.Common.{◌≤◌, ◌*◌, ◌%◌, length, sym, ap, ◌∙◌, arith}
use Rattle.std.specs.Prelude.{◌^◌, bit_xor}
use Rattle.std.specs.Hash.FoldHasher.{folded_multiply}
use Rattle.dns_cache.proofs.HasherLemmas.{after_word, words_end}
use Rattle.dns_cache.proofs.key_hasher.mix_bytes.Goals as goal

pub words-preserved : goal.words-preserved
words-preserved c =
    let state = c.words.state in
    let split = c.in-Some.ensures.cases in
    let enough : 8 ≤ length c.words.rest.now = omega (arith, split.2) in
    let next = c.folded_multiply-state.ensures ∙ ap (λ w. folded_multiply (bit_xor state w) 0x9e37_79b9_7f4a_7c15) c.from_le_bytes.ensures in
    after_word (length c.args.bytes.now) state c.folded_multiply-state.result c.words.rest.now c.in-Some.word.now c.in-Some.more.now
    enough split.0 split.1 next
    ∙ c.words.invariant

pub returns : goal.returns
returns c =
    let state = c.words.state in
    let n = length c.args.bytes.now in
    let last = ap (λ w. folded_multiply (bit_xor state (bit_xor w (n * 2 ^ 56 % 2 ^ 64))) 0x9e37_79b9_7f4a_7c15) c.short_word.ensures in
    c.folded_multiply.ensures ∙ last ∙ sym (words_end n state c.words.rest.now c.in_default.ensures.cases) ∙ c.words.invariant
