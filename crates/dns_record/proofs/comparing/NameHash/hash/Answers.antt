use Rattle.std.proofs.Common.{List, ℕ, map, fold, ap, ◌∙◌, arith}
use Rattle.std.specs.Char.{to_ascii_lowercase}
use Rattle.std.specs.List.{flat_map}
use Rattle.std.specs.Hash as fed
use Rattle.std.proofs.lemmas.List.{take_all}
use Rattle.dns_model.proofs.NameLemmas.{lower-wire_of}
use Rattle.dns_record.proofs.comparing.NameHash.hash.Goals as goal

pub returns : goal.returns
returns g c =
    let bytes = c.wire-byte-items.result.now in
    let all = take_all c.loop-byte.byte-index c.wire-byte-items.result.now (omega arith) in
    c.loop-byte.invariant
    ∙ ap (λ (l : List ℕ). fold g.H.Hasher.write c.args.state.now (flat_map fed.u8 (map to_ascii_lowercase l))) (all
    ∙ c.wire-byte-items.ensures.value)
    ∙ ap (λ (l : List ℕ). fold g.H.Hasher.write c.args.state.now (flat_map fed.u8 l))
    (lower-wire_of c.args.self.now c.wire-byte-items.ensures.name)
