use Rattle.std.proofs.Common.{◌≡◌, ℕ, ◌++◌, ◌∙◌, List, map, length, take, sym, ap}
use Rattle.std.proofs.lemmas.List.{length-map}
use Rattle.std.specs.Char.{to_ascii_lowercase}
use Rattle.dns_model.specs.Names.{Labels, wire, folded, is_name}
use Rattle.dns_model.proofs.Lists.{take-front}
use Rattle.dns_model.proofs.NameLemmas.{lower-wire_of}
use Rattle.std.proofs.Common.{true}
use Rattle.dns_rdata.proofs.folded_wire.FoldedWire.of_ref.Goals as goal

-- the front of a buffer that the lowered bytes were put into
folded_front : (name : Labels) (bytes copied low rest : List ℕ) → bytes ≡ wire name → is_name name ≡ true → copied ≡ bytes
    → low ≡ map to_ascii_lowercase copied → take (length bytes) (low ++ rest) ≡ wire (folded name)
folded_front name bytes copied low rest w n c l =
    let lowered = l ∙ ap (map to_ascii_lowercase) c in
    let size = sym (ap length lowered ∙ length-map bytes to_ascii_lowercase) in
    ap (λ k. take k (low ++ rest)) size ∙ (take-front low rest ∙ (lowered ∙ (ap (map to_ascii_lowercase) w ∙ lower-wire_of name n)))

pub returns : goal.returns
returns c =
    folded_front c.args.name.now c.wire-wire.result.now c.copy_from_slice.new.self c.make_ascii_lowercase.new.self _
    c.wire-wire.ensures.value c.wire-wire.ensures.name c.copy_from_slice.ensures.after c.make_ascii_lowercase.ensures.after
