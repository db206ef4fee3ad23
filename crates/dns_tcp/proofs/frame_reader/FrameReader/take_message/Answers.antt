use Rattle.std.proofs.Common.{◌≡◌, ◌≤◌, ◌<◌, ◌^◌, ◌++◌, ℕ, List, Option, Some, length, take, ap, sym, ◌∙◌, arith, rules}
use Rattle.std.proofs.lemmas.Grind.{common_steps}
use Rattle.std.proofs.lemmas.List.{length-take}
use Rattle.dns_model.specs.Bytes.{u16_bytes}
use Rattle.dns_tcp.specs.Frames.{frame}
use Rattle.dns_tcp.specs.Parts.{part_of}
use Rattle.dns_tcp.proofs.frame_reader.FrameReader.take_message.Goals as goal

pub returns-clause-whole : goal.returns-clause-whole
unfolding frame
returns-clause-whole c =
    let bytes = take c.self.inside.len c.self.inside.bytes.items in
    let n = c.in_ok-length.length in
    let was : c.self.inside.announced ≡ Some n = c.in_ok-length.was in
    let inv : (c.self.inside.len ≤ n) × (n < 2 ^ 16) = rw was at c.self.invariant.0 in
    let within = c.self.invariant.1 in
    let size = length-take c.self.inside.len c.self.inside.bytes.items in
    let same : n ≡ length bytes = first_of (omega (arith, inv.0, within, size), grind (arith, common_steps)) in
    let moved : bytes ≡ c.truncate.new.self.items = first_of (cc, search rules, grind (arith, common_steps)) in
    sym c.self.view_is ∙ ap (λ (a : Option ℕ). part_of a bytes) was ∙ ap (λ (k : ℕ). u16_bytes k ++ bytes) same
    ∙ ap (λ (m : List ℕ). u16_bytes (length m) ++ m) moved
