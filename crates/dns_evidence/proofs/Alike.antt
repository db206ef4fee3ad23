-- Equal signatures have equal numbers.
use Rattle.std.proofs.Common.{◌≡◌, ℕ, true, ◌&&◌, List, sym, ap, ◌∙◌}
use Rattle.std.specs.Prelude.{◌==◌}
use Rattle.std.proofs.lemmas.Bool.{and_parts, eqb-true}
use Rattle.std.proofs.lemmas.Slice.Eq.{bytes_eq-Decides}
use Rattle.dns_model.specs.Keys.{bytes_eq, AcceptedSignatureValue}
use Rattle.dns_evidence.specs.Listing.{is_entry, signature_number}

abbrev with_parts : ℕ → List ℕ → List ℕ → List ℕ → AcceptedSignatureValue
with_parts algorithm key bytes signature = record { algorithm = algorithm; key = key; bytes = bytes; signature = signature }

-- a signature that is an entry is the same
pub entry_same : (sought entry : AcceptedSignatureValue) → is_entry sought entry ≡ true → sought ≡ entry
entry_same sought entry h =
    let one = and_parts (sought.algorithm == entry.algorithm) (bytes_eq sought.key entry.key
    && (bytes_eq sought.bytes entry.bytes && bytes_eq sought.signature entry.signature)) h in
    let two = and_parts (bytes_eq sought.key entry.key) (bytes_eq sought.bytes entry.bytes
    && bytes_eq sought.signature entry.signature) one.1 in
    let three = and_parts (bytes_eq sought.bytes entry.bytes) (bytes_eq sought.signature entry.signature) two.1 in
    ap (λ a. with_parts a sought.key sought.bytes sought.signature) (eqb-true sought.algorithm entry.algorithm one.0)
    ∙ ap (λ k. with_parts entry.algorithm k sought.bytes sought.signature) ((bytes_eq-Decides sought.key entry.key).0 two.0)
    ∙ ap (λ b. with_parts entry.algorithm entry.key b sought.signature) ((bytes_eq-Decides sought.bytes entry.bytes).0 three.0)
    ∙ ap (with_parts entry.algorithm entry.key entry.bytes) ((bytes_eq-Decides sought.signature entry.signature).0 three.1)

-- the number of a signature that is equal
pub entry_alike : (sought entry : AcceptedSignatureValue) → is_entry sought entry ≡ true → signature_number entry ≡ signature_number sought
entry_alike sought entry h = ap signature_number (sym (entry_same sought entry h))
