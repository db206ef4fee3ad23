-- The keys of sets tell owners and types apart as equality does.
use Rattle.std.proofs.Common.{◌≡◌, ℕ, Bool, ◌&&◌, ◌==◌, ap, ◌∙◌}
use Rattle.std.specs.Cmp.{tied_then}
use Rattle.std.specs.Ordering.{is_eq, nat_cmp}
use Rattle.std.specs.Cmp.Lexicographic.{slice_cmp}
use Rattle.dns_model.specs.Names.{Labels, folded, name_eq, wire}
use Rattle.dns_model.proofs.OrderLemmas.{nat_ties}
use Rattle.dns_evidence.proofs.WireTies.{wire_ties}
use Rattle.dns_outcome.specs.SetKeys.{set_key, set_key_cmp}

-- owners and types are equal exactly where the order of their keys doesn't tell them apart
pub set_key_ties : (owner o : Labels) (rtype k : ℕ)
    → (name_eq owner o && (rtype == k)) ≡ is_eq (set_key_cmp (set_key owner rtype) (set_key o k))
set_key_ties owner o rtype k =
    let names = slice_cmp nat_cmp (wire (folded owner)) (wire (folded o)) in
    ap (λ (e : Bool). e && (rtype == k)) (wire_ties owner o)
    ∙ ap (λ (e : Bool). is_eq names && e) (nat_ties rtype k)
    ∙ tied_then names (nat_cmp rtype k)
