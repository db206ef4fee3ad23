use Rattle.dns_evidence.specs.Listing.{is_entry, signature_number}
use Rattle.dns_evidence.proofs.Found.{found}
use Rattle.dns_evidence.proofs.Alike.{entry_alike}
use Rattle.dns_evidence.proofs.listed.Listed.holds.Goals as goal

pub returns : goal.returns
returns c =
    rw (c.is_at.ensures, c.deref.ensures.value, c.places_of-places.ensures, c.signature_number.ensures, ← c.self.view_is)
    (found signature_number (is_entry c.args.sought.now) (signature_number c.args.sought.now) c.self.inside.places
    c.self.inside.accepted.items
    (entry_alike c.args.sought.now) c.self.invariant.0)
