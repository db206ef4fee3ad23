-- Definitions of what NSEC3 records prove in a zone (RFC 5155).
pub mod HashedZones
pub mod HashedDenial
