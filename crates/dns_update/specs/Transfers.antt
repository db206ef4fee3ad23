-- Queries for a zone: all of it (RFC 5936, 2.1), or what has changed since a version that is known (RFC 1995, 3).
use Rattle.std.specs.Prelude.{ℕ, false, List, [], ◌∷◌, Option, None, Some}
use Rattle.dns_model.specs.Names.{Labels}
use Rattle.dns_model.specs.Types.{class_in}
use Rattle.dns_model.specs.Records.{Rr, MessageValue}
use Rattle.dns_update.specs.Parts.{message_of}

-- RFC 1995, 2
abbrev pub type_ixfr : ℕ
type_ixfr = 251

-- RFC 5936, 2.1.1
abbrev pub type_axfr : ℕ
type_axfr = 252

-- the SOA that is known stands at the zone, in class IN, and nothing may be kept of it
abbrev pub known_soa : Labels → Rr → Rr
known_soa zone soa = record soa { owner = zone; class = class_in; ttl = 0 }

abbrev pub transfer_question : Labels → ℕ → List Rr → MessageValue
transfer_question zone rtype known = message_of 0 (record { owner = zone; rtype = rtype; class = class_in }) [] known false

-- changes since the SOA that is known, or all of the zone where none is
abbrev pub transfer_message : Labels → Option Rr → MessageValue
transfer_message zone None = transfer_question zone type_axfr []
transfer_message zone (Some soa) = transfer_question zone type_ixfr (known_soa zone soa ∷ [])
