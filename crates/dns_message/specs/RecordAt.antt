-- Records in a message, and the sections that they make up (RFC 1035, 4.1.3; RFC 6891, 6.1).
use Rattle.std.specs.Prelude.{ℕ, zero, suc, ◌+◌, ◌/◌, ◌%◌, ◌==◌, Bool, false, ◌&&◌, List, [], ◌∷◌, Option, None, Some, Result, Ok, Err, if◌then◌else◌}
pub use Rattle.dns_model.specs.Names.{is_root}
use Rattle.dns_model.specs.Names.{Labels}
use Rattle.dns_model.specs.Types.{type_opt}
use Rattle.dns_model.specs.Bytes.{has_flag}
use Rattle.dns_model.specs.Records.{Rr, EdnsValue}
use Rattle.dns_model.specs.declared.proof.Proof.TheVariants.{Indeterminate}
use Rattle.dns_message.specs.declared.decode_error.DecodeKind.TheVariants.{BadOpt}
use Rattle.dns_message.specs.declared.decode_error.DecodeError.{DecodeError}
use Rattle.dns_message.specs.declared.item.Item.{Item}
use Rattle.dns_message.specs.declared.item.Item.TheVariants as item
use Rattle.dns_model.specs.ResultSteps.{◌>>=◌}
use Rattle.dns_message.specs.Reading.{fault, u16_field, u32_field}
use Rattle.dns_message.specs.NameAt.{name_at}
use Rattle.dns_message.specs.RdataAt.{rdata_at, opaque_at}

-- a record, which is no OPT, after its owner and type
unfoldable pub record_at : Labels → ℕ → List ℕ → ℕ → Result (Item × ℕ) DecodeError
record_at owner rtype bytes pos = do
  class ← u16_field bytes pos
  ttl ← u32_field bytes class.1
  size ← u16_field bytes ttl.1
  rdata ← rdata_at rtype class.0 bytes size.0 size.1
  Ok (item.Kept (record { owner = owner; rtype = rtype; class = class.0; ttl = ttl.0; rdata = rdata; proof = Indeterminate }), size.1 + size.0)

-- what an OPT's class, ttl and rdata say
abbrev pub edns_of : ℕ → ℕ → List ℕ → EdnsValue
edns_of payload ttl options = record {
  max_payload = payload;
  version = ttl / 0x0001_0000 % 256;
  dnssec_ok = has_flag ttl 0x8000;
  flags = ttl % 0x8000;
  options = options;
}

-- an OPT after its owner and type; the upper eight bits of its ttl are the upper bits of the code
unfoldable pub opt_at : List ℕ → ℕ → Result (Item × ℕ) DecodeError
opt_at bytes pos = do
  payload ← u16_field bytes pos
  ttl ← u32_field bytes payload.1
  size ← u16_field bytes ttl.1
  options ← opaque_at bytes size.0 size.1
  Ok (item.Opt (edns_of payload.0 ttl.0 options) (ttl.0 / 0x0100_0000), size.1 + size.0)

-- an OPT where one may stand and at the root, or another record
unfoldable pub item_at : Bool → List ℕ → ℕ → Result (Item × ℕ) DecodeError
item_at allow_opt bytes pos = do
  owner ← name_at bytes pos
  rtype ← u16_field bytes owner.1
  if rtype.0 == type_opt
      then if allow_opt && is_root owner.0 then opt_at bytes rtype.1 else Err (fault BadOpt pos)
      else record_at owner.0 rtype.0 bytes rtype.1

-- the records of a section, its OPT with the code's upper bits, and the place after the section
abbrev pub Listed : Type 0
Listed = List Rr × Option (EdnsValue × ℕ) × ℕ

abbrev pub with_item : Item → Result Listed DecodeError → Result Listed DecodeError
with_item item (Err e) = Err e
with_item (item.Kept kept) (Ok (records, opt, next)) = Ok (kept ∷ records, opt, next)
with_item (item.Opt edns code) (Ok (records, opt, next)) = Ok (records, Some (edns, code), next)

-- after an OPT no other may stand
abbrev pub allow_opt_after : Item → Bool → Bool
allow_opt_after (item.Kept kept) allow_opt = allow_opt
allow_opt_after (item.Opt edns code) allow_opt = false

-- so many records
unfoldable pub section_at : ℕ → Bool → List ℕ → ℕ → Result Listed DecodeError
section_at zero allow_opt bytes pos = Ok ([], None, pos)
section_at (suc count) allow_opt bytes pos = do
  first ← item_at allow_opt bytes pos
  with_item first.0 (section_at count (allow_opt_after first.0 allow_opt) bytes first.1)
