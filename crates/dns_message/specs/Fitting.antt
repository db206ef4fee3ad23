-- For private functions of this crate only: what lies where, and what is spelled, after a step in a name or a name.
use Rattle.std.specs.Prelude.{◌≡◌, ℕ, ◌+◌, ◌<◌, ◌≤◌, true, ◌++◌, Bool, if◌then◌else◌, List, Option, None, Some, Result, Ok}
use Rattle.dns_model.specs.Names.{Labels, wire, is_name}
use Rattle.dns_model.specs.declared.proof.Proof.TheVariants.{Indeterminate}
use Rattle.dns_message.specs.declared.decode_error.DecodeError.{DecodeError}
use Rattle.dns_message.specs.declared.item.Item.{Item}
use Rattle.dns_message.specs.declared.item.Item.TheVariants.{Kept}
use Rattle.dns_message.specs.declared.message_reader.Header.{Header}
use Rattle.dns_message.specs.declared.record_reader.RecordFields.{RecordFields}
use Rattle.dns_message.specs.MessageAt.{HeaderValue}
use Rattle.dns_message.specs.declared.step.Step.{Step}
use Rattle.dns_message.specs.declared.step.Step.TheVariants as step

-- a step's bytes lie before the end, a pointer goes before its row of labels, and a label leaves room for the closing zero byte
abbrev pub FitsStep : ℕ → ℕ → ℕ → ℕ → Step → Type 0
FitsStep end start pos size step.Root = pos + 1 ≤ end
FitsStep end start pos size (step.Label n) = (0 < n) × (n ≤ 63) × (pos + 1 + n ≤ end) × (size + 1 + n ≤ 254)
FitsStep end start pos size (step.Pointer target) = (target < start) × (pos + 2 ≤ end)

-- the wire form of the name that was read was appended
pub record IsSpelled (read : Result (Labels × ℕ) DecodeError) (old new : List ℕ) (next : ℕ) : Type 0 where
  pub labels : Labels
  pub told : read ≡ Ok (labels, next)
  pub grown : new ≡ old ++ wire labels
  pub good : is_name labels ≡ true

-- where the name's bytes end: after its first pointer, or at this place
abbrev pub ending_or : Option ℕ → ℕ → ℕ
ending_or None place = place
ending_or (Some first) place = first

-- bytes were appended that were read with the place after them
pub record IsAppended (read : Option (List ℕ × ℕ)) (old new : List ℕ) (next : ℕ) : Type 0 where
  pub front : List ℕ
  pub told : read ≡ Some (front, next)
  pub grown : new ≡ old ++ front

-- what was read was appended, or there was nothing to read
abbrev pub FieldRead : Option (List ℕ × ℕ) → List ℕ → List ℕ → Option ℕ → Type 0
FieldRead read old new (Some next) = IsAppended read old new next
FieldRead read old new None = read ≡ None

-- the fields that were written, where they were
abbrev pub fields_in : Bool → List ℕ → Option (List ℕ)
fields_in spelled bytes = if spelled then Some bytes else None

-- the header of the code as one of the definitions
abbrev pub header_value : Header → HeaderValue
header_value h = record { id = h.id; flags = h.flags; questions = h.questions; answers = h.answers; authorities = h.authorities; additionals = h.additionals }

-- the record of an owner and a type with these fields
abbrev pub kept_of : Labels → ℕ → RecordFields → Item
kept_of owner rtype fields = Kept (record { owner = owner; rtype = rtype; class = fields.class; ttl = fields.ttl; rdata = fields.rdata; proof = Indeterminate })
