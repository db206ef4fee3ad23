-- For private functions of this crate only: where the labels at the front of bytes end, and the name there (RFC 1035, 3.1).
use Rattle.std.specs.Prelude.{◌≡◌, ℕ, ◌≤◌, List, length, take, drop, Option, Some, option_map}
use Rattle.dns_model.specs.Names.{Labels, wire}
use Rattle.dns_model.specs.NameForm.{labels_in, name_in, labels_of, IsWire}

-- the labels at the front of bytes, with no limit on their length
abbrev pub front_labels : List ℕ → Option (Labels × List ℕ)
front_labels bytes = labels_in bytes bytes

-- how many bytes labels take that were read
abbrev pub end_of : Option (Labels × List ℕ) → Option ℕ
end_of read = option_map (λ (p : Labels × List ℕ). length (wire p.0)) read

-- how many bytes the labels at the front of bytes take
unfoldable pub end_in : List ℕ → Option ℕ
end_in bytes = end_of (front_labels bytes)

-- the first n bytes are a name's wire form, and the name at the front is that one
pub record IsFront (bytes : List ℕ) (n : ℕ) : Type 0 where
  pub fits : n ≤ length bytes
  pub form : IsWire (take n bytes)
  pub read : name_in bytes ≡ Some (labels_of (take n bytes), drop n bytes)
