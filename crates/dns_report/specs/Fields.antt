-- What can stand in a field of a record or a link: names (RFC 1035, 3.1), and numbers of 16 and 32 bits.
use Rattle.std.specs.Prelude.{ℕ, Bool, ◌&&◌, nat_lt, ◌^◌}
use Rattle.std.specs.List.{list_all}
use Rattle.dns_model.specs.Bytes.{is_bytes}
use Rattle.dns_model.specs.Names.{Labels, is_name}

abbrev pub fitting_name : Labels → Bool
fitting_name name = is_name name && list_all is_bytes name

abbrev pub is_u16 : ℕ → Bool
is_u16 n = nat_lt n (2 ^ 16)

abbrev pub is_u32 : ℕ → Bool
is_u32 n = nat_lt n (2 ^ 32)
