-- Numbers of types, response codes and classes (RFC 1035, 3.2; RFC 4034; RFC 5155; the IANA registry of DNS parameters).
use Rattle.std.specs.Prelude.{ℕ, Bool, ◌==◌, ◌||◌}

abbrev pub type_a : ℕ
type_a = 1

abbrev pub type_ns : ℕ
type_ns = 2

abbrev pub type_cname : ℕ
type_cname = 5

abbrev pub type_soa : ℕ
type_soa = 6

-- RFC 3596, 2.1
abbrev pub type_aaaa : ℕ
type_aaaa = 28

-- RFC 6672, 2.1
abbrev pub type_dname : ℕ
type_dname = 39

abbrev pub type_opt : ℕ
type_opt = 41

abbrev pub type_ds : ℕ
type_ds = 43

abbrev pub type_rrsig : ℕ
type_rrsig = 46

abbrev pub type_nsec : ℕ
type_nsec = 47

abbrev pub type_dnskey : ℕ
type_dnskey = 48

abbrev pub type_nsec3 : ℕ
type_nsec3 = 50

-- all types, in a question alone (RFC 1035, 3.2.3)
abbrev pub type_any : ℕ
type_any = 255

-- response codes (RFC 1035, 4.1.1)
abbrev pub code_no_error : ℕ
code_no_error = 0

abbrev pub code_nx_domain : ℕ
code_nx_domain = 3

-- the codes of responses that deny (RFC 2308, 2)
abbrev pub can_deny : ℕ → Bool
can_deny code = (code == code_no_error) || (code == code_nx_domain)

abbrev pub class_in : ℕ
class_in = 1

abbrev pub class_any : ℕ
class_any = 255

-- the classes in which rdata has its type's shape; NONE is 254 (RFC 2136, 2.4)
abbrev pub has_shapes : ℕ → Bool
has_shapes class = (class == class_in) || (class == 254) || (class == class_any)
