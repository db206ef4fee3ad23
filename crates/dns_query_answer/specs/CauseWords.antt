-- The cause of a set as words: why it isn't Secure (RFC 4035, 4.3, 5.2 and 5.3).
use Rattle.std.specs.Prelude.{ℕ, Bool, true, false, List, ◌++◌, codes, Option, None, Some}
use Rattle.dns_model.specs.Names.{Labels}
use Rattle.dns_model.specs.NameText.{printed}
use Rattle.dns_model.specs.declared.trail.MarkOrigin.{MarkOrigin}
use Rattle.dns_model.specs.declared.trail.MarkOrigin.TheVariants.{Table, Repeat, Cache}
use Rattle.dns_rules.specs.ProofErrors.{ProofErrorKindValue, RrsigsNotPresent, Net, RrsigsUnverified, DnskeyNotFound, DsRecordsButNoDnskey, DsRecordShouldExist, DsResponseInsecure, UnknownKeyAlgorithm}
use Rattle.dns_query_answer.specs.Places.{Place}

-- of a zone, that neither its DS record nor the absence of one is shown
unfoldable pub neither_words : Labels → List ℕ
neither_words zone = codes "neither a DS record of " ++ printed zone

unfoldable pub unshown_words : Labels → List ℕ
unshown_words zone = neither_words zone ++ codes " nor its absence is shown"

-- of a zone, that it has none
unfoldable pub unsigned_words : Labels → List ℕ
unsigned_words zone = printed zone ++ codes " has no DS record, and the zone above says so"

abbrev pub kind_words : ProofErrorKindValue → List ℕ
kind_words (RrsigsNotPresent name rtype) = codes "it has no signature that could be tried"
kind_words (Net query) = codes "a query that it needs failed"
kind_words (RrsigsUnverified name rtype) = codes "no signature proves it"
kind_words (DnskeyNotFound name) = codes "no key of it is a trust anchor that signs it"
kind_words (DsRecordsButNoDnskey name) = codes "no key that a DS record of the zone matches signs it"
kind_words (DsRecordShouldExist name) = unshown_words name
kind_words (DsResponseInsecure name) = unsigned_words name
kind_words UnknownKeyAlgorithm = codes "no DS record of its zone is of an algorithm and a digest type that are supported"
kind_words _ = codes "its keys don't prove it"

-- without a cause, a set was kept from an earlier lookup, or a key decided that isn't Secure
abbrev pub origin_words : MarkOrigin → List ℕ
origin_words Cache = codes "it was kept from an earlier lookup"
origin_words Table = codes "the keys of its signer aren't Secure"
origin_words (Repeat n) = codes "the keys of its signer aren't Secure"

abbrev pub cause_words_by : Option ProofErrorKindValue → MarkOrigin → List ℕ
cause_words_by (Some kind) origin = kind_words kind
cause_words_by None origin = origin_words origin

abbrev pub cause_words : Place → List ℕ
cause_words p = cause_words_by p.cause p.set.origin

-- ---- what a cause stands on

-- signatures were tried
abbrev pub kind_tries : ProofErrorKindValue → Bool
kind_tries (RrsigsUnverified name rtype) = true
kind_tries (DnskeyNotFound name) = true
kind_tries (DsRecordsButNoDnskey name) = true
kind_tries _ = false

abbrev pub tries : Option ProofErrorKindValue → Bool
tries None = false
tries (Some kind) = kind_tries kind

-- signatures of its own were tried, and none proves the set
abbrev pub kind_is_unverified : ProofErrorKindValue → Bool
kind_is_unverified (RrsigsUnverified name rtype) = true
kind_is_unverified _ = false

abbrev pub is_unverified : Option ProofErrorKindValue → Bool
is_unverified None = false
is_unverified (Some kind) = kind_is_unverified kind

-- keys that DS records match were tried, and none signs the set
abbrev pub kind_is_unmatched : ProofErrorKindValue → Bool
kind_is_unmatched (DsRecordsButNoDnskey name) = true
kind_is_unmatched _ = false

abbrev pub is_unmatched : Option ProofErrorKindValue → Bool
is_unmatched None = false
is_unmatched (Some kind) = kind_is_unmatched kind

-- what an ask came to is to blame
abbrev pub kind_follows : ProofErrorKindValue → Bool
kind_follows (Net query) = true
kind_follows (RrsigsUnverified name rtype) = true
kind_follows (DsRecordShouldExist name) = true
kind_follows _ = false

abbrev pub follows : Option ProofErrorKindValue → Bool
follows None = true
follows (Some kind) = kind_follows kind
