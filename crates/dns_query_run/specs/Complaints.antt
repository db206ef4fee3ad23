-- What is said on the standard error (form of this program): each line begins with its name. What is wrong with arguments names the argument, by
-- its number from 1.
use Rattle.std.specs.Prelude.{ℕ, ◌-◌, List, [], ◌∷◌, ◌++◌, codes, slice_get, unwrap_or, if◌then◌else◌}
use Rattle.std.specs.Fmt.{decimal}
use Rattle.std.specs.List.{flat_map}
use Rattle.std.specs.Option.{option_map_or}
use Rattle.dns_model.specs.Counts.{one_more}
use Rattle.dns_model.specs.Keys.{AnchorValue, holds_anchor}
use Rattle.dns_model.specs.Names.{Labels}
use Rattle.dns_model.specs.NameText.{printed}
use Rattle.dns_model.specs.Records.{Rr}
use Rattle.dns_model.specs.Views.{dnskey_in}
use Rattle.dns_model.specs.Signing.{key_tag}
use Rattle.dns_handle.specs.Replies.{error_of}
use Rattle.dns_report.specs.Faults.{fault_text}
use Rattle.dns_anchor_keys.specs.declared.fault.AnchorsFault.{AnchorsFault}
use Rattle.dns_anchor_keys.specs.declared.fault.AnchorsFault.TheVariants.{Unanswered, NoKey}
use Rattle.dns_anchor_keys.specs.declared.fault.AnchorsFault.TheVariants as fault
use Rattle.dns_master_file.specs.declared.stop.Refusal as line
use Rattle.dns_master_file.specs.declared.stop.Refusal.TheVariants as line_of
use Rattle.dns_query_files.specs.declared.anchors_error.AnchorsError.TheVariants.{BadLine, NoAnchor, Empty}
use Rattle.dns_query_files.specs.declared.anchors_error.AnchorsError.TheVariants as file
use Rattle.dns_query_words.specs.declared.stop.Refusal.{Refusal}
use Rattle.dns_query_words.specs.declared.stop.Refusal.TheVariants.{UnknownOption, Repeated, SecondServer, MissingValue, BadDepth, BadSeconds, BadName, BadType, ExtraWord, MissingName}
use Rattle.dns_saved_lookup.specs.declared.save_error.SaveError.{SaveError}
use Rattle.dns_saved_lookup.specs.declared.save_error.SaveError.TheVariants as save
use Rattle.dns_query_run.specs.declared.files.AnchorsStop.{AnchorsStop}
use Rattle.dns_query_run.specs.declared.files.AnchorsStop.TheVariants.{TooLong, Bad}
use Rattle.dns_query_run.specs.declared.files.ServerStop.{ServerStop}
use Rattle.dns_query_run.specs.declared.files.ServerStop.TheVariants.{NoAddress, NoServer}

-- a line of the program
unfoldable pub complaint : List ℕ → List ℕ
complaint text = codes "dns_query: " ++ (text ++ 10 ∷ [])

-- ---- arguments

abbrev pub argument_at : List (List ℕ) → ℕ → List ℕ
argument_at arguments place = unwrap_or (slice_get arguments place) []

unfoldable pub quoted : List ℕ → List ℕ
quoted text = 39 ∷ (text ++ 39 ∷ [])

-- an argument, between what is said of it
unfoldable pub numbered : List (List ℕ) → ℕ → List ℕ → List ℕ → List ℕ
numbered arguments place before behind =
    codes "argument " ++ (decimal (one_more place) ++ (codes ": " ++ (before ++ (quoted (argument_at arguments place) ++ behind))))

-- a value is missing behind the last argument
unfoldable pub missing_value : List (List ℕ) → ℕ → List ℕ
missing_value arguments place = codes "missing value for " ++ quoted (argument_at arguments (place - 1))

-- what is wrong, and with which argument, counted from 0
abbrev pub refused_words : List (List ℕ) → Refusal → ℕ → List ℕ
refused_words arguments UnknownOption place = numbered arguments place (codes "unknown option ") []
refused_words arguments Repeated place = numbered arguments place [] (codes " is given more than once")
refused_words arguments SecondServer place = numbered arguments place [] (codes " is a second server")
refused_words arguments MissingValue place = missing_value arguments place
refused_words arguments BadDepth place = numbered arguments place [] (codes " is not a depth from 0 to 255")
refused_words arguments BadSeconds place = numbered arguments place [] (codes " is not a number of seconds from 1 to 65535")
refused_words arguments BadName place = numbered arguments place [] (codes " is not a valid domain name")
refused_words arguments BadType place = numbered arguments place [] (codes " is not a record type")
refused_words arguments ExtraWord place = numbered arguments place (codes "unexpected ") (codes " after the record type")
refused_words arguments MissingName place = codes "missing domain name"

-- that, and where the arguments are told
abbrev pub help_hint : List ℕ
help_hint = codes "Try 'dns_query --help' for its arguments.\n"

unfoldable pub arguments_complaint : List (List ℕ) → Refusal → ℕ → List ℕ
arguments_complaint arguments reason place = complaint (refused_words arguments reason place) ++ help_hint

-- ---- files

abbrev pub server_words : ServerStop → List ℕ
server_words NoAddress = codes "the server behind @ must be an IP address, or an address and a port"
server_words NoServer = codes "no server is given, and /etc/resolv.conf names none"

-- what is wrong with a line of a master file (RFC 1035, 5.1; RFC 3597, 5)
abbrev pub line_words : line.Refusal → List ℕ
line_words line_of.NoOwner = codes "the owner name is missing"
line_words line_of.Directive = codes "directives aren't supported"
line_words line_of.Bracket = codes "records over several lines aren't supported"
line_words line_of.MissingWord = codes "a field is missing"
line_words line_of.ExtraWord = codes "unexpected field"
line_words line_of.QuotedWord = codes "unexpected quoted text"
line_words line_of.BadName = codes "not a valid domain name"
line_words line_of.BadClass = codes "not a class"
line_words line_of.BadType = codes "not a record type"
line_words line_of.BadNumber = codes "not a number, or out of range"
line_words line_of.BadDigits = codes "not hexadecimal"
line_words line_of.BadBase64 = codes "not base64"
line_words line_of.BadAddress = codes "not an address"
line_words line_of.BadTime = codes "not a time"
line_words line_of.BadHash = codes "not a hash in base32"
line_words line_of.BadTag = codes "not a tag"
line_words line_of.BadEscape = codes "not a valid escape"
line_words line_of.OpenQuote = codes "the closing quote is missing"
line_words line_of.LongText = codes "a text of more than 255 bytes"
line_words line_of.BadLength = codes "another number of bytes than is given"
line_words line_of.NoForm = codes "the type needs the generic form, \\# and the bytes"
line_words line_of.LongRdata = codes "more than 65535 bytes of rdata"

-- the file of trust anchors, and which line of it
unfoldable pub anchors_line : ℕ → List ℕ → List ℕ
anchors_line number text = codes "trust anchors, line " ++ (decimal number ++ text)

unfoldable pub column_words : ℕ → List ℕ → List ℕ
column_words column text = codes ", column " ++ (decimal column ++ (codes ": " ++ text))

abbrev pub anchors_words : AnchorsStop → List ℕ
anchors_words TooLong = codes "the file of trust anchors has more than 16777216 bytes"
anchors_words (Bad (BadLine number reason column)) = anchors_line number (column_words column (line_words reason))
anchors_words (Bad (NoAnchor number)) =
    anchors_line number (codes ": a trust anchor is a DS record, or a DNSKEY record of a zone key that isn't revoked, in the class IN")
anchors_words (Bad Empty) = codes "the file of trust anchors has no DS or DNSKEY record"
anchors_words (Bad file.NoMemory) = []

-- ---- keys

-- why no key is trusted
unfoldable pub unanswered_complaint : Labels → List ℕ → List ℕ
unanswered_complaint zone text = codes "dns_query: no keys of " ++ (printed zone ++ (codes ": " ++ text))

abbrev pub fault_complaint : AnchorsFault → List ℕ
fault_complaint (Unanswered zone error) = unanswered_complaint zone (fault_text (error_of error))
fault_complaint NoKey = complaint (codes "no key of the zone matches a DS trust anchor")
fault_complaint fault.NoMemory = []

-- a key is trusted that a zone answered with, since a DS record among the trust anchors matches it
unfoldable pub key_words : ℕ → List ℕ
key_words tag = codes "dns_query: the key " ++ (decimal tag ++ codes " of ")

unfoldable pub zone_words : Labels → List ℕ
zone_words zone = printed zone ++ codes " is trusted: a DS trust anchor matches it\n"

unfoldable pub trusted_line : Labels → ℕ → List ℕ
trusted_line zone tag = key_words tag ++ zone_words zone

unfoldable pub trusted_key : List AnchorValue → Rr → List ℕ
trusted_key anchors key =
    option_map_or (λ read.
    option_map_or (λ tag. if holds_anchor anchors key.owner read.algorithm read.key then trusted_line key.owner tag else [])
    (key_tag key.rdata) [])
    (dnskey_in key.rdata) []

-- each such key, in the order of the zones' answers
abbrev pub trusted_lines : List AnchorValue → List Rr → List ℕ
trusted_lines anchors keys = flat_map (trusted_key anchors) keys

-- ---- saving

abbrev pub unsaved_words : SaveError → List ℕ
unsaved_words save.Differs = codes "a lookup over the responses that came has another answer"
unsaved_words save.LongMessage = codes "a response has more than 65535 bytes"
unsaved_words save.LongText = codes "it has more than 16777216 bytes"
unsaved_words save.NoMemory = codes "out of memory"

abbrev pub unsaved_complaint : SaveError → List ℕ
unsaved_complaint why = complaint (codes "the session isn't saved: " ++ unsaved_words why)
