-- The records by which keys are trusted, from a text: DNSKEY and DS records (RFC 4034, 2 and 5; RFC 5011, 2.1) in the form of master files
-- (RFC 1035, 5).
use Rattle.std.specs.Prelude.{ℕ, ◌+◌, ◌==◌, ◌&&◌, Bool, false, not, List, [], ◌∷◌, ◌++◌, if◌then◌else◌, Option, None, Some, is_some, Result, Ok, Err}
use Rattle.std.specs.Option.{option_map_or}
use Rattle.dns_model.specs.ResultSteps.{◌>>=◌}
use Rattle.dns_model.specs.Types.{class_in, type_dnskey, type_ds}
use Rattle.dns_model.specs.Views.{DnskeyValue, dnskey_in, ds_in, is_revoked, is_zone_key}
use Rattle.dns_master_file.specs.Reading.{LineValue, line_in}
use Rattle.dns_master_file.specs.declared.stop.LineError.{LineError}
use Rattle.dns_master_file.specs.declared.stop.LineError.TheVariants as line
use Rattle.dns_query_files.specs.TextLines.{lines_of}
use Rattle.dns_query_files.specs.declared.anchors_error.AnchorsError.{AnchorsError}
use Rattle.dns_query_files.specs.declared.anchors_error.AnchorsError.TheVariants.{BadLine, NoAnchor, Empty, NoMemory}

-- a key may be trusted that is a zone's, of the protocol 3, and isn't revoked
abbrev pub may_be_trusted : DnskeyValue → Bool
may_be_trusted key = is_zone_key key && (not (is_revoked key) && (key.protocol == 3))

-- such a key, or a digest of a key, in the class IN
abbrev pub is_anchor : LineValue → Bool
is_anchor entry =
    if entry.class == class_in
    then (if entry.rtype == type_dnskey then option_map_or may_be_trusted (dnskey_in entry.rdata) false
    else if entry.rtype == type_ds then is_some (ds_in entry.rdata)
    else false)
    else false

-- what a line says that was read, or why it wasn't
abbrev pub anchor_by : ℕ → Result (Option LineValue) LineError → Result (Option LineValue) AnchorsError
anchor_by number (Ok None) = Ok None
anchor_by number (Ok (Some entry)) = if is_anchor entry then Ok (Some entry) else Err (NoAnchor number)
anchor_by number (Err (line.Refused reason column)) = Err (BadLine number reason column)
anchor_by number (Err line.NoMemory) = Err NoMemory

-- what the line of this number says
abbrev pub anchor_at : ℕ → List ℕ → Result (Option LineValue) AnchorsError
anchor_at number text = anchor_by number (line_in text)

abbrev pub listed : {X : Type 0} → Option X → List X
listed None = []
listed (Some x) = x ∷ []

-- records in front of others
abbrev pub with_before : List LineValue → Result (List LineValue) AnchorsError → Result (List LineValue) AnchorsError
with_before seen others = others >>= λ more. Ok (seen ++ more)

-- what these lines say, of which the first has this number
unfoldable pub anchors_from : ℕ → List (List ℕ) → Result (List LineValue) AnchorsError
anchors_from number [] = Ok []
anchors_from number (text ∷ rest) = anchor_at number text >>= λ first. with_before (listed first) (anchors_from (number + 1) rest)

abbrev pub if_any : List LineValue → Result (List LineValue) AnchorsError
if_any [] = Err Empty
if_any (entry ∷ others) = Ok (entry ∷ others)

-- the records of a text, of which there is one at least
abbrev pub anchors_in : List ℕ → Result (List LineValue) AnchorsError
anchors_in text = anchors_from 1 (lines_of text) >>= if_any
