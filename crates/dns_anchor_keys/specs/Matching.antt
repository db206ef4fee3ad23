-- The keys that trust anchors stand for: a DNSKEY for itself, and a DS for the keys of its zone that have its digest
-- (RFC 4034, 2 and 5; RFC 4035, 5.2; RFC 7958, 2).
use Rattle.std.specs.Prelude.{Bool, false, ℕ, ◌==◌, ◌&&◌, List, [], ◌∷◌, ◌++◌, if◌then◌else◌}
use Rattle.std.specs.Option.{option_map_or}
use Rattle.dns_model.specs.Keys.{AnchorValue, VerifierAnswers, ds_covers_key, usable_key}
use Rattle.dns_model.specs.Names.{Labels, name_eq}
use Rattle.dns_model.specs.Records.{Rr}
use Rattle.dns_model.specs.Types.{class_in, type_dnskey, type_ds}
use Rattle.dns_model.specs.Views.{dnskey_in}
use Rattle.dns_master_file.specs.Reading.{LineValue}

-- the key of a rdata, as an anchor of a zone, if that can be read
abbrev pub anchor_in : Labels → List ℕ → List AnchorValue
anchor_in zone rdata = option_map_or (λ k. record { owner = zone; algorithm = k.algorithm; key = k.key } ∷ []) (dnskey_in rdata) []

-- the rdata is that of a key that may sign
abbrev pub is_usable_key : VerifierAnswers → List ℕ → Bool
is_usable_key answers rdata = option_map_or (usable_key answers) (dnskey_in rdata) false

-- a key of the zone that may sign, whose digest is that of a DS
abbrev pub is_key_of : VerifierAnswers → Labels → List ℕ → Rr → Bool
is_key_of answers zone ds r =
    (r.rtype == type_dnskey) && ((r.class == class_in) && (name_eq r.owner zone
    && (is_usable_key answers r.rdata && ds_covers_key answers zone r.rdata ds)))

-- of a zone's keys those that a DS stands for
unfoldable pub matched : VerifierAnswers → Labels → List ℕ → List Rr → List AnchorValue
matched answers zone ds [] = []
matched answers zone ds (r ∷ rest) =
    (if is_key_of answers zone ds r then anchor_in zone r.rdata else []) ++ matched answers zone ds rest

-- the keys that a line stands for
abbrev pub anchors_of_line : VerifierAnswers → List Rr → LineValue → List AnchorValue
anchors_of_line answers keys line =
    if line.rtype == type_ds then matched answers line.owner line.rdata keys
    else if line.rtype == type_dnskey then anchor_in line.owner line.rdata
    else []

-- the keys that lines stand for, where zones have these keys
unfoldable pub anchors_of : VerifierAnswers → List Rr → List LineValue → List AnchorValue
anchors_of answers keys [] = []
anchors_of answers keys (line ∷ rest) = anchors_of_line answers keys line ++ anchors_of answers keys rest
