-- The words of a report as they are read: those by which reports are written, but that a name may be spelled in any way that
-- sessions take (RFC 1035, 5.1), with or without the last dot.
use Rattle.std.specs.Prelude.{ℕ, Bool, true, false, not, ◌&&◌, ◌^◌, ◌-◌, nat_le, List, length, codes, Option, None, Some, option_map, if◌then◌else◌}
use Rattle.std.specs.List.{list_any}
use Rattle.std.specs.Char.{is_ascii_uppercase}
use Rattle.dns_model.specs.declared.proof.Proof.{Proof}
use Rattle.dns_model.specs.declared.proof.Proof.TheVariants.{Secure, Insecure, Bogus, Indeterminate}
use Rattle.dns_model.specs.declared.section.Section.{Section}
use Rattle.dns_model.specs.declared.section.Section.TheVariants.{Answer, Authority, Additional}
use Rattle.dns_model.specs.declared.trail.AskRef.{AskRef}
use Rattle.dns_model.specs.declared.trail.AskRef.TheVariants.{Step, TooDeep, TooMany}
use Rattle.dns_model.specs.declared.trail.MarkOrigin.{MarkOrigin}
use Rattle.dns_model.specs.declared.trail.MarkOrigin.TheVariants.{Table, Repeat, Cache}
use Rattle.dns_model.specs.Keys.{bytes_eq}
use Rattle.dns_model.specs.OptionSteps.{◌>>=◌}
use Rattle.dns_text.specs.Words.{decimal_in, octets_in}
use Rattle.dns_text.specs.Codes.{after_prefix}

-- a number of 16 bits: a code, a depth
abbrev pub u16_in : List ℕ → Option ℕ
u16_in word = decimal_in (2 ^ 16 - 1) word

-- a number of 32 bits: a ttl, and the number of a link or a step, a count or a place
abbrev pub u32_in : List ℕ → Option ℕ
u32_in word = decimal_in (2 ^ 32 - 1) word

-- bytes that an rdata may have, whose word is in lower case
abbrev pub if_rdata : List ℕ → List ℕ → Option (List ℕ)
if_rdata word bytes = if nat_le (length bytes) 65535 && not (list_any is_ascii_uppercase word) then Some bytes else None

-- an rdata: two hexadecimal digits in lower case for each byte, or `-` for none; at most 65,535 bytes (RFC 1035, 3.2.1)
unfoldable pub rdata_in : List ℕ → Option (List ℕ)
rdata_in word = octets_in word >>= if_rdata word

-- a mark (RFC 4035, 4.3)
unfoldable pub mark_in : List ℕ → Option Proof
mark_in word =
    if bytes_eq word (codes "secure") then Some Secure
    else if bytes_eq word (codes "insecure") then Some Insecure
    else if bytes_eq word (codes "bogus") then Some Bogus
    else if bytes_eq word (codes "indeterminate") then Some Indeterminate
    else None

-- a section (RFC 1035, 4.1)
unfoldable pub section_in : List ℕ → Option Section
section_in word =
    if bytes_eq word (codes "answer") then Some Answer
    else if bytes_eq word (codes "authority") then Some Authority
    else if bytes_eq word (codes "additional") then Some Additional
    else None

-- what a reply is asked for: to be judged, or only to see the name servers that it tells
unfoldable pub purpose_in : List ℕ → Option Bool
purpose_in word =
    if bytes_eq word (codes "judged") then Some true
    else if bytes_eq word (codes "ns") then Some false
    else None

-- an ask: its step's number, or why it wasn't made
unfoldable pub ask_in : List ℕ → Option AskRef
ask_in word =
    if bytes_eq word (codes "deep") then Some TooDeep
    else if bytes_eq word (codes "many") then Some TooMany
    else option_map Step (u32_in word)

-- where a mark comes from: the tables, an earlier step of the same query, or the cache
unfoldable pub origin_in : List ℕ → Option MarkOrigin
origin_in word =
    if bytes_eq word (codes "table") then Some Table
    else if bytes_eq word (codes "cache") then Some Cache
    else option_map Repeat (after_prefix (codes "repeat-") word >>= u32_in)

-- the place of the signature that decided, or `-` where none did
unfoldable pub place_in : List ℕ → Option (Option ℕ)
place_in word = if bytes_eq word (codes "-") then Some None else option_map Some (u32_in word)
