-- Addresses are read by their grammar, and as they were written.
use Rattle.std.proofs.Common.{◌≡◌, ℕ, zero, suc, ◌*◌, ◌+◌, ◌/◌, ◌%◌, ◌<◌, ◌^◌, true, ◌==◌, List, [], ◌∷◌, ◌++◌, length, get_or, Option, None, Some, refl, sym, ap, subst, ◌∙◌, arith, append-nil, lit≤, inl, inr}
use Rattle.std.proofs.lemmas.Bool.{cases_Bool, eqb-true}
use Rattle.std.proofs.lemmas.Option.{same_Some}
use Rattle.std.specs.declared.net.ipv4_addr.Ipv4Addr.{Ipv4Addr}
use Rattle.std.specs.declared.net.ipv6_addr.Ipv6Addr.{Ipv6Addr}
use Rattle.std.specs.Net.Addr.{ipv4_octets, ipv6_octets, ipv6_segments, octets_of, segments_of}
use Rattle.std.specs.Net.Grammar.{IsColonHex, IsDotted, IsIpv4Text, IsIpv6Text}
use Rattle.std.specs.Net.Reader.{read_ipv4, read_ipv6, read_number, read_octet, read_segment, read_segments, whole_value}
use Rattle.std.specs.Net.Text.{ipv4_text, ipv6_text}
use Rattle.std.proofs.NetLemmas.Ipv4.{read_ipv4_complete, read_ipv4_sound}
use Rattle.std.proofs.NetLemmas.Ipv6.{EndsGroups-nil, read_ipv6_complete, read_ipv6_sound}
use Rattle.std.proofs.NetLemmas.Texts.{IsColonHex-ipv6_text, IsDotted-ipv4_text}
use Rattle.dns_model.specs.Bytes.{is_bytes}
use Rattle.dns_text.proofs.WordShapes.{bytes_below}
use Rattle.dns_master_words.specs.Addresses.{IsByGrammar, ipv4_in, ipv6_in, segments_in}

abbrev Read : Type 0
Read = Option (List ℕ × List ℕ)

whole_end : (read : Read) (value : List ℕ) → read ≡ Some (value, []) → whole_value read ≡ Some value
whole_end read value h = ap whole_value h

no_more : (rest : List ℕ) → (length rest == 0) ≡ true → rest ≡ []
no_more [] h = refl
no_more (b ∷ bs) h = let none : length (b ∷ bs) ≡ 0 = eqb-true (length (b ∷ bs)) 0 h in absurd (omega (arith, none))

whole_part : (value rest got : List ℕ) → whole_value (Some (value, rest)) ≡ Some got → (value ≡ got) × (rest ≡ [])
whole_part value rest got h =
    elim (cases_Bool (length rest == 0)) [
      | inl over ↦ (same_Some _ _ (rw over at h), no_more rest over)
      | inr left ↦ let none : None ≡ Some got = rw left at h in cc
    ]

-- ---- IPv4

pub ipv4_each : (word octets : List ℕ) → IsDotted word octets → ipv4_in word ≡ Some octets
unfolding ipv4_in
ipv4_each word octets h =
    whole_end (read_ipv4 word) octets
    (ap read_ipv4 (sym (append-nil word)) ∙ read_ipv4_complete word octets [] h (lit≤ tt))

ipv4_only_at : (word octets : List ℕ) (read : Read) → read_ipv4 word ≡ read → whole_value read ≡ Some octets
    → IsDotted word octets
ipv4_only_at word octets None is h = cc
ipv4_only_at word octets (Some (value, rest)) is h =
    let parts = whole_part value rest octets h in
    let (front, split, dotted) = read_ipv4_sound word value rest is in
    let same : front ≡ word = sym (append-nil front) ∙ ap (λ end. front ++ end) (sym parts.1) ∙ sym split in
    subst (λ w. IsDotted w octets) same (subst (λ o. IsDotted front o) parts.0 dotted)

pub ipv4_only : (word octets : List ℕ) → ipv4_in word ≡ Some octets → IsDotted word octets
unfolding ipv4_in
ipv4_only word octets h = ipv4_only_at word octets (read_ipv4 word) refl h

pub ipv4_read : (word : List ℕ) (a : Ipv4Addr) → IsIpv4Text word a → ipv4_in word ≡ Some (ipv4_octets a)
ipv4_read word a h = ipv4_each word (ipv4_octets a) h

ipv4_unread_at : (word : List ℕ) (read : Option (List ℕ)) → ipv4_in word ≡ read
    → ((a : Ipv4Addr) → ¬ (IsIpv4Text word a)) → read ≡ None
ipv4_unread_at word None is h = refl
ipv4_unread_at word (Some octets) is h =
    absurd (h (record { octets = octets }) (ipv4_only word octets is))

pub ipv4_unread : (word : List ℕ) → ((a : Ipv4Addr) → ¬ (IsIpv4Text word a)) → ipv4_in word ≡ None
ipv4_unread word h = ipv4_unread_at word (ipv4_in word) refl h

pub ipv4_back : (octets : List ℕ) → length octets ≡ 4 → is_bytes octets ≡ true
    → ipv4_in (ipv4_text octets) ≡ Some octets
ipv4_back octets four h = ipv4_each (ipv4_text octets) octets (IsDotted-ipv4_text octets four (bytes_below octets h))

-- ---- IPv6

pub ipv6_each : (word segments : List ℕ) → IsColonHex word segments → segments_in word ≡ Some segments
unfolding segments_in
ipv6_each word segments h =
    whole_end (read_ipv6 word) segments
    (ap read_ipv6 (sym (append-nil word)) ∙ read_ipv6_complete word segments [] h EndsGroups-nil)

ipv6_only_at : (word segments : List ℕ) (read : Read) → read_ipv6 word ≡ read → whole_value read ≡ Some segments
    → IsColonHex word segments
ipv6_only_at word segments None is h = cc
ipv6_only_at word segments (Some (value, rest)) is h =
    let parts = whole_part value rest segments h in
    let (front, split, spelled) = read_ipv6_sound word value rest is in
    let same : front ≡ word = sym (append-nil front) ∙ ap (λ end. front ++ end) (sym parts.1) ∙ sym split in
    subst (λ w. IsColonHex w segments) same (subst (λ s. IsColonHex front s) parts.0 spelled)

pub ipv6_only : (word segments : List ℕ) → segments_in word ≡ Some segments → IsColonHex word segments
unfolding segments_in
ipv6_only word segments h = ipv6_only_at word segments (read_ipv6 word) refl h

pub ipv6_read : (word : List ℕ) (a : Ipv6Addr) → IsIpv6Text word a → ipv6_in word ≡ Some (ipv6_octets a)
ipv6_read word a h = rw (ipv6_each word (ipv6_segments a) h) refl

ipv6_unread_at : (word : List ℕ) (read : Option (List ℕ)) → segments_in word ≡ read
    → ((a : Ipv6Addr) → ¬ (IsIpv6Text word a)) → read ≡ None
ipv6_unread_at word None is h = refl
ipv6_unread_at word (Some segments) is h =
    absurd (h (record { segments = segments }) (ipv6_only word segments is))

pub ipv6_unread : (word : List ℕ) → ((a : Ipv6Addr) → ¬ (IsIpv6Text word a)) → ipv6_in word ≡ None
ipv6_unread word h = rw (ipv6_unread_at word (segments_in word) refl h) refl

-- ---- sixteen bytes as eight segments

two_octets : (a b : ℕ) (rest : List ℕ) → b < 256
    → (a * 256 + b) / 256 ∷ (a * 256 + b) % 256 ∷ rest ≡ a ∷ b ∷ rest
two_octets a b rest small =
    let high : (a * 256 + b) / 256 ≡ a = omega arith in
    let low : (a * 256 + b) % 256 ≡ b = omega arith in
    rw (high, low) refl

-- bytes of which there are twice as many
pub segments_back : (n : ℕ) (octets : List ℕ) → length octets ≡ n * 2 → ((k : ℕ) → get_or octets k 0 < 2 ^ 8)
    → octets_of (segments_of octets) ≡ octets
segments_back n [] size below = refl
segments_back n (a ∷ []) size below = absurd (omega arith)
segments_back zero (a ∷ b ∷ octets) size below = absurd (omega arith)
segments_back (suc n) (a ∷ b ∷ octets) size below =
    let b_small : b < 256 = below 1 in
    two_octets a b (octets_of (segments_of octets)) b_small
    ∙ ap (λ rest. a ∷ b ∷ rest) (segments_back n octets (omega arith) (λ k. below (suc (suc k))))

pub segments_size : (n : ℕ) (octets : List ℕ) → length octets ≡ n * 2 → length (segments_of octets) ≡ n
segments_size zero [] size = refl
segments_size (suc n) [] size = absurd (omega arith)
segments_size n (a ∷ []) size = absurd (omega arith)
segments_size zero (a ∷ b ∷ octets) size = absurd (omega arith)
segments_size (suc n) (a ∷ b ∷ octets) size = ap suc (segments_size n octets (omega arith))

pub segments_below : (octets : List ℕ) → ((k : ℕ) → get_or octets k 0 < 2 ^ 8)
    → (k : ℕ) → get_or (segments_of octets) k 0 < 2 ^ 16
segments_below [] below k = omega arith
segments_below (a ∷ []) below k = omega arith
segments_below (a ∷ b ∷ octets) below zero =
    let first : a < 256 = below 0 in let second : b < 256 = below 1 in omega arith
segments_below (a ∷ b ∷ octets) below (suc k) = segments_below octets (λ i. below (suc (suc i))) k

pub ipv6_back : (octets : List ℕ) → length octets ≡ 16 → is_bytes octets ≡ true
    → ipv6_in (ipv6_text (segments_of octets)) ≡ Some octets
ipv6_back octets size h =
    let below = bytes_below octets h in
    let segments = segments_of octets in
    let spelled = IsColonHex-ipv6_text segments (segments_size 8 octets size) (segments_below octets below) in
    let read : segments_in (ipv6_text (segments_of octets)) ≡ Some (segments_of octets) =
    ipv6_each (ipv6_text segments) segments spelled in
    rw read (ap Some (segments_back 8 octets size below))

pub by_grammar : (word : List ℕ) → IsByGrammar word
by_grammar word =
    record {
      ipv4_only = ipv4_only word;
      ipv4_each = ipv4_each word;
      ipv6_only = ipv6_only word;
      ipv6_each = ipv6_each word;
    }

-- ---- no address is the empty word

pub ipv4_some : (word octets : List ℕ) → ipv4_in word ≡ Some octets → 0 < length word
unfolding ipv4_in read_ipv4 read_octet read_number
ipv4_some [] octets h = cc
ipv4_some (b ∷ bs) octets h = omega arith

pub ipv6_some : (word octets : List ℕ) → ipv6_in word ≡ Some octets → 0 < length word
unfolding segments_in read_ipv6 read_segments read_segment read_ipv4 read_octet read_number
ipv6_some [] octets h = cc
ipv6_some (b ∷ bs) octets h = omega arith
