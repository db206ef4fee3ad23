-- The line of a link tells the link, and the lines of chains the chains.
use Rattle.std.proofs.Common.{◌≡◌, ℕ, ◌^◌, ◌<◌, true, false, ◌&&◌, nat_lt, List, length, map, codes, get_or, refl, ap, arith}
use Rattle.std.specs.Fmt.{decimal}
use Rattle.std.specs.List.{list_all}
use Rattle.std.proofs.lemmas.Bool.{and_parts, ltb-true}
use Rattle.std.proofs.lemmas.Fmt.{decimal_injective}
use Rattle.dns_model.specs.Bytes.{is_bytes}
use Rattle.dns_model.specs.Names.{Labels}
use Rattle.dns_model.specs.declared.section.Section.{Section}
use Rattle.dns_text.specs.Words.{octets_word}
use Rattle.dns_report.specs.LineWords.{section_word}
use Rattle.dns_text.proofs.WordShapes.{decimal_word, octets_is_word, octets_injective}
use Rattle.dns_report.specs.Fields.{fitting_name, is_u16, is_u32}
use Rattle.dns_report.specs.View.{Numbered, Shown, Anchored, Matched, KeySet, Signed, ChainView, fitting_key, fitting_link, fitting_chain}
use Rattle.dns_report.specs.Report.{key_words}
use Rattle.dns_text.proofs.LineShapes.{Line, is_line}
use Rattle.dns_report.proofs.NameShapes.{printed_word}
use Rattle.dns_report.proofs.MarkWords.{section_injective, section_is_word}
use Rattle.dns_report.proofs.FieldWords.{class_good, type_good, number_good, rdatas_good, keys_good, name_tells, class_tells, type_tells, number_tells, rdatas_tell, keys_tell, more_words}
use Rattle.dns_report.proofs.LineBlocks.{Tells, Same, blocks, one_line, starts, named, first_line, other_lines, one_line_tells, blocks_tell, counted_tell, one_line_good, blocks_good, word_same}
use Rattle.dns_report.proofs.ReportLines.{link_of, front_of, chain_lines}

-- what a fitting link's fields are
pub record FitsAnchored (owner : Labels) (class : ℕ) (key : List ℕ) : Type 0 where
  pub named : fitting_name owner ≡ true
  pub classed : is_u16 class ≡ true
  pub keyed : is_bytes key ≡ true

pub fits_anchored : (owner : Labels) (class : ℕ) (key : List ℕ) → fitting_link (Anchored owner class key) ≡ true
    → FitsAnchored owner class key
fits_anchored owner class key h =
    let a = and_parts (fitting_name owner) (is_u16 class && is_bytes key) h in
    let b = and_parts (is_u16 class) (is_bytes key) a.1 in
    record { named = a.0; classed = b.0; keyed = b.1 }

pub record FitsMatched (owner : Labels) (class : ℕ) (key : List ℕ) (ds_link : ℕ) (ds : List ℕ) : Type 0 where
  pub named : fitting_name owner ≡ true
  pub classed : is_u16 class ≡ true
  pub keyed : is_bytes key ≡ true
  pub linked : is_u32 ds_link ≡ true
  pub shown : is_bytes ds ≡ true

pub fits_matched : (owner : Labels) (class : ℕ) (key : List ℕ) (ds_link : ℕ) (ds : List ℕ)
    → fitting_link (Matched owner class key ds_link ds) ≡ true
    → FitsMatched owner class key ds_link ds
fits_matched owner class key ds_link ds h =
    let a = and_parts (fitting_name owner) (is_u16 class && (is_bytes key && (is_u32 ds_link && is_bytes ds))) h in
    let b = and_parts (is_u16 class) (is_bytes key && (is_u32 ds_link && is_bytes ds)) a.1 in
    let c = and_parts (is_bytes key) (is_u32 ds_link && is_bytes ds) b.1 in
    let d = and_parts (is_u32 ds_link) (is_bytes ds) c.1 in
    record { named = a.0; classed = b.0; keyed = c.0; linked = d.0; shown = d.1 }

pub record FitsKeySet (owner : Labels) (class : ℕ) (keys : List Numbered) : Type 0 where
  pub named : fitting_name owner ≡ true
  pub classed : is_u16 class ≡ true
  pub keyed : list_all fitting_key keys ≡ true

pub fits_key_set : (owner : Labels) (class : ℕ) (keys : List Numbered) → fitting_link (KeySet owner class keys) ≡ true
    → FitsKeySet owner class keys
fits_key_set owner class keys h =
    let a = and_parts (fitting_name owner) (is_u16 class && list_all fitting_key keys) h in
    let b = and_parts (is_u16 class) (list_all fitting_key keys) a.1 in
    record { named = a.0; classed = b.0; keyed = b.1 }

pub record FitsSigned (owner : Labels) (class rtype : ℕ) (rdatas : List (List ℕ)) (sig : List ℕ) (key_link : ℕ)
    (key : List ℕ) : Type 0 where
  pub named : fitting_name owner ≡ true
  pub classed : is_u16 class ≡ true
  pub typed : is_u16 rtype ≡ true
  pub linked : is_u32 key_link ≡ true
  pub keyed : is_bytes key ≡ true
  pub signed : is_bytes sig ≡ true
  pub listed : list_all is_bytes rdatas ≡ true

pub fits_signed : (owner : Labels) (class rtype : ℕ) (rdatas : List (List ℕ)) (sig : List ℕ) (key_link : ℕ) (key : List ℕ)
    → fitting_link (Signed owner class rtype rdatas sig key_link key) ≡ true
    → FitsSigned owner class rtype rdatas sig key_link key
fits_signed owner class rtype rdatas sig key_link key h =
    let a =
    and_parts (fitting_name owner) (is_u16 class
    && (is_u16 rtype && (is_u32 key_link && (is_bytes key && (is_bytes sig && list_all is_bytes rdatas))))) h in
    let b =
    and_parts (is_u16 class) (is_u16 rtype && (is_u32 key_link && (is_bytes key && (is_bytes sig && list_all is_bytes rdatas)))) a.1 in
    let c =
    and_parts (is_u16 rtype) (is_u32 key_link && (is_bytes key && (is_bytes sig && list_all is_bytes rdatas))) b.1 in
    let d = and_parts (is_u32 key_link) (is_bytes key && (is_bytes sig && list_all is_bytes rdatas)) c.1 in
    let e = and_parts (is_bytes key) (is_bytes sig && list_all is_bytes rdatas) d.1 in
    let f = and_parts (is_bytes sig) (list_all is_bytes rdatas) e.1 in
    record { named = a.0; classed = b.0; typed = c.0; linked = d.0; keyed = e.0; signed = f.0; listed = f.1 }

pub link_good : (l : Shown) → fitting_link l ≡ true → is_line (link_of l) ≡ true
link_good (Anchored owner class key) h =
    let f =
    fits_anchored owner class key h in rw
    (printed_word owner, class_good class f.classed, octets_is_word key f.keyed) refl
link_good (Matched owner class key ds_link ds) h =
    let f = fits_matched owner class key ds_link ds h in
    rw (
      printed_word owner,
      class_good class f.classed,
      octets_is_word key f.keyed,
      number_good ds_link f.linked,
      octets_is_word ds f.shown,
    ) refl
link_good (KeySet owner class keys) h =
    let f =
    fits_key_set owner class keys h in rw (printed_word owner, class_good class f.classed, keys_good keys f.keyed) refl
link_good (Signed owner class rtype rdatas sig key_link key) h =
    let f = fits_signed owner class rtype rdatas sig key_link key h in
    rw (
      printed_word owner,
      class_good class f.classed,
      type_good rtype f.typed,
      number_good key_link f.linked,
      octets_is_word key f.keyed,
      octets_is_word sig f.signed,
      rdatas_good rdatas f.listed,
    ) refl

-- the first byte of a line's first word
abbrev letter : Line → ℕ
letter l = get_or l.0 0 0

apart : {X : Type 0} (l m : Line) → l ≡ m → (letter l ≡ letter m → ⊥) → X
apart l m h other = absurd (other (ap letter h))

anchored_same : (o p : Labels) (c d : ℕ) (k l : List ℕ) → o ≡ p → c ≡ d → k ≡ l → Anchored o c k ≡ Anchored p d l
anchored_same o p c d k l a b e = rw (a, b, e) refl

key_set_same : (o p : Labels) (c d : ℕ) (k l : List Numbered) → o ≡ p → c ≡ d → k ≡ l → KeySet o c k ≡ KeySet p d l
key_set_same o p c d k l a b e = rw (a, b, e) refl

-- a link's line tells it
link_tells : (l m : Shown) → fitting_link l ≡ true → fitting_link m ≡ true → link_of l ≡ link_of m → l ≡ m
link_tells (Anchored o c k) (Anchored p d l) first second h =
    let f = fits_anchored o c k first in
    let g = fits_anchored p d l second in
    anchored_same o p c d k l (name_tells o p f.named g.named (word_same _ _ 0 h))
    (class_tells c d f.classed g.classed (word_same _ _ 1 h))
    (octets_injective k l f.keyed g.keyed (word_same _ _ 2 h))
link_tells (Anchored o c k) (Matched p d l n y) first second h = apart _ _ h (λ (e : 97 ≡ 109). omega (arith, e))
link_tells (Anchored o c k) (KeySet p d l) first second h = apart _ _ h (λ (e : 97 ≡ 107). omega (arith, e))
link_tells (Anchored o c k) (Signed p d u s y n l) first second h = apart _ _ h (λ (e : 97 ≡ 115). omega (arith, e))
link_tells (Matched o c k m x) (Anchored p d l) first second h = apart _ _ h (λ (e : 109 ≡ 97). omega (arith, e))
link_tells (Matched o c k m x) (Matched p d l n y) first second h =
    let f = fits_matched o c k m x first in
    let g = fits_matched p d l n y second in
    let owner : o ≡ p = name_tells o p f.named g.named (word_same _ _ 0 h) in
    let class : c ≡ d = class_tells c d f.classed g.classed (word_same _ _ 1 h) in
    let key : k ≡ l = octets_injective k l f.keyed g.keyed (word_same _ _ 2 h) in
    let link : m ≡ n = number_tells m n f.linked g.linked (word_same _ _ 3 h) in
    let ds : x ≡ y = octets_injective x y f.shown g.shown (word_same _ _ 4 h) in
    λ i. Matched (owner i) (class i) (key i) (link i) (ds i)
link_tells (Matched o c k m x) (KeySet p d l) first second h = apart _ _ h (λ (e : 109 ≡ 107). omega (arith, e))
link_tells (Matched o c k m x) (Signed p d u s y n l) first second h = apart _ _ h (λ (e : 109 ≡ 115). omega (arith, e))
link_tells (KeySet o c k) (Anchored p d l) first second h = apart _ _ h (λ (e : 107 ≡ 97). omega (arith, e))
link_tells (KeySet o c k) (Matched p d l n y) first second h = apart _ _ h (λ (e : 107 ≡ 109). omega (arith, e))
link_tells (KeySet o c k) (KeySet p d l) first second h =
    let f = fits_key_set o c k first in
    let g = fits_key_set p d l second in
    let keys : key_words k ≡ key_words l = ap (λ (l : Line). more_words (more_words l.1)) h in
    key_set_same o p c d k l (name_tells o p f.named g.named (word_same _ _ 0 h))
    (class_tells c d f.classed g.classed (word_same _ _ 1 h))
    (keys_tell k l f.keyed g.keyed keys)
link_tells (KeySet o c k) (Signed p d u s y n l) first second h = apart _ _ h (λ (e : 107 ≡ 115). omega (arith, e))
link_tells (Signed o c t r x m k) (Anchored p d l) first second h = apart _ _ h (λ (e : 115 ≡ 97). omega (arith, e))
link_tells (Signed o c t r x m k) (Matched p d l n y) first second h = apart _ _ h (λ (e : 115 ≡ 109). omega (arith, e))
link_tells (Signed o c t r x m k) (KeySet p d l) first second h = apart _ _ h (λ (e : 115 ≡ 107). omega (arith, e))
link_tells (Signed o c t r x m k) (Signed p d u s y n l) first second h =
    let f = fits_signed o c t r x m k first in
    let g = fits_signed p d u s y n l second in
    let rdatas : map octets_word r ≡ map octets_word s =
    ap (λ (l : Line). more_words (more_words (more_words (more_words (more_words (more_words l.1)))))) h in
    let owner : o ≡ p = name_tells o p f.named g.named (word_same _ _ 0 h) in
    let class : c ≡ d = class_tells c d f.classed g.classed (word_same _ _ 1 h) in
    let rtype : t ≡ u = type_tells t u f.typed g.typed (word_same _ _ 2 h) in
    let link : m ≡ n = number_tells m n f.linked g.linked (word_same _ _ 3 h) in
    let key : k ≡ l = octets_injective k l f.keyed g.keyed (word_same _ _ 4 h) in
    let sig : x ≡ y = octets_injective x y f.signed g.signed (word_same _ _ 5 h) in
    let listed : r ≡ s = rdatas_tell r s f.listed g.listed rdatas in
    λ i. Signed (owner i) (class i) (rtype i) (listed i) (sig i) (link i) (key i)

-- ---- chains

pub record FitsChain (chain : ChainView) : Type 0 where
  pub count : length chain.links < 2 ^ 64
  pub links : list_all fitting_link chain.links ≡ true

pub fits_chain : (chain : ChainView) → fitting_chain chain ≡ true → FitsChain chain
fits_chain chain h =
    let parts = and_parts (nat_lt (length chain.links) (2 ^ 64)) (list_all fitting_link chain.links) h in
    record { count = ltb-true _ _ parts.0; links = parts.1 }

chain_same : (a b : Section) (ls ms : List Shown) → a ≡ b → ls ≡ ms
    → ◌≡◌ {A = ChainView} (record { section = a; links = ls }) (record { section = b; links = ms })
chain_same a b ls ms e f = rw (e, f) refl

-- the lines of a chain tell the chain
chain_tells : Tells chain_lines fitting_chain
chain_tells c d x y first second h =
    let one = fits_chain c first in
    let two = fits_chain d second in
    let front : front_of c ≡ front_of d = first_line h in
    let section : section_word c.section ≡ section_word d.section = word_same _ _ 0 front in
    let count : decimal (length c.links) ≡ decimal (length d.links) = word_same _ _ 1 front in
    let links =
    counted_tell (one_line link_of) fitting_link (one_line_tells link_of fitting_link link_tells) c.links d.links x y
    (decimal_injective (length c.links) (length d.links) one.count two.count count) one.links two.links
    (other_lines h) in
    record {
      value = chain_same c.section d.section c.links d.links (section_injective c.section d.section section) links.value;
      rest = links.rest;
    }

-- the lines of chains tell the chains
pub chains_tell : (cs ds : List ChainView) (x y : List Line) → list_all fitting_chain cs ≡ true
    → list_all fitting_chain ds ≡ true
    → starts (named (codes "chain")) x ≡ false → starts (named (codes "chain")) y ≡ false
    → blocks chain_lines cs x ≡ blocks chain_lines ds y → Same cs ds x y
chains_tell = blocks_tell chain_lines fitting_chain (named (codes "chain")) chain_tells (λ c x. refl)

pub chain_good : (c : ChainView) (more : List Line) → fitting_chain c ≡ true → list_all is_line more ≡ true
    → list_all is_line (chain_lines c more) ≡ true
chain_good c more h rest =
    let f = fits_chain c h in
    rw (section_is_word c.section, decimal_word (length c.links) f.count)
    (blocks_good (one_line link_of) fitting_link (one_line_good link_of fitting_link link_good) c.links more f.links rest)

pub chains_good : (cs : List ChainView) (more : List Line) → list_all fitting_chain cs ≡ true
    → list_all is_line more ≡ true
    → list_all is_line (blocks chain_lines cs more) ≡ true
chains_good = blocks_good chain_lines fitting_chain chain_good
