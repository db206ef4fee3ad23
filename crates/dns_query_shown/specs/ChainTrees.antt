-- Chains of trust as trees: each link stands below the one that it rests on, with the tags of keys (RFC 4034, appendix B;
-- RFC 4035, 5.2 and 5.3).
use Rattle.std.specs.Prelude.{ℕ, List, [], ◌∷◌, ◌++◌, codes, slice_get}
use Rattle.std.specs.Fmt.{decimal}
use Rattle.std.specs.List.{flat_map}
use Rattle.std.specs.Option.{option_map_or}
use Rattle.dns_model.specs.Chains.{LinkValue, Anchored, Matched, KeySet, Signed}
use Rattle.dns_model.specs.Names.{Labels}
use Rattle.dns_model.specs.NameText.{printed}
use Rattle.dns_model.specs.Signing.{key_tag}
use Rattle.dns_model.specs.SoundAnswers.{ChainValue}
use Rattle.dns_record.specs.Words.{type_word}
use Rattle.dns_report.specs.LineWords.{section_word}

-- ---- the words of a link

-- a key by its tag; an rdata that is too short for one has none
unfoldable pub key_words : List ℕ → List ℕ
key_words key = option_map_or (λ tag. codes "key " ++ decimal tag) (key_tag key) (codes "key")

-- an owner and a type
unfoldable pub set_words : Labels → ℕ → List ℕ
set_words owner rtype = printed owner ++ (32 ∷ type_word rtype)

-- the keys of a set, each behind a comma
abbrev pub listed_key : List ℕ → List ℕ
listed_key key = codes ", " ++ key_words key

-- the key that signed a set, behind what is said of it
unfoldable pub signed_by : List ℕ → List ℕ
signed_by key = codes ", signed by " ++ key_words key

-- what a link says: a key that is trusted, a key that a DS record names, a key set with its keys, or a set and the key that signed it
abbrev pub link_words : LinkValue → List ℕ
link_words (Anchored owner class key) = printed owner ++ (32 ∷ (key_words key ++ codes ", trusted"))
link_words (Matched owner class key ds_link ds) = printed owner ++ (32 ∷ (key_words key ++ codes ", of its DS record"))
link_words (KeySet owner class keys links) = printed owner ++ (codes " DNSKEY" ++ flat_map listed_key keys)
link_words (Signed owner class rtype rdatas sig key_link key) = set_words owner rtype ++ signed_by key

-- ---- where a link stands

-- how far a line is moved to the right that stands below nothing, and how much further below another
abbrev pub first_indent : List ℕ
first_indent = codes "  "

-- the indent of what rests on the link of a number, by the indents of the links so far
abbrev pub below : List (List ℕ) → ℕ → List ℕ
below above n = option_map_or (λ indent. indent ++ codes "  ") (slice_get above n) first_indent

-- a key set stands below the link that shows its first key
abbrev pub indent_of : List (List ℕ) → LinkValue → List ℕ
indent_of above (Anchored owner class key) = first_indent
indent_of above (Matched owner class key ds_link ds) = below above ds_link
indent_of above (KeySet owner class keys links) = option_map_or (below above) (slice_get links 0) first_indent
indent_of above (Signed owner class rtype rdatas sig key_link key) = below above key_link

-- ---- the tree

abbrev pub link_line : List ℕ → LinkValue → List ℕ
link_line indent link = indent ++ (link_words link ++ 10 ∷ [])

-- a line for each link, in order, by the indents of those before
unfoldable pub tree_lines : List (List ℕ) → List LinkValue → List ℕ
tree_lines above [] = []
tree_lines above (link ∷ links) = link_line (indent_of above link) link ++ tree_lines (above ++ indent_of above link ∷ []) links

-- the section of the chain's set, and the links from the trusted keys down to the set
abbrev pub chain_text : ChainValue → List ℕ
chain_text chain = section_word chain.section ++ (codes ":\n" ++ tree_lines [] chain.links)

-- each chain, in order
abbrev pub chains_text : List ChainValue → List ℕ
chains_text chains = flat_map chain_text chains
