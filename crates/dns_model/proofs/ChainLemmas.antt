-- Chains of trust: links that hold in parts, one more link, prefixes and the last link.
use Rattle.std.proofs.Common.{◌≡◌, ℕ, zero, suc, ◌-◌, ◌<◌, Bool, true, false, ◌==◌, ◌&&◌, List, [], ◌∷◌, ◌++◌, length, take, drop, Option, None, Some, refl, sym, ap, ◌∙◌, arith}
use Rattle.std.specs.List.{slice_get}
use Rattle.std.proofs.lemmas.Bool.{and_parts, and_from, or_left, or_right}
use Rattle.std.proofs.lemmas.List.{append-nil, append_assoc, take-append-drop}
use Rattle.std.specs.List.{AllByRecursion}
use Rattle.std.proofs.lemmas.Slice.Eq.{bytes_eq-Decides}
use Rattle.dns_model.specs.Names.{Labels, name_eq}
use Rattle.dns_model.specs.Types.{type_dnskey}
use Rattle.dns_model.specs.Keys.{bytes_eq}
use Rattle.dns_model.specs.Records.{Rr, RrSet}
use Rattle.dns_model.specs.Chains.{LinkValue, Anchored, Matched, KeySet, Signed, Judge, link_holds, links_hold, is_nonempty, justified, last_link, same_rdatas, rdatas_of, has_bytes, link_is_for, shows_member, shows_key}
use Rattle.dns_model.proofs.EachLemmas.{each_more}
use Rattle.dns_model.proofs.SetLemmas.{name_refl, name_trans, number_refl, number_same}
use Rattle.dns_model.proofs.TestLemmas.{and_true}

and_assoc : (x y z : Bool) → (x && (y && z)) ≡ (x && y && z)
and_assoc true y z = refl
and_assoc false y z = refl

-- links hold in two parts, the second after the first
pub links_hold-join : (j : Judge) (earlier links more : List LinkValue)
    → links_hold j earlier (links ++ more) ≡ (links_hold j earlier links && links_hold j (earlier ++ links) more)
unfolding links_hold
links_hold-join j earlier [] more = ap (λ e. links_hold j e more) (sym (append-nil earlier))
links_hold-join j earlier (link ∷ links) more =
    ap (λ b. link_holds j earlier link && b) (links_hold-join j (earlier ++ link ∷ []) links more)
    ∙ ap (λ e. link_holds j earlier link && (links_hold j (earlier ++ link ∷ []) links && links_hold j e more))
    (append_assoc earlier (link ∷ []) links)
    ∙ and_assoc (link_holds j earlier link) (links_hold j (earlier ++ link ∷ []) links) (links_hold j (earlier ++ link ∷ links) more)

-- one more link
pub links_hold-append : (j : Judge) (earlier links : List LinkValue) (link : LinkValue)
    → links_hold j earlier (links ++ link ∷ []) ≡ (links_hold j earlier links && link_holds j (earlier ++ links) link)
unfolding links_hold
links_hold-append j earlier links link =
    links_hold-join j earlier links (link ∷ [])
    ∙ ap (λ b. links_hold j earlier links && b) (and_true (link_holds j (earlier ++ links) link))

pub last_link-append : (chain : List LinkValue) (link : LinkValue) → last_link (chain ++ link ∷ []) ≡ Some link
unfolding last_link
last_link-append [] link = refl
last_link-append (x ∷ []) link = refl
last_link-append (x ∷ y ∷ chain) link = last_link-append (y ∷ chain) link

-- the link with the last number
pub slice_get-last : (chain : List LinkValue) → slice_get chain (length chain - 1) ≡ last_link chain
unfolding last_link
slice_get-last [] = refl
slice_get-last (x ∷ []) = refl
slice_get-last (x ∷ y ∷ chain) =
    let here : length (x ∷ y ∷ chain) - 1 ≡ suc (length (y ∷ chain) - 1) = omega arith in
    ap (slice_get (x ∷ y ∷ chain)) here ∙ slice_get-last (y ∷ chain)

pub is_nonempty-append : (chain : List LinkValue) (link : LinkValue) → is_nonempty (chain ++ link ∷ []) ≡ true
is_nonempty-append [] link = refl
is_nonempty-append (x ∷ chain) link = refl

-- a justified chain with one more link that holds is justified
pub justified_extends : (j : Judge) (chain : List LinkValue) (link : LinkValue) → justified j chain ≡ true → link_holds j chain link ≡ true
    → justified j (chain ++ link ∷ []) ≡ true
justified_extends j chain link held holds =
    let parts = and_parts (is_nonempty chain) (links_hold j [] chain) held in
    let both : (links_hold j [] chain && link_holds j chain link) ≡ true =
    and_from (links_hold j [] chain) (link_holds j chain link) parts.1 holds in
    and_from (is_nonempty (chain ++ link ∷ [])) (links_hold j [] (chain ++ link ∷ [])) (is_nonempty-append chain link)
    (links_hold-append j [] chain link ∙ both)

is_nonempty-take : (n : ℕ) (chain : List LinkValue) → 0 < n → is_nonempty chain ≡ true → is_nonempty (take n chain) ≡ true
is_nonempty-take zero chain some is = absurd (omega arith)
is_nonempty-take (suc n) [] some is = is
is_nonempty-take (suc n) (x ∷ chain) some is = refl

-- each prefix of a justified chain that has a link is justified
pub justified-take : (j : Judge) (n : ℕ) (chain : List LinkValue) → 0 < n → justified j chain ≡ true → justified j (take n chain) ≡ true
justified-take j n chain some held =
    let parts = and_parts (is_nonempty chain) (links_hold j [] chain) held in
    let cut : (links_hold j [] (take n chain) && links_hold j (take n chain) (drop n chain)) ≡ true =
    sym (links_hold-join j [] (take n chain) (drop n chain)) ∙ ap (links_hold j []) (take-append-drop n chain) ∙ parts.1 in
    let front = and_parts (links_hold j [] (take n chain)) (links_hold j (take n chain) (drop n chain)) cut in
    and_from (is_nonempty (take n chain)) (links_hold j [] (take n chain)) (is_nonempty-take n chain some parts.0) front.0

-- ---- lists of rdatas

pub bytes_refl : (bytes : List ℕ) → bytes_eq bytes bytes ≡ true
bytes_refl bytes = (bytes_eq-Decides bytes bytes).1 refl

pub bytes_same : (a b : List ℕ) → bytes_eq a b ≡ true → a ≡ b
bytes_same a b h = (bytes_eq-Decides a b).0 h

pub same_rdatas_refl : (xs : List (List ℕ)) → same_rdatas xs xs ≡ true
same_rdatas_refl [] = refl
same_rdatas_refl (x ∷ xs) = and_from (bytes_eq x x) (same_rdatas xs xs) (bytes_refl x) (same_rdatas_refl xs)

pub rdatas_same : (xs ys : List (List ℕ)) → same_rdatas xs ys ≡ true → xs ≡ ys
rdatas_same [] [] h = refl
rdatas_same [] (y ∷ ys) h = cc
rdatas_same (x ∷ xs) [] h = cc
rdatas_same (x ∷ xs) (y ∷ ys) h =
    let parts = and_parts (bytes_eq x y) (same_rdatas xs ys) h in
    ap (λ z. z ∷ xs) (bytes_same x y parts.0) ∙ ap (λ zs. y ∷ zs) (rdatas_same xs ys parts.1)

-- the rdata of each record is one of the rdatas
pub each_member : (records : List Rr) → AllByRecursion (λ r. has_bytes (rdatas_of records) r.rdata ≡ true) records
each_member [] = tt
each_member (x ∷ xs) = (
  or_left (bytes_eq x.rdata x.rdata) (has_bytes (rdatas_of xs) x.rdata) (bytes_refl x.rdata),
  each_more (λ r. has_bytes (rdatas_of xs) r.rdata ≡ true) (λ r. has_bytes (rdatas_of (x ∷ xs)) r.rdata ≡ true)
      (λ r. or_right (bytes_eq r.rdata x.rdata) (has_bytes (rdatas_of xs) r.rdata)) xs (each_member xs),
)

-- ---- what a link shows

-- a link is about a set, taken apart: its owner is the set's, its class and its rdatas too
about : (rtype_is : Bool) (set : RrSet) (owner : Labels) (class : ℕ) (rdatas : List (List ℕ))
    → (rtype_is && (name_eq set.owner owner && ((set.class == class) && same_rdatas (rdatas_of set.records) rdatas))) ≡ true
    → (name : Labels) (number : ℕ) (key : List ℕ) → name_eq name set.owner ≡ true → (number == set.class) ≡ true
    → has_bytes (rdatas_of set.records) key ≡ true
    → (rtype_is ≡ true) × ((name_eq name owner && ((number == class) && has_bytes rdatas key)) ≡ true)
about rtype_is set owner class rdatas h name number key is_owner is_class member =
    let one = and_parts rtype_is (name_eq set.owner owner && ((set.class == class) && same_rdatas (rdatas_of set.records) rdatas)) h in
    let two = and_parts (name_eq set.owner owner) ((set.class == class) && same_rdatas (rdatas_of set.records) rdatas) one.1 in
    let three = and_parts (set.class == class) (same_rdatas (rdatas_of set.records) rdatas) two.1 in
    let within : has_bytes rdatas key ≡ true = ap (λ xs. has_bytes xs key) (sym (rdatas_same (rdatas_of set.records) rdatas three.1))
    ∙ member in
    let class_is : (number == class) ≡ true = ap (λ n. n == class) (number_same number set.class is_class) ∙ three.0 in (
      one.0,
      and_from (name_eq name owner) ((number == class) && has_bytes rdatas key) (name_trans name set.owner owner is_owner two.0)
          (and_from (number == class) (has_bytes rdatas key) class_is within),
    )

-- a link for a key set shows each key of it
pub member_shown : (set : RrSet) (link : Option LinkValue) (name : Labels) (number : ℕ) (key : List ℕ)
    → link_is_for set link ≡ true → (set.rtype == type_dnskey) ≡ true → name_eq name set.owner ≡ true → (number == set.class) ≡ true
    → has_bytes (rdatas_of set.records) key ≡ true → shows_member name number key link ≡ true
member_shown set None name number key is keys owner class member = cc
member_shown set (Some (Anchored o c k)) name number key is keys owner class member = cc
member_shown set (Some (Matched o c k ds_link ds)) name number key is keys owner class member = cc
member_shown set (Some (KeySet o c ks links)) name number key is keys owner class member =
    (about (set.rtype == type_dnskey) set o c ks is name number key owner class member).1
member_shown set (Some (Signed o c rtype rdatas sig key_link k)) name number key is keys owner class member =
    let parts = about (set.rtype == rtype) set o c rdatas is name number key owner class member in
    let rtype_is : (rtype == type_dnskey) ≡ true = ap (λ n. n == type_dnskey) (sym (number_same set.rtype rtype parts.0)) ∙ keys in
    and_from (rtype == type_dnskey) (name_eq name o && ((number == c) && has_bytes rdatas key)) rtype_is parts.1

own_parts : (set : RrSet) → (name_eq set.owner set.owner
    && ((set.class == set.class) && same_rdatas (rdatas_of set.records) (rdatas_of set.records))) ≡ true
own_parts set =
    and_from (name_eq set.owner set.owner) ((set.class == set.class)
    && same_rdatas (rdatas_of set.records) (rdatas_of set.records)) (name_refl set.owner)
    (and_from (set.class == set.class) (same_rdatas (rdatas_of set.records) (rdatas_of set.records)) (number_refl set.class)
    (same_rdatas_refl (rdatas_of set.records)))

-- a signed link that is made of a set is for it
pub signed_is_for : (set : RrSet) (sig : List ℕ) (key_link : ℕ) (key : List ℕ)
    → link_is_for set (Some (Signed set.owner set.class set.rtype (rdatas_of set.records) sig key_link key)) ≡ true
signed_is_for set sig key_link key =
    and_from (set.rtype == set.rtype) (name_eq set.owner set.owner
    && ((set.class == set.class) && same_rdatas (rdatas_of set.records) (rdatas_of set.records)))
    (number_refl set.rtype) (own_parts set)

-- a key set's link that is made of a set is for it
pub keys_are_for : (set : RrSet) (links : List ℕ) → (set.rtype == type_dnskey) ≡ true
    → link_is_for set (Some (KeySet set.owner set.class (rdatas_of set.records) links)) ≡ true
keys_are_for set links keys =
    and_from (set.rtype == type_dnskey) (name_eq set.owner set.owner
    && ((set.class == set.class) && same_rdatas (rdatas_of set.records) (rdatas_of set.records)))
    keys (own_parts set)

-- an anchored key's link shows the key
pub anchor_shown : (owner : Labels) (class : ℕ) (key : List ℕ) → shows_key owner class key (Some (Anchored owner class key)) ≡ true
anchor_shown owner class key =
    and_from (name_eq owner owner) ((class == class) && bytes_eq key key) (name_refl owner)
    (and_from (class == class) (bytes_eq key key) (number_refl class) (bytes_refl key))
