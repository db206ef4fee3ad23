-- The keys that are written are exactly the trusted ones.
use Rattle.std.proofs.Common.{◌≡◌, ℕ, Bool, true, false, cond, not, ◌&&◌, ◌||◌, List, [], ◌∷◌, ◌++◌, drop, map, reverse, Option, None, Some, is_some, refl, sym, ap, ◌∙◌}
use Rattle.std.specs.Prelude.{◌==◌, if◌then◌else◌}
use Rattle.std.specs.List.{filter, flat_map, list_any}
use Rattle.std.specs.Option.{option_map_or}
use Rattle.std.proofs.lemmas.Bool.{and_parts}
use Rattle.std.proofs.lemmas.List.Folds.{list_any-append}
use Rattle.std.proofs.lemmas.List.Sorted.{IsPermutation-reverse, list_any-IsPermutation}
use Rattle.std.proofs.lemmas.Slice.Eq.{bytes_eq-Decides}
use Rattle.dns_model.specs.Keys.{bytes_eq}
use Rattle.dns_model.specs.Names.{Labels, name_eq}
use Rattle.dns_model.specs.Records.{Rr}
use Rattle.dns_model.specs.RecordViews.{dnskey_of}
use Rattle.dns_model.specs.Types.{type_dnskey}
use Rattle.dns_model.specs.Views.{DnskeyValue, dnskey_in}
use Rattle.dns_model.proofs.TestLemmas.{if_some, or_false, same_test}
use Rattle.dns_anchor_roll.specs.Facts.{Fact}
use Rattle.dns_anchor_roll.specs.FollowedKeys.{counting, counts, followed, is_given, is_unrevoked, key_bytes, key_in, shows_form}
use Rattle.dns_anchor_roll.specs.Sightings.{SightingValue}
use Rattle.dns_anchor_roll.specs.Trust.{Start, accepted, facts, is_held, is_over, is_revoked_by, oldest, stretch, trusted, trusted_by, was_held}
use Rattle.dns_anchor_roll.proofs.Keys.{bytes_behind}
use Rattle.dns_anchor_roll.proofs.Lists.{any_and, any_filter, any_flat_map}
use Rattle.dns_anchor_roll.proofs.Steps.{stretch_cons}
use Rattle.dns_roll.specs.RollLaws.{ExactlyTrusted}
use Rattle.dns_roll.specs.TrustedText.{first_rdatas, first_trusted, is_new_key, is_same_key, is_trusted_key, named_rdatas, rdatas_in, trusted_rdatas}

-- an rdata is this key
abbrev is_it : List ℕ → List ℕ → Bool
is_it key rdata = option_map_or (λ text. bytes_eq key (key_bytes text)) (key_in rdata) false

or_right : (a b : Bool) → b ≡ true → (a || b) ≡ true
or_right true b h = refl
or_right false b h = h

or_again : (a b c : Bool) → ((a || b) || c) ≡ (a || (b || c))
or_again true b c = refl
or_again false b c = refl

-- ---- of rdatas that count, the first of each key tell all of their keys

-- which key an rdata that counts is
record Tells (rdata : List ℕ) : Type 0 where
  text : DnskeyValue
  reads : key_in rdata ≡ Some text
  behind : drop 3 rdata ≡ key_bytes text

tells_if : (rdata : List ℕ) (text : DnskeyValue) (b : Bool) → counts text ≡ b → dnskey_in rdata ≡ Some text
    → is_some (if b then Some text else None) ≡ true → Tells rdata
tells_if rdata text true is e h = record {
  text = text;
  reads = ap counting e ∙ ap (λ c. if c then Some text else None) is;
  behind = bytes_behind rdata text e;
}
tells_if rdata text false is e h = cc

tells_by : (rdata : List ℕ) (read : Option DnskeyValue) → dnskey_in rdata ≡ read → is_some (counting read) ≡ true
    → Tells rdata
tells_by rdata None e h = cc
tells_by rdata (Some text) e h = tells_if rdata text (counts text) refl e h

tells_of : (rdata : List ℕ) → is_some (key_in rdata) ≡ true → Tells rdata
tells_of rdata h = tells_by rdata (dnskey_in rdata) refl h

-- what it is, by the bytes behind flags and protocol
it_is : (key rdata : List ℕ) → Tells rdata → is_it key rdata ≡ bytes_eq key (drop 3 rdata)
it_is key rdata t =
    ap (λ o. option_map_or (λ text. bytes_eq key (key_bytes text)) o false) t.reads ∙ ap (bytes_eq key) (sym t.behind)

abbrev AllTell : List (List ℕ) → Type 0
AllTell [] = Unit {0}
AllTell (rdata ∷ rest) = Tells rdata × AllTell rest

tell_push : (rdatas : List (List ℕ)) (rdata : List ℕ) → AllTell rdatas → Tells rdata → AllTell (rdatas ++ rdata ∷ [])
tell_push [] rdata all t = (t, tt)
tell_push (r ∷ rest) rdata all t = (all.0, tell_push rest rdata all.1 t)

-- a key of one of them is a key of an earlier one that is the same
same_step : (key rdata e : List ℕ) (es : List (List ℕ)) (b : Bool) → is_same_key rdata e ≡ b → Tells e → Tells rdata
    → is_it key rdata ≡ true → (b || list_any (is_same_key rdata) es) ≡ true
    → (list_any (is_same_key rdata) es ≡ true → is_given es key ≡ true) → is_given (e ∷ es) key ≡ true
same_step key rdata e es true same own t is h later =
    let one : key ≡ drop 3 rdata = (bytes_eq-Decides key (drop 3 rdata)).0 (sym (it_is key rdata t) ∙ is) in
    let two : drop 3 rdata ≡ drop 3 e = (bytes_eq-Decides (drop 3 rdata) (drop 3 e)).0 same in
    ap (λ b. b || is_given es key) (it_is key e own ∙ (bytes_eq-Decides key (drop 3 e)).1 (one ∙ two))
same_step key rdata e es false same own t is h later = or_right (is_it key e) (is_given es key) (later h)

same_given : (key rdata : List ℕ) (earlier : List (List ℕ)) → AllTell earlier → Tells rdata → is_it key rdata ≡ true
    → list_any (is_same_key rdata) earlier ≡ true → is_given earlier key ≡ true
same_given key rdata [] all t is h = cc
same_given key rdata (e ∷ es) all t is h =
    same_step key rdata e es (is_same_key rdata e) refl all.0 t is h (same_given key rdata es all.1 t is)

given_push : (earlier : List (List ℕ)) (rdata key : List ℕ)
    → is_given (earlier ++ rdata ∷ []) key ≡ (is_given earlier key || is_it key rdata)
given_push earlier rdata key =
    list_any-append (is_it key) earlier (rdata ∷ []) ∙ ap (λ b. is_given earlier key || b) (or_false (is_it key rdata))

not_true : (b : Bool) → not b ≡ false → b ≡ true
not_true true h = refl
not_true false h = cc

known_step : (earlier : List (List ℕ)) (rdata key : List ℕ) (c : Bool) → is_it key rdata ≡ c → AllTell earlier
    → Tells rdata → list_any (is_same_key rdata) earlier ≡ true → is_given earlier key ≡ (is_given earlier key || c)
known_step earlier rdata key true is all t same =
    same_given key rdata earlier all t is same ∙ sym (or_right (is_given earlier key) true refl)
known_step earlier rdata key false is all t same = sym (or_false (is_given earlier key))

-- those after a rdata, behind those up to it
pushed_step : (earlier rest firsts : List (List ℕ)) (rdata key : List ℕ)
    → (is_given (earlier ++ rdata ∷ []) key || is_given firsts key)
    ≡ (is_given (earlier ++ rdata ∷ []) key || is_given rest key)
    → ((is_given earlier key || is_it key rdata) || is_given firsts key)
    ≡ (is_given earlier key || (is_it key rdata || is_given rest key))
pushed_step earlier rest firsts rdata key later =
    ap (λ b. b || is_given firsts key) (sym (given_push earlier rdata key))
    ∙ later
    ∙ ap (λ b. b || is_given rest key) (given_push earlier rdata key)
    ∙ or_again (is_given earlier key) (is_it key rdata) (is_given rest key)

first_step : (earlier rest firsts : List (List ℕ)) (rdata key : List ℕ) (b : Bool) → is_new_key earlier rdata ≡ b
    → AllTell earlier → Tells rdata
    → (is_given (earlier ++ rdata ∷ []) key || is_given firsts key)
    ≡ (is_given (earlier ++ rdata ∷ []) key || is_given rest key)
    → (is_given earlier key || is_given (cond b (rdata ∷ firsts) firsts) key)
    ≡ (is_given earlier key || (is_it key rdata || is_given rest key))
first_step earlier rest firsts rdata key true new all t later =
    sym (or_again (is_given earlier key) (is_it key rdata) (is_given firsts key))
    ∙ pushed_step earlier rest firsts rdata key later
first_step earlier rest firsts rdata key false new all t later =
    ap (λ b. b || is_given firsts key)
    (known_step earlier rdata key (is_it key rdata) refl all t (not_true (list_any (is_same_key rdata) earlier) new))
    ∙ pushed_step earlier rest firsts rdata key later

first_given : (earlier rdatas : List (List ℕ)) (key : List ℕ) → AllTell earlier → AllTell rdatas
    → (is_given earlier key || is_given (first_rdatas earlier rdatas) key)
    ≡ (is_given earlier key || is_given rdatas key)
unfolding first_rdatas
first_given earlier [] key before all = refl
first_given earlier (rdata ∷ rest) key before all =
    first_step earlier rest (first_rdatas (earlier ++ rdata ∷ []) rest) rdata key (is_new_key earlier rdata) refl before
    all.0 (first_given (earlier ++ rdata ∷ []) rest key (tell_push earlier rdata before all.0) all.1)

-- ---- those that are trusted

trusted_tells : (t : List ℕ → Bool) (rdata : List ℕ) (o : Option DnskeyValue) → key_in rdata ≡ o
    → option_map_or (λ text. t (key_bytes text)) o false ≡ true → is_some (key_in rdata) ≡ true
trusted_tells t rdata None e h = cc
trusted_tells t rdata (Some text) e h = ap is_some e

tells_step : (t : List ℕ → Bool) (rdata : List ℕ) (rest : List (List ℕ)) (b : Bool) → is_trusted_key t rdata ≡ b
    → AllTell rest → AllTell (cond b (rdata ∷ rest) rest)
tells_step t rdata rest true is all = (tells_of rdata (trusted_tells t rdata (key_in rdata) refl is), all)
tells_step t rdata rest false is all = all

filter_tells : (t : List ℕ → Bool) (rdatas : List (List ℕ)) → AllTell (filter (is_trusted_key t) rdatas)
filter_tells t [] = tt
filter_tells t (rdata ∷ rest) =
    tells_step t rdata (filter (is_trusted_key t) rest) (is_trusted_key t rdata) refl (filter_tells t rest)

and_false : (b : Bool) → (b && false) ≡ false
and_false true = refl
and_false false = refl

its_trust : (t : List ℕ → Bool) (key other : List ℕ) (b : Bool) → bytes_eq key other ≡ b → (t other && b) ≡ (t key && b)
its_trust t key other true is = ap (λ k. t k && true) (sym ((bytes_eq-Decides key other).0 is))
its_trust t key other false is = and_false (t other) ∙ sym (and_false (t key))

one_trusted : (t : List ℕ → Bool) (key : List ℕ) (o : Option DnskeyValue)
    → (option_map_or (λ text. t (key_bytes text)) o false && option_map_or (λ text. bytes_eq key
    (key_bytes text)) o false)
    ≡ (t key && option_map_or (λ text. bytes_eq key (key_bytes text)) o false)
one_trusted t key None = sym (and_false (t key))
one_trusted t key (Some text) = its_trust t key (key_bytes text) (bytes_eq key (key_bytes text)) refl

any_agree : {X : Type 0} (p q : X → Bool) → ((x : X) → p x ≡ q x) → (xs : List X) → list_any p xs ≡ list_any q xs
any_agree p q same [] = refl
any_agree p q same (x ∷ xs) = ap (λ b. b || list_any p xs) (same x) ∙ ap (λ b. q x || b) (any_agree p q same xs)

trusted_given : (t : List ℕ → Bool) (rdatas : List (List ℕ)) (key : List ℕ)
    → is_given (filter (is_trusted_key t) rdatas) key ≡ (t key && is_given rdatas key)
trusted_given t rdatas key =
    any_filter (is_it key) (is_trusted_key t) rdatas
    ∙ any_agree (λ (r : List ℕ). is_trusted_key t r && is_it key r) (λ (r : List ℕ). t key && is_it key r)
    (λ r. one_trusted t key
    (key_in r)) rdatas
    ∙ any_and (t key) (is_it key) rdatas

first_trusted_given : (t : List ℕ → Bool) (rdatas : List (List ℕ)) (key : List ℕ)
    → is_given (first_trusted t rdatas) key ≡ (t key && is_given rdatas key)
first_trusted_given t rdatas key =
    first_given [] (filter (is_trusted_key t) rdatas) key tt (filter_tells t rdatas) ∙ trusted_given t rdatas key

-- ---- a trusted key is named

weaker_step : (a b c d : Bool) → (a ≡ true → b ≡ true) → (c ≡ true → d ≡ true) → (a || c) ≡ true → (b || d) ≡ true
weaker_step true b c d here later h = ap (λ x. x || d) (here refl)
weaker_step false b c d here later h = or_right b d (later h)

any_weaker : {X : Type 0} (p q : X → Bool) → ((x : X) → p x ≡ true → q x ≡ true) → (xs : List X)
    → list_any p xs ≡ true → list_any q xs ≡ true
any_weaker p q each [] h = h
any_weaker p q each (x ∷ xs) h = weaker_step (p x) (q x) (list_any p xs) (list_any q xs) (each x)
    (any_weaker p q each xs) h

-- a stretch that ends with a fact shows its key there
held_shows : (key : List ℕ) (f : Fact) (older : List Fact) (b : Bool) → f.shows key ≡ b
    → is_held key f older ≡ true → b ≡ true
held_shows key f older true e h = refl
held_shows key f older false e h =
    let none : stretch key (f ∷ older) ≡ [] = stretch_cons key f older
    ∙ ap (λ c. cond c (f ∷ stretch key older) []) e in
    let never : is_held key f older ≡ false = ap (λ fs. option_map_or (λ first. is_over first f.moment)
    (oldest fs) false) none in
    sym never ∙ h

held_any : (key : List ℕ) (fs : List Fact) → was_held key fs ≡ true → list_any (λ f. f.shows key) fs ≡ true
unfolding was_held
held_any key [] h = h
held_any key (f ∷ older) h =
    weaker_step (is_held key f older) (f.shows key) (was_held key older) (list_any (λ (g : Fact). g.shows key) older)
    (held_shows key f older (f.shows key) refl) (held_any key older) h

accepted_any : (key : List ℕ) (fs : List Fact) → list_any (λ f. f.shows key) (accepted fs) ≡ true
    → list_any (λ f. f.shows key) fs ≡ true
accepted_any key fs h =
    any_weaker (λ (f : Fact). is_some f.ttl && f.shows key) (λ (f : Fact). f.shows key) (λ f e. (and_parts
    (is_some f.ttl)
    (f.shows key) e).1) fs
    (sym (any_filter (λ (f : Fact). f.shows key) (λ (f : Fact). is_some f.ttl) fs) ∙ h)

abbrev shows : Labels → List ℕ → SightingValue → Bool
shows zone key s = list_any (shows_form zone is_unrevoked key) s.set.records

facts_any : (start : Start) (list : List SightingValue) (key : List ℕ)
    → list_any (λ f. f.shows key) (facts start list) ≡ list_any (shows start.zone key) list
unfolding facts
facts_any start [] key = refl
facts_any start (s ∷ past) key = ap (λ b. shows start.zone key s || b) (facts_any start past key)

form_step : (key : List ℕ) (o : Option DnskeyValue)
    → option_map_or (λ text. is_unrevoked text && bytes_eq key (key_bytes text)) o false ≡ true
    → option_map_or (λ text. bytes_eq key (key_bytes text)) o false ≡ true
form_step key None h = h
form_step key (Some text) h = (and_parts (is_unrevoked text) (bytes_eq key (key_bytes text)) h).1

followed_step : (key : List ℕ) (r : Rr) (own typed : Bool)
    → option_map_or (λ text. is_unrevoked text && bytes_eq key (key_bytes text))
    (if own then counting (if typed then dnskey_in r.rdata else None) else None) false ≡ true
    → is_it key r.rdata ≡ true
followed_step key r true true h = form_step key (key_in r.rdata) h
followed_step key r true false h = cc
followed_step key r false typed h = cc

shown_it : (zone : Labels) (key : List ℕ) (r : Rr) → shows_form zone is_unrevoked key r ≡ true
    → is_it key r.rdata ≡ true
shown_it zone key r h = followed_step key r (name_eq zone r.owner) (r.rtype == type_dnskey) h

any_map : {X Y : Type 0} (p : Y → Bool) (f : X → Y) (xs : List X) → list_any p (map f xs) ≡ list_any (λ x. p (f x)) xs
any_map p f [] = refl
any_map p f (x ∷ xs) = ap (λ b. p (f x) || b) (any_map p f xs)

sighting_names : (zone : Labels) (key : List ℕ) (s : SightingValue) → shows zone key s ≡ true
    → list_any (is_it key) (rdatas_in s) ≡ true
sighting_names zone key s h =
    any_map (is_it key) (λ (r : Rr). r.rdata) s.set.records
    ∙ any_weaker (shows_form zone is_unrevoked key) (λ (r : Rr). is_it key r.rdata) (shown_it zone key) s.set.records h

shown_named : (start : Start) (sightings : List SightingValue) (key : List ℕ)
    → list_any (λ f. f.shows key) (facts start (reverse sightings)) ≡ true
    → list_any (is_it key) (flat_map rdatas_in sightings) ≡ true
shown_named start sightings key h =
    any_flat_map (is_it key) rdatas_in sightings
    ∙ any_weaker (shows start.zone key) (λ (s : SightingValue). list_any (is_it key) (rdatas_in s))
    (sighting_names start.zone key) sightings
    (list_any-IsPermutation (shows start.zone key) sightings (reverse sightings) (IsPermutation-reverse sightings)
    ∙ sym (facts_any start (reverse sightings) key) ∙ h)

named_step : (start : Start) (sightings : List SightingValue) (key : List ℕ) (b : Bool)
    → is_given start.given key ≡ b
    → (b || was_held key (accepted (facts start (reverse sightings)))) ≡ true
    → is_given (named_rdatas start.given sightings) key ≡ true
named_step start sightings key true e h =
    list_any-append (is_it key) start.given (flat_map rdatas_in sightings)
    ∙ ap (λ c. c || list_any (is_it key) (flat_map rdatas_in sightings)) e
named_step start sightings key false e h =
    list_any-append (is_it key) start.given (flat_map rdatas_in sightings)
    ∙ or_right (is_given start.given key) (list_any (is_it key) (flat_map rdatas_in sightings))
    (shown_named start sightings key (accepted_any key (facts start (reverse sightings)) (held_any key (accepted
    (facts start (reverse sightings))) h)))

trusted_named : (start : Start) (sightings : List SightingValue) (key : List ℕ)
    → trusted start (reverse sightings) key ≡ true
    → is_given (named_rdatas start.given sightings) key ≡ true
trusted_named start sightings key h =
    named_step start sightings key (is_given start.given key) refl
    (and_parts (not (is_revoked_by (facts start (reverse sightings)) key))
    (is_given start.given key || was_held key (accepted (facts start (reverse sightings)))) h).1

named_all : (a b : Bool) → (a ≡ true → b ≡ true) → (a && b) ≡ a
named_all true b h = h refl
named_all false b h = refl

pub exact_law : ExactlyTrusted
exact_law start sightings key =
    first_trusted_given (trusted start (reverse sightings)) (named_rdatas start.given sightings) key
    ∙ named_all (trusted start (reverse sightings) key) (is_given (named_rdatas start.given sightings) key)
    (trusted_named start sightings key)
