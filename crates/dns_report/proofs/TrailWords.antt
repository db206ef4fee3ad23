-- The words of a trail's fields: each is a word, and tells its field.
use Rattle.std.proofs.Common.{◌≡◌, ℕ, ◌^◌, ◌<◌, ◌==◌, ◌&&◌, Bool, true, false, List, [], ◌∷◌, ◌++◌, length, drop, get_or, codes, Option, None, Some, unwrap_or, if◌then◌else◌, refl, sym, ap, ◌∙◌, arith}
use Rattle.std.specs.Fmt.{decimal}
use Rattle.std.specs.List.{list_all}
use Rattle.std.specs.Result.{result_unwrap_or}
use Rattle.std.specs.Str.{all_ascii_digits}
use Rattle.std.proofs.lemmas.Bool.{and_parts}
use Rattle.std.proofs.lemmas.Fmt.{digits_decimal}
use Rattle.dns_model.specs.Bytes.{is_bytes}
use Rattle.dns_model.specs.Names.{Labels, is_name}
use Rattle.dns_model.specs.NameText.{printed, read_name}
use Rattle.dns_model.specs.Keys.{bytes_eq}
use Rattle.dns_model.specs.declared.denial.Denial.TheVariants as denial
use Rattle.dns_model.specs.declared.trail.AskRef.{AskRef}
use Rattle.dns_model.specs.declared.trail.AskRef.TheVariants.{Step, TooDeep, TooMany}
use Rattle.dns_model.specs.declared.trail.MarkOrigin.{MarkOrigin}
use Rattle.dns_model.specs.declared.trail.MarkOrigin.TheVariants.{Table, Repeat, Cache}
use Rattle.dns_model.specs.Trails.{EndingValue, Answered, Denied, Foreign, Failed, Seen}
use Rattle.dns_record.specs.Words.{type_word, class_word}
use Rattle.dns_text.specs.Codes.{type_word_in, class_word_in}
use Rattle.dns_text.proofs.WordLaws.{own, type_back, class_back}
use Rattle.dns_text.proofs.WordShapes.{is_word, word_append}
use Rattle.dns_record.proofs.TextLemmas.{read_printed}
use Rattle.dns_text.specs.Lines.{Words}
use Rattle.dns_report.specs.Fields.{fitting_name, is_u16, is_u32}
use Rattle.dns_report.specs.TrailView.{fitting_ask, fitting_origin, fitting_ending}
use Rattle.dns_report.specs.TrailLines.{purpose_word, empty_words, ask_word, origin_word, place_word, ending_words}
use Rattle.dns_report.proofs.NameShapes.{printed_word}
use Rattle.dns_report.proofs.MarkWords.{mark_of, mark_back, mark_is_word, denial_is_words}
use Rattle.dns_report.proofs.FieldWords.{below_u16, below_u32, class_good, type_good, number_good, number_tells}
use Rattle.std.specs.Option.{option_map_or}

-- ---- whether a reply is judged, and whether it said that there are no records

purpose_at : List ℕ → Bool
purpose_at word = length word == 6

pub purpose_tells : (a b : Bool) → purpose_word a ≡ purpose_word b → a ≡ b
unfolding purpose_at
purpose_tells true true h = refl
purpose_tells true false h = let e : true ≡ false = ap purpose_at h in cc
purpose_tells false true h = let e : false ≡ true = ap purpose_at h in cc
purpose_tells false false h = refl

pub purpose_good : (a : Bool) → is_word (purpose_word a) ≡ true
purpose_good true = refl
purpose_good false = refl

pub empty_tells : (a b : Bool) → empty_words a ≡ empty_words b → a ≡ b
empty_tells true true h = refl
empty_tells true false h = let e : 1 ≡ 0 = ap (λ (l : Words). length l) h in absurd (omega (arith, e))
empty_tells false true h = let e : 0 ≡ 1 = ap (λ (l : Words). length l) h in absurd (omega (arith, e))
empty_tells false false h = refl

pub empty_good : (a : Bool) → list_all is_word (empty_words a) ≡ true
empty_good true = refl
empty_good false = refl

-- ---- numbers and words that are none

-- a number is no word of other bytes than digits
pub no_number : {X : Type 0} (n : ℕ) (word : List ℕ) → n < 2 ^ 64 → all_ascii_digits word ≡ false → decimal n ≡ word → X
no_number n word fits other h = absurd (digits_differ (sym (digits_decimal own n fits) ∙ ap all_ascii_digits h ∙ other))
  where
    digits_differ : true ≡ false → ⊥
    digits_differ e = cc

-- ---- asks

-- words of other letters differ
unlike : {X : Type 0} (a b : List ℕ) → (get_or a 0 0 ≡ get_or b 0 0 → ⊥) → a ≡ b → X
unlike a b differ h = absurd (differ (ap (λ w. get_or w 0 0) h))

pub ask_tells : (a b : AskRef) → fitting_ask a ≡ true → fitting_ask b ≡ true → ask_word a ≡ ask_word b → a ≡ b
ask_tells (Step m) (Step n) first second h = ap Step (number_tells m n first second h)
ask_tells (Step m) TooDeep first second h = no_number m (codes "deep") (below_u32 m first) refl h
ask_tells (Step m) TooMany first second h = no_number m (codes "many") (below_u32 m first) refl h
ask_tells TooDeep (Step n) first second h = no_number n (codes "deep") (below_u32 n second) refl (sym h)
ask_tells TooDeep TooDeep first second h = refl
ask_tells TooDeep TooMany first second h = unlike (codes "deep") (codes "many") (λ (e : 100 ≡ 109). omega (arith, e)) h
ask_tells TooMany (Step n) first second h = no_number n (codes "many") (below_u32 n second) refl (sym h)
ask_tells TooMany TooDeep first second h = unlike (codes "many") (codes "deep") (λ (e : 109 ≡ 100). omega (arith, e)) h
ask_tells TooMany TooMany first second h = refl

pub ask_good : (a : AskRef) → fitting_ask a ≡ true → is_word (ask_word a) ≡ true
ask_good (Step n) h = number_good n h
ask_good TooDeep h = refl
ask_good TooMany h = refl

-- ---- origins

pub origin_tells : (a b : MarkOrigin) → fitting_origin a ≡ true → fitting_origin b ≡ true
    → origin_word a ≡ origin_word b → a ≡ b
origin_tells Table Table first second h = refl
origin_tells Table (Repeat n) first second h =
    unlike (origin_word Table) (origin_word (Repeat n)) (λ (e : 116 ≡ 114). omega (arith, e)) h
origin_tells Table Cache first second h =
    unlike (origin_word Table) (origin_word Cache) (λ (e : 116 ≡ 99). omega (arith, e)) h
origin_tells (Repeat m) Table first second h =
    unlike (origin_word (Repeat m)) (origin_word Table) (λ (e : 114 ≡ 116). omega (arith, e)) h
origin_tells (Repeat m) (Repeat n) first second h =
    let e : decimal m ≡ decimal n = ap (λ w. drop 7 w) h in ap Repeat (number_tells m n first second e)
origin_tells (Repeat m) Cache first second h =
    unlike (origin_word (Repeat m)) (origin_word Cache) (λ (e : 114 ≡ 99). omega (arith, e)) h
origin_tells Cache Table first second h =
    unlike (origin_word Cache) (origin_word Table) (λ (e : 99 ≡ 116). omega (arith, e)) h
origin_tells Cache (Repeat n) first second h =
    unlike (origin_word Cache) (origin_word (Repeat n)) (λ (e : 99 ≡ 114). omega (arith, e)) h
origin_tells Cache Cache first second h = refl

pub origin_good : (a : MarkOrigin) → fitting_origin a ≡ true → is_word (origin_word a) ≡ true
origin_good Table h = refl
origin_good (Repeat n) h = word_append (codes "repeat-") (decimal n) refl (number_good n h)
origin_good Cache h = refl

-- ---- places

-- a place has 32 bits
abbrev pub fitting_place : Option ℕ → Bool
fitting_place place = option_map_or is_u32 place true

pub place_tells : (a b : Option ℕ) → fitting_place a ≡ true → fitting_place b ≡ true → place_word a ≡ place_word b
    → a ≡ b
place_tells None None first second h = refl
place_tells None (Some n) first second h = no_number n (codes "-") (below_u32 n second) refl (sym h)
place_tells (Some m) None first second h = no_number m (codes "-") (below_u32 m first) refl h
place_tells (Some m) (Some n) first second h = ap Some (number_tells m n first second h)

pub place_good : (a : Option ℕ) → fitting_place a ≡ true → is_word (place_word a) ≡ true
place_good None h = refl
place_good (Some n) h = number_good n h

-- ---- endings

pub record FitsForeign (owner : Labels) (class rtype : ℕ) : Type 0 where
  pub named : is_name owner ≡ true
  pub spelled : list_all is_bytes owner ≡ true
  pub classed : is_u16 class ≡ true
  pub typed : is_u16 rtype ≡ true

pub fits_foreign : (owner : Labels) (class rtype : ℕ) → fitting_ending (Foreign owner class rtype) ≡ true
    → FitsForeign owner class rtype
fits_foreign owner class rtype h =
    let a = and_parts (fitting_name owner) (is_u16 class && is_u16 rtype) h in
    let b = and_parts (is_name owner) (list_all is_bytes owner) a.0 in
    let c = and_parts (is_u16 class) (is_u16 rtype) a.1 in
    record { named = b.0; spelled = b.1; classed = c.0; typed = c.1 }

name_at : List ℕ → Labels
name_at word = result_unwrap_or (read_name word) []

name_back : (owner : Labels) → is_name owner ≡ true → list_all is_bytes owner ≡ true → name_at (printed owner) ≡ owner
unfolding name_at
name_back owner named spelled = ap (λ r. result_unwrap_or r []) (read_printed owner named spelled)

class_at : List ℕ → ℕ
class_at word = unwrap_or (class_word_in word) 0

class_at_back : (n : ℕ) → is_u16 n ≡ true → class_at (class_word n) ≡ n
unfolding class_at
class_at_back n h = ap (λ o. unwrap_or o 0) (class_back n (below_u16 n h))

type_at : List ℕ → ℕ
type_at word = unwrap_or (type_word_in word) 0

type_at_back : (n : ℕ) → is_u16 n ≡ true → type_at (type_word n) ≡ n
unfolding type_at
type_at_back n h = ap (λ o. unwrap_or o 0) (type_back n (below_u16 n h))

-- an ending by its first word and those after it, and what follows them
abbrev ending_at : Words → EndingValue × Words
ending_at [] = (Seen, [])
ending_at (kind ∷ words) =
    if bytes_eq kind (codes "none") then (Answered denial.None, words)
    else if bytes_eq kind (codes "absent") then (Answered (denial.Absent (mark_of (get_or words 0 []))), drop 1 words)
    else if bytes_eq kind (codes "expanded") then
    (Answered (denial.Expanded (mark_of (get_or words 0 []))), drop 1 words)
    else if bytes_eq kind (codes "denied") then (Denied (mark_of (get_or words 0 [])), drop 1 words)
    else if bytes_eq kind (codes "foreign") then
    (Foreign (name_at (get_or words 0 [])) (class_at (get_or words 1 [])) (type_at (get_or words 2 [])), drop 3 words)
    else if bytes_eq kind (codes "failed") then (Failed, words)
    else (Seen, words)

ending_back : (e : EndingValue) (x : Words) → fitting_ending e ≡ true → ending_at (ending_words e ++ x) ≡ (e, x)
ending_back (Answered denial.None) x h = refl
ending_back (Answered (denial.Absent mark)) x h = rw (mark_back mark) refl
ending_back (Answered (denial.Expanded mark)) x h = rw (mark_back mark) refl
ending_back (Denied mark) x h = rw (mark_back mark) refl
ending_back (Foreign owner class rtype) x h =
    let f = fits_foreign owner class rtype h in
    rw (name_back owner f.named f.spelled, class_at_back class f.classed, type_at_back rtype f.typed) refl
ending_back Failed x h = refl
ending_back Seen x h = refl

-- two endings, and the words that follow theirs
pub record SameEnding (a b : EndingValue) (x y : Words) : Type 0 where
  pub ending : a ≡ b
  pub rest : x ≡ y

pub ending_tells : (a b : EndingValue) (x y : Words) → fitting_ending a ≡ true → fitting_ending b ≡ true
    → ending_words a ++ x ≡ ending_words b ++ y → SameEnding a b x y
ending_tells a b x y first second h =
    let e : ◌≡◌ {A = EndingValue × Words} (a, x) (b, y) =
    sym (ending_back a x first) ∙ ap ending_at h ∙ ending_back b y second in
    record { ending = ap (λ (p : EndingValue × Words). p.0) e; rest = ap (λ (p : EndingValue × Words). p.1) e }

pub ending_good : (a : EndingValue) → fitting_ending a ≡ true → list_all is_word (ending_words a) ≡ true
ending_good (Answered d) h = denial_is_words d
ending_good (Denied mark) h = rw (mark_is_word mark) refl
ending_good (Foreign owner class rtype) h =
    let f =
    fits_foreign owner class rtype h in rw
    (printed_word owner, class_good class f.classed, type_good rtype f.typed) refl
ending_good Failed h = refl
ending_good Seen h = refl
