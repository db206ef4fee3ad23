-- A word that is read as a mark, a section, an ask and so on is the one that would be written; and lists of such words.
use Rattle.std.proofs.Common.{◌≡◌, ℕ, Bool, true, false, List, [], ◌∷◌, ◌++◌, length, map, take, drop, codes, Option, None, Some, refl, sym, ap, subst, ◌∙◌, inl, inr}
use Rattle.std.specs.List.{list_all}
use Rattle.std.specs.Option.{option_map, option_map_or}
use Rattle.std.specs.Cmp.Lexicographic.{bytes_decides}
use Rattle.std.proofs.lemmas.Option.{same_Some}
use Rattle.std.proofs.lemmas.List.{take-append-drop}
use Rattle.dns_model.specs.Keys.{bytes_eq}
use Rattle.dns_model.specs.declared.proof.Proof.{Proof}
use Rattle.dns_model.specs.declared.proof.Proof.TheVariants.{Secure, Insecure, Bogus, Indeterminate}
use Rattle.dns_model.specs.declared.section.Section.{Section}
use Rattle.dns_model.specs.declared.section.Section.TheVariants.{Answer, Authority, Additional}
use Rattle.dns_model.specs.declared.trail.AskRef.{AskRef}
use Rattle.dns_model.specs.declared.trail.AskRef.TheVariants.{Step, TooDeep, TooMany}
use Rattle.dns_model.specs.declared.trail.MarkOrigin.{MarkOrigin}
use Rattle.dns_model.specs.declared.trail.MarkOrigin.TheVariants.{Table, Repeat, Cache}
use Rattle.dns_text.specs.Codes.{after_prefix}
use Rattle.dns_text.specs.Words.{octets_word}
use Rattle.dns_model.specs.Bytes.{is_bytes}
use Rattle.dns_session.specs.Lines.{Words}
use Rattle.dns_report.specs.Fields.{is_u32}
use Rattle.dns_report.specs.LineWords.{mark_word, section_word}
use Rattle.dns_report.specs.TrailView.{fitting_ask, fitting_origin}
use Rattle.dns_report.specs.TrailLines.{purpose_word, ask_word, origin_word, place_word}
use Rattle.dns_audit.specs.ReportWords.{u32_in, rdata_in, mark_in, section_in, purpose_in, ask_in, origin_in, place_in}
use Rattle.dns_audit.specs.LineParts.{each_in}
use Rattle.dns_audit.specs.Written.{is_short}
use Rattle.dns_audit.proofs.FromSteps.{made, passed, by_word}
use Rattle.dns_audit.proofs.ReadFields.{number_from, rdata_from}

pub mark_from : (word : List ℕ) (mark : Proof) → mark_in word ≡ Some mark → word ≡ mark_word mark
unfolding mark_in
mark_from word mark h =
    elim (by_word word (codes "secure") (Some Secure) _ mark h) [
      | inl e ↦ e.0 ∙ ap mark_word (same_Some Secure mark e.1)
      | inr a ↦
          elim (by_word word (codes "insecure") (Some Insecure) _ mark a) [
            | inl e ↦ e.0 ∙ ap mark_word (same_Some Insecure mark e.1)
            | inr b ↦
                elim (by_word word (codes "bogus") (Some Bogus) _ mark b) [
                  | inl e ↦ e.0 ∙ ap mark_word (same_Some Bogus mark e.1)
                  | inr c ↦
                      elim (by_word word (codes "indeterminate") (Some Indeterminate) None mark c) [
                        | inl e ↦ e.0 ∙ ap mark_word (same_Some Indeterminate mark e.1)
                        | inr none ↦ cc
                      ]
                ]
          ]
    ]

pub section_from : (word : List ℕ) (section : Section) → section_in word ≡ Some section → word ≡ section_word section
unfolding section_in
section_from word section h =
    elim (by_word word (codes "answer") (Some Answer) _ section h) [
      | inl e ↦ e.0 ∙ ap section_word (same_Some Answer section e.1)
      | inr a ↦
          elim (by_word word (codes "authority") (Some Authority) _ section a) [
            | inl e ↦ e.0 ∙ ap section_word (same_Some Authority section e.1)
            | inr b ↦
                elim (by_word word (codes "additional") (Some Additional) None section b) [
                  | inl e ↦ e.0 ∙ ap section_word (same_Some Additional section e.1)
                  | inr none ↦ cc
                ]
          ]
    ]

pub purpose_from : (word : List ℕ) (judged : Bool) → purpose_in word ≡ Some judged → word ≡ purpose_word judged
unfolding purpose_in
purpose_from word judged h =
    elim (by_word word (codes "judged") (Some true) _ judged h) [
      | inl e ↦ e.0 ∙ ap purpose_word (same_Some true judged e.1)
      | inr a ↦
          elim (by_word word (codes "ns") (Some false) None judged a) [
            | inl e ↦ e.0 ∙ ap purpose_word (same_Some false judged e.1)
            | inr none ↦ cc
          ]
    ]

-- ---- asks, origins and places

-- what a value was made of by a function
pub record Mapped {A B : Type 0} (f : A → B) (o : Option A) (y : B) : Type 0 where
  pub value : A
  pub was : o ≡ Some value
  pub is : f value ≡ y

pub mapped : {A B : Type 0} (f : A → B) (o : Option A) (y : B) → option_map f o ≡ Some y → Mapped f o y
mapped f None y h = cc
mapped f (Some x) y h = record { value = x; was = refl; is = same_Some (f x) y h }

-- a word that spells a value which fits
abbrev Spells : {X : Type 0} → (X → List ℕ) → (X → Bool) → List ℕ → X → Type 0
Spells word_of fits word x = (word ≡ word_of x) × (fits x ≡ true)

pub ask_from : (word : List ℕ) (ask : AskRef) → ask_in word ≡ Some ask
    → (word ≡ ask_word ask) × (fitting_ask ask ≡ true)
unfolding ask_in
ask_from word ask h =
    elim (by_word word (codes "deep") (Some TooDeep) _ ask h) [
      | inl e ↦ subst (Spells ask_word fitting_ask word) (same_Some TooDeep ask e.1) (e.0, refl)
      | inr a ↦
          elim (by_word word (codes "many") (Some TooMany) _ ask a) [
            | inl e ↦ subst (Spells ask_word fitting_ask word) (same_Some TooMany ask e.1) (e.0, refl)
            | inr b ↦
                let m = mapped Step (u32_in word) ask b in
                let n = number_from word m.value m.was in
                subst (Spells ask_word fitting_ask word) m.is (n.0, n.1)
          ]
    ]

prefix_from : (prefix word rest : List ℕ) → after_prefix prefix word ≡ Some rest → word ≡ prefix ++ rest
prefix_from prefix word rest h =
    let ok = passed (bytes_eq (take (length prefix) word) prefix) (drop (length prefix) word) rest h in
    sym (take-append-drop (length prefix) word)
    ∙ ap (λ front. front ++ drop (length prefix) word) ((bytes_decides (take (length prefix) word) prefix).0 ok.0)
    ∙ ap (λ end. prefix ++ end) ok.1

pub origin_from : (word : List ℕ) (origin : MarkOrigin) → origin_in word ≡ Some origin
    → (word ≡ origin_word origin) × (fitting_origin origin ≡ true)
unfolding origin_in
origin_from word origin h =
    elim (by_word word (codes "table") (Some Table) _ origin h) [
      | inl e ↦ subst (Spells origin_word fitting_origin word) (same_Some Table origin e.1) (e.0, refl)
      | inr a ↦
          elim (by_word word (codes "cache") (Some Cache) _ origin a) [
            | inl e ↦ subst (Spells origin_word fitting_origin word) (same_Some Cache origin e.1) (e.0, refl)
            | inr b ↦
                let m = mapped Repeat _ origin b in
                let rest = made (after_prefix (codes "repeat-") word) u32_in m.value m.was in
                let n = number_from rest.value m.value rest.gives in
                let front = prefix_from (codes "repeat-") word rest.value rest.was in
                subst (Spells origin_word fitting_origin word) m.is
                (front ∙ ap (λ digits. codes "repeat-" ++ digits) n.0, n.1)
          ]
    ]

abbrev fitting_place : Option ℕ → Bool
fitting_place place = option_map_or is_u32 place true

pub place_from : (word : List ℕ) (place : Option ℕ) → place_in word ≡ Some place
    → (word ≡ place_word place) × (option_map_or is_u32 place true ≡ true)
unfolding place_in
place_from word place h =
    elim (by_word word (codes "-") (Some None) _ place h) [
      | inl e ↦ subst (Spells place_word fitting_place word) (same_Some None place e.1) (e.0, refl)
      | inr a ↦
          let m = mapped Some (u32_in word) place a in
          let n = number_from word m.value m.was in
          subst (Spells place_word fitting_place word) m.is (n.0, n.1)
    ]

-- ---- lists of words

pub each_from : {X : Type 0} (kind : List ℕ → Option X) (word : X → List ℕ) (fits : X → Bool)
    → ((w : List ℕ) (x : X) → kind w ≡ Some x → (w ≡ word x) × (fits x ≡ true))
    → (ws : Words) (xs : List X) → each_in kind ws ≡ Some xs → (ws ≡ map word xs) × (list_all fits xs ≡ true)
unfolding each_in
each_from {X} kind word fits one [] xs h =
    let e : [] ≡ xs = same_Some [] xs h in rw (← e) (refl, refl)
each_from {X} kind word fits one (w ∷ ws) xs h =
    let first = made (kind w) _ xs h in
    let others = made (each_in kind ws) _ xs first.gives in
    let head = one w first.value first.was in
    let ih = each_from kind word fits one ws others.value others.was in
    let e : first.value ∷ others.value ≡ xs = same_Some _ xs others.gives in
    rw (← e) (ap (λ v. v ∷ ws) head.0 ∙ ap (λ vs. word first.value ∷ vs) ih.0, rw (head.1, ih.1) refl)

pub asks_from : (ws : Words) (asks : List AskRef) → each_in ask_in ws ≡ Some asks
    → (ws ≡ map ask_word asks) × (list_all fitting_ask asks ≡ true)
asks_from = each_from ask_in ask_word fitting_ask ask_from

-- what is read of rdatas' words
pub record RdatasRead (ws : Words) (rdatas : List (List ℕ)) : Type 0 where
  pub words_are : ws ≡ map octets_word rdatas
  pub bytes_are : list_all is_bytes rdatas ≡ true
  pub short : list_all is_short rdatas ≡ true

pub rdatas_from : (ws : Words) (rdatas : List (List ℕ)) → each_in rdata_in ws ≡ Some rdatas → RdatasRead ws rdatas
rdatas_from ws rdatas h =
    let all = each_from rdata_in octets_word is_bytes
    (λ w x e. let r = rdata_from w x e in (r.word_is, r.bytes_are)) ws rdatas h in
    let small = each_from rdata_in octets_word is_short
    (λ w x e. let r = rdata_from w x e in (r.word_is, r.short)) ws rdatas h in
    record { words_are = all.0; bytes_are = all.1; short = small.1 }
