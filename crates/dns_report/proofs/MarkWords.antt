-- The words of marks, sections and denials tell them.
use Rattle.std.proofs.Common.{◌≡◌, ℕ, true, ◌==◌, List, [], ◌∷◌, length, if◌then◌else◌, refl, sym, ap, ◌∙◌}
use Rattle.std.specs.List.{list_all}
use Rattle.dns_model.specs.declared.proof.Proof.{Proof}
use Rattle.dns_model.specs.declared.proof.Proof.TheVariants.{Secure, Insecure, Bogus, Indeterminate}
use Rattle.dns_model.specs.declared.section.Section.{Section}
use Rattle.dns_model.specs.declared.section.Section.TheVariants.{Answer, Authority, Additional}
use Rattle.dns_model.specs.declared.denial.Denial.{Denial}
use Rattle.dns_model.specs.declared.denial.Denial.TheVariants.{None, Absent, Expanded}
use Rattle.dns_text.proofs.WordShapes.{is_word}
use Rattle.dns_text.specs.Lines.{Words}
use Rattle.dns_report.specs.LineWords.{mark_word, section_word, denial_words}

-- the words differ in length
abbrev pub mark_of : List ℕ → Proof
mark_of word =
    if length word == 6 then Secure else if length word == 8 then Insecure else if length word == 5 then Bogus else Indeterminate

pub mark_back : (mark : Proof) → mark_of (mark_word mark) ≡ mark
mark_back Secure = refl
mark_back Insecure = refl
mark_back Bogus = refl
mark_back Indeterminate = refl

pub mark_injective : (a b : Proof) → mark_word a ≡ mark_word b → a ≡ b
mark_injective a b h = sym (mark_back a) ∙ ap mark_of h ∙ mark_back b

pub mark_is_word : (mark : Proof) → is_word (mark_word mark) ≡ true
mark_is_word Secure = refl
mark_is_word Insecure = refl
mark_is_word Bogus = refl
mark_is_word Indeterminate = refl

abbrev section_at : List ℕ → Section
section_at word = if length word == 6 then Answer else if length word == 9 then Authority else Additional

section_back : (section : Section) → section_at (section_word section) ≡ section
section_back Answer = refl
section_back Authority = refl
section_back Additional = refl

pub section_injective : (a b : Section) → section_word a ≡ section_word b → a ≡ b
section_injective a b h = sym (section_back a) ∙ ap section_at h ∙ section_back b

pub section_is_word : (section : Section) → is_word (section_word section) ≡ true
section_is_word Answer = refl
section_is_word Authority = refl
section_is_word Additional = refl

abbrev denial_at : Words → Denial
denial_at [] = None
denial_at (kind ∷ []) = None
denial_at (kind ∷ mark ∷ more) = if length kind == 6 then Absent (mark_of mark) else Expanded (mark_of mark)

denial_back : (denial : Denial) → denial_at (denial_words denial) ≡ denial
denial_back None = refl
denial_back (Absent mark) = ap Absent (mark_back mark)
denial_back (Expanded mark) = ap Expanded (mark_back mark)

pub denial_injective : (a b : Denial) → denial_words a ≡ denial_words b → a ≡ b
denial_injective a b h = sym (denial_back a) ∙ ap denial_at h ∙ denial_back b

pub denial_is_words : (denial : Denial) → list_all is_word (denial_words denial) ≡ true
denial_is_words None = refl
denial_is_words (Absent mark) = rw (mark_is_word mark) refl
denial_is_words (Expanded mark) = rw (mark_is_word mark) refl
