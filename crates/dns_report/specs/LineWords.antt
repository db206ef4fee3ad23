-- The words of marks, sections and denials (RFC 4035, 4.3).
use Rattle.std.specs.Prelude.{ℕ, List, [], ◌∷◌, codes}
use Rattle.dns_text.specs.Lines.{Words}
use Rattle.dns_model.specs.declared.proof.Proof.{Proof}
use Rattle.dns_model.specs.declared.proof.Proof.TheVariants.{Secure, Insecure, Bogus, Indeterminate}
use Rattle.dns_model.specs.declared.section.Section.{Section}
use Rattle.dns_model.specs.declared.section.Section.TheVariants.{Answer, Authority, Additional}
use Rattle.dns_model.specs.declared.denial.Denial.{Denial}
use Rattle.dns_model.specs.declared.denial.Denial.TheVariants.{None, Absent, Expanded}

-- the word of a mark
abbrev pub mark_word : Proof → List ℕ
mark_word Secure = codes "secure"
mark_word Insecure = codes "insecure"
mark_word Bogus = codes "bogus"
mark_word Indeterminate = codes "indeterminate"

-- the word of a section
abbrev pub section_word : Section → List ℕ
section_word Answer = codes "answer"
section_word Authority = codes "authority"
section_word Additional = codes "additional"

-- what is denied, and with which mark
abbrev pub denial_words : Denial → Words
denial_words None = codes "none" ∷ []
denial_words (Absent mark) = codes "absent" ∷ mark_word mark ∷ []
denial_words (Expanded mark) = codes "expanded" ∷ mark_word mark ∷ []
