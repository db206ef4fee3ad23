-- What a report's text is by what is read from it: line by line and word by word what would be written of that, but that a name may be
-- spelled in any way that sessions take (RFC 1035, 5.1).
use Rattle.std.specs.Prelude.{ℕ, ◌≡◌, ◌⊎◌, List, [], ◌∷◌, map, Some, option_map}
use Rattle.dns_model.specs.Names.{Labels}
use Rattle.dns_model.specs.NameText.{printed}
use Rattle.dns_text.specs.Words.{name_word_in}
use Rattle.dns_session.specs.LinePlaces.{pieces}
use Rattle.dns_session.specs.Lines.{Words, words}
use Rattle.dns_report.specs.View.{View, chain_view}
use Rattle.dns_report.specs.TrailView.{step_view}
use Rattle.dns_audit.specs.ReportValue.{ReportValue}

-- what a report that was read shows, to be written again
abbrev pub view_read : ReportValue → View
view_read r = record {
  code = r.code;
  denial = r.denial;
  answers = r.answers;
  authorities = r.authorities;
  additionals = r.additionals;
  chains = map chain_view r.chains;
  trail = option_map (λ steps. map step_view steps) r.trail;
}

-- a word spells the name whose printed form the other is
pub record SpellsName (word written : List ℕ) : Type 0 where
  pub name : Labels
  pub spells : name_word_in word ≡ Some name
  pub prints : written ≡ printed name

-- the word that would be written, or another spelling of the name that would be
abbrev pub Respells : List ℕ → List ℕ → Type 0
Respells word written = (word ≡ written) ⊎ SpellsName word written

-- words, one by one
abbrev pub WordsRespell : Words → Words → Type 0
WordsRespell [] [] = Unit {0}
WordsRespell (word ∷ ws) (written ∷ vs) = Respells word written × WordsRespell ws vs
WordsRespell _ _ = ⊥

-- lines, one by one
abbrev pub LinesRespell : List (List ℕ) → List (List ℕ) → Type 0
LinesRespell [] [] = Unit {0}
LinesRespell (line ∷ ls) (written ∷ ks) = WordsRespell (words line) (words written) × LinesRespell ls ks
LinesRespell _ _ = ⊥

-- a text is another, but for how names are spelled in it
abbrev pub Respelled : List ℕ → List ℕ → Type 0
Respelled text written = LinesRespell (pieces 10 text) (pieces 10 written)
