-- Lines of one word or two: where a space follows, there is one word more.
use Rattle.std.proofs.Common.{◌≡◌, ℕ, List, None, refl}
use Rattle.dns_model.specs.OptionSteps.{◌>>=◌}
use Rattle.dns_session.specs.Lines.{words, single}
use Rattle.dns_session.proofs.PieceLemmas.{pieces_listed}
use Rattle.dns_audit.specs.ReportLines.{whole, got_empty, got_by}

-- a word is left
pub not_whole : {X : Type 0} (x : X) (text : List ℕ) → None ≡ whole x (words text)
unfolding whole
not_whole x text = let more = pieces_listed 32 text in rw more.2 refl

-- there is a second word
pub got_more : (word text : List ℕ) → got_by word (words text) ≡ (single (words text) >>= got_empty word)
unfolding got_by
got_more word text = let more = pieces_listed 32 text in rw more.2 refl
