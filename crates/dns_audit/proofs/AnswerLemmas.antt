-- The lines of chains, one after another.
use Rattle.std.proofs.Common.{◌≡◌, ℕ, ◌+◌, List, [], ◌∷◌, ◌++◌, sym, ◌∙◌, append_assoc, append-nil}
use Rattle.dns_model.specs.Chains.{Judge, justified}
use Rattle.dns_model.specs.SoundAnswers.{ChainValue}
use Rattle.dns_audit.specs.AuditText.{chain_answer, chain_answers}

pub more_answers : (j : Judge) (text : List ℕ) (number : ℕ) (chain : ChainValue) (chains : List ChainValue) (whole : List ℕ)
    → text ++ chain_answers j number (chain ∷ chains) ≡ whole
    → (text ++ chain_answer number (justified j chain.links)) ++ chain_answers j (number + 1) chains ≡ whole
unfolding chain_answers
more_answers j text number chain chains whole so_far =
    append_assoc text (chain_answer number (justified j chain.links)) (chain_answers j (number + 1) chains) ∙ so_far

pub all_answers : (j : Judge) (text : List ℕ) (number : ℕ) (whole : List ℕ) → text ++ chain_answers j number [] ≡ whole
    → text ≡ whole
unfolding chain_answers
all_answers j text number whole so_far = sym (append-nil text) ∙ so_far
