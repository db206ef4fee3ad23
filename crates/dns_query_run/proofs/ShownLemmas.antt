-- What is written behind an answer, and what is kept of a lookup, by what is seen of the call and of what it came to.
use Rattle.std.proofs.Common.{◌≡◌, ◌==◌, ℕ, Bool, List, ◌++◌, ◌∙◌, ap, subst, sym, append_assoc, arith}
use Rattle.dns_anchor_keys.specs.Trusting.{TrustedValue}
use Rattle.dns_model.specs.Records.{Rr}
use Rattle.dns_query_answer.specs.Status.{IsProved, answer_status}
use Rattle.dns_query_handle.specs.Notes.{NoteValue}
use Rattle.dns_query_lookup.specs.CallValues.{CallValue}
use Rattle.dns_query_lookup.specs.LookedValues.{LookedValue}
use Rattle.dns_query_words.specs.declared.options.Switches.{Switches}
use Rattle.dns_query_run.specs.Answers.{answer_part, chain_part, error_part, is_unanswered, lookup_complaint, shown_text, trail_part}
use Rattle.dns_query_run.specs.Complaints.{trusted_lines}
use Rattle.dns_query_run.specs.Saving.{Keeps, Unasked, Kept, Lost}

-- a text that grew by the chains and then by the queries
pub shown_is : (switches : Switches) (call : CallValue) (looked heard : LookedValue) (notes : List NoteValue)
    (told more all : List ℕ)
    → heard ≡ looked → told ≡ answer_part call looked → more ≡ told ++ chain_part switches.chain heard.reply
    → notes ≡ heard.notes → all ≡ more ++ trail_part switches.trail notes → all ≡ shown_text switches call looked
unfolding shown_text
shown_is switches call looked heard notes told more all seen first second listed third =
    third ∙ ap (λ n. more ++ trail_part switches.trail n) listed
    ∙ ap (λ t. t ++ trail_part switches.trail heard.notes) second
    ∙ append_assoc told (chain_part switches.chain heard.reply) (trail_part switches.trail heard.notes)
    ∙ ap (λ t. t ++ (chain_part switches.chain heard.reply ++ trail_part switches.trail heard.notes)) first
    ∙ ap
    (λ h. answer_part call looked ++ (chain_part switches.chain h.reply ++ trail_part switches.trail h.notes)) seen

pub unanswered_is : (call seen : CallValue) (looked heard : LookedValue) (status : ℕ) → seen ≡ call → heard ≡ looked
    → status ≡ answer_status seen.query heard.reply → (status == 4) ≡ is_unanswered call looked
unanswered_is call seen looked heard status call_is looked_is is =
    ap (λ n. n == 4)
    (is ∙ ap (λ s. answer_status s.query heard.reply) call_is
    ∙ ap (λ h. answer_status call.query h.reply) looked_is)

-- lines of keys, and behind them why there is no answer
pub complaint_is : (call : CallValue) (looked heard : LookedValue) (trusted : TrustedValue) (keys : List Rr)
    (lines all : List ℕ)
    → heard ≡ looked → trusted ≡ heard.trusted → keys ≡ trusted.keys → lines ≡ trusted_lines heard.anchors keys
    → all ≡ lines ++ error_part call looked → all ≡ lookup_complaint call looked
complaint_is call looked heard trusted keys lines all seen trusted_is keys_are first second =
    second
    ∙ ap (λ l. l ++ error_part call looked)
    (first ∙ ap (λ k. trusted_lines heard.anchors k) (keys_are ∙ ap (λ t. t.keys) trusted_is)
    ∙ ap (λ h. trusted_lines h.anchors h.trusted.keys) seen)

never_both : (n : ℕ) → n ≡ 5 → n ≡ 0 → ⊥
never_both n five zero = let never : ⊥ = omega (arith, five, zero) in never

module _ (keeps : Bool) (call seen : CallValue) (looked heard : LookedValue) (expected status : ℕ) (saved lost : List ℕ) where
  expected_zero : Keeps keeps call looked expected status saved lost → status ≡ 0 → expected ≡ 0
  expected_zero (Unasked unasked is empty quiet) zero = sym is ∙ zero
  expected_zero (Kept asked is session quiet) zero = sym is ∙ zero
  expected_zero (Lost why asked none is empty says) zero = absurd (never_both status is zero)

  pub kept_as : seen ≡ call → heard ≡ looked → expected ≡ answer_status seen.query heard.reply
      → Keeps keeps call looked expected status saved lost
      → Keeps keeps call looked (answer_status call.query looked.reply) status saved lost
  kept_as call_is looked_is is kept =
      subst (λ e. Keeps keeps call looked e status saved lost)
      (is ∙ ap (λ s. answer_status s.query heard.reply) call_is
      ∙ ap (λ h. answer_status call.query h.reply) looked_is)
      kept

  -- what is kept leaves status 0 to answers that have it
  pub proved_as : seen ≡ call → heard ≡ looked → (expected ≡ 0 → IsProved seen.query heard.reply)
      → Keeps keeps call looked expected status saved lost → status ≡ 0 → IsProved call.query looked.reply
  proved_as call_is looked_is proves kept zero =
      subst (λ h. IsProved call.query h.reply) looked_is
      (subst (λ s. IsProved s.query heard.reply) call_is (proves (expected_zero kept zero)))
