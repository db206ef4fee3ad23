-- The session of a lookup, by what is seen of the call, of what it came to, and of what was saved.
use Rattle.std.proofs.Common.{◌≡◌, ◌≤◌, ℕ, List, length, Some, Result, Ok, Err, ◌∙◌, ap, subst}
use Rattle.std.specs.Prelude.{IfErr, IfOk, OnOk}
use Rattle.dns_handle.specs.Errors.{Reply}
use Rattle.dns_io.specs.Reading.{input_limit}
use Rattle.dns_model.specs.Keys.{AnchorValue}
use Rattle.dns_query_lookup.specs.CallValues.{CallValue}
use Rattle.dns_query_lookup.specs.LookedValues.{LookedValue}
use Rattle.dns_session.specs.Grammar.{session_of}
use Rattle.dns_signatures.specs.Signatures.{ArithmeticValue, all_used, arithmetic_answers}
use Rattle.dns_saved_session.specs.Saved.{SavedReplyValue}
use Rattle.dns_saved_session.specs.SavedText.{saved_text, session_saved}
use Rattle.dns_saved_lookup.specs.Alike.{IsAnsweredSo}
use Rattle.dns_saved_lookup.specs.Lookups.{LookupValue, saved_by}
use Rattle.dns_saved_lookup.specs.Refusals.{IsUnsaved}
use Rattle.dns_saved_lookup.specs.declared.save_error.SaveError.{SaveError}
use Rattle.dns_query_run.specs.Saving.{AreSavedOf, HasNoSession, IsSessionOf, Refused, computed_algorithms, lookup_of}

-- a lookup of a call, by its parts
abbrev pub parts : CallValue → List AnchorValue → List SavedReplyValue → Reply → LookupValue
parts call anchors replies answer = record {
  moment = call.moment;
  depth = Some call.depth;
  algorithms = computed_algorithms;
  anchors = anchors;
  query = call.query;
  replies = replies;
  answer = answer;
}

pub lookup_is : (call seen : CallValue) (looked heard : LookedValue) (anchors : List AnchorValue)
    (replies said : List SavedReplyValue)
    → seen ≡ call → heard ≡ looked → anchors ≡ heard.trusted.anchors → said ≡ replies
    → parts seen anchors said heard.reply ≡ lookup_of call looked replies
lookup_is call seen looked heard anchors replies said call_is looked_is anchors_is said_is =
    ap (λ r. parts seen anchors r heard.reply) said_is
    ∙ ap (λ a. parts seen a replies heard.reply) anchors_is
    ∙ ap (λ h. parts seen h.trusted.anchors replies h.reply) looked_is
    ∙ ap (λ s. parts s looked.trusted.anchors replies looked.reply) call_is

-- what is known of the text of a lookup
record Saves (used : ArithmeticValue) (lookup : LookupValue) (text : List ℕ) : Type 0 where
  says : text ≡ saved_text (saved_by (arithmetic_answers used) lookup)
  reads : session_of text ≡ Ok (session_saved (saved_by (arithmetic_answers used) lookup))
  fits : length text ≤ input_limit
  answers : IsAnsweredSo (session_saved (saved_by (arithmetic_answers used) lookup)) lookup.answer

module _ (call : CallValue) (looked : LookedValue) (replies : List SavedReplyValue) (lookup : LookupValue)
    (used : ArithmeticValue) where
  session_is : (text : List ℕ) → AreSavedOf looked.notes replies → lookup ≡ lookup_of call looked replies
      → used ≡ all_used → Saves used lookup text → IsSessionOf call looked text
  session_is text heard is all saves =
      let own : Saves all_used (lookup_of call looked replies) text =
      subst (λ l. Saves all_used l text) is (subst (λ u. Saves u lookup text) all saves) in record {
        replies = replies;
        heard = heard;
        says = own.says;
        reads = own.reads;
        fits = own.fits;
        answers = own.answers;
      }

  pub kept_session : {V : Type 0} (items : V → List ℕ) (r : Result V SaveError) → AreSavedOf looked.notes replies
      → lookup ≡ lookup_of call looked replies → used ≡ all_used
      → IfOk r (λ v. items v ≡ saved_text (saved_by (arithmetic_answers used) lookup))
      → IfOk r (λ v. session_of (items v) ≡ Ok (session_saved (saved_by (arithmetic_answers used) lookup)))
      → IfOk r (λ v. length (items v) ≤ input_limit)
      → OnOk r (IsAnsweredSo (session_saved (saved_by (arithmetic_answers used) lookup)) lookup.answer)
      → IfOk r (λ v. IsSessionOf call looked (items v))
  kept_session items (Err why) heard is all says reads fits answers = tt
  kept_session items (Ok v) heard is all says reads fits answers =
      session_is (items v) heard is all (record { says = says; reads = reads; fits = fits; answers = answers })

  pub no_session : {V : Type 0} (r : Result V SaveError) → AreSavedOf looked.notes replies
      → lookup ≡ lookup_of call looked replies → used ≡ all_used
      → IfErr r (IsUnsaved (arithmetic_answers used) lookup) → IfErr r (HasNoSession call looked)
  no_session (Ok v) heard is all why = tt
  no_session (Err e) heard is all why =
      Refused replies heard
      (subst (λ l. IsUnsaved (arithmetic_answers all_used) l e) is
      (subst (λ u. IsUnsaved (arithmetic_answers u) lookup e) all why))
