-- What is told of what a question came to (RFC 4035, 4.3): its status, its records with their marks, what is denied, and why what isn't
-- Secure isn't, and behind them what else the arguments ask for. Why there is no answer is said on the standard error.
use Rattle.std.specs.Prelude.{ℕ, ◌≡◌, ◌==◌, Bool, List, [], ◌++◌, codes, Result, Ok, Err, if◌then◌else◌}
use Rattle.std.specs.Option.{option_map_or}
use Rattle.dns_model.specs.Chains.{judge}
use Rattle.dns_rules.specs.Asking.{Limits}
use Rattle.dns_signatures.specs.Signatures.{all_used, arithmetic_answers}
use Rattle.dns_anchor_keys.specs.declared.fault.AnchorsFault.{AnchorsFault}
use Rattle.dns_anchor_keys.specs.declared.fault.AnchorsFault.TheVariants.{NoMemory}
use Rattle.dns_handle.specs.Errors.{Reply}
use Rattle.dns_query_answer.specs.AnswerText.{answer_causes, answer_text, told_answer}
use Rattle.dns_query_answer.specs.Status.{IsProved, answer_status}
use Rattle.dns_query_lookup.specs.CallValues.{CallValue}
use Rattle.dns_query_lookup.specs.LookedValues.{LookedValue}
use Rattle.dns_query_handle.specs.Notes.{NoteValue}
use Rattle.dns_query_json.specs.AnswerJson.{AnswerValue, answer_json}
use Rattle.dns_query_shown.specs.Asks.{asks_text}
use Rattle.dns_query_shown.specs.ChainTrees.{chains_text}
use Rattle.dns_query_words.specs.declared.options.Switches.{Switches}
use Rattle.dns_query_run.specs.Complaints.{fault_complaint, trusted_lines}
use Rattle.dns_query_run.specs.Saving.{Keeps}
use Rattle.dns_query_run.specs.Told.{IsSilent, ToldValue}

-- how far validation goes (RFC 9276, 3.2)
abbrev pub call_limits : ℕ → Limits
call_limits depth = record { depth = depth; soft = 100; hard = 500 }

-- what is written of what a lookup came to
abbrev pub told_text : CallValue → LookedValue → List ℕ
told_text call looked =
    answer_text call.query call.moment
    (answer_causes (judge (arithmetic_answers all_used) looked.anchors call.moment) (call_limits call.depth) looked.reply) looked.reply

-- an error stands in place of an answer
abbrev pub is_unanswered : CallValue → LookedValue → Bool
is_unanswered call looked = answer_status call.query looked.reply == 4

-- what is written of an answer to the standard output
unfoldable pub answer_part : CallValue → LookedValue → List ℕ
answer_part call looked = if is_unanswered call looked then [] else told_text call looked

-- why there is none, on the standard error
unfoldable pub error_part : CallValue → LookedValue → List ℕ
error_part call looked = if is_unanswered call looked then codes "dns_query: " ++ told_text call looked else []

-- the keys that are trusted by DS records, and why there is no answer
abbrev pub lookup_complaint : CallValue → LookedValue → List ℕ
lookup_complaint call looked = trusted_lines looked.anchors looked.trusted.keys ++ error_part call looked

-- the chains of an answer as trees, where the arguments ask for them
unfoldable pub chain_part : Bool → Reply → List ℕ
chain_part shows reply = if shows then option_map_or (λ answer. chains_text answer.chains) (told_answer reply) [] else []

-- the queries of a lookup, where the arguments ask for them
unfoldable pub trail_part : Bool → List NoteValue → List ℕ
trail_part shows notes = if shows then asks_text notes else []

-- what is written of an answer, and behind that what else the arguments ask for
unfoldable pub shown_text : Switches → CallValue → LookedValue → List ℕ
shown_text switches call looked =
    answer_part call looked ++ (chain_part switches.chain looked.reply ++ trail_part switches.trail looked.notes)

-- what a question came to, with all that was found out for it
abbrev pub answer_value : CallValue → LookedValue → AnswerValue
answer_value call looked = record {
  question = call.query;
  status = answer_status call.query looked.reply;
  text = told_text call looked;
  reply = looked.reply;
  notes = looked.notes;
}

-- that as JSON (RFC 8259), where the arguments ask for it
abbrev pub written_text : Switches → CallValue → LookedValue → List ℕ
written_text switches call looked =
    if switches.json then answer_json (answer_value call looked) else shown_text switches call looked

-- the status and the text of what a lookup came to, what is saved of it, and what is said of it; status 0 says that each record that was
-- asked for is Secure, or its denial is
pub record TellsLookup (switches : Switches) (keeps : Bool) (call : CallValue) (looked : LookedValue) (told : ToldValue) : Type 0 where
  -- what is said where the session is lost
  pub lost : List ℕ
  pub kept : Keeps keeps call looked (answer_status call.query looked.reply) told.status told.saved lost
  pub proved : told.status ≡ 0 → IsProved call.query looked.reply
  pub tells : told.text ≡ written_text switches call looked
  pub complains : told.complaint ≡ lookup_complaint call looked ++ lost

-- without an answer where no key is trusted
abbrev pub IsUntrusted : AnchorsFault → ToldValue → Type 0
IsUntrusted NoMemory told = ⊥
IsUntrusted fault told = IsSilent 4 (fault_complaint fault) told

abbrev pub IsTold : Switches → Bool → CallValue → Result LookedValue AnchorsFault → ToldValue → Type 0
IsTold switches keeps call (Ok looked) told = TellsLookup switches keeps call looked told
IsTold switches keeps call (Err fault) told = IsUntrusted fault told
