-- A lookup as a session text in version 2 (docs/FORMATS.md, "The session"), and the session that it is.
use Rattle.std.specs.Prelude.{ℕ, ◌^◌, Bool, true, ◌&&◌, nat_lt, List, [], ◌∷◌, ◌++◌, map, codes, Option}
use Rattle.std.specs.Fmt.{decimal}
use Rattle.std.specs.List.{flat_map, list_all}
use Rattle.std.specs.Option.{option_map_or, option_to_list}
use Rattle.dns_model.specs.Bytes.{is_bytes}
use Rattle.dns_model.specs.Keys.{AnchorValue, AcceptedSignatureValue}
use Rattle.dns_model.specs.NameText.{printed}
use Rattle.dns_model.specs.Records.{Question}
use Rattle.dns_model.specs.Types.{class_in}
use Rattle.dns_message.specs.MessageAt.{message_at}
use Rattle.dns_record.specs.Words.{type_word}
use Rattle.dns_text.specs.Words.{octets_word}
use Rattle.dns_text.specs.Lines.{line}
use Rattle.dns_report.specs.Fields.{fitting_name, is_u16}
use Rattle.dns_session.specs.declared.reply.ReplyFault.{ReplyFault}
use Rattle.dns_session.specs.declared.reply.ReplyFault.TheVariants as lacking
use Rattle.dns_session.specs.SessionValue as session
use Rattle.dns_session.specs.SessionValue.{SessionValue, ReplyValue, ReplyKindValue}
use Rattle.dns_saved_session.specs.Saved.{CameValue, Message, Fault, SavedReplyValue, SavedValue}

-- ---- lines

-- `depth N`
abbrev pub depth_text : ℕ → List ℕ
depth_text depth = line (codes "depth") (decimal depth ∷ [])

-- `algorithms N..`
abbrev pub algorithms_text : List ℕ → List ℕ
algorithms_text algorithms = line (codes "algorithms") (map decimal algorithms)

-- `anchor NAME ALGORITHM KEY`
abbrev pub anchor_text : AnchorValue → List ℕ
anchor_text a = line (codes "anchor") (printed a.owner ∷ decimal a.algorithm ∷ octets_word a.key ∷ [])

-- `accept ALGORITHM KEY BYTES SIGNATURE`
abbrev pub accept_text : AcceptedSignatureValue → List ℕ
accept_text a = line (codes "accept") (decimal a.algorithm ∷ octets_word a.key ∷ octets_word a.bytes ∷ octets_word a.signature ∷ [])

-- `query NAME TYPE`
abbrev pub query_text : Question → List ℕ
query_text q = line (codes "query") (printed q.owner ∷ type_word q.rtype ∷ [])

abbrev pub fault_word : ReplyFault → List ℕ
fault_word lacking.Timeout = codes "timeout"
fault_word lacking.Io = codes "io"
fault_word lacking.Busy = codes "busy"

-- `reply NAME TYPE MESSAGE`, or `fault NAME TYPE FAULT` where no message came
abbrev pub came_text : Question → CameValue → List ℕ
came_text q (Message bytes) = line (codes "reply") (printed q.owner ∷ type_word q.rtype ∷ octets_word bytes ∷ [])
came_text q (Fault fault) = line (codes "fault") (printed q.owner ∷ type_word q.rtype ∷ fault_word fault ∷ [])

abbrev pub reply_text : SavedReplyValue → List ℕ
reply_text r = came_text r.question r.came

-- ---- the text

-- the lines before the first anchor
unfoldable pub head_text : ℕ → Option ℕ → List ℕ → List ℕ
head_text moment depth algorithms =
    codes "dns-session 2\n" ++ (line (codes "moment") (decimal moment ∷ []) ++ (flat_map depth_text (option_to_list depth)
    ++ algorithms_text algorithms))

-- the lines from the query on
unfoldable pub asked_text : Question → List SavedReplyValue → List ℕ
asked_text query replies = query_text query ++ (flat_map reply_text replies ++ codes "end\n")

-- all lines: what came stands in the order in which it was asked for, each once
unfoldable pub saved_text : SavedValue → List ℕ
saved_text s =
    head_text s.moment s.depth s.algorithms ++ (flat_map anchor_text s.anchors ++ (flat_map accept_text s.accepts
    ++ asked_text s.query s.replies))

-- ---- the session

-- a question of a session has the class IN
abbrev pub in_class : Question → Question
in_class q = record q { class = class_in }

abbrev pub came_told : CameValue → ReplyKindValue
came_told (Message bytes) = session.Message (message_at bytes)
came_told (Fault fault) = session.Fault fault

abbrev pub reply_told : SavedReplyValue → ReplyValue
reply_told r = record { question = in_class r.question; kind = came_told r.came }

-- the session of a lookup: its replies are what came, in that order, and are served by turn
abbrev pub session_saved : SavedValue → SessionValue
session_saved s = record {
  by_turn = true;
  moment = s.moment;
  depth = s.depth;
  algorithms = s.algorithms;
  anchors = s.anchors;
  accepts = s.accepts;
  query = in_class s.query;
  replies = map reply_told s.replies;
}

-- ---- what can stand in a lookup: names (RFC 1035, 3.1), bytes, and numbers of their fields' widths

abbrev pub fitting_anchor : AnchorValue → Bool
fitting_anchor a = fitting_name a.owner && (nat_lt a.algorithm 256 && is_bytes a.key)

abbrev pub fitting_accept : AcceptedSignatureValue → Bool
fitting_accept a = nat_lt a.algorithm 256 && (is_bytes a.key && (is_bytes a.bytes && is_bytes a.signature))

abbrev pub fitting_question : Question → Bool
fitting_question q = fitting_name q.owner && is_u16 q.rtype

abbrev pub fitting_came : CameValue → Bool
fitting_came (Message bytes) = is_bytes bytes
fitting_came (Fault fault) = true

abbrev pub fitting_reply : SavedReplyValue → Bool
fitting_reply r = fitting_question r.question && fitting_came r.came

abbrev pub fitting_saved : SavedValue → Bool
fitting_saved s =
    nat_lt s.moment (2 ^ 64) && (option_map_or is_u16 s.depth true && (is_bytes s.algorithms && (list_all fitting_anchor s.anchors
    && (list_all fitting_accept s.accepts && (fitting_question s.query && list_all fitting_reply s.replies)))))
