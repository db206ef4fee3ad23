-- What is saved of a lookup is read back as the session of its parts.
use Rattle.std.proofs.Common.{◌≡◌, ℕ, ◌^◌, ◌-◌, ◌<◌, Bool, true, ◌&&◌, nat_lt, List, [], ◌∷◌, ◌++◌, map, codes, Option, None, Some, Result, Ok, refl, sym, ap, ◌∙◌, arith, append_assoc}
use Rattle.std.specs.Fmt.{decimal}
use Rattle.std.specs.List.{list_all, flat_map}
use Rattle.std.specs.Option.{option_or, option_map_or, option_to_list}
use Rattle.std.specs.Result.{result_ok}
use Rattle.std.proofs.lemmas.Bool.{and_parts, ltb-true}
use Rattle.std.proofs.lemmas.Grind.{flat_map-append}
use Rattle.std.proofs.lemmas.List.{map-id}
use Rattle.dns_model.specs.Bytes.{is_bytes}
use Rattle.dns_model.specs.Keys.{AnchorValue, AcceptedSignatureValue}
use Rattle.dns_model.specs.Names.{Labels, is_name}
use Rattle.dns_model.specs.NameText.{printed}
use Rattle.dns_model.specs.OptionSteps.{◌>>=◌}
use Rattle.dns_model.specs.Records.{Question, MessageValue}
use Rattle.dns_record.proofs.TextLemmas.{read_printed}
use Rattle.dns_record.specs.Words.{type_word}
use Rattle.dns_text.specs.Codes.{type_word_in}
use Rattle.dns_text.specs.Words.{name_word_in, decimal_in, octets_word, octets_in}
use Rattle.dns_text.proofs.OctetLaws.{octets_back}
use Rattle.dns_text.proofs.WordLaws.{decimal_back, type_back}
use Rattle.dns_text.proofs.WordShapes.{is_word, bytes_below, decimal_word, octets_is_word}
use Rattle.dns_report.specs.Fields.{fitting_name, is_u16}
use Rattle.dns_text.specs.Lines.{Words}
use Rattle.dns_report.proofs.FieldWords.{below_u16, type_good, small_good}
use Rattle.dns_text.proofs.LineShapes.{Line, text_of, is_line}
use Rattle.dns_report.proofs.NameShapes.{printed_word}
use Rattle.dns_session.specs.declared.reply.ReplyFault.{ReplyFault}
use Rattle.dns_session.specs.declared.reply.ReplyFault.TheVariants as lacking
use Rattle.dns_session.specs.SessionValue as session
use Rattle.dns_session.specs.SessionValue.{ReplyValue}
use Rattle.dns_session.specs.Grammar.{session_of}
use Rattle.dns_session.specs.Lines.{after, single, double, triple, quadruple, bytes_in, moment_line, depth_line, algorithms_line, anchor_line, accept_line, question_in, query_line, message_word_in, fault_word_in, upstream_line}
use Rattle.dns_session.specs.Spelled.{lines_text, Unbroken, Say, Spelled}
use Rattle.dns_session.proofs.ReadLaws.{session_read}
use Rattle.dns_message.specs.declared.decode_error.DecodeError.{DecodeError}
use Rattle.dns_saved_session.specs.Saved.{CameValue, Message, Fault, SavedReplyValue, SavedValue}
use Rattle.dns_saved_session.specs.SavedText.{depth_text, anchor_text, accept_text, came_text, reply_text, fault_word, head_text, asked_text, saved_text, in_class, came_told, reply_told, session_saved, fitting_anchor, fitting_accept, fitting_question, fitting_came, fitting_reply, fitting_saved}
use Rattle.dns_session.proofs.WordLines.{joined, line_is, line_whole, line_words}
use Rattle.dns_saved_session.proofs.LineReads.{lines_are, lines_whole, whole_append, all_say}

-- ---- words

name_read : (name : Labels) → fitting_name name ≡ true → name_word_in (printed name) ≡ Some name
name_read name h =
    let parts = and_parts (is_name name) (list_all is_bytes name) h in ap result_ok (read_printed name parts.0 parts.1)

type_read : (n : ℕ) → is_u16 n ≡ true → type_word_in (type_word n) ≡ Some n
type_read n h = type_back n (below_u16 n h)

octets_read : (bytes : List ℕ) → is_bytes bytes ≡ true → octets_in (octets_word bytes) ≡ Some bytes
octets_read bytes h = octets_back bytes (bytes_below bytes h)

byte_read : (n : ℕ) → nat_lt n 256 ≡ true → decimal_in 255 (decimal n) ≡ Some n
byte_read n h =
    let lt : n < 256 = ltb-true n 256 h in decimal_back 255 n (omega (arith, lt)) (omega (arith, lt))

byte_good : (n : ℕ) → nat_lt n 256 ≡ true → is_word (decimal n) ≡ true
byte_good n h = let lt : n < 256 = ltb-true n 256 h in decimal_word n (omega (arith, lt))

-- ---- the line of a moment

abbrev moment_of : ℕ → Line
moment_of n = (codes "moment", decimal n ∷ [])

abbrev moment_by : Words → Option ℕ
moment_by ws = after (codes "moment") ws >>= λ rest. single rest >>= λ number. decimal_in (2 ^ 64 - 1) number

moment_good : (n : ℕ) → n < 2 ^ 64 → is_line (moment_of n) ≡ true
moment_good n h = rw (decimal_word n h) refl

moment_reads : (n : ℕ) → n < 2 ^ 64 → moment_line (joined (moment_of n)) ≡ Some n
moment_reads n h =
    ap moment_by (line_words (moment_of n) (moment_good n h)) ∙ decimal_back (2 ^ 64 - 1) n (omega (arith, h)) h

-- ---- the line of a depth

abbrev depth_of : ℕ → Line
depth_of n = (codes "depth", decimal n ∷ [])

abbrev depth_by : Words → Option ℕ
depth_by ws = after (codes "depth") ws >>= λ rest. single rest >>= λ number. decimal_in (2 ^ 16 - 1) number

depth_good : (n : ℕ) → is_u16 n ≡ true → is_line (depth_of n) ≡ true
depth_good n h = rw (small_good n h) refl

depth_reads : (n : ℕ) → is_u16 n ≡ true → depth_line (joined (depth_of n)) ≡ Some n
depth_reads n h =
    let le = below_u16 n h in
    ap depth_by (line_words (depth_of n) (depth_good n h)) ∙ decimal_back (2 ^ 16 - 1) n (omega (arith, le)) (omega (arith, le))

depth_listed : (depth : Option ℕ) → option_map_or is_u16 depth true ≡ true → list_all is_u16 (option_to_list depth) ≡ true
depth_listed None h = refl
depth_listed (Some n) h = rw h refl

-- ---- the line of algorithms

abbrev algorithms_of : List ℕ → Line
algorithms_of ns = (codes "algorithms", map decimal ns)

abbrev algorithms_by : Words → Option (List ℕ)
algorithms_by ws = after (codes "algorithms") ws >>= bytes_in

numbers_good : (ns : List ℕ) → is_bytes ns ≡ true → list_all is_word (map decimal ns) ≡ true
numbers_good [] h = refl
numbers_good (n ∷ ns) h =
    let parts = and_parts (nat_lt n 256) (is_bytes ns) h in rw (byte_good n parts.0, numbers_good ns parts.1) refl

algorithms_good : (ns : List ℕ) → is_bytes ns ≡ true → is_line (algorithms_of ns) ≡ true
algorithms_good ns h = rw (numbers_good ns h) refl

numbers_read : (ns : List ℕ) → is_bytes ns ≡ true → bytes_in (map decimal ns) ≡ Some ns
unfolding bytes_in
numbers_read [] h = refl
numbers_read (n ∷ ns) h =
    let parts = and_parts (nat_lt n 256) (is_bytes ns) h in rw (byte_read n parts.0, numbers_read ns parts.1) refl

algorithms_read : (ns : List ℕ) → is_bytes ns ≡ true → algorithms_line (joined (algorithms_of ns)) ≡ Some ns
algorithms_read ns h = ap algorithms_by (line_words (algorithms_of ns) (algorithms_good ns h)) ∙ numbers_read ns h

-- ---- the line of a trusted key

abbrev anchor_of : AnchorValue → Line
anchor_of a = (codes "anchor", printed a.owner ∷ decimal a.algorithm ∷ octets_word a.key ∷ [])

abbrev anchor_by : Words → Option AnchorValue
anchor_by ws =
    after (codes "anchor") ws >>= λ rest. triple rest >>= λ fields. name_word_in fields.0 >>= λ owner. decimal_in 255 fields.1
    >>= λ algorithm. octets_in fields.2 >>= λ key. Some (record { owner = owner; algorithm = algorithm; key = key })

anchor_good : (a : AnchorValue) → fitting_anchor a ≡ true → is_line (anchor_of a) ≡ true
anchor_good a h =
    let one = and_parts (fitting_name a.owner) (nat_lt a.algorithm 256 && is_bytes a.key) h in
    let two = and_parts (nat_lt a.algorithm 256) (is_bytes a.key) one.1 in
    rw (printed_word a.owner, byte_good a.algorithm two.0, octets_is_word a.key two.1) refl

anchor_reads : (a : AnchorValue) → fitting_anchor a ≡ true → anchor_line (joined (anchor_of a)) ≡ Some a
anchor_reads a h =
    let one = and_parts (fitting_name a.owner) (nat_lt a.algorithm 256 && is_bytes a.key) h in
    let two = and_parts (nat_lt a.algorithm 256) (is_bytes a.key) one.1 in
    ap anchor_by (line_words (anchor_of a) (anchor_good a h))
    ∙ rw (name_read a.owner one.0, byte_read a.algorithm two.0, octets_read a.key two.1) refl

-- ---- the line of an accepted signature

abbrev accept_of : AcceptedSignatureValue → Line
accept_of a = (codes "accept", decimal a.algorithm ∷ octets_word a.key ∷ octets_word a.bytes ∷ octets_word a.signature ∷ [])

abbrev accept_by : Words → Option AcceptedSignatureValue
accept_by ws =
    after (codes "accept") ws >>= λ rest. quadruple rest >>= λ fields. decimal_in 255 fields.0 >>= λ algorithm. octets_in fields.1
    >>= λ key. octets_in fields.2 >>= λ bytes. octets_in fields.3
    >>= λ signature. Some (record { algorithm = algorithm; key = key; bytes = bytes; signature = signature })

-- what fits of an accepted signature
record FitsAccept (a : AcceptedSignatureValue) : Type 0 where
  algorithm : nat_lt a.algorithm 256 ≡ true
  key : is_bytes a.key ≡ true
  bytes : is_bytes a.bytes ≡ true
  signature : is_bytes a.signature ≡ true

fits_accept : (a : AcceptedSignatureValue) → fitting_accept a ≡ true → FitsAccept a
fits_accept a h =
    let one = and_parts (nat_lt a.algorithm 256) (is_bytes a.key && (is_bytes a.bytes && is_bytes a.signature)) h in
    let two = and_parts (is_bytes a.key) (is_bytes a.bytes && is_bytes a.signature) one.1 in
    let three = and_parts (is_bytes a.bytes) (is_bytes a.signature) two.1 in
    record { algorithm = one.0; key = two.0; bytes = three.0; signature = three.1 }

accept_good : (a : AcceptedSignatureValue) → fitting_accept a ≡ true → is_line (accept_of a) ≡ true
accept_good a h =
    let f = fits_accept a h in
    rw (
      byte_good a.algorithm f.algorithm,
      octets_is_word a.key f.key,
      octets_is_word a.bytes f.bytes,
      octets_is_word a.signature f.signature,
    ) refl

accept_reads : (a : AcceptedSignatureValue) → fitting_accept a ≡ true → accept_line (joined (accept_of a)) ≡ Some a
accept_reads a h =
    let f = fits_accept a h in
    ap accept_by (line_words (accept_of a) (accept_good a h))
    ∙ rw (
      byte_read a.algorithm f.algorithm,
      octets_read a.key f.key,
      octets_read a.bytes f.bytes,
      octets_read a.signature f.signature,
    ) refl

-- ---- the line of the query

abbrev query_of : Question → Line
query_of q = (codes "query", printed q.owner ∷ type_word q.rtype ∷ [])

abbrev query_by : Words → Option Question
query_by ws = after (codes "query") ws >>= λ rest. double rest >>= λ fields. question_in fields.0 fields.1

query_good : (q : Question) → fitting_question q ≡ true → is_line (query_of q) ≡ true
query_good q h =
    let parts = and_parts (fitting_name q.owner) (is_u16 q.rtype) h in
    rw (printed_word q.owner, type_good q.rtype parts.1) refl

question_read : (q : Question) → fitting_question q ≡ true → question_in (printed q.owner) (type_word q.rtype) ≡ Some (in_class q)
question_read q h =
    let parts = and_parts (fitting_name q.owner) (is_u16 q.rtype) h in
    rw (name_read q.owner parts.0, type_read q.rtype parts.1) refl

query_reads : (q : Question) → fitting_question q ≡ true → query_line (joined (query_of q)) ≡ Some (in_class q)
query_reads q h = ap query_by (line_words (query_of q) (query_good q h)) ∙ question_read q h

-- ---- the line of what came

abbrev came_of : Question → CameValue → Line
came_of q (Message bytes) = (codes "reply", printed q.owner ∷ type_word q.rtype ∷ octets_word bytes ∷ [])
came_of q (Fault fault) = (codes "fault", printed q.owner ∷ type_word q.rtype ∷ fault_word fault ∷ [])

abbrev reply_of : SavedReplyValue → Line
reply_of n = came_of n.question n.came

abbrev message_by : List ℕ → Words → Option (Question × Result MessageValue DecodeError)
message_by word ws =
    after word ws >>= triple >>= λ fields. question_in fields.0 fields.1 >>= λ question. message_word_in fields.2
    >>= λ message. Some (question, message)

abbrev reply_by : Words → Option ReplyValue
reply_by ws = message_by (codes "reply") ws >>= λ told. Some (record { question = told.0; kind = session.Message told.1 })

abbrev empty_by : Words → Option ReplyValue
empty_by ws = message_by (codes "empty") ws >>= λ told. Some (record { question = told.0; kind = session.Empty told.1 })

abbrev fault_by : Words → Option ReplyValue
fault_by ws =
    after (codes "fault") ws >>= triple >>= λ fields. question_in fields.0 fields.1 >>= λ question. fault_word_in fields.2
    >>= λ fault. Some (record { question = question; kind = session.Fault fault })

abbrev upstream_by : Words → Option ReplyValue
upstream_by ws = option_or (reply_by ws) (option_or (empty_by ws) (fault_by ws))

fault_read : (fault : ReplyFault) → fault_word_in (fault_word fault) ≡ Some fault
fault_read lacking.Timeout = refl
fault_read lacking.Io = refl
fault_read lacking.Busy = refl

fault_good : (fault : ReplyFault) → is_word (fault_word fault) ≡ true
fault_good lacking.Timeout = refl
fault_good lacking.Io = refl
fault_good lacking.Busy = refl

came_good : (q : Question) (came : CameValue) → fitting_question q ≡ true → fitting_came came ≡ true
    → is_line (came_of q came) ≡ true
came_good q (Message bytes) h fits =
    let parts = and_parts (fitting_name q.owner) (is_u16 q.rtype) h in
    rw (printed_word q.owner, type_good q.rtype parts.1, octets_is_word bytes fits) refl
came_good q (Fault fault) h fits =
    let parts = and_parts (fitting_name q.owner) (is_u16 q.rtype) h in
    rw (printed_word q.owner, type_good q.rtype parts.1, fault_good fault) refl

came_reads : (q : Question) (came : CameValue) → fitting_question q ≡ true → fitting_came came ≡ true
    → upstream_line (joined (came_of q came)) ≡ Some (record { question = in_class q; kind = came_told came })
came_reads q (Message bytes) h fits =
    ap upstream_by (line_words (came_of q (Message bytes)) (came_good q (Message bytes) h fits))
    ∙ rw (question_read q h, octets_read bytes fits) refl
came_reads q (Fault fault) h fits =
    ap upstream_by (line_words (came_of q (Fault fault)) (came_good q (Fault fault) h fits))
    ∙ rw (question_read q h, fault_read fault) refl

reply_good : (n : SavedReplyValue) → fitting_reply n ≡ true → is_line (reply_of n) ≡ true
reply_good n h =
    let parts = and_parts (fitting_question n.question) (fitting_came n.came) h in
    came_good n.question n.came parts.0 parts.1

reply_reads : (n : SavedReplyValue) → fitting_reply n ≡ true → upstream_line (joined (reply_of n)) ≡ Some (reply_told n)
reply_reads n h =
    let parts = and_parts (fitting_question n.question) (fitting_came n.came) h in
    came_reads n.question n.came parts.0 parts.1

-- ---- the text as lines

-- a line with its LF
abbrev ended : List ℕ → List ℕ
ended line = line ++ 10 ∷ []

came_is : (q : Question) (came : CameValue) → came_text q came ≡ text_of (came_of q came)
came_is q (Message bytes) = refl
came_is q (Fault fault) = refl

replies_are : (ns : List SavedReplyValue) → flat_map reply_text ns ≡ lines_text (map (λ n. joined (reply_of n)) ns)
replies_are [] = refl
replies_are (n ∷ ns) =
    ap (λ t. t ++ flat_map reply_text ns) (came_is n.question n.came ∙ line_is (reply_of n))
    ∙ ap (λ t. (joined (reply_of n) ++ 10 ∷ []) ++ t) (replies_are ns)

abbrev depths_said : Option ℕ → List (List ℕ)
depths_said depth = map (λ n. joined (depth_of n)) (option_to_list depth)

abbrev anchors_said : List AnchorValue → List (List ℕ)
anchors_said anchors = map (λ a. joined (anchor_of a)) anchors

abbrev accepts_said : List AcceptedSignatureValue → List (List ℕ)
accepts_said accepts = map (λ a. joined (accept_of a)) accepts

abbrev replies_said : List SavedReplyValue → List (List ℕ)
replies_said replies = map (λ n. joined (reply_of n)) replies

-- the lines from the query on
abbrev asked_lines : Question → List SavedReplyValue → List (List ℕ)
asked_lines q ns = joined (query_of q) ∷ (replies_said ns ++ codes "end" ∷ [])

asked_are : (q : Question) (ns : List SavedReplyValue) → asked_text q ns ≡ lines_text (asked_lines q ns)
unfolding asked_text
asked_are q ns =
    ap (λ t. t ++ (flat_map reply_text ns ++ codes "end\n")) (line_is (query_of q))
    ∙ ap (λ t. (joined (query_of q) ++ 10 ∷ []) ++ t)
    (ap (λ t. t ++ codes "end\n") (replies_are ns) ∙ sym (flat_map-append ended (replies_said ns) (codes "end" ∷ [])))

-- the lines from the first trusted key on
abbrev lines_behind : List AnchorValue → List AcceptedSignatureValue → Question → List SavedReplyValue → List (List ℕ)
lines_behind anchors accepts q ns = anchors_said anchors ++ (accepts_said accepts ++ asked_lines q ns)

behind_are : (anchors : List AnchorValue) (accepts : List AcceptedSignatureValue) (q : Question) (ns : List SavedReplyValue)
    → flat_map anchor_text anchors ++ (flat_map accept_text accepts ++ asked_text q ns) ≡ lines_text (lines_behind anchors accepts q ns)
behind_are anchors accepts q ns =
    ap (λ t. t ++ (flat_map accept_text accepts ++ asked_text q ns)) (lines_are anchor_of anchors)
    ∙ ap (λ t. lines_text (anchors_said anchors) ++ t)
    (ap (λ t. t ++ asked_text q ns) (lines_are accept_of accepts)
    ∙ ap (λ t. lines_text (accepts_said accepts) ++ t) (asked_are q ns)
    ∙ sym (flat_map-append ended (accepts_said accepts) (asked_lines q ns)))
    ∙ sym (flat_map-append ended (anchors_said anchors) (accepts_said accepts ++ asked_lines q ns))

four_parts : (a b c d e : List ℕ) → (a ++ (b ++ (c ++ d))) ++ e ≡ a ++ (b ++ (c ++ (d ++ e)))
four_parts a b c d e =
    append_assoc a (b ++ (c ++ d)) e ∙ ap (λ t. a ++ t) (append_assoc b (c ++ d) e ∙ ap (λ t. b ++ t) (append_assoc c d e))

-- the lines before the first trusted key, and others behind them
head_are : (moment : ℕ) (depth : Option ℕ) (algorithms behind : List ℕ) (lines : List (List ℕ)) → behind ≡ lines_text lines
    → head_text moment depth algorithms ++ behind
    ≡ lines_text (codes "dns-session 2" ∷ joined (moment_of moment) ∷ (depths_said depth ++ joined (algorithms_of algorithms) ∷ lines))
unfolding head_text
head_are moment depth algorithms behind lines h =
    let deep = flat_map depth_text (option_to_list depth) in
    let listed = text_of (algorithms_of algorithms) in
    four_parts (codes "dns-session 2\n") (text_of (moment_of moment)) deep listed behind
    ∙ ap (λ t. codes "dns-session 2\n" ++ t)
    (ap (λ t. t ++ (deep ++ (listed ++ behind))) (line_is (moment_of moment))
    ∙ ap (λ t. (joined (moment_of moment) ++ 10 ∷ []) ++ t)
    (ap (λ t. t ++ (listed ++ behind)) (lines_are depth_of (option_to_list depth))
    ∙ ap (λ t. lines_text (depths_said depth) ++ t)
    (ap (λ t. t ++ behind) (line_is (algorithms_of algorithms)) ∙ ap (λ t. (joined (algorithms_of algorithms) ++ 10 ∷ []) ++ t) h)
    ∙ sym (flat_map-append ended (depths_said depth) (joined (algorithms_of algorithms) ∷ lines))))

-- ---- what fits

record FitsSaved (s : SavedValue) : Type 0 where
  moment : s.moment < 2 ^ 64
  depth : list_all is_u16 (option_to_list s.depth) ≡ true
  algorithms : is_bytes s.algorithms ≡ true
  anchors : list_all fitting_anchor s.anchors ≡ true
  accepts : list_all fitting_accept s.accepts ≡ true
  query : fitting_question s.query ≡ true
  replies : list_all fitting_reply s.replies ≡ true

fits_saved : (s : SavedValue) → fitting_saved s ≡ true → FitsSaved s
fits_saved s h =
    let a = and_parts (nat_lt s.moment (2 ^ 64)) (option_map_or is_u16 s.depth true && (is_bytes s.algorithms
    && (list_all fitting_anchor s.anchors && (list_all fitting_accept s.accepts
    && (fitting_question s.query && list_all fitting_reply s.replies))))) h in
    let b = and_parts (option_map_or is_u16 s.depth true) (is_bytes s.algorithms && (list_all fitting_anchor s.anchors
    && (list_all fitting_accept s.accepts && (fitting_question s.query && list_all fitting_reply s.replies)))) a.1 in
    let c = and_parts (is_bytes s.algorithms) (list_all fitting_anchor s.anchors && (list_all fitting_accept s.accepts
    && (fitting_question s.query && list_all fitting_reply s.replies))) b.1 in
    let d = and_parts (list_all fitting_anchor s.anchors) (list_all fitting_accept s.accepts
    && (fitting_question s.query && list_all fitting_reply s.replies)) c.1 in
    let e = and_parts (list_all fitting_accept s.accepts) (fitting_question s.query && list_all fitting_reply s.replies) d.1 in
    let f = and_parts (fitting_question s.query) (list_all fitting_reply s.replies) e.1 in
    record {
      moment = ltb-true s.moment (2 ^ 64) a.0;
      depth = depth_listed s.depth b.0;
      algorithms = c.0;
      anchors = d.0;
      accepts = e.0;
      query = f.0;
      replies = f.1;
    }

-- ---- the law

-- lines that say the values that they were written for
each_says : {X : Type 0} (form : List ℕ → Option X) (of : X → Line) (fits : X → Bool)
    → ((x : X) → fits x ≡ true → form (joined (of x)) ≡ Some x)
    → (xs : List X) → list_all fits xs ≡ true → Say form (map (λ x. joined (of x)) xs) xs
each_says form of fits one xs h =
    all_say form of (λ x. x) fits one xs h ∙ ap (λ l. map Some l) (map-id xs)

unbroken_behind : (s : SavedValue) → FitsSaved s → Unbroken (lines_behind s.anchors s.accepts s.query s.replies)
unbroken_behind s f =
    whole_append (anchors_said s.anchors) (accepts_said s.accepts ++ asked_lines s.query s.replies)
    (lines_whole anchor_of fitting_anchor anchor_good s.anchors f.anchors)
    (whole_append (accepts_said s.accepts) (asked_lines s.query s.replies)
    (lines_whole accept_of fitting_accept accept_good s.accepts f.accepts) (
      line_whole (query_of s.query) (query_good s.query f.query),
      whole_append (replies_said s.replies) (codes "end" ∷ []) (lines_whole reply_of fitting_reply reply_good s.replies f.replies) (refl, tt),
    ))

unbroken_dated : (s : SavedValue) → FitsSaved s
    → Unbroken (depths_said s.depth ++ joined (algorithms_of s.algorithms) ∷ lines_behind s.anchors s.accepts s.query s.replies)
unbroken_dated s f =
    whole_append (depths_said s.depth) (joined (algorithms_of s.algorithms) ∷ lines_behind s.anchors s.accepts s.query s.replies)
    (lines_whole depth_of is_u16 depth_good (option_to_list s.depth) f.depth)
    (line_whole (algorithms_of s.algorithms) (algorithms_good s.algorithms f.algorithms), unbroken_behind s f)

saved_spelled : (s : SavedValue) → FitsSaved s → Spelled (saved_text s) (session_saved s)
unfolding saved_text
saved_spelled s f = record {
  head = codes "dns-session 2";
  moment = joined (moment_of s.moment);
  depth = depths_said s.depth;
  algorithms = joined (algorithms_of s.algorithms);
  anchors = anchors_said s.anchors;
  accepts = accepts_said s.accepts;
  query = joined (query_of s.query);
  replies = replies_said s.replies;
  spelled = head_are s.moment s.depth s.algorithms _ _ (behind_are s.anchors s.accepts s.query s.replies);
  unbroken = (refl, (line_whole (moment_of s.moment) (moment_good s.moment f.moment), unbroken_dated s f));
  head_says = refl;
  moment_says = moment_reads s.moment f.moment;
  depth_says = each_says depth_line depth_of is_u16 depth_reads (option_to_list s.depth) f.depth;
  algorithms_say = algorithms_read s.algorithms f.algorithms;
  anchors_say = each_says anchor_line anchor_of fitting_anchor anchor_reads s.anchors f.anchors;
  accepts_say = each_says accept_line accept_of fitting_accept accept_reads s.accepts f.accepts;
  query_says = query_reads s.query f.query;
  replies_say = all_say upstream_line reply_of reply_told fitting_reply reply_reads s.replies f.replies;
}

-- what is saved is read back
pub saved_is_read : (s : SavedValue) → fitting_saved s ≡ true → session_of (saved_text s) ≡ Ok (session_saved s)
saved_is_read s h = session_read (saved_text s) (session_saved s) (saved_spelled s (fits_saved s h))
