-- What is read as a session is spelled so.
use Rattle.std.proofs.Common.{◌≡◌, ℕ, ◌+◌, Bool, true, false, ◌==◌, List, [], ◌∷◌, ◌++◌, map, codes, Option, None, Some, Result, Ok, Err, refl, sym, ap, subst, ◌∙◌, inl, inr, append-nil, append_assoc}
use Rattle.std.specs.List.{onto_first, join_with_byte, list_any}
use Rattle.std.specs.Option.{option_to_list, option_map, option_map_or}
use Rattle.std.specs.Result.{result_unwrap_or}
use Rattle.std.proofs.lemmas.Bool.{cases_Bool, or_parts}
use Rattle.std.proofs.lemmas.List.Splits.{join_with_byte-slice_split}
use Rattle.std.specs.Cmp.Lexicographic.{bytes_decides}
use Rattle.dns_model.specs.Keys.{AnchorValue, bytes_eq, AcceptedSignatureValue}
use Rattle.dns_model.specs.Records.{Question}
use Rattle.dns_session.specs.SessionValue.{SessionValue, ReplyValue}
use Rattle.dns_model.specs.ResultSteps.{◌>>=◌}
use Rattle.dns_session.specs.LinePlaces.{Place, place, pieces, start_of, one, optional, many, many_in, before_more, is_nothing}
use Rattle.dns_session.specs.Lines.{header_line, moment_line, depth_line, algorithms_line, anchor_line, accept_line, query_line, upstream_line, end_line, fixed}
use Rattle.dns_session.specs.Grammar.{session_at, session_front, session_of, if_ended}
use Rattle.dns_session.specs.Spelled.{lines_text, Unbroken, Say, session_lines, Spelled}
use Rattle.dns_model.specs.Gives.{or_error}

-- ---- lines and pieces

pub split_line : (line rest : List ℕ) → list_any (λ b. b == 10) line ≡ false
    → pieces 10 (line ++ 10 ∷ rest) ≡ line ∷ pieces 10 rest
split_line [] rest whole = refl
split_line (x ∷ line) rest whole =
    let parts = or_parts (x == 10) (list_any (λ b. b == 10) line) whole in
    let ih : pieces 10 (line ++ 10 ∷ rest) ≡ line ∷ pieces 10 rest = split_line line rest parts.1 in
    rw (parts.0, ih) refl

-- lines give themselves, and nothing after the last LF
pub pieces_lines : (lines : List (List ℕ)) → Unbroken lines → pieces 10 (lines_text lines) ≡ lines ++ [] ∷ []
pieces_lines [] whole = refl
pieces_lines (line ∷ lines) whole =
    let ih : pieces 10 (lines_text lines) ≡ lines ++ [] ∷ [] = pieces_lines lines whole.1 in
    let text : lines_text (line ∷ lines) ≡ line ++ 10 ∷ lines_text lines =
    append_assoc line (10 ∷ []) (lines_text lines) in
    ap (pieces 10) text ∙ split_line line (lines_text lines) whole.0 ∙ ap (λ ps. line ∷ ps) ih

join_lines : (lines : List (List ℕ)) → join_with_byte 10 (lines ++ [] ∷ []) ≡ lines_text lines
join_lines [] = refl
join_lines (line ∷ []) = sym (append-nil (line ++ 10 ∷ []))
join_lines (line ∷ next ∷ lines) =
    ap (λ text. line ++ 10 ∷ text) (join_lines (next ∷ lines))
    ∙ sym (append_assoc line (10 ∷ []) (lines_text (next ∷ lines)))

onto_unbroken : (x : ℕ) (parts : List (List ℕ)) → (x == 10) ≡ false → Unbroken parts → Unbroken (onto_first x parts)
onto_unbroken x [] other whole = (rw other refl, tt)
onto_unbroken x (part ∷ parts) other whole = (rw other whole.0, whole.1)

pieces_unbroken : (text : List ℕ) → Unbroken (pieces 10 text)
pieces_unbroken [] = (refl, tt)
pieces_unbroken (x ∷ text) =
    elim (cases_Bool (x == 10)) [
      | inl is ↦ rw is (refl, pieces_unbroken text)
      | inr isnt ↦ rw isnt (onto_unbroken x (pieces 10 text) isnt (pieces_unbroken text))
    ]

front_unbroken : (lines rest : List (List ℕ)) → Unbroken (lines ++ rest) → Unbroken lines
front_unbroken [] rest whole = tt
front_unbroken (line ∷ lines) rest whole = (whole.0, front_unbroken lines rest whole.1)

-- ---- from what is read to lines

-- one line of a form was read
record OneRead {X : Type 0} (form : List ℕ → Option X) (at : Place) (x : X) (after : Place) : Type 0 where
  line : List ℕ
  says : form line ≡ Some x
  cut : at.pieces ≡ line ∷ after.pieces

ok_pair : {X : Type 0} (x y : X) (p q : Place) → ◌≡◌ {A = Result (X × Place) ℕ} (Ok (x, p)) (Ok (y, q))
    → ◌≡◌ {A = X × Place} (x, p) (y, q)
ok_pair x y p q h = ap (λ r. result_unwrap_or r (x, p)) h

abbrev or_bad : {X : Type 0} → ℕ → Place → Option X → Result (X × Place) ℕ
or_bad number after said = or_error number (option_map (λ x. (x, after)) said)

one_by : {X : Type 0} (form : List ℕ → Option X) (number : ℕ) (line next : List ℕ) (rest : List (List ℕ)) (x : X)
    (after : Place)
    → (said : Option X) → form line ≡ said → or_bad number (place (number + 1) (next ∷ rest)) said ≡ Ok (x, after)
    → OneRead form (place number (line ∷ next ∷ rest)) x after
one_by form number line next rest x after None e h = cc
one_by form number line next rest x after (Some y) e h =
    let same = ok_pair y x (place (number + 1) (next ∷ rest)) after h in
    record { line = line; says = e ∙ ap (λ p. Some p.0) same; cut = ap (λ p. line ∷ p.1.pieces) same }

one_at : {X : Type 0} (form : List ℕ → Option X) (number : ℕ) (ps : List (List ℕ)) (x : X) (after : Place)
    → one form (place number ps) ≡ Ok (x, after) → OneRead form (place number ps) x after
unfolding one
one_at form number [] x after h = cc
one_at form number (line ∷ []) x after h = cc
one_at form number (line ∷ next ∷ rest) x after h = one_by form number line next rest x after (form line) refl h

-- any number of lines of a form were read
record ManyRead {X : Type 0} (form : List ℕ → Option X) (ps : List (List ℕ)) (xs : List X) (after : Place) : Type 0 where
  lines : List (List ℕ)
  say : Say form lines xs
  cut : ps ≡ lines ++ after.pieces

many_by : {X : Type 0} (form : List ℕ → Option X) (number : ℕ) (line next : List ℕ) (rest : List (List ℕ))
    (said : Option X)
    (more : List X × Place) → form line ≡ said → ManyRead form (next ∷ rest) more.0 more.1
    → ManyRead form (line ∷ next ∷ rest) (before_more said (place number (line ∷ next ∷ rest)) more).0
    (before_more said (place number (line ∷ next ∷ rest)) more).1
many_by form number line next rest None more e read = record { lines = []; say = refl; cut = refl }
many_by form number line next rest (Some x) more e read =
    record { lines = line ∷ read.lines; say = rw (e, read.say) refl; cut = ap (λ ps. line ∷ ps) read.cut }

many_at : {X : Type 0} (form : List ℕ → Option X) (number : ℕ) (ps : List (List ℕ))
    → ManyRead form ps (many_in form number ps).0 (many_in form number ps).1
unfolding many_in
many_at form number [] = record { lines = []; say = refl; cut = refl }
many_at form number (line ∷ []) = record { lines = []; say = refl; cut = refl }
many_at form number (line ∷ next ∷ rest) =
    many_by form number line next rest (form line) (many_in form (number + 1) (next ∷ rest)) refl
    (many_at form (number + 1) (next ∷ rest))

abbrev form_or_none : {X : Type 0} → Place → Place → Option X → Option X × Place
form_or_none {X} here after said =
    option_map_or (λ (x : X × Place). (Some x.0, x.1)) (option_map (λ x. (x, after)) said) (None, here)

-- a line that may be missing was read, or none
optional_by : {X : Type 0} (form : List ℕ → Option X) (number : ℕ) (line next : List ℕ) (rest : List (List ℕ))
    (said : Option X) → form line ≡ said
    → ManyRead form (line ∷ next ∷ rest)
    (option_to_list (form_or_none (place number (line ∷ next ∷ rest)) (place (number + 1) (next ∷ rest)) said).0)
    (form_or_none (place number (line ∷ next ∷ rest)) (place (number + 1) (next ∷ rest)) said).1
optional_by form number line next rest None e = record { lines = []; say = refl; cut = refl }
optional_by form number line next rest (Some x) e = record { lines = line ∷ []; say = ap (λ said. said ∷ []) e; cut = refl }

optional_at : {X : Type 0} (form : List ℕ → Option X) (number : ℕ) (ps : List (List ℕ))
    → ManyRead form ps (option_to_list (optional form (place number ps)).0) (optional form (place number ps)).1
unfolding optional
optional_at form number [] = record { lines = []; say = refl; cut = refl }
optional_at form number (line ∷ []) = record { lines = []; say = refl; cut = refl }
optional_at form number (line ∷ next ∷ rest) = optional_by form number line next rest (form line) refl

record Bound {A B : Type 0} (r : Result A ℕ) (more : A → Result B ℕ) (y : B) : Type 0 where
  value : A
  was : r ≡ Ok value
  gives : more value ≡ Ok y

bound : {A B : Type 0} (r : Result A ℕ) (more : A → Result B ℕ) (y : B) → (r >>= more) ≡ Ok y → Bound r more y
bound (Ok x) more y h = record { value = x; was = refl; gives = h }
bound (Err number) more y h = cc

pub nothing_left : (ps : List (List ℕ)) → is_nothing ps ≡ true → ps ≡ [] ∷ []
nothing_left [] h = cc
nothing_left ([] ∷ []) h = refl
nothing_left ((c ∷ cs) ∷ []) h = cc
nothing_left ([] ∷ line ∷ ps) h = cc
nothing_left ((c ∷ cs) ∷ line ∷ ps) h = cc

fixed_line : (text line : List ℕ) → fixed text line ≡ Some tt → line ≡ text
fixed_line text line h =
    elim (cases_Bool (bytes_eq line text)) [
      | inl is ↦ (bytes_decides line text).0 is
      | inr isnt ↦ let none : None ≡ Some tt = rw isnt at h in cc
    ]

-- the parts of the grammar, from a place on, with what is made of what they say

abbrev pub session : Bool → ℕ → Option ℕ → List ℕ → List AnchorValue → List AcceptedSignatureValue → Question
    → List ReplyValue → SessionValue
session by_turn moment depth algorithms anchors accepts query replies = record {
  by_turn = by_turn;
  moment = moment;
  depth = depth;
  algorithms = algorithms;
  anchors = anchors;
  accepts = accepts;
  query = query;
  replies = replies;
}

abbrev pub ends : SessionValue → Place → Result SessionValue ℕ
ends s at = one end_line at >>= λ last. if_ended last.1 s

abbrev pub asks : (Question → List ReplyValue → SessionValue) → Place → Result SessionValue ℕ
asks made at =
    one query_line at >>= λ query. ends (made query.0 (many upstream_line query.1).0) (many upstream_line query.1).1

abbrev pub trusts : (List AnchorValue → List AcceptedSignatureValue → Question → List ReplyValue → SessionValue) → Place
    → Result SessionValue ℕ
trusts made at =
    asks (made (many anchor_line at).0 (many accept_line (many anchor_line at).1).0)
    (many accept_line (many anchor_line at).1).1

abbrev pub lists : (List ℕ → List AnchorValue → List AcceptedSignatureValue → Question → List ReplyValue → SessionValue)
    → Place → Result SessionValue ℕ
lists made at = one algorithms_line at >>= λ algorithms. trusts (made algorithms.0) algorithms.1

abbrev pub dates : Bool → Place → Result SessionValue ℕ
dates by_turn at =
    one moment_line at >>= λ moment. lists (session by_turn moment.0 (optional depth_line moment.1).0) (optional depth_line moment.1).1

abbrev pub begins : Place → Result SessionValue ℕ
begins at = one header_line at >>= λ head. dates head.0 head.1

-- what is made of a part and then of what that gives
bind_then : {A B C : Type 0} (r : Result A ℕ) (more : A → Result B ℕ) (then : B → Result C ℕ) (whole : A → Result C ℕ)
    → ((x : A) → (more x >>= then) ≡ whole x) → ((r >>= more) >>= then) ≡ (r >>= whole)
bind_then (Ok x) more then whole same = same x
bind_then (Err number) more then whole same = refl

pub session_begins : (at : Place) → session_at at ≡ begins at
unfolding session_at session_front
session_begins at =
    bind_then (one header_line at) _ _ _
    (λ head. bind_then (one moment_line head.1) _ _ _
    (λ moment. bind_then (one algorithms_line (optional depth_line moment.1).1) _ _ _
    (λ algorithms. bind_then (one query_line (many accept_line (many anchor_line algorithms.1).1).1) _ _ _
    (λ query. bind_then (one end_line (many upstream_line query.1).1) _ _ _ (λ last. refl)))))

record EndRead (s t : SessionValue) (at : Place) : Type 0 where
  same : s ≡ t
  cut : at.pieces ≡ codes "end" ∷ [] ∷ []

end_by : (s t : SessionValue) (at : Place) → (if_ended at s) ≡ Ok t → (s ≡ t) × (at.pieces ≡ [] ∷ [])
end_by s t at h =
    elim (cases_Bool (is_nothing at.pieces)) [
      | inl is ↦ (
        ap (λ r. result_unwrap_or r s) (let same : ◌≡◌ {A = Result SessionValue ℕ} (Ok s) (Ok t) = rw is at h in same),
        nothing_left at.pieces is,
      )
      | inr isnt ↦ let none : ◌≡◌ {A = Result SessionValue ℕ} (Err at.number) (Ok t) = rw isnt at h in cc
    ]

end_read : (s t : SessionValue) (at : Place) → ends s at ≡ Ok t → EndRead s t at
end_read s t at h =
    let b = bound (one end_line at) (λ last. if_ended last.1 s) t h in
    let line = one_at end_line at.number at.pieces b.value.0 b.value.1 b.was in
    let rest = end_by s t b.value.1 b.gives in
    let word : line.line ≡ codes "end" = fixed_line (codes "end") line.line line.says in
    record { same = rest.0; cut = line.cut ∙ ap (λ l. l ∷ b.value.1.pieces) word ∙ ap (λ ps. codes "end" ∷ ps) rest.1 }

-- what was read from the query on, and its lines
record AskRead (made : Question → List ReplyValue → SessionValue) (s : SessionValue) (at : Place) : Type 0 where
  query : List ℕ
  replies : List (List ℕ)
  asked : Question
  told : List ReplyValue
  same : made asked told ≡ s
  cut : at.pieces ≡ query ∷ (replies ++ codes "end" ∷ [] ∷ [])
  query_says : query_line query ≡ Some asked
  replies_say : Say upstream_line replies told

ask_read : (made : Question → List ReplyValue → SessionValue) (s : SessionValue) (at : Place) → asks made at ≡ Ok s
    → AskRead made s at
ask_read made s at h =
    let b =
    bound (one query_line at)
    (λ query. ends (made query.0 (many upstream_line query.1).0) (many upstream_line query.1).1) s h in
    let line = one_at query_line at.number at.pieces b.value.0 b.value.1 b.was in
    let read = many_at upstream_line b.value.1.number b.value.1.pieces in
    let last = end_read (made b.value.0 (many upstream_line b.value.1).0) s (many upstream_line b.value.1).1 b.gives in
    record {
      query = line.line;
      replies = read.lines;
      asked = b.value.0;
      told = (many upstream_line b.value.1).0;
      same = last.same;
      cut = line.cut ∙ ap (λ ps. line.line ∷ ps) (read.cut ∙ ap (λ ps. read.lines ++ ps) last.cut);
      query_says = line.says;
      replies_say = read.say;
    }

-- what is read is spelled so
pub session_spelled : (text : List ℕ) (s : SessionValue) → session_of text ≡ Ok s → Spelled text s
session_spelled text s h =
    let start = start_of text in
    let b1 = bound (one header_line start) (λ head. dates head.0 head.1) s (sym (session_begins start) ∙ h) in
    let l1 = one_at header_line start.number start.pieces b1.value.0 b1.value.1 b1.was in
    let b2 = bound (one moment_line b1.value.1)
    (λ moment. lists (session b1.value.0 moment.0 (optional depth_line moment.1).0) (optional depth_line moment.1).1) s b1.gives in
    let l2 = one_at moment_line b1.value.1.number b1.value.1.pieces b2.value.0 b2.value.1 b2.was in
    let depth = optional_at depth_line b2.value.1.number b2.value.1.pieces in
    let deep = optional depth_line b2.value.1 in
    let b3 =
    bound (one algorithms_line deep.1)
    (λ algorithms. trusts (session b1.value.0 b2.value.0 deep.0 algorithms.0) algorithms.1) s b2.gives in
    let l3 = one_at algorithms_line deep.1.number deep.1.pieces b3.value.0 b3.value.1 b3.was in
    let anchors = many_at anchor_line b3.value.1.number b3.value.1.pieces in
    let here = (many anchor_line b3.value.1).1 in
    let accepts = many_at accept_line here.number here.pieces in
    let asked =
    ask_read (session b1.value.0 b2.value.0 deep.0 b3.value.0 (many anchor_line b3.value.1).0 (many accept_line here).0) s
    (many accept_line here).1 b3.gives in
    let body : List (List ℕ) = asked.query ∷ (asked.replies ++ codes "end" ∷ []) in
    let inner : List (List ℕ) = anchors.lines ++ (accepts.lines ++ body) in
    let all : List (List ℕ) =
    session_lines l1.line l2.line depth.lines l3.line anchors.lines accepts.lines asked.query asked.replies in
    let tail : (many accept_line here).1.pieces ≡ body ++ [] ∷ [] =
    asked.cut ∙ ap (λ ps. asked.query ∷ ps) (sym (append_assoc asked.replies (codes "end" ∷ []) ([] ∷ []))) in
    let keys : b3.value.1.pieces ≡ inner ++ [] ∷ [] =
    anchors.cut
    ∙ ap (λ ps. anchors.lines ++ ps)
    (accepts.cut ∙ ap (λ ps. accepts.lines ++ ps) tail ∙ sym (append_assoc accepts.lines body ([] ∷ [])))
    ∙ sym (append_assoc anchors.lines (accepts.lines ++ body) ([] ∷ [])) in
    let dated : b2.value.1.pieces ≡ (depth.lines ++ l3.line ∷ inner) ++ [] ∷ [] =
    depth.cut ∙ ap (λ ps. depth.lines ++ ps) (l3.cut ∙ ap (λ ps. l3.line ∷ ps) keys)
    ∙ sym (append_assoc depth.lines (l3.line ∷ inner) ([] ∷ [])) in
    let whole : pieces 10 text ≡ all ++ [] ∷ [] =
    l1.cut ∙ ap (λ ps. l1.line ∷ ps) (l2.cut ∙ ap (λ ps. l2.line ∷ ps) dated) in
    let lines_whole : Unbroken (all ++ [] ∷ []) = subst Unbroken whole (pieces_unbroken text) in
    record {
      head = l1.line;
      moment = l2.line;
      depth = depth.lines;
      algorithms = l3.line;
      anchors = anchors.lines;
      accepts = accepts.lines;
      query = asked.query;
      replies = asked.replies;
      spelled = sym (join_with_byte-slice_split 10 text) ∙ ap (join_with_byte 10) whole ∙ join_lines all;
      unbroken = front_unbroken all ([] ∷ []) lines_whole;
      head_says = l1.says ∙ ap (λ t. Some t.by_turn) asked.same;
      moment_says = l2.says ∙ ap (λ t. Some t.moment) asked.same;
      depth_says = depth.say ∙ ap (λ t. map Some (option_to_list t.depth)) asked.same;
      algorithms_say = l3.says ∙ ap (λ t. Some t.algorithms) asked.same;
      anchors_say = anchors.say ∙ ap (λ t. map Some t.anchors) asked.same;
      accepts_say = accepts.say ∙ ap (λ t. map Some t.accepts) asked.same;
      query_says = asked.query_says ∙ ap (λ t. Some t.query) asked.same;
      replies_say = asked.replies_say ∙ ap (λ t. map Some t.replies) asked.same;
    }
