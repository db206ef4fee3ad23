-- What is spelled as a session is read as that session.
use Rattle.std.proofs.Common.{◌≡◌, ℕ, ◌+◌, ◌<◌, false, List, [], ◌∷◌, ◌++◌, length, codes, Option, None, Some, Ok, refl, ap, ◌∙◌, arith, inl, inr, append_assoc}
use Rattle.std.specs.Prelude.{◌↔◌}
use Rattle.std.specs.Option.{option_to_list}
use Rattle.std.proofs.lemmas.Bool.{cases_Bool}
use Rattle.std.specs.Cmp.Lexicographic.{bytes_decides}
use Rattle.std.proofs.lemmas.Option.{none-some}
use Rattle.dns_model.specs.Keys.{AnchorValue, bytes_eq, AcceptedSignatureValue}
use Rattle.dns_model.specs.Records.{Question}
use Rattle.dns_model.specs.OptionSteps as steps
use Rattle.dns_session.specs.SessionValue.{SessionValue, ReplyValue}
use Rattle.dns_session.specs.LinePlaces.{place, pieces, start_of, one, optional, many_in}
use Rattle.dns_session.specs.Lines.{Words, words, after, header_line, moment_line, depth_line, algorithms_line, anchor_line, accept_line, query_line, upstream_line}
use Rattle.dns_session.specs.Grammar.{session_of}
use Rattle.dns_session.specs.Spelled.{Say, session_lines, Spelled}
use Rattle.dns_session.proofs.SpelledLaws.{pieces_lines, session_spelled, session, ends, asks, trusts, begins, session_begins}

one_line : {X : Type 0} (form : List ℕ → Option X) (number : ℕ) (line next : List ℕ) (rest : List (List ℕ)) (x : X)
    → form line ≡ Some x → one form (place number (line ∷ next ∷ rest)) ≡ Ok (x, place (number + 1) (next ∷ rest))
unfolding one
one_line form number line next rest x h = rw h refl

one_listed : {X : Type 0} (form : List ℕ → Option X) (number : ℕ) (line : List ℕ) (ps : List (List ℕ)) (x : X)
    → 0 < length ps → form line ≡ Some x → one form (place number (line ∷ ps)) ≡ Ok (x, place (number + 1) ps)
one_listed form number line [] x some h = absurd (omega arith)
one_listed form number line (next ∷ ps) x some h = one_line form number line next ps x h

-- a row of lines of one form, up to a line of another
record Row {X : Type 0} (form : List ℕ → Option X) (number : ℕ) (ps : List (List ℕ)) (xs : List X) (rest : List (List ℕ)) : Type 0 where
  next : ℕ
  reads : many_in form number ps ≡ (xs, place next rest)

-- the list isn't empty, and its first line has another form
abbrev Others : {X : Type 0} → (List ℕ → Option X) → List (List ℕ) → Type 0
Others form [] = Unit {0}
Others form (line ∷ []) = Unit {0}
Others form (line ∷ next ∷ rest) = form line ≡ None

no_row : {X : Type 0} (form : List ℕ → Option X) (number : ℕ) (rest : List (List ℕ)) → Others form rest
    → Row form number rest [] rest
unfolding many_in
no_row form number [] other = record { next = number; reads = refl }
no_row form number (line ∷ []) other = record { next = number; reads = refl }
no_row form number (line ∷ next ∷ rest) other = record { next = number; reads = rw other refl }

longer_row : {X : Type 0} (form : List ℕ → Option X) (number : ℕ) (line : List ℕ) (ps : List (List ℕ)) (x : X)
    (xs : List X) (rest : List (List ℕ))
    → 0 < length ps → form line ≡ Some x → Row form (number + 1) ps xs rest → Row form number (line ∷ ps) (x ∷ xs) rest
unfolding many_in
longer_row form number line [] x xs rest some h row = absurd (omega arith)
longer_row form number line (next ∷ ps) x xs rest some h row = record { next = row.next; reads = rw (h, row.reads) refl }

listed_after : (lines rest : List (List ℕ)) → 0 < length rest → 0 < length (lines ++ rest)
listed_after [] rest h = h
listed_after (line ∷ lines) rest h = omega arith

abbrev first_or : {X : Type 0} → X → List X → X
first_or d [] = d
first_or d (x ∷ xs) = x

abbrev tail_of : {X : Type 0} → List X → List X
tail_of [] = []
tail_of (x ∷ xs) = xs

row_of : {X : Type 0} (form : List ℕ → Option X) (number : ℕ) (lines : List (List ℕ)) (xs : List X)
    (rest : List (List ℕ))
    → Say form lines xs → 0 < length rest → Others form rest → Row form number (lines ++ rest) xs rest
row_of form number [] [] rest say some other = no_row form number rest other
row_of form number [] (x ∷ xs) rest say some other = cc
row_of form number (line ∷ lines) [] rest say some other = cc
row_of form number (line ∷ lines) (x ∷ xs) rest say some other =
    longer_row form number line (lines ++ rest) x xs rest (listed_after lines rest some) (ap (first_or None) say)
    (row_of form (number + 1) lines xs rest (ap tail_of say) some other)

-- a line of a form, or none, up to a line of another
record Maybe {X : Type 0} (form : List ℕ → Option X) (number : ℕ) (ps : List (List ℕ)) (x : Option X) (rest : List (List ℕ)) : Type 0 where
  next : ℕ
  reads : optional form (place number ps) ≡ (x, place next rest)

maybe_of : {X : Type 0} (form : List ℕ → Option X) (number : ℕ) (lines : List (List ℕ)) (x : Option X)
    (line next : List ℕ) (rest : List (List ℕ))
    → Say form lines (option_to_list x) → form line ≡ None
    → Maybe form number (lines ++ line ∷ next ∷ rest) x (line ∷ next ∷ rest)
unfolding optional
maybe_of form number [] None line next rest say other = record { next = number; reads = rw other refl }
maybe_of form number [] (Some x) line next rest say other = cc
maybe_of form number (l ∷ lines) None line next rest say other = cc
maybe_of form number (l ∷ []) (Some x) line next rest say other =
    let says : form l ≡ Some x = ap (first_or None) say in
    record { next = number + 1; reads = rw says refl }
maybe_of form number (l ∷ m ∷ lines) (Some x) line next rest say other = cc

-- ---- forms differ by their first words

after_other : (word other : List ℕ) (ws rest : Words) → bytes_eq word other ≡ false → after word ws ≡ Some rest
    → after other ws ≡ None
after_other word other [] rest apart h = cc
after_other word other (first ∷ ws) rest apart h =
    elim (cases_Bool (bytes_eq first word)) [
      | inl is ↦
          let same : first ≡ word = (bytes_decides first word).0 is in
          rw (same, apart) refl
      | inr isnt ↦ let none : None ≡ Some rest = rw isnt at h in absurd (none-some rest none)
    ]

record Starts (word line : List ℕ) : Type 0 where
  rest : Words
  begins : after word (words line) ≡ Some rest

starts_by : {X : Type 0} (word line : List ℕ) (said : Option Words) (more : Words → Option X) (x : X)
    → after word (words line) ≡ said → steps.◌>>=◌ said more ≡ Some x → Starts word line
starts_by word line None more x e h = absurd (none-some x h)
starts_by word line (Some rest) more x e h = record { rest = rest; begins = e }

accept_starts : (line : List ℕ) (x : AcceptedSignatureValue) → accept_line line ≡ Some x → Starts (codes "accept") line
accept_starts line x h = starts_by (codes "accept") line (after (codes "accept") (words line)) _ x refl h

query_starts : (line : List ℕ) (x : Question) → query_line line ≡ Some x → Starts (codes "query") line
query_starts line x h = starts_by (codes "query") line (after (codes "query") (words line)) _ x refl h

algorithms_start : (line : List ℕ) (x : List ℕ) → algorithms_line line ≡ Some x → Starts (codes "algorithms") line
algorithms_start line x h = starts_by (codes "algorithms") line (after (codes "algorithms") (words line)) _ x refl h

algorithms_no_depth : (line : List ℕ) → Starts (codes "algorithms") line → depth_line line ≡ None
algorithms_no_depth line s =
    rw (after_other (codes "algorithms") (codes "depth") (words line) s.rest refl s.begins) refl

accept_no_anchor : (line : List ℕ) → Starts (codes "accept") line → anchor_line line ≡ None
accept_no_anchor line s = rw (after_other (codes "accept") (codes "anchor") (words line) s.rest refl s.begins) refl

query_no_anchor : (line : List ℕ) → Starts (codes "query") line → anchor_line line ≡ None
query_no_anchor line s = rw (after_other (codes "query") (codes "anchor") (words line) s.rest refl s.begins) refl

query_no_accept : (line : List ℕ) → Starts (codes "query") line → accept_line line ≡ None
query_no_accept line s = rw (after_other (codes "query") (codes "accept") (words line) s.rest refl s.begins) refl

end_no_upstream : upstream_line (codes "end") ≡ None
end_no_upstream = refl

-- ---- the whole text

ends_gives : (s : SessionValue) (number : ℕ) → ends s (place number (codes "end" ∷ [] ∷ [])) ≡ Ok s
unfolding one
ends_gives s number = refl

asks_gives : (made : Question → List ReplyValue → SessionValue) (number : ℕ)
    (query : List ℕ) (question : Question) (lines : List (List ℕ)) (replies : List ReplyValue)
    → query_line query ≡ Some question → Say upstream_line lines replies
    → asks made (place number (query ∷ (lines ++ codes "end" ∷ [] ∷ []))) ≡ Ok (made question replies)
asks_gives made number query question lines replies asked say =
    let row =
    row_of upstream_line (number + 1) lines replies (codes "end" ∷ [] ∷ []) say (omega arith) end_no_upstream in
    let first =
    one_listed query_line number query (lines ++ codes "end" ∷ [] ∷ []) question
    (listed_after lines _ (omega arith)) asked in
    rw (first, row.reads) (ends_gives (made question replies) row.next)

-- what stands after the accept lines isn't one of them
accepts_others : (query : List ℕ) (question : Question) (ps : List (List ℕ)) → query_line query ≡ Some question
    → Others accept_line (query ∷ ps)
accepts_others query question [] asked = tt
accepts_others query question (p ∷ ps) asked = query_no_accept query (query_starts query question asked)

query_others : (query : List ℕ) (question : Question) (ps : List (List ℕ)) → query_line query ≡ Some question
    → Others anchor_line (query ∷ ps)
query_others query question [] asked = tt
query_others query question (p ∷ ps) asked = query_no_anchor query (query_starts query question asked)

accept_others : (line : List ℕ) (x : AcceptedSignatureValue) (ps : List (List ℕ)) → accept_line line ≡ Some x
    → Others anchor_line (line ∷ ps)
accept_others line x [] h = tt
accept_others line x (p ∷ ps) h = accept_no_anchor line (accept_starts line x h)

anchors_others : (lines : List (List ℕ)) (accepts : List AcceptedSignatureValue) (query : List ℕ) (question : Question)
    (ps : List (List ℕ))
    → Say accept_line lines accepts → query_line query ≡ Some question → Others anchor_line (lines ++ query ∷ ps)
anchors_others [] accepts query question ps say asked = query_others query question ps asked
anchors_others (line ∷ lines) [] query question ps say asked = cc
anchors_others (line ∷ lines) (x ∷ accepts) query question ps say asked =
    accept_others line x (lines ++ query ∷ ps) (ap (first_or None) say)

trusts_gives : (made : List AnchorValue → List AcceptedSignatureValue → Question → List ReplyValue → SessionValue)
    (number : ℕ)
    (s : SessionValue) (anchors accepts : List (List ℕ)) (query : List ℕ) (replies : List (List ℕ))
    → Say anchor_line anchors s.anchors → Say accept_line accepts s.accepts → query_line query ≡ Some s.query
    → Say upstream_line replies s.replies
    → trusts made (place number (anchors ++ (accepts ++ query ∷ (replies ++ codes "end" ∷ [] ∷ []))))
    ≡ Ok (made s.anchors s.accepts s.query s.replies)
trusts_gives made number s anchors accepts query replies keys takes asked tells =
    let body : List (List ℕ) = query ∷ (replies ++ codes "end" ∷ [] ∷ []) in
    let one =
    row_of anchor_line number anchors s.anchors (accepts ++ body) keys (listed_after accepts body (omega arith))
    (anchors_others accepts s.accepts query s.query (replies ++ codes "end" ∷ [] ∷ []) takes asked) in
    let two =
    row_of accept_line one.next accepts s.accepts body takes (omega arith)
    (accepts_others query s.query (replies ++ codes "end" ∷ [] ∷ []) asked) in
    rw (one.reads, two.reads)
    (asks_gives (made s.anchors s.accepts) two.next query s.query replies s.replies asked tells)

begins_gives : (s : SessionValue) (head moment : List ℕ) (depth : List (List ℕ)) (algorithms : List ℕ)
    (ps : List (List ℕ))
    → header_line head ≡ Some s.by_turn → moment_line moment ≡ Some s.moment
    → Say depth_line depth (option_to_list s.depth)
    → algorithms_line algorithms ≡ Some s.algorithms → 0 < length ps
    → ((number : ℕ) → trusts (session s.by_turn s.moment s.depth s.algorithms) (place number ps) ≡ Ok s)
    → begins (place 1 (head ∷ moment ∷ (depth ++ algorithms ∷ ps))) ≡ Ok s
begins_gives s head moment depth algorithms [] headed dated deep listed some more = absurd (omega arith)
begins_gives s head moment depth algorithms (next ∷ ps) headed dated deep listed some more =
    let first = one_line header_line 1 head moment (depth ++ algorithms ∷ next ∷ ps) s.by_turn headed in
    let second =
    one_listed moment_line (1 + 1) moment (depth ++ algorithms ∷ next ∷ ps) s.moment
    (listed_after depth _ (omega arith)) dated in
    let third = maybe_of depth_line (1 + 1 + 1) depth s.depth algorithms next ps deep
    (algorithms_no_depth algorithms (algorithms_start algorithms s.algorithms listed)) in
    let fourth = one_line algorithms_line third.next algorithms next ps s.algorithms listed in
    rw (first, second, third.reads, fourth) (more (third.next + 1))

-- what is spelled so is read
pub session_read : (text : List ℕ) (s : SessionValue) → Spelled text s → session_of text ≡ Ok s
session_read text s sp =
    let end : List (List ℕ) = codes "end" ∷ [] ∷ [] in
    let body : List (List ℕ) = sp.query ∷ (sp.replies ++ codes "end" ∷ []) in
    let inner : List (List ℕ) = sp.anchors ++ (sp.accepts ++ body) in
    let rest : List (List ℕ) = sp.anchors ++ (sp.accepts ++ sp.query ∷ (sp.replies ++ end)) in
    let all : List (List ℕ) =
    session_lines sp.head sp.moment sp.depth sp.algorithms sp.anchors sp.accepts sp.query sp.replies in
    let tail : inner ++ [] ∷ [] ≡ rest =
    append_assoc sp.anchors (sp.accepts ++ body) ([] ∷ [])
    ∙ ap (λ ps. sp.anchors ++ ps) (append_assoc sp.accepts body ([] ∷ [])
    ∙ ap (λ ps. sp.accepts ++ sp.query ∷ ps) (append_assoc sp.replies (codes "end" ∷ []) ([] ∷ []))) in
    let deep : (sp.depth ++ sp.algorithms ∷ inner) ++ [] ∷ [] ≡ sp.depth ++ sp.algorithms ∷ rest =
    append_assoc sp.depth (sp.algorithms ∷ inner) ([] ∷ []) ∙ ap (λ ps. sp.depth ++ sp.algorithms ∷ ps) tail in
    let cut : pieces 10 text ≡ sp.head ∷ sp.moment ∷ (sp.depth ++ sp.algorithms ∷ rest) =
    ap (pieces 10) sp.spelled ∙ pieces_lines all sp.unbroken ∙ ap (λ ps. sp.head ∷ sp.moment ∷ ps) deep in
    session_begins (start_of text) ∙ ap (λ ps. begins (place 1 ps)) cut
    ∙ begins_gives s sp.head sp.moment sp.depth sp.algorithms rest sp.head_says sp.moment_says sp.depth_says sp.algorithms_say
    (listed_after sp.anchors _ (listed_after sp.accepts _ (omega arith)))
    (λ number. trusts_gives (session s.by_turn s.moment s.depth s.algorithms) number s sp.anchors sp.accepts sp.query
    sp.replies sp.anchors_say sp.accepts_say sp.query_says sp.replies_say)

-- a text is read as a session exactly where it is spelled so
pub session_exactly : (text : List ℕ) (s : SessionValue) → (session_of text ≡ Ok s) ↔ Spelled text s
session_exactly text s = (session_spelled text s, session_read text s)
