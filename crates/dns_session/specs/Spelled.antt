-- Sessions as texts: which lines, in which order, say what a session says.
use Rattle.std.specs.Prelude.{ℕ, ◌≡◌, ◌==◌, false, List, [], ◌∷◌, ◌++◌, map, codes, Option, Some}
use Rattle.std.specs.List.{flat_map, list_any}
use Rattle.std.specs.Option.{option_to_list}
use Rattle.dns_session.specs.SessionValue.{SessionValue}
use Rattle.dns_session.specs.Lines.{header_line, moment_line, depth_line, algorithms_line, anchor_line, accept_line, query_line, upstream_line}

-- lines with LF after each
abbrev pub lines_text : List (List ℕ) → List ℕ
lines_text lines = flat_map (λ line. line ++ 10 ∷ []) lines

-- no LF stands within a line
abbrev pub Unbroken : List (List ℕ) → Type 0
Unbroken [] = Unit {0}
Unbroken (line ∷ lines) = (list_any (λ b. b == 10) line ≡ false) × Unbroken lines

-- lines of one form say these values, one each
abbrev pub Say : {X : Type 0} → (List ℕ → Option X) → List (List ℕ) → List X → Type 0
Say form lines xs = map form lines ≡ map Some xs

-- the lines of a session, in their order: one each, but for those that are given as lists
abbrev pub session_lines : List ℕ → List ℕ → List (List ℕ) → List ℕ → List (List ℕ) → List (List ℕ) → List ℕ → List (List ℕ) → List (List ℕ)
session_lines head moment depth algorithms anchors accepts query replies =
    head ∷ moment ∷ (depth ++ algorithms ∷ (anchors ++ (accepts ++ query ∷ (replies ++ codes "end" ∷ []))))

-- the text of a session: each line of its form, in this order, and nothing else
pub record Spelled (text : List ℕ) (s : SessionValue) : Type 0 where
  pub head : List ℕ
  pub moment : List ℕ
  pub depth : List (List ℕ)
  pub algorithms : List ℕ
  pub anchors : List (List ℕ)
  pub accepts : List (List ℕ)
  pub query : List ℕ
  pub replies : List (List ℕ)
  pub spelled : text ≡ lines_text (session_lines head moment depth algorithms anchors accepts query replies)
  pub unbroken : Unbroken (session_lines head moment depth algorithms anchors accepts query replies)
  pub head_says : header_line head ≡ Some s.by_turn
  pub moment_says : moment_line moment ≡ Some s.moment
  pub depth_says : Say depth_line depth (option_to_list s.depth)
  pub algorithms_say : algorithms_line algorithms ≡ Some s.algorithms
  pub anchors_say : Say anchor_line anchors s.anchors
  pub accepts_say : Say accept_line accepts s.accepts
  pub query_says : query_line query ≡ Some s.query
  pub replies_say : Say upstream_line replies s.replies
