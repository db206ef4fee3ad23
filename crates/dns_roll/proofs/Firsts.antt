-- Each key by the rdata that is the first of it, one rdata after another.
use Rattle.std.proofs.Common.{◌≡◌, ℕ, ◌+◌, ◌<◌, ◌≤◌, Bool, true, false, cond, not, ◌||◌, List, [], ◌∷◌, ◌++◌, drop, length, take, refl, sym, ap, ◌∙◌, append_assoc, append-nil}
use Rattle.std.specs.Prelude.{slice_index_or, if◌then◌else◌}
use Rattle.std.specs.Borrow.{Bor}
use Rattle.std.specs.List.{list_any}
use Rattle.std.specs.declared.cmp.Ordering.{Ordering}
use Rattle.std.specs.Ordering.{nat_cmp}
use Rattle.std.specs.Cmp.Lexicographic.{slice_cmp}
use Rattle.std.specs.BTreeSet.{BTreeSet, contains, Updates}
use Rattle.std.proofs.lemmas.List.{drop_all, drop_more, take_more}
use Rattle.std.proofs.lemmas.List.Folds.{list_any-append}
use Rattle.std.proofs.lemmas.Map.Text.{is_eq-slice_cmp}
use Rattle.std.specs.Cmp.Lexicographic.{nat_list_eq_equiv}
use Rattle.dns_model.specs.Keys.{bytes_eq}
use Rattle.dns_model.proofs.TestLemmas.{last_step}
use Rattle.dns_roll.specs.TrustedText.{first_rdatas, is_new_key, is_same_key}

-- by the bytes that references show
abbrev pub by_bytes : Bor (List ℕ) → Bor (List ℕ) → Ordering
by_bytes a b = slice_cmp nat_cmp a.now b.now

-- bytes are those of a key, behind its flags and its protocol
abbrev pub is_behind : List ℕ → List ℕ → Bool
is_behind bytes rdata = bytes_eq (drop 3 rdata) bytes

-- of the first i rdatas each key is kept by its first, and their keys are those that were seen
pub record Kept (rdatas : List (List ℕ)) (i : ℕ) (kept : List (List ℕ)) (seen : BTreeSet (Bor (List ℕ))) : Type 0 where
  pub parts : kept ++ first_rdatas (take i rdatas) (drop i rdatas) ≡ first_rdatas [] rdatas
  pub met : (q : Bor (List ℕ)) → contains by_bytes seen q ≡ list_any (is_behind q.now) (take i rdatas)

pub none_kept : (rdatas kept : List (List ℕ)) (seen : BTreeSet (Bor (List ℕ))) → seen.keys ≡ [] → kept ≡ []
    → Kept rdatas 0 kept seen
none_kept rdatas kept seen empty none = record {
  parts = ap (λ ks. ks ++ first_rdatas [] rdatas) none;
  met = λ q. rw empty refl;
}

-- the rdatas so far, once there is one more
more_rdatas : (rdatas : List (List ℕ)) (i : ℕ) (r : List ℕ) → i < length rdatas → r ≡ slice_index_or rdatas i r
    → take (i + 1) rdatas ≡ take i rdatas ++ r ∷ []
more_rdatas rdatas i r h at = take_more rdatas i r h ∙ ap (λ x. take i rdatas ++ x ∷ []) (sym at)

rdatas_left : (rdatas : List (List ℕ)) (i : ℕ) (r : List ℕ) → i < length rdatas → r ≡ slice_index_or rdatas i r
    → drop i rdatas ≡ r ∷ drop (i + 1) rdatas
rdatas_left rdatas i r h at = drop_more rdatas i r h ∙ ap (λ x. x ∷ drop (i + 1) rdatas) (sym at)

last_any : (p : List ℕ → Bool) (met : List (List ℕ)) (r : List ℕ)
    → list_any p (met ++ r ∷ []) ≡ cond (p r) true (list_any p met)
last_any p met r = list_any-append p met (r ∷ []) ∙ last_step (list_any p met) (p r)

met_more : (rdatas : List (List ℕ)) (i : ℕ) (kept : List (List ℕ)) (seen next : BTreeSet (Bor (List ℕ)))
    (r : List ℕ) (key : Bor (List ℕ))
    → i < length rdatas → r ≡ slice_index_or rdatas i r → key.now ≡ drop 3 r → Kept rdatas i kept seen
    → Updates by_bytes seen next key true
    → (q : Bor (List ℕ)) → contains by_bytes next q ≡ list_any (is_behind q.now) (take (i + 1) rdatas)
met_more rdatas i kept seen next r key h at is so updates q =
    updates.0 q
    ∙ ap (λ b. cond b true (contains by_bytes seen q)) (is_eq-slice_cmp key.now q.now
    ∙ ap (λ bytes. bytes_eq bytes q.now) is)
    ∙ ap (cond (is_behind q.now r) true) (so.met q)
    ∙ sym (ap (list_any (is_behind q.now)) (more_rdatas rdatas i r h at) ∙ last_any (is_behind q.now) (take i rdatas) r)

any_same : (r : List ℕ) (earlier : List (List ℕ))
    → list_any (is_behind (drop 3 r)) earlier ≡ list_any (is_same_key r) earlier
any_same r [] = refl
any_same r (e ∷ es) =
    ap (λ b. b || list_any (is_behind (drop 3 r)) es) (nat_list_eq_equiv.symm (drop 3 e) (drop 3 r))
    ∙ ap (λ b. is_same_key r e || b) (any_same r es)

-- whether a key is new
new_is : (rdatas : List (List ℕ)) (i : ℕ) (kept : List (List ℕ)) (seen : BTreeSet (Bor (List ℕ))) (r : List ℕ)
    (key : Bor (List ℕ)) (added : Bool)
    → key.now ≡ drop 3 r → Kept rdatas i kept seen → added ≡ not (contains by_bytes seen key)
    → added ≡ is_new_key (take i rdatas) r
new_is rdatas i kept seen r key added is so tells =
    tells ∙ ap not (so.met key ∙ ap (λ bytes. list_any (is_behind bytes) (take i rdatas)) is
    ∙ any_same r (take i rdatas))

-- what is left, by whether the next is new
left_is : (rdatas : List (List ℕ)) (i : ℕ) (r : List ℕ) (b : Bool) → i < length rdatas → r ≡ slice_index_or rdatas i r
    → is_new_key (take i rdatas) r ≡ b
    → first_rdatas (take i rdatas) (drop i rdatas)
    ≡ cond b (r ∷ first_rdatas (take (i + 1) rdatas) (drop (i + 1) rdatas)) (first_rdatas (take (i + 1) rdatas)
    (drop (i + 1) rdatas))
unfolding first_rdatas
left_is rdatas i r b h at is =
    ap (first_rdatas (take i rdatas)) (rdatas_left rdatas i r h at)
    ∙ ap (λ e. cond (is_new_key (take i rdatas) r) (r ∷ first_rdatas e (drop (i + 1) rdatas)) (first_rdatas e (drop
    (i + 1) rdatas)))
    (sym (more_rdatas rdatas i r h at))
    ∙ ap (λ c. cond c (r ∷ first_rdatas (take (i + 1) rdatas) (drop (i + 1) rdatas)) (first_rdatas (take
    (i + 1) rdatas) (drop (i + 1) rdatas))) is

-- a new key is kept
pub kept_new : (rdatas : List (List ℕ)) (i : ℕ) (kept more : List (List ℕ)) (seen next : BTreeSet (Bor (List ℕ)))
    (r : List ℕ) (key : Bor (List ℕ))
    (added : Bool)
    → i < length rdatas → r ≡ slice_index_or rdatas i r → key.now ≡ drop 3 r → Kept rdatas i kept seen
    → Updates by_bytes seen next key true
    → added ≡ not (contains by_bytes seen key) → added ≡ true → more ≡ kept ++ r ∷ [] → Kept rdatas (i + 1) more next
kept_new rdatas i kept more seen next r key added h at is so updates tells new grown = record {
  parts = ap (λ ks. ks ++ first_rdatas (take (i + 1) rdatas) (drop (i + 1) rdatas)) grown
      ∙ append_assoc kept (r ∷ []) (first_rdatas (take (i + 1) rdatas) (drop (i + 1) rdatas))
      ∙ ap (λ ks. kept ++ ks) (sym (left_is rdatas i r true h at (sym
      (new_is rdatas i kept seen r key added is so tells) ∙ new)))
      ∙ so.parts;
  met = met_more rdatas i kept seen next r key h at is so updates;
}

-- another one isn't
pub kept_same : (rdatas : List (List ℕ)) (i : ℕ) (kept : List (List ℕ)) (seen next : BTreeSet (Bor (List ℕ)))
    (r : List ℕ) (key : Bor (List ℕ))
    (added : Bool)
    → i < length rdatas → r ≡ slice_index_or rdatas i r → key.now ≡ drop 3 r → Kept rdatas i kept seen
    → Updates by_bytes seen next key true
    → added ≡ not (contains by_bytes seen key) → added ≡ false → Kept rdatas (i + 1) kept next
kept_same rdatas i kept seen next r key added h at is so updates tells old = record {
  parts = ap (λ ks. kept ++ ks) (sym (left_is rdatas i r false h at (sym
      (new_is rdatas i kept seen r key added is so tells) ∙ old))) ∙ so.parts;
  met = met_more rdatas i kept seen next r key h at is so updates;
}

none_left : (earlier : List (List ℕ)) → first_rdatas earlier [] ≡ []
unfolding first_rdatas
none_left earlier = refl

pub kept_all : (rdatas : List (List ℕ)) (i : ℕ) (kept : List (List ℕ)) (seen : BTreeSet (Bor (List ℕ)))
    → length rdatas ≤ i
    → Kept rdatas i kept seen → kept ≡ first_rdatas [] rdatas
kept_all rdatas i kept seen h so =
    sym (append-nil kept)
    ∙ ap (λ ks. kept ++ ks) (sym (ap (first_rdatas (take i rdatas)) (drop_all i rdatas h) ∙ none_left (take i rdatas)))
    ∙ so.parts
