-- Reading words of one kind, word by word.
use Rattle.std.proofs.Common.{◌≡◌, ℕ, ◌+◌, List, [], ◌∷◌, ◌++◌, length, Option, None, Some, refl, sym, ap, ◌∙◌, arith, ◌<◌, append_assoc, append-nil, Bor}
use Rattle.std.specs.Option.{option_map}
use Rattle.std.proofs.lemmas.Option.{same_Some}
use Rattle.dns_model.specs.OptionSteps.{◌>>=◌}
use Rattle.dns_session.specs.Lines.{Words, words, words_left}
use Rattle.dns_audit.specs.LineParts.{each_in}
use Rattle.dns_audit.specs.ReportWords.{u32_in, rdata_in}
use Rattle.dns_audit.specs.ReportLines.{numbered_key, numbered_in}

-- what was read stands before what follows
abbrev pub with_items : {X : Type 0} → List X → Option (List X) → Option (List X)
with_items front more = option_map (λ others. front ++ others) more

-- how many bytes are left, with one for the words themselves
abbrev pub bytes_left : Option (Bor (List ℕ)) → ℕ
bytes_left None = 0
bytes_left (Some rest) = length rest.now + 1

with_one : {X : Type 0} (front : List X) (x : X) (more : Option (List X))
    → with_items (front ++ x ∷ []) more ≡ with_items front (more >>= λ others. Some (x ∷ others))
with_one front x None = refl
with_one front x (Some others) = ap Some (append_assoc front (x ∷ []) others)

pub next_item : {X : Type 0} (kind : List ℕ → Option X) (front : List X) (text word : List ℕ) (more : Option (List ℕ))
    (all : Option (List X)) (x : X)
    → with_items front (each_in kind (words text)) ≡ all → words text ≡ word ∷ words_left more
    → Some x ≡ kind word → with_items (front ++ x ∷ []) (each_in kind (words_left more)) ≡ all
unfolding each_in
next_item kind front text word more all x so_far cut h =
    with_one front x (each_in kind (words_left more)) ∙ rw (cut, ← h) at so_far

pub no_item : {X : Type 0} (kind : List ℕ → Option X) (front : List X) (text word : List ℕ) (more : Option (List ℕ))
    (all : Option (List X))
    → with_items front (each_in kind (words text)) ≡ all → words text ≡ word ∷ words_left more
    → None ≡ kind word → None ≡ all
unfolding each_in
no_item kind front text word more all so_far cut h = rw (cut, ← h) at so_far

pub all_items : {X : Type 0} (kind : List ℕ → Option X) (front : List X) (all : Option (List X))
    → with_items front (each_in kind []) ≡ all → Some front ≡ all
unfolding each_in
all_items kind front all so_far = rw append-nil at so_far

-- ---- numbered keys

abbrev pub with_both : List ℕ → List (List ℕ) → Option (List ℕ × List (List ℕ)) → Option (List ℕ × List (List ℕ))
with_both links keys more = option_map (λ others. (links ++ others.0, keys ++ others.1)) more

both_one : (links : List ℕ) (keys : List (List ℕ)) (n : ℕ) (k : List ℕ) (more : Option (List ℕ × List (List ℕ)))
    → with_both (links ++ n ∷ []) (keys ++ k ∷ []) more
    ≡ with_both links keys (more >>= λ others. Some (n ∷ others.0, k ∷ others.1))
both_one links keys n k None = refl
both_one links keys n k (Some others) = rw
    (append_assoc links (n ∷ []) others.0, append_assoc keys (k ∷ []) others.1) refl

key_none : (said : Option ℕ) (n : ℕ) (k : List ℕ) (after : Words)
    → ◌≡◌ {A = Option (ℕ × List ℕ × Words)} (Some (n, k, after)) (said >>= λ link. None) → ⊥
key_none None n k after h = cc
key_none (Some link) n k after h = cc

key_rest : (said : Option ℕ) (key : Option (List ℕ)) (ws : Words) (n : ℕ) (k : List ℕ) (after : Words)
    → ◌≡◌ {A = Option (ℕ × List ℕ × Words)} (Some (n, k, after))
    (said >>= λ link. key >>= λ found. Some (link, found, ws))
    → ws ≡ after
key_rest None key ws n k after h = cc
key_rest (Some link) None ws n k after h = cc
key_rest (Some link) (Some found) ws n k after h =
    sym (ap (λ (x : ℕ × List ℕ × Words). x.2) (same_Some (n, k, after) (link, found, ws) h))

-- a number and its key were read
pub numbered_step : (number : List ℕ) (ws : Words) (n : ℕ) (k : List ℕ) (after : Words)
    → ◌≡◌ {A = Option (ℕ × List ℕ × Words)} (Some (n, k, after)) (numbered_key number ws)
    → numbered_in (number ∷ ws) ≡ (numbered_in after >>= λ others. Some (n ∷ others.0, k ∷ others.1))
unfolding numbered_in numbered_key
numbered_step number [] n k after h = absurd (key_none (u32_in number) n k after h)
numbered_step number (word ∷ ws) n k after h =
    let rest : ws ≡ after = key_rest (u32_in number) (rdata_in word) ws n k after h in
    rw (← h, rest) refl

-- a number alone has no key
pub numbered_stop : (number : List ℕ) (ws : Words) → None ≡ numbered_key number ws → None ≡ numbered_in (number ∷ ws)
unfolding numbered_in
numbered_stop number [] h = refl
numbered_stop number (word ∷ ws) h = rw (← h) refl

pub next_numbered : (links : List ℕ) (keys : List (List ℕ)) (text number : List ℕ) (more : Option (List ℕ))
    (after : Words)
    (all : Option (List ℕ × List (List ℕ))) (n : ℕ) (k : List ℕ)
    → with_both links keys (numbered_in (words text)) ≡ all → words text ≡ number ∷ words_left more
    → ◌≡◌ {A = Option (ℕ × List ℕ × Words)} (Some (n, k, after)) (numbered_key number (words_left more))
    → with_both (links ++ n ∷ []) (keys ++ k ∷ []) (numbered_in after) ≡ all
next_numbered links keys text number more after all n k so_far cut h =
    both_one links keys n k (numbered_in after)
    ∙ ap (with_both links keys) (sym (ap numbered_in cut ∙ numbered_step number (words_left more) n k after h)) ∙ so_far

pub no_numbered : (links : List ℕ) (keys : List (List ℕ)) (text number : List ℕ) (more : Option (List ℕ))
    (all : Option (List ℕ × List (List ℕ)))
    → with_both links keys (numbered_in (words text)) ≡ all → words text ≡ number ∷ words_left more
    → None ≡ numbered_key number (words_left more) → None ≡ all
no_numbered links keys text number more all so_far cut h =
    ap (with_both links keys) (numbered_stop number (words_left more) h ∙ sym (ap numbered_in cut)) ∙ so_far

pub all_numbered : (links : List ℕ) (keys : List (List ℕ)) (all : Option (List ℕ × List (List ℕ)))
    → with_both links keys (numbered_in []) ≡ all → Some (links, keys) ≡ all
unfolding numbered_in
all_numbered links keys all so_far = rw (append-nil, append-nil) at so_far

fewer_words : (number : List ℕ) (ws : Words) (n : ℕ) (k : List ℕ) (after : Words)
    → ◌≡◌ {A = Option (ℕ × List ℕ × Words)} (Some (n, k, after)) (numbered_key number ws)
    → length after < length (number ∷ ws)
unfolding numbered_key
fewer_words number [] n k after h = absurd (key_none (u32_in number) n k after h)
fewer_words number (word ∷ ws) n k after h =
    let rest : ws ≡ after = key_rest (u32_in number) (rdata_in word) ws n k after h in
    rw (← rest) (omega arith)

-- a number and its key leave fewer words
pub numbered_shorter : (text number : List ℕ) (more : Option (List ℕ)) (after : Words) (n : ℕ) (k : List ℕ)
    → words text ≡ number ∷ words_left more
    → ◌≡◌ {A = Option (ℕ × List ℕ × Words)} (Some (n, k, after)) (numbered_key number (words_left more))
    → length after < length (words text)
numbered_shorter text number more after n k cut h = rw cut (fewer_words number (words_left more) n k after h)
