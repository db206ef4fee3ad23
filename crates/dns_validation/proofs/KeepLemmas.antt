-- What a step leaves to be kept, one set after another.
use Rattle.std.proofs.Common.{ℕ, ◌≡◌, true, List, [], ◌∷◌, ◌++◌, length, map, reverse, Option, None, Some, Result, Ok, Err, append_assoc, append-nil, refl, sym, ap, ◌∙◌}
use Rattle.std.specs.List.{cons_option, filter_map, zip}
use Rattle.std.specs.Prelude.{OnOk}
use Rattle.std.proofs.lemmas.List.{reverse-append}
use Rattle.dns_model.specs.Records.{Question}
use Rattle.dns_model.specs.SoundAnswers.{ChainValue}
use Rattle.dns_rules.specs.CacheEntries.{EntryValue, Found, is_backed}
use Rattle.dns_rules.specs.ChainedSets.{ChainedSet}
use Rattle.dns_rules.specs.ProofErrors.{ProofErrorKindValue}
use Rattle.dns_flow.specs.Causes.{found_of}
use Rattle.dns_flow.proofs.Founds.{found_backed}
use Rattle.dns_validation.specs.Machine.{Terms, MadeValue, SoFar, StateValue, chain_of, entry_if, giving, keeping, leaving, made_by}

gives_first : (number : ℕ) (o : Option EntryValue) (es : List EntryValue) (state : StateValue)
    → (let s : StateValue = record state {
      made = reverse (map (made_by number) (cons_option o es)) ++ state.made;
      kept = state.kept ++ cons_option o es;
    } in
    let u : StateValue = record (giving number o state) {
      made = reverse (map (made_by number) es) ++ (giving number o state).made;
      kept = (giving number o state).kept ++ es;
    } in s ≡ u)
gives_first number None es state = refl
gives_first number (Some e) es state =
    let m = made_by number e in
    let ms = map (made_by number) es in
    let made : reverse (m ∷ ms) ++ state.made ≡ reverse ms ++ m ∷ state.made =
    ap (λ xs. xs ++ state.made) (reverse-append (m ∷ []) ms) ∙ append_assoc (reverse ms) (m ∷ []) state.made in
    ap (λ (xs : List MadeValue). let s : StateValue = record state { made = xs; kept = state.kept ++ e ∷ es } in s) made
    ∙ ap (λ (xs : List EntryValue). let s : StateValue =
    record state { made = reverse ms ++ m ∷ state.made; kept = xs } in s)
    (sym (append_assoc state.kept (e ∷ []) es))

nothing_left : (state : StateValue) → (let s : StateValue = record state { kept = state.kept ++ [] } in s ≡ state)
nothing_left state =
    ap (λ (xs : List EntryValue). let s : StateValue = record state { kept = xs } in s) (append-nil state.kept)

-- one set after another leaves what all of them do
pub leaving_is : (t : Terms) (number : ℕ) (q : Question) (sets : List ChainedSet)
    (causes : List (Option ProofErrorKindValue)) (state : StateValue)
    → (let s : StateValue = record state {
      made = reverse (map (made_by number) (filter_map (entry_if t q) (zip sets causes))) ++ state.made;
      kept = state.kept ++ filter_map (entry_if t q) (zip sets causes);
    } in leaving t number q sets causes state ≡ s)
leaving_is t number q [] causes state = sym (nothing_left state)
leaving_is t number q (c ∷ sets) [] state = sym (nothing_left state)
leaving_is t number q (c ∷ sets) (cause ∷ causes) state =
    leaving_is t number q sets causes (giving number (entry_if t q (c, cause)) state)
    ∙ sym (gives_first number (entry_if t q (c, cause)) (filter_map (entry_if t q) (zip sets causes)) state)

module _ (t : Terms) (s : SoFar) (old : StateValue) where
  -- so a step leaves what its sets do, whose parts are known by these names
  pub on_kept : {X E : Type 0} (new : StateValue) (number : ℕ)
      (result : Result X E) {q : Question} {sets : List ChainedSet}
      {causes : List (Option ProofErrorKindValue)} → number ≡ length old.closed → q ≡ s.query → sets ≡ s.sets
      → causes ≡ s.causes → OnOk result (new ≡ leaving t number q sets causes old)
      → OnOk result (new ≡ keeping t (length old.closed) s old)
  on_kept new number (Ok x) {q} {sets} {causes} count query bare why is =
      is ∙ ap (λ y. leaving t number y sets causes old) query
      ∙ ap (λ y. leaving t number s.query y causes old) bare
      ∙ ap (λ y. leaving t number s.query s.sets y old) why ∙ leaving_is t number s.query s.sets s.causes old
      ∙ ap (λ n. keeping t n s old) count
  on_kept new number (Err e) count query bare why is = is

-- what is kept of a set has a chain where it says Secure
pub entry_backed : (now : ℕ) (c : ChainedSet) (cause : ProofErrorKindValue) (found : Found) (chain : Option ChainValue)
    → found ≡ found_of now c.judged cause
    → chain ≡ chain_of c → is_backed found chain ≡ true
entry_backed now c cause found chain is by =
    ap (λ f. is_backed f chain) is ∙ ap (is_backed (found_of now c.judged cause)) by
    ∙ found_backed now c.judged cause (record { section = c.judged.section; links = c.chain })
