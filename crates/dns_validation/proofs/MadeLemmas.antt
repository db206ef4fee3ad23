-- What was given out to be kept: each names a step that has ended, and what that found of one of its sets.
use Rattle.std.proofs.Common.{◌≡◌, ◌⊎◌, ◌&&◌, Bool, true, false, List, [], ◌∷◌, ◌++◌, map, length, reverse, Some, slice_get, nat_eq, if◌then◌else◌, refl, sym, ap, subst, ◌∙◌, inl, inr}
use Rattle.std.specs.Option.{option_eq, option_map_or}
use Rattle.std.specs.List.{AllByRecursion, list_any}
use Rattle.std.proofs.lemmas.Bool.{and_parts, and_from}
use lib.Pointwise.{pointwise}
use Rattle.dns_model.specs.declared.trail.AskRef.{AskRef}
use Rattle.dns_model.specs.declared.trail.MarkOrigin.{MarkOrigin}
use Rattle.dns_model.specs.declared.trail.MarkOrigin.TheVariants.{Repeat, Cache}
use Rattle.dns_model.specs.Records.{Rr, Question, question_eq}
use Rattle.dns_model.specs.SoundAnswers.{PlacedSet, told_by}
use Rattle.dns_model.specs.Trails.{AskedValue}
use Rattle.dns_model.proofs.EachLemmas.{each_append, each_more, each_map}
use Rattle.dns_model.proofs.Lists.{slice_get_appended}
use Rattle.dns_rules.specs.Asking.{judged_part}
use Rattle.dns_rules.specs.CacheEntries.{EntryValue, mark_of, sig_of}
use Rattle.dns_rules.specs.CacheKeys.{bytes_of, key_of, key_eq, query_eq, record_eq, same_bytes}
use Rattle.dns_rules.specs.ChainedSets.{ChainedSet, bare}
use Rattle.dns_rules.specs.Derivation.{StepContext, proof_eq, has_mark_of, is_by_origin, is_repeat, is_repeat_of, judged_sets, with_entries}
use Rattle.dns_rules.specs.MarkedSets.{MarkedSet}
use Rattle.dns_rules.specs.Outcome.{Outcome}
use Rattle.dns_rules.proofs.ExtendLemmas.{has_mark_from, place_same, proof_same}
use Rattle.dns_rules.proofs.StayLemmas.{slice_get-stays}
use Rattle.dns_cache.specs.KeyLaws.{key_eq-Decides, key_equiv}
use Rattle.dns_flow.proofs.Founds.{found_mark, found_sig}
use Rattle.dns_validation.specs.Machine.{Terms, SoFar, MadeValue, entries_left, made_by, origin_of, served_entry, served_set, step_of}
use Rattle.dns_validation.specs.Runs.{IsIn}
use Rattle.dns_validation.proofs.FoundLemmas.{IsLeftOf, any_in, each_reverse, left_each, map_in}

-- ---- the form

-- a step that has ended found it
pub record IsMade (closed : List AskedValue) (m : MadeValue) : Type 0 where
  pub step : AskedValue
  pub found : slice_get closed m.number ≡ Some step
  pub judged : MarkedSet
  pub among : IsIn judged (judged_sets step)
  pub key : m.key ≡ key_of step.query judged.set
  pub mark : m.mark ≡ judged.mark
  pub sig : m.sig ≡ judged.sig

abbrev pub AreMade : List AskedValue → List MadeValue → Type 0
AreMade closed made = AllByRecursion (IsMade closed) made

made_stays : (closed more : List AskedValue) (m : MadeValue) → IsMade closed m → IsMade (closed ++ more) m
made_stays closed more m h = record {
  step = h.step;
  found = slice_get-stays closed more m.number h.step h.found;
  judged = h.judged;
  among = h.among;
  key = h.key;
  mark = h.mark;
  sig = h.sig;
}

-- further steps
pub made_stay : (closed more : List AskedValue) (made : List MadeValue) → AreMade closed made
    → AreMade (closed ++ more) made
made_stay closed more made each = each_more (IsMade closed) (IsMade (closed ++ more)) (made_stays closed more) made each

-- ---- a step ends

made_new : (t : Terms) (closed : List AskedValue) (s : SoFar) (asked : List AskRef) (o : Outcome) (e : EntryValue)
    → bare s.sets ≡ with_entries (judged_part s.depth (told_by s.message)) s.entries → IsLeftOf t s.query s.sets s.causes e
    → IsMade (closed ++ step_of s asked o ∷ []) (made_by (length closed) e)
made_new t closed s asked o e same h = record {
  step = step_of s asked o;
  found = slice_get_appended closed (step_of s asked o) [];
  judged = h.set.judged;
  among = subst (IsIn h.set.judged) same (map_in (λ (c : ChainedSet). c.judged) h.set s.sets h.among);
  key = ap (λ (x : EntryValue). x.key) h.is;
  mark = ap (λ (x : EntryValue). mark_of x.found) h.is ∙ found_mark t.now h.set.judged h.cause;
  sig = ap (λ (x : EntryValue). sig_of x.found) h.is ∙ found_sig t.now h.set.judged h.cause;
}

pub made_more : (t : Terms) (closed : List AskedValue) (s : SoFar) (asked : List AskRef) (o : Outcome)
    (made : List MadeValue)
    → bare s.sets ≡ with_entries (judged_part s.depth (told_by s.message)) s.entries → AreMade closed made
    → AreMade (closed ++ step_of s asked o ∷ []) (reverse (map (made_by (length closed)) (entries_left t s)) ++ made)
made_more t closed s asked o made same each =
    let grown = closed ++ step_of s asked o ∷ [] in
    let es = entries_left t s in
    let new = map (made_by (length closed)) es in
    each_append (IsMade grown) (reverse new) made
    (each_reverse (IsMade grown) new
    (each_map (IsMade grown) (made_by (length closed)) es
    (each_more (IsLeftOf t s.query s.sets s.causes) (λ e. IsMade grown (made_by (length closed) e))
    (λ e. made_new t closed s asked o e same) es
    (left_each t s.query s.sets s.causes))))
    (made_stay closed (step_of s asked o ∷ []) made each)

-- ---- the origin of an entry that serves

-- a step of this validation found the same of its key
pub record IsFoundBefore (made : List MadeValue) (e : EntryValue) (origin : MarkOrigin) : Type 0 where
  pub it : MadeValue
  pub among : IsIn it made
  pub key : it.key ≡ e.key
  pub mark : it.mark ≡ mark_of e.found
  pub sig : it.sig ≡ sig_of e.found
  pub is : origin ≡ Repeat it.number

abbrev pub IsOrigin : List MadeValue → EntryValue → MarkOrigin → Type 0
IsOrigin made e origin = (origin ≡ Cache) ⊎ IsFoundBefore made e origin

before_later : (m : MadeValue) (made : List MadeValue) (e : EntryValue) (origin : MarkOrigin) → IsOrigin made e origin
    → IsOrigin (m ∷ made) e origin
before_later m made e origin (inl is) = inl is
before_later m made e origin (inr h) =
    inr (record { it = h.it; among = inr h.among; key = h.key; mark = h.mark; sig = h.sig; is = h.is })

origin_by : (m : MadeValue) (made : List MadeValue) (e : EntryValue) (b c : Bool) (rest : MarkOrigin)
    → key_eq m.key e.key ≡ b
    → (proof_eq m.mark (mark_of e.found) && option_eq nat_eq m.sig (sig_of e.found)) ≡ c → IsOrigin made e rest
    → IsOrigin (m ∷ made) e (if b then (if c then Repeat m.number else Cache) else rest)
origin_by m made e true true rest key same h =
    let parts = and_parts (proof_eq m.mark (mark_of e.found)) (option_eq nat_eq m.sig (sig_of e.found)) same in
    inr (record {
      it = m;
      among = inl refl;
      key = (key_eq-Decides m.key e.key).0 key;
      mark = proof_same m.mark (mark_of e.found) parts.0;
      sig = place_same m.sig (sig_of e.found) parts.1;
      is = refl;
    })
origin_by m made e true false rest key same h = inl refl
origin_by m made e false c rest key same h = before_later m made e rest h

pub origin_is : (made : List MadeValue) (e : EntryValue) → IsOrigin made e (origin_of made e)
unfolding origin_of
origin_is [] e = inl refl
origin_is (m ∷ made) e =
    origin_by m made e (key_eq m.key e.key)
    (proof_eq m.mark (mark_of e.found) && option_eq nat_eq m.sig (sig_of e.found)) (origin_of made e) refl refl
    (origin_is made e)

-- ---- what the same key says

bytes_alike : (xs ys : List Rr) → pointwise same_bytes xs ys ≡ pointwise record_eq (map bytes_of xs) (map bytes_of ys)
bytes_alike [] [] = refl
bytes_alike [] (y ∷ ys) = refl
bytes_alike (x ∷ xs) [] = refl
bytes_alike (x ∷ xs) (y ∷ ys) = ap (λ b. same_bytes x y && b) (bytes_alike xs ys)

-- one key is that of one question and one set
record IsSameSet (q : Question) (placed : PlacedSet) (asked : Question) (judged : MarkedSet) : Type 0 where
  query : question_eq q asked ≡ true
  records : pointwise same_bytes placed.set.records judged.set.records ≡ true
  signatures : pointwise same_bytes placed.set.signatures judged.set.signatures ≡ true

same_set : (q : Question) (placed : PlacedSet) (asked : Question) (judged : MarkedSet)
    → key_of q placed.set ≡ key_of asked judged.set
    → IsSameSet q placed asked judged
same_set q placed asked judged is =
    let k = key_of q placed.set in
    let l = key_of asked judged.set in
    let all : key_eq k l ≡ true = subst (λ x. key_eq k x ≡ true) is (key_equiv.refl k) in
    let lists = pointwise record_eq k.records l.records && pointwise record_eq k.signatures l.signatures in
    let parts = and_parts (query_eq k.query l.query) lists all in
    let two =
    and_parts (pointwise record_eq k.records l.records) (pointwise record_eq k.signatures l.signatures) parts.1 in
    record {
      query = parts.0;
      records = bytes_alike placed.set.records judged.set.records ∙ two.0;
      signatures = bytes_alike placed.set.signatures judged.set.signatures ∙ two.1;
    }

-- what this validation found serves as a repeat
pub by_repeat : (g : StepContext) (placed : PlacedSet) (e : EntryValue) (m : MadeValue) → IsMade g.earlier m
    → m.key ≡ e.key → m.mark ≡ mark_of e.found
    → m.sig ≡ sig_of e.found → key_eq (key_of g.query placed.set) e.key ≡ true
    → is_by_origin g placed (served_entry (Repeat m.number) (served_set placed e)) (Repeat m.number) ≡ true
by_repeat g placed e m h key mark sig fits =
    let entry = served_entry (Repeat m.number) (served_set placed e) in
    let is : key_of g.query placed.set ≡ key_of h.step.query h.judged.set =
    (key_eq-Decides (key_of g.query placed.set) e.key).0 fits ∙ sym key ∙ h.key in
    let same = same_set g.query placed h.step.query h.judged is in
    let records = pointwise same_bytes placed.set.records h.judged.set.records in
    let signatures = pointwise same_bytes placed.set.signatures h.judged.set.signatures in
    let has = has_mark_of h.judged entry in
    let one : is_repeat placed entry h.judged ≡ true =
    and_from records (signatures && has) same.records
    (and_from signatures has same.signatures (has_mark_from h.judged entry (sym h.mark ∙ mark) (sym h.sig ∙ sig))) in
    ap (λ o. option_map_or (is_repeat_of g.query placed entry) o false) h.found
    ∙ and_from (question_eq g.query h.step.query) (list_any (is_repeat placed entry) (judged_sets h.step)) same.query
    (any_in (is_repeat placed entry) h.judged (judged_sets h.step) h.among one)
