-- What was kept of a set, or that nothing was, keeps where a validation stands.
use Rattle.std.proofs.Common.{ℕ, ◌≡◌, true, List, [], ◌∷◌, ◌++◌, Option, None, Some, append-nil, refl, ap, subst, ◌∙◌}
use Rattle.std.specs.Option.{IfSome}
use Rattle.std.proofs.lemmas.List.Concat.{flat_map-append}
use Rattle.dns_model.specs.declared.trail.MarkOrigin.TheVariants.{Cache}
use Rattle.dns_model.specs.Trails.{AskedValue, JudgedSetValue}
use Rattle.dns_rules.specs.CacheEntries.{EntryValue}
use Rattle.dns_rules.specs.CacheKeys.{key_of, key_eq}
use Rattle.dns_rules.specs.DerivationParts.{asks_of_sets}
use Rattle.dns_handle.specs.Errors.{Reply}
use Rattle.dns_cache.specs.declared.acceptance.Acceptance.{Acceptance}
use Rattle.dns_flow.specs.declared.asks.Ask.{Ask}
use Rattle.dns_validation.specs.Machine.{Terms, OpenValue, SeekingValue, MadeValue, StateValue, found, found_by_entry, origin_of, served_entry, served_set, serving, set_item, with_set}
use Rattle.dns_validation.specs.Runs.{Sent, IsAmong, IsIn}
use Rattle.dns_validation.proofs.CausedSets.{origin_served}
use Rattle.dns_validation.proofs.GotLemmas.{context_at}
use Rattle.dns_validation.proofs.Judgings.{Judging, Next, Sought, asks_so_far, served_next, sought_item}
use Rattle.dns_validation.proofs.MadeLemmas.{AreMade}
use Rattle.dns_validation.proofs.ServedLemmas.{at_served, serves}
use Rattle.dns_validation.proofs.Stands.{OnTop, Open, Above, Stand, Waits, Seeks, Moves, Done, Stands, at_rest, on_top_with, stand_next}

-- the set that waits names no ask
served_asks : (entries : List JudgedSetValue) (entry : JudgedSetValue) → entry.asked ≡ []
    → asks_of_sets (entries ++ entry ∷ []) ≡ asks_of_sets entries
served_asks entries entry none =
    flat_map-append (λ (x : JudgedSetValue). x.asked) entries (entry ∷ [])
    ∙ ap (λ asks. asks_of_sets entries ++ (asks ++ [])) none ∙ append-nil (asks_of_sets entries)

-- what serves a set: it has the set's key, and was kept before unless this validation gave it out
abbrev Fits : Terms → List EntryValue → SeekingValue → List MadeValue → Option EntryValue → Type 0
Fits t cached k made o =
    IfSome o (λ e. (key_eq (key_of k.so_far.query k.placed.set) e.key ≡ true)
    × (origin_of made e ≡ Cache → IsIn e cached))

module _ (t : Terms) (cached : List EntryValue) (k : SeekingValue) (outer : List OpenValue)
    (below closed : List AskedValue) (n m : ℕ) (before after all : List Sent) (first : Sent) (made : List MadeValue)
    (store : List EntryValue) (given : Option (EntryValue × Acceptance)) where
  stand_serving : (o : Option EntryValue) → Open t cached outer below n before
      → OnTop t cached (Sought t cached closed k) k.so_far
      (asks_of_sets k.so_far.entries) outer below closed n m first after
      → all ≡ before ++ first ∷ after → AreMade closed made → serving t.judge k.so_far.query k.placed given ≡ o
      → Fits t cached k made o
      → Stands t cached (found_by_entry t k o (at_rest closed outer m made store)) all
  stand_serving None beneath h is each by fits =
      let f = set_item t k.so_far k.placed in
      Moves f outer closed m all made
      (Above f outer below closed n m before after all first beneath
      (on_top_with t cached (Sought t cached closed k) (Judging t cached closed f) k.so_far k.so_far
      (asks_of_sets k.so_far.entries) (asks_so_far f) outer
      below closed n m first after h (record { query = refl; depth = refl; message = refl; empty = refl })
      (append-nil (asks_of_sets k.so_far.entries))
      (sought_item t cached closed k)) is)
      each
  stand_serving
      (Some e) beneath h is each by fits =
      let c = served_set k.placed e in
      let entry = served_entry (origin_of made e) c in
      let s = with_set k.so_far c entry None in
      stand_next t cached s outer below closed n m before after all first made store s.left refl beneath
      (on_top_with t cached (Sought t cached closed k) (Next t cached closed s) k.so_far s
      (asks_of_sets k.so_far.entries)
      (asks_of_sets s.entries) outer
      below closed n m first after h (record { query = refl; depth = refl; message = refl; empty = refl })
      (served_asks k.so_far.entries entry refl)
      (λ x. served_next t cached closed k c entry x
      (at_served (context_at t cached closed k.so_far) k.placed made e each
      (serves t.judge k.so_far.query k.placed given e by) fits.0 fits.1)
      (origin_served made e)))
      is each

module _ (t : Terms) (cached : List EntryValue) where
  stand_sought : (pending : Option Ask) (seeking : Option SeekingValue)
      (steps : List OpenValue) (closed : List AskedValue) (n : ℕ)
      (sends : List Sent) (made : List MadeValue) (store : List EntryValue) (ended : Option Reply) (k : SeekingValue)
      (given : Option (EntryValue × Acceptance))
      → Stand t cached pending seeking steps closed n sends made ended → seeking ≡ Some k
      → Fits t cached k made (serving t.judge k.so_far.query k.placed given)
      → Stands t cached (found t given (record {
        closed = closed;
        steps = steps;
        seeking = seeking;
        pending = pending;
        sends = n;
        made = made;
        kept = store;
        ended = ended;
      })) sends
  stand_sought _ _ _ _ _ _ _ store _ k given
      (Waits ask steps closed n sends made beneath few awaits each) is fits = cc
  stand_sought _ _ _ _ _ _ _ store _ k given
      (Seeks x outer below closed n m before after all first made beneath h all_is each) is fits =
      let same : k ≡ x = cc in
      stand_serving t cached x outer below closed n m before after all first made store given
      (serving t.judge x.so_far.query x.placed given) beneath h all_is each refl
      (subst (λ y. Fits t cached y made (serving t.judge y.so_far.query y.placed given)) same fits)
  stand_sought _ _ _ _ _ _ _ store _ k given (Moves f outer closed n sends made beneath each) is fits = cc
  stand_sought _ _ _ _ _ _ _ store _ k given (Done closed n sends made reply comes) is fits = cc

pub stand_found : (t : Terms) (cached : List EntryValue) (s : StateValue) (sends : List Sent) (k : SeekingValue)
    (given : Option (EntryValue × Acceptance))
    → Stands t cached s sends → s.seeking ≡ Some k → IsAmong t cached s k given
    → Stands t cached (found t given s) sends
stand_found t cached s sends k given h is among =
    stand_sought t cached s.pending s.seeking s.steps s.closed s.sends sends s.made s.kept s.ended k given h is among
