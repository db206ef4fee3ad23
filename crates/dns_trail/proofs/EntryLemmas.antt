-- The entry of a set, by what judged it.
use Rattle.std.proofs.Common.{◌≡◌, ◌≢◌, length, ℕ, ◌+◌, Bool, true, false, ◌==◌, ◌&&◌, List, [], ◌∷◌, ◌++◌, reverse, Option, None, Some, if◌then◌else◌, refl, sym, ap, ◌∙◌, append_assoc, append-nil}
use Rattle.std.specs.Option.{option_map, option_map_or}
use Rattle.std.proofs.lemmas.Bool.{and_parts}
use Rattle.std.proofs.lemmas.List.{reverse-append, reverse-reverse}
use Rattle.dns_model.specs.declared.proof.Proof.{Proof}
use Rattle.dns_model.specs.declared.trail.AskRef.{AskRef}
use Rattle.dns_model.specs.declared.trail.MarkOrigin.{MarkOrigin}
use Rattle.dns_model.specs.Names.{name_eq}
use Rattle.dns_model.specs.SoundAnswers.{PlacedSet, section_eq}
use Rattle.dns_model.specs.Trails.{JudgedSetValue}
use Rattle.dns_rules.specs.ChainedSets.{ChainedSet, bare, chained_by_ds, chained_keys}
use Rattle.dns_rules.specs.Delegations.{ZoneVerdict, Signed, Insecure, Bogus, ds_question, zone_verdict}
use Rattle.dns_rules.specs.Derivation.{StepContext, entries_hold, entry_holds, finished_answer, has_mark_of, is_ask, is_by_origin, is_empty, keys_hold, search_from, unsigned_holds, with_entries, zone_asked}
use Rattle.dns_rules.specs.DerivationParts.{is_by_verdicts, with_entry}
use Rattle.dns_rules.specs.MarkedSets.{MarkedSet, placed_of}
use Rattle.dns_rules.specs.KeySets.{judged_keys, needs_ds}
use Rattle.dns_rules.specs.Marks.{Verdict, judged_by}
use Rattle.dns_rules.specs.Unsigned.{set_start, unsigned_by, unsigned_mark}
use Rattle.dns_rules.proofs.ChainedLemmas.{chained_by_ds-bare, chained_keys-bare, placed_of-judged_by, placed_of-judged_keys, placed_of-unsigned_by}
use Rattle.dns_rules.proofs.ExtendLemmas.{place_same, proof_same}
use Rattle.dns_trail.specs.Ended.{some_if}
use Rattle.dns_trail.specs.Entries.{is_entry_of}
use Rattle.dns_trail.specs.Trying.{zone_proof}

-- ---- the set with the mark of its entry

with_mark : (placed : PlacedSet) (mark : Proof) (sig : Option ℕ) → MarkedSet
with_mark placed mark sig = record { section = placed.section; set = placed.set; mark = mark; sig = sig }

marked_parts : (judged : MarkedSet) (placed : PlacedSet) (entry : JudgedSetValue) → placed_of judged ≡ placed
    → judged.mark ≡ entry.mark
    → judged.sig ≡ entry.sig → judged ≡ with_entry (placed, entry)
unfolding with_mark
marked_parts judged placed entry own mark sig =
    ap (λ p. with_mark p judged.mark judged.sig) own ∙ ap (λ m. with_mark placed m judged.sig) mark
    ∙ ap (with_mark placed entry.mark) sig

pub marked : (judged : MarkedSet) (placed : PlacedSet) (entry : JudgedSetValue) → placed_of judged ≡ placed
    → has_mark_of judged entry ≡ true
    → judged ≡ with_entry (placed, entry)
marked judged placed entry own h =
    let parts = and_parts _ _ h in
    marked_parts judged placed entry own (proof_same judged.mark entry.mark parts.0)
    (place_same judged.sig entry.sig parts.1)

some_step : (b c : Bool) (x y : MarkedSet) → b ≡ c → (b ≡ true → x ≡ y) → some_if b x ≡ some_if c y
some_step true true x y same h = ap Some (h refl)
some_step true false x y same h = cc
some_step false true x y same h = cc
some_step false false x y same h = refl

-- a set that has the mark of its entry is the set with the entry
pub given : (judged : MarkedSet) (placed : PlacedSet) (entry : JudgedSetValue) (holds : Bool)
    → placed_of judged ≡ placed → holds ≡ has_mark_of judged entry
    → some_if (has_mark_of judged entry) judged ≡ some_if holds (with_entry (placed, entry))
given judged placed entry holds own is =
    some_step (has_mark_of judged entry) holds judged (with_entry (placed, entry)) (sym is)
    (λ h. marked judged placed entry own h)

none_step : (b : Bool) (x : MarkedSet) → b ≡ false → None ≡ some_if b x
none_step b x h = sym (ap (λ c. some_if c x) h)

-- ---- a key set

keys_by : (g : StepContext) (placed : PlacedSet) (entry : JudgedSetValue) → needs_ds g.judge placed.set ≡ false
    → keys_hold g placed entry ≡ (is_empty entry.asked && has_mark_of (judged_keys g.judge placed None) entry)
keys_by g placed entry done =
    ap (λ b. if b then option_map_or (λ zone. has_mark_of (judged_keys g.judge placed (Some zone)) entry)
    (zone_asked g placed.set.class placed.set.owner entry.asked) false
    else (is_empty entry.asked && has_mark_of (judged_keys g.judge placed None) entry)) done

-- that no anchor needs the DS set for
pub keys_given : (g : StepContext) (placed : PlacedSet) (c : ChainedSet) (entry : JudgedSetValue)
    → needs_ds g.judge placed.set ≡ false → c ≡ chained_keys g.judge placed
    → is_empty entry.asked ≡ true
    → some_if (has_mark_of c.judged entry) c.judged ≡ some_if (keys_hold g placed entry) (with_entry (placed, entry))
keys_given g placed c entry done is none =
    let judged : c.judged ≡ judged_keys g.judge placed None =
    ap (λ x. x.judged) is ∙ chained_keys-bare g.judge placed in
    given c.judged placed entry (keys_hold g placed entry)
    (ap placed_of judged ∙ placed_of-judged_keys g.judge placed None)
    (keys_by g placed entry done ∙ ap (λ b. b && has_mark_of (judged_keys g.judge placed None) entry) none
    ∙ ap (λ x. has_mark_of x entry) (sym judged))

pub keys_refused : (g : StepContext) (placed : PlacedSet) (entry : JudgedSetValue) → needs_ds g.judge placed.set ≡ false
    → is_empty entry.asked ≡ false → None ≡ some_if (keys_hold g placed entry) (with_entry (placed, entry))
keys_refused g placed entry done some =
    none_step (keys_hold g placed entry) (with_entry (placed, entry))
    (keys_by g placed entry done ∙ ap (λ b. b && has_mark_of (judged_keys g.judge placed None) entry) some)

ds_by : (g : StepContext) (placed : PlacedSet) (entry : JudgedSetValue) → needs_ds g.judge placed.set ≡ true
    → keys_hold g placed entry ≡ option_map_or (λ zone. has_mark_of (judged_keys g.judge placed (Some zone)) entry)
    (zone_asked g placed.set.class placed.set.owner entry.asked) false
ds_by g placed entry needs =
    ap (λ b. if b then option_map_or (λ zone. has_mark_of (judged_keys g.judge placed (Some zone)) entry)
    (zone_asked g placed.set.class placed.set.owner entry.asked) false
    else (is_empty entry.asked && has_mark_of (judged_keys g.judge placed None) entry)) needs

-- that the DS verdict of its owner decides
pub ds_given : (g : StepContext) (placed : PlacedSet) (c : ChainedSet) (entry : JudgedSetValue)
    (answer : Option (List ChainedSet)) (ask : AskRef) (left : List AskRef)
    → needs_ds g.judge placed.set ≡ true → c ≡ chained_by_ds g.judge placed answer
    → option_map bare answer ≡ finished_answer g.earlier ask
    → entry.asked ≡ ask ∷ left
    → (is_empty left && is_ask g.limits.depth g.earlier (g.depth + 1) (ds_question placed.set.class placed.set.owner) ask) ≡ true
    → some_if (has_mark_of c.judged entry) c.judged ≡ some_if (keys_hold g placed entry) (with_entry (placed, entry))
ds_given g placed c entry answer ask left needs is same asked fits =
    let verdict : Option (List MarkedSet) → ZoneVerdict =
    λ a. zone_verdict g.judge.answers placed.set.class placed.set.owner a in
    let zone = verdict (option_map bare answer) in
    let judged : c.judged ≡ judged_keys g.judge placed (Some zone) =
    ap (λ x. x.judged) is ∙ chained_by_ds-bare g.judge placed answer in
    let found : zone_asked g placed.set.class placed.set.owner entry.asked ≡ Some zone =
    ap (zone_asked g placed.set.class placed.set.owner) asked
    ∙ ap (λ b. if b then Some (verdict (finished_answer g.earlier ask)) else None) fits
    ∙ ap (λ a. Some (verdict a)) (sym same) in
    given c.judged placed entry (keys_hold g placed entry)
    (ap placed_of judged ∙ placed_of-judged_keys g.judge placed (Some zone))
    (ds_by g placed entry needs ∙ ap (λ o. option_map_or (λ z. has_mark_of (judged_keys g.judge placed (Some z)) entry) o false) found
    ∙ ap (λ x. has_mark_of x entry) (sym judged))

pub ds_unasked : (g : StepContext) (placed : PlacedSet) (entry : JudgedSetValue) → needs_ds g.judge placed.set ≡ true
    → entry.asked ≡ []
    → None ≡ some_if (keys_hold g placed entry) (with_entry (placed, entry))
ds_unasked g placed entry needs none =
    none_step (keys_hold g placed entry) (with_entry (placed, entry))
    (ds_by g placed entry needs
    ∙ ap (λ xs. option_map_or (λ zone. has_mark_of (judged_keys g.judge placed (Some zone)) entry)
    (zone_asked g placed.set.class placed.set.owner xs) false) none)

pub ds_refused : (g : StepContext) (placed : PlacedSet) (entry : JudgedSetValue) (ask : AskRef) (left : List AskRef)
    → needs_ds g.judge placed.set ≡ true
    → entry.asked ≡ ask ∷ left
    → (is_empty left && is_ask g.limits.depth g.earlier (g.depth + 1) (ds_question placed.set.class placed.set.owner) ask) ≡ false
    → None ≡ some_if (keys_hold g placed entry) (with_entry (placed, entry))
ds_refused g placed entry ask left needs asked fails =
    let by : Option ZoneVerdict → Bool =
    λ o. option_map_or (λ zone. has_mark_of (judged_keys g.judge placed (Some zone)) entry) o false in
    none_step (keys_hold g placed entry) (with_entry (placed, entry))
    (ds_by g placed entry needs ∙ ap (λ xs. by (zone_asked g placed.set.class placed.set.owner xs)) asked
    ∙ ap (λ b. by (if b then Some (zone_verdict g.judge.answers placed.set.class placed.set.owner (finished_answer g.earlier ask))
    else None)) fails)

-- ---- an unsigned set

unsigned_sig : (zone : ZoneVerdict) → (unsigned_mark zone).sig ≡ None
unsigned_sig (Signed ds) = refl
unsigned_sig (Insecure kind) = refl
unsigned_sig (Bogus kind) = refl

unsigned_with : (placed : PlacedSet) (zone : ZoneVerdict) (mark : Proof) (judged : MarkedSet)
    → judged ≡ record { section = placed.section; set = placed.set; mark = mark; sig = None }
    → mark ≡ zone_proof zone → judged ≡ unsigned_by placed zone
unfolding unsigned_by with_mark
unsigned_with placed zone mark judged is same =
    is ∙ ap (λ m. with_mark placed m None) same ∙ ap (with_mark placed (zone_proof zone)) (sym (unsigned_sig zone))

unsigned_found : (placed : PlacedSet) (judged : MarkedSet) (entry : JudgedSetValue) (mark : Proof)
    (o : Option ZoneVerdict)
    → judged ≡ record { section = placed.section; set = placed.set; mark = mark; sig = None }
    → Some mark ≡ option_map zone_proof o
    → some_if (has_mark_of judged entry) judged
    ≡ some_if (option_map_or (λ zone. has_mark_of (unsigned_by placed zone) entry) o false) (with_entry (placed, entry))
unsigned_found placed judged entry mark None is found = cc
unsigned_found placed judged entry mark (Some zone) is found =
    let same : judged ≡ unsigned_by placed zone = unsigned_with placed zone mark judged is cc in
    given judged placed entry (has_mark_of (unsigned_by placed zone) entry)
    (ap placed_of same ∙ placed_of-unsigned_by placed zone)
    (ap (λ x. has_mark_of x entry) (sym same))

pub unsigned_given : (g : StepContext) (placed : PlacedSet) (judged : MarkedSet) (entry : JudgedSetValue) (mark : Proof)
    → judged ≡ record { section = placed.section; set = placed.set; mark = mark; sig = None }
    → Some mark ≡ option_map zone_proof (search_from g placed.set.class (set_start placed.set) entry.asked)
    → some_if (has_mark_of judged entry) judged ≡ some_if (unsigned_holds g placed entry) (with_entry (placed, entry))
unsigned_given g placed judged entry mark is found =
    unsigned_found placed judged entry mark (search_from g placed.set.class (set_start placed.set) entry.asked) is found

unsigned_lost : (placed : PlacedSet) (entry : JudgedSetValue) (o : Option ZoneVerdict) → None ≡ option_map zone_proof o
    → None ≡ some_if (option_map_or (λ zone. has_mark_of (unsigned_by placed zone) entry) o false)
    (with_entry (placed, entry))
unsigned_lost placed entry None h = refl
unsigned_lost placed entry (Some zone) h = cc

pub unsigned_refused : (g : StepContext) (placed : PlacedSet) (entry : JudgedSetValue)
    → None ≡ option_map zone_proof (search_from g placed.set.class (set_start placed.set) entry.asked)
    → None ≡ some_if (unsigned_holds g placed entry) (with_entry (placed, entry))
unsigned_refused g placed entry lost =
    unsigned_lost placed entry (search_from g placed.set.class (set_start placed.set) entry.asked) lost

-- ---- another set

pub signed_given : (placed : PlacedSet) (judged : MarkedSet) (entry : JudgedSetValue) (vs : List Verdict)
    (o : Option (List Verdict))
    → judged ≡ judged_by placed vs → Some vs ≡ o
    → some_if (has_mark_of judged entry) judged ≡ some_if (is_by_verdicts placed entry o) (with_entry (placed, entry))
signed_given placed judged entry vs o is found =
    given judged placed entry (is_by_verdicts placed entry o) (ap placed_of is ∙ placed_of-judged_by placed vs)
    (ap (is_by_verdicts placed entry) (sym found) ∙ ap (λ x. has_mark_of x entry) (sym is))

pub signed_refused : (placed : PlacedSet) (entry : JudgedSetValue) (o : Option (List Verdict)) → None ≡ o
    → None ≡ some_if (is_by_verdicts placed entry o) (with_entry (placed, entry))
signed_refused placed entry o lost = ap (λ x. some_if (is_by_verdicts placed entry x) (with_entry (placed, entry))) lost

some_held : (b : Bool) (j x : MarkedSet) → Some j ≡ some_if b x → (b ≡ true) × (j ≡ x)
some_held true j x h = (refl, cc)
some_held false j x h = cc

none_held : (b : Bool) (x : MarkedSet) → None ≡ some_if b x → b ≡ false
none_held true x h = cc
none_held false x h = refl

-- ---- sets, one after another

-- those that are left, last first, decide
pub record AreLeft (g : StepContext) (placed left : List PlacedSet) (entries others : List JudgedSetValue)
    (sets : List MarkedSet) : Type 0 where
  pub hold : entries_hold g (reverse left) others ≡ entries_hold g placed entries
  pub marks : sets ++ with_entries (reverse left) others ≡ with_entries placed entries

pub left_first : (g : StepContext) (placed left : List PlacedSet) (entries : List JudgedSetValue)
    (sets : List MarkedSet) → left ≡ reverse placed → sets ≡ []
    → AreLeft g placed left entries entries sets
left_first g placed left entries sets is none =
    let back : reverse left ≡ placed = ap reverse is ∙ reverse-reverse placed in
    record {
      hold = ap (λ ps. entries_hold g ps entries) back;
      marks = ap (λ xs. xs ++ with_entries (reverse left) entries) none ∙ ap (λ ps. with_entries ps entries) back;
    }

one_less : (left more : List PlacedSet) (p : PlacedSet) → left ≡ more ++ p ∷ [] → reverse left ≡ p ∷ reverse more
one_less left more p is = ap reverse is ∙ reverse-append more (p ∷ [])

module _ (g : StepContext) (placed left more : List PlacedSet) (p : PlacedSet) where
  -- one set less
  pub left_next : (entries others rest : List JudgedSetValue) (e : JudgedSetValue) (sets : List MarkedSet) (j : MarkedSet)
      → AreLeft g placed left entries others sets → left ≡ more ++ p ∷ [] → others ≡ e ∷ rest
      → Some j ≡ some_if (entry_holds g p e) (with_entry (p, e))
      → AreLeft g placed more entries rest (sets ++ j ∷ [])
  unfolding entries_hold
  left_next entries others rest e sets j so_far less first is =
      let back = one_less left more p less in
      let one = some_held (entry_holds g p e) j (with_entry (p, e)) is in
      record {
        hold =
            sym (ap (λ b. b && entries_hold g (reverse more) rest) one.0)
            ∙ sym (ap (λ ps. entries_hold g ps others) back ∙ ap (entries_hold g (p ∷ reverse more)) first) ∙ so_far.hold;
        marks = append_assoc sets (j ∷ []) (with_entries (reverse more) rest)
            ∙ ap (λ x. sets ++ x ∷ with_entries (reverse more) rest) one.1
            ∙ sym (ap (λ ps. sets ++ with_entries ps others) back
            ∙ ap (λ es. sets ++ with_entries (p ∷ reverse more) es) first)
            ∙ so_far.marks;
      }

  -- a set without an entry
  pub left_alone : (entries others : List JudgedSetValue) (sets : List MarkedSet)
      → AreLeft g placed left entries others sets → left ≡ more ++ p ∷ [] → others ≡ []
      → None ≡ some_if (entries_hold g placed entries) (with_entries placed entries)
  unfolding entries_hold
  left_alone entries others sets so_far less none =
      sym (ap (λ b. some_if b (with_entries placed entries))
      (sym so_far.hold ∙ ap (λ ps. entries_hold g ps others) (one_less left more p less)
      ∙ ap (entries_hold g (p ∷ reverse more)) none))

  -- a set whose entry doesn't hold
  pub left_refused : (entries others rest : List JudgedSetValue) (e : JudgedSetValue) (sets : List MarkedSet)
      → AreLeft g placed left entries others sets → left ≡ more ++ p ∷ [] → others ≡ e ∷ rest
      → None ≡ some_if (entry_holds g p e) (with_entry (p, e))
      → None ≡ some_if (entries_hold g placed entries) (with_entries placed entries)
  unfolding entries_hold
  left_refused entries others rest e sets so_far less first is =
      sym (ap (λ b. some_if b (with_entries placed entries))
      (sym so_far.hold ∙ ap (λ ps. entries_hold g ps others) (one_less left more p less)
      ∙ ap (entries_hold g (p ∷ reverse more)) first
      ∙ ap (λ b. b && entries_hold g (reverse more) rest) (none_held (entry_holds g p e) (with_entry (p, e)) is)))

-- no set is left, and no entry
pub left_none : (g : StepContext) (placed left : List PlacedSet) (entries others : List JudgedSetValue)
    (sets : List MarkedSet)
    → AreLeft g placed left entries others sets → left ≡ [] → others ≡ []
    → Some sets ≡ some_if (entries_hold g placed entries) (with_entries placed entries)
unfolding entries_hold
left_none g placed left entries others sets so_far less none =
    let holds : entries_hold g placed entries ≡ true =
    sym so_far.hold ∙ ap (λ ps. entries_hold g (reverse ps) others) less ∙ ap (entries_hold g []) none in
    let marks : sets ≡ with_entries placed entries =
    sym (ap (λ xs. sets ++ xs) (ap (λ ps. with_entries (reverse ps) others) less) ∙ append-nil sets) ∙ so_far.marks in
    ap Some marks ∙ sym (ap (λ b. some_if b (with_entries placed entries)) holds)

-- no set is left, but an entry
over_step : (g : StepContext) (placed : List PlacedSet) (entries others : List JudgedSetValue) → length others ≢ 0
    → entries_hold g [] others ≡ entries_hold g placed entries
    → None ≡ some_if (entries_hold g placed entries) (with_entries placed entries)
unfolding entries_hold
over_step g placed entries [] some is = absurd (some refl)
over_step g placed entries (e ∷ rest) some is = ap (λ b. some_if b (with_entries placed entries)) is

pub left_over : (g : StepContext) (placed left : List PlacedSet) (entries others : List JudgedSetValue)
    (sets : List MarkedSet)
    → AreLeft g placed left entries others sets → left ≡ [] → length others ≢ 0
    → None ≡ some_if (entries_hold g placed entries) (with_entries placed entries)
left_over g placed left entries others sets so_far less some =
    over_step g placed entries others some (sym (ap (λ ps. entries_hold g (reverse ps) others) less) ∙ so_far.hold)

-- ---- one entry

four : (a b c d : Bool) → (a && (b && (c && d))) ≡ ((a && (b && c)) && d)
four true true true d = refl
four true true false d = refl
four true false c d = refl
four false b c d = refl

-- by whether it is that of the set, and by its origin
entry_by : (g : StepContext) (placed : PlacedSet) (entry : JudgedSetValue) (b : Bool) (o : MarkOrigin)
    → is_entry_of placed entry ≡ b → entry.origin ≡ o
    → entry_holds g placed entry ≡ (b && is_by_origin g placed entry o)
unfolding entry_holds
entry_by g placed entry b o of origin =
    four (section_eq placed.section entry.section) (name_eq placed.set.owner entry.owner)
    (placed.set.rtype == entry.rtype) (is_by_origin g placed entry entry.origin)
    ∙ ap (λ x. x && is_by_origin g placed entry entry.origin) of ∙ ap (λ x. b && is_by_origin g placed entry x) origin

pub entry_other : (g : StepContext) (placed : PlacedSet) (entry : JudgedSetValue) → is_entry_of placed entry ≡ false
    → None ≡ some_if (entry_holds g placed entry) (with_entry (placed, entry))
entry_other g placed entry other =
    none_step (entry_holds g placed entry) (with_entry (placed, entry))
    (entry_by g placed entry false entry.origin other refl)

pub entry_given : (g : StepContext) (placed : PlacedSet) (entry : JudgedSetValue) (o : MarkOrigin)
    → is_entry_of placed entry ≡ true → entry.origin ≡ o
    → some_if (is_by_origin g placed entry o) (with_entry (placed, entry)) ≡ some_if (entry_holds g placed entry)
    (with_entry (placed, entry))
entry_given g placed entry o of origin =
    ap (λ b. some_if b (with_entry (placed, entry))) (sym (entry_by g placed entry true o of origin))
