-- Maps by the bytes of keys.
use Rattle.std.proofs.Common.{◌≡◌, ℕ, ◌<◌, ◌≤◌, Bool, true, false, cond, ◌||◌, List, [], ◌∷◌, ◌++◌, drop, length, Option, None, Some, is_some, unwrap_or, refl, sym, ap, ◌∙◌, arith}
use Rattle.std.specs.Prelude.{Vec, slice_index, nat_lt, if◌then◌else◌}
use Rattle.std.specs.BTreeMap.{BTreeMap, UpdatesBy, get_by, is_at}
use Rattle.std.specs.Cmp.{eq_by_cmp_equiv}
use Rattle.std.specs.Cmp.Lexicographic.{slice_cmp, nat_list_cmp_total, nat_list_eq_equiv}
use Rattle.std.specs.List.{list_any}
use Rattle.std.specs.Map.{IsKeyTest, AreApart, KeepsOthers, lookup}
use Rattle.std.specs.Ordering.{is_eq, nat_cmp, eq_by_cmp}
use Rattle.std.specs.declared.cmp.Ordering.{Ordering}
use Rattle.std.proofs.lemmas.Bool.{ltb-false}
use Rattle.std.proofs.lemmas.List.{drop_more}
use Rattle.std.proofs.lemmas.Map.Text.{is_eq-slice_cmp}
use Rattle.std.proofs.lemmas.Slice.Eq.{bytes_eq-Decides}
use Rattle.dns_model.specs.Bytes.{u16_at}
use Rattle.dns_model.specs.Keys.{bytes_eq}
use Rattle.dns_model.specs.Views.{DnskeyValue, dnskey_in}
use Rattle.dns_anchor_roll.specs.FollowedKeys.{key_bytes}
use Rattle.dns_anchor_roll.specs.Tables.{among, changed, changed_if, entry_at, has_entry, standing_in}
use Rattle.dns_anchor_roll.specs.declared.standing.Change.{Change}
use Rattle.dns_anchor_roll.specs.declared.standing.Change.TheVariants.{Trust, Revoke}
use Rattle.dns_anchor_roll.specs.declared.standing.Standing.{Standing}
use Rattle.dns_anchor_roll.specs.declared.standing.Standing.TheVariants.{Unknown, Trusted, Revoked}

abbrev pub by_items : {Z : Type 0} → Vec ℕ Z → Vec ℕ Z → Ordering
by_items a b = slice_cmp nat_cmp a.items b.items

-- the test by which bytes are looked up
abbrev is_key : {Z : Type 0} → List ℕ → Vec ℕ Z → Bool
is_key q k = is_eq (slice_cmp nat_cmp q k.items)

other_entries : {K X : Type 0} (eq : K → K → Bool) (test : K → Bool) (old new : List (K × X)) → KeepsOthers eq test old new
    → (other : K → Bool) → IsKeyTest eq other → AreApart test other → lookup other new ≡ lookup other old
unfolding KeepsOthers
other_entries eq test old new h = h

apart : (key q k : List ℕ) → bytes_eq key q ≡ false → is_eq (slice_cmp nat_cmp key k) ≡ true → is_eq (slice_cmp nat_cmp q k) ≡ false
apart key q k differ is =
    is_eq-slice_cmp q k
    ∙ nat_list_eq_equiv.symm q k
    ∙ sym (nat_list_eq_equiv.congr key k q (sym (is_eq-slice_cmp key k) ∙ is))
    ∙ differ

updated_step : {X Z : Type 0} (key q : List ℕ) (old new : BTreeMap (Vec ℕ Z) X) (w : Option X) (b : Bool) → bytes_eq key q ≡ b
    → UpdatesBy by_items (λ k. slice_cmp nat_cmp key k.items) old new w
    → entry_at new q ≡ cond b w (entry_at old q)
updated_step key q old new w true e updates = sym (ap (entry_at new) ((bytes_eq-Decides key q).0 e)) ∙ updates.1
updated_step key q old new w false e updates =
    other_entries (eq_by_cmp by_items) (is_key key) old.entries new.entries updates.3 (is_key q)
    (λ x y h. (eq_by_cmp_equiv nat_list_cmp_total).congr q x.items y.items h) (λ k h. apart key q k.items e h)

-- what a map has for any bytes, once one of its keys has another value
pub entry_updated : {X Z : Type 0} (key : List ℕ) (old new : BTreeMap (Vec ℕ Z) X) (w : Option X)
    → UpdatesBy by_items (λ k. slice_cmp nat_cmp key k.items) old new w
    → (q : List ℕ) → entry_at new q ≡ cond (bytes_eq key q) w (entry_at old q)
entry_updated key old new w updates q = updated_step key q old new w (bytes_eq key q) refl updates

-- nothing changes where the entries stay
pub entry_unchanged : {X Z : Type 0} (old new : BTreeMap (Vec ℕ Z) X) → new.entries ≡ old.entries → (q : List ℕ) → entry_at new q ≡ entry_at old q
entry_unchanged old new same q = ap (lookup (is_key q)) same

-- ---- room for a key

pub room_unchanged : {Z : Type 0} (old new : BTreeMap (Vec ℕ Z) Standing) → new.entries ≡ old.entries → (q : List ℕ)
    → standing_in new q ≡ standing_in old q
room_unchanged old new same q = ap (λ o. unwrap_or o Unknown) (entry_unchanged old new same q)

pub has_unchanged : {Z : Type 0} (old new : BTreeMap (Vec ℕ Z) Standing) → new.entries ≡ old.entries → (q : List ℕ)
    → has_entry old q ≡ true → has_entry new q ≡ true
has_unchanged old new same q h = ap is_some (entry_unchanged old new same q) ∙ h

none_there : {X : Type 0} (o : Option X) → is_some o ≡ false → o ≡ None
none_there None h = refl
none_there (Some x) h = cc

blank_step : {Z : Type 0} (key q : List ℕ) (old : BTreeMap (Vec ℕ Z) Standing) (b : Bool) → bytes_eq key q ≡ b → has_entry old key ≡ false
    → unwrap_or (cond b (Some Unknown) (entry_at old q)) Unknown ≡ standing_in old q
blank_step key q old true e none =
    sym (ap (λ o. unwrap_or o Unknown) (sym (ap (entry_at old) ((bytes_eq-Decides key q).0 e)) ∙ none_there (entry_at old key) none))
blank_step key q old false e none = refl

pub room_same : {Z : Type 0} (key : List ℕ) (old new : BTreeMap (Vec ℕ Z) Standing)
    → UpdatesBy by_items (λ k. slice_cmp nat_cmp key k.items) old new (Some Unknown) → has_entry old key ≡ false
    → (q : List ℕ) → standing_in new q ≡ standing_in old q
room_same key old new updates none q =
    ap (λ o. unwrap_or o Unknown) (entry_updated key old new (Some Unknown) updates q)
    ∙ blank_step key q old (bytes_eq key q) refl none

has_step : {X : Type 0} (b : Bool) (x : X) (o : Option X) → is_some o ≡ true → is_some (cond b (Some x) o) ≡ true
has_step true x o h = refl
has_step false x o h = h

pub room_more : {Z : Type 0} (key : List ℕ) (old new : BTreeMap (Vec ℕ Z) Standing)
    → UpdatesBy by_items (λ k. slice_cmp nat_cmp key k.items) old new (Some Unknown)
    → (q : List ℕ) → has_entry old q ≡ true → has_entry new q ≡ true
room_more key old new updates q h =
    ap is_some (entry_updated key old new (Some Unknown) updates q) ∙ has_step (bytes_eq key q) Unknown (entry_at old q) h

pub room_made : {Z : Type 0} (key : List ℕ) (old new : BTreeMap (Vec ℕ Z) Standing)
    → UpdatesBy by_items (λ k. slice_cmp nat_cmp key k.items) old new (Some Unknown) → has_entry new key ≡ true
room_made key old new updates = ap is_some updates.1

-- ---- a change of what is known

change_step : {Z : Type 0} (key q : List ℕ) (old : BTreeMap (Vec ℕ Z) Standing) (by : Change) (was : Standing) (b : Bool) → bytes_eq key q ≡ b
    → entry_at old key ≡ Some was
    → unwrap_or (cond b (Some (changed by was)) (entry_at old q)) Unknown ≡ changed_if b by (standing_in old q)
change_step key q old by was true e is =
    sym (ap (λ o. changed by (unwrap_or o Unknown)) (sym (ap (entry_at old) ((bytes_eq-Decides key q).0 e)) ∙ is))
change_step key q old by was false e is = refl

pub one_changed : {Z : Type 0} (key : List ℕ) (old new : BTreeMap (Vec ℕ Z) Standing) (by : Change) (was : Standing)
    → entry_at old key ≡ Some was
    → UpdatesBy by_items (λ k. slice_cmp nat_cmp key k.items) old new (Some (changed by was))
    → (q : List ℕ) → standing_in new q ≡ changed_if (bytes_eq q key) by (standing_in old q)
one_changed key old new by was is updates q =
    ap (λ o. unwrap_or o Unknown) (entry_updated key old new (Some (changed by was)) updates q)
    ∙ change_step key q old by was (bytes_eq key q) refl is
    ∙ ap (λ b. changed_if b by (standing_in old q)) (nat_list_eq_equiv.symm key q)

kept_step : {Z : Type 0} (key q : List ℕ) (old : BTreeMap (Vec ℕ Z) Standing) (by : Change) (was : Standing) (b : Bool) → bytes_eq key q ≡ b
    → entry_at old key ≡ Some was → is_some (cond b (Some (changed by was)) (entry_at old q)) ≡ has_entry old q
kept_step key q old by was true e is = sym (ap is_some (sym (ap (entry_at old) ((bytes_eq-Decides key q).0 e)) ∙ is))
kept_step key q old by was false e is = refl

pub one_kept : {Z : Type 0} (key : List ℕ) (old new : BTreeMap (Vec ℕ Z) Standing) (by : Change) (was : Standing)
    → entry_at old key ≡ Some was
    → UpdatesBy by_items (λ k. slice_cmp nat_cmp key k.items) old new (Some (changed by was))
    → (q : List ℕ) → has_entry new q ≡ has_entry old q
one_kept key old new by was is updates q =
    ap is_some (entry_updated key old new (Some (changed by was)) updates q) ∙ kept_step key q old by was (bytes_eq key q) refl is

changed_twice : (by : Change) (s : Standing) → changed by (changed by s) ≡ changed by s
changed_twice Trust Unknown = refl
changed_twice Trust Trusted = refl
changed_twice Trust (Revoked at) = refl
changed_twice (Revoke moment) Unknown = refl
changed_twice (Revoke moment) Trusted = refl
changed_twice (Revoke moment) (Revoked at) = refl

-- a change by one key more
pub changed_more : (before now : Bool) (by : Change) (s : Standing) → changed_if now by (changed_if before by s) ≡ changed_if (before || now) by s
changed_more true true by s = changed_twice by s
changed_more true false by s = refl
changed_more false true by s = refl
changed_more false false by s = refl

-- ---- which key an rdata says

abbrev read_of : List ℕ → DnskeyValue
read_of rdata = record { flags = u16_at rdata 0; protocol = slice_index rdata 2; algorithm = slice_index rdata 3; key = drop 4 rdata }

bytes_step : (b : Bool) (rdata : List ℕ) (text : DnskeyValue) → nat_lt (length rdata) 4 ≡ b
    → (if b then None else Some (read_of rdata)) ≡ Some text
    → drop 3 rdata ≡ key_bytes text
bytes_step true rdata text e h = cc
bytes_step false rdata text e h =
    let long : 4 ≤ length rdata = ltb-false (length rdata) 4 e in
    let within : 3 < length rdata = omega arith in
    let read : read_of rdata ≡ text = cc in
    drop_more rdata 3 0 within ∙ ap key_bytes read

-- algorithm and public key stand behind flags and protocol
pub bytes_behind : (rdata : List ℕ) (text : DnskeyValue) → dnskey_in rdata ≡ Some text → drop 3 rdata ≡ key_bytes text
unfolding dnskey_in
bytes_behind rdata text h = bytes_step (nat_lt (length rdata) 4) rdata text refl h
