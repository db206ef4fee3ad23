-- The sets that deny existence: what their records say, and the zone that made them.
use Rattle.std.proofs.Common.{◌≡◌, ℕ, Bool, true, false, not, ◌&&◌, ◌||◌, cond, List, [], ◌∷◌, Option, None, Some, if◌then◌else◌, refl, sym, ap, ◌∙◌}
use Rattle.std.specs.Option.{option_map, option_and_then}
use Rattle.std.specs.List.{list_all, find}
use Rattle.dns_model.specs.Names.{Labels}
use Rattle.dns_model.proofs.SetLemmas.{name_refl}
use Rattle.dns_model.proofs.EachLemmas.{find-map}
use Rattle.dns_rules.specs.MarkedSets.{MarkedSet}
use Rattle.dns_rules.specs.ChainedSets.{ChainedSet, bare}
use Rattle.dns_rules.specs.Denying.{is_denying_as, denying_as}
use Rattle.dns_rules.specs.Outcome.{signer_of, is_made_by, one_signer}

-- the first set that denies existence
first_is : (rtype : ℕ) (sets : List ChainedSet)
    → find (is_denying_as rtype) (bare sets) ≡ option_map (λ c. c.judged) (find (λ c. is_denying_as rtype c.judged) sets)
first_is rtype sets = find-map (is_denying_as rtype) (λ c. c.judged) sets

all_step : (zone : Labels) (x : MarkedSet) (rest : List MarkedSet) (b later : Bool) → list_all (is_made_by zone) rest ≡ later
    → list_all (is_made_by zone) (cond b (x ∷ rest) rest) ≡ ((not b || is_made_by zone x) && later)
all_step zone x rest true later e = ap (λ l. is_made_by zone x && l) e
all_step zone x rest false later e = e

-- a zone made each set that denies existence
all_made : (rtype : ℕ) (zone : Labels) (sets : List ChainedSet)
    → list_all (is_made_by zone) (denying_as rtype (bare sets)) ≡ list_all (λ c. not (is_denying_as rtype c.judged)
    || is_made_by zone c.judged) sets
all_made rtype zone [] = refl
all_made rtype zone (c ∷ sets) =
    all_step zone c.judged (denying_as rtype (bare sets)) (is_denying_as rtype c.judged)
    (list_all (λ d. not (is_denying_as rtype d.judged) || is_made_by zone d.judged) sets) (all_made rtype zone sets)

-- a zone, where it made the sets
abbrev if_made : List MarkedSet → Labels → Option Labels
if_made sets zone = if list_all (is_made_by zone) sets then Some zone else None

-- the zone that made a set made it
own_step : (x : MarkedSet) (rest : List MarkedSet) (o : Option Labels) → signer_of x ≡ o
    → option_and_then (if_made rest) o ≡ option_and_then (if_made (x ∷ rest)) o
own_step x rest None e = refl
own_step x rest (Some zone) e =
    let made : is_made_by zone x ≡ true = rw e (name_refl zone) in
    sym (ap (λ b. cond (b && list_all (is_made_by zone) rest) (Some zone) None) made)

first_step : (rtype : ℕ) (x : MarkedSet) (sets : List MarkedSet) (b : Bool)
    → one_signer (denying_as rtype sets) ≡ option_and_then (if_made (denying_as rtype sets))
    (option_and_then signer_of (find (is_denying_as rtype) sets))
    → one_signer (cond b (x ∷ denying_as rtype sets) (denying_as rtype sets))
    ≡ option_and_then (if_made (cond b (x ∷ denying_as rtype sets) (denying_as rtype sets)))
    (option_and_then signer_of (cond b (Some x) (find (is_denying_as rtype) sets)))
first_step rtype x sets true later = own_step x (denying_as rtype sets) (signer_of x) refl
first_step rtype x sets false later = later

-- the zone that made the first made them all, or none did
signer_of_first : (rtype : ℕ) (sets : List MarkedSet)
    → one_signer (denying_as rtype sets) ≡ option_and_then (if_made (denying_as rtype sets))
    (option_and_then signer_of (find (is_denying_as rtype) sets))
signer_of_first rtype [] = refl
signer_of_first rtype (x ∷ sets) = first_step rtype x sets (is_denying_as rtype x) (signer_of_first rtype sets)

find_step : (judged : List MarkedSet) (o : Option ChainedSet)
    → option_and_then (if_made judged) (option_and_then signer_of (option_map (λ c. c.judged) o))
    ≡ option_and_then (if_made judged) (option_and_then (λ c. signer_of c.judged) o)
find_step judged None = refl
find_step judged (Some c) = refl

made_step : (rtype : ℕ) (sets : List ChainedSet) (o : Option Labels) → option_and_then (if_made (denying_as rtype (bare sets))) o
    ≡ option_and_then (λ zone. if list_all (λ c. not (is_denying_as rtype c.judged) || is_made_by zone c.judged) sets
    then Some zone else None) o
made_step rtype sets None = refl
made_step rtype sets (Some zone) = ap (λ b. cond b (Some zone) None) (all_made rtype zone sets)

-- the zone that made the first set that denies existence made them all, or none did
pub one_signer_is : (rtype : ℕ) (sets : List ChainedSet) → one_signer (denying_as rtype (bare sets))
    ≡ option_and_then (λ zone. if list_all (λ c. not (is_denying_as rtype c.judged) || is_made_by zone c.judged) sets
    then Some zone else None)
    (option_and_then (λ c. signer_of c.judged) (find (λ c. is_denying_as rtype c.judged) sets))
one_signer_is rtype sets =
    signer_of_first rtype (bare sets)
    ∙ ap (λ o. option_and_then (if_made (denying_as rtype (bare sets))) (option_and_then signer_of o)) (first_is rtype sets)
    ∙ find_step (denying_as rtype (bare sets)) (find (λ c. is_denying_as rtype c.judged) sets)
    ∙ made_step rtype sets (option_and_then (λ c. signer_of c.judged) (find (λ c. is_denying_as rtype c.judged) sets))
