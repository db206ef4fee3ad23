-- The search for a zone, one name after another.
use Rattle.std.proofs.Common.{◌≡◌, ◌≢◌, ℕ, Bool, true, false, List, [], ◌∷◌, None, Some, if◌then◌else◌, refl, sym, ap, ◌∙◌}
use Rattle.std.specs.Option.{option_map}
use Rattle.dns_model.specs.declared.proof.Proof.TheVariants as proof
use Rattle.dns_model.specs.declared.trail.AskRef.{AskRef}
use Rattle.dns_model.specs.Names.{Labels, parent}
use Rattle.dns_rules.specs.Delegations.{Bogus}
use Rattle.dns_rules.specs.Derivation.{StepContext, is_empty, is_plain_ask, search_after, search_by, probe_by, zone_asked}
use Rattle.dns_rules.specs.ProofErrors.{ProofErrorKindValue}
use Rattle.dns_rules.specs.Unsigned.{ns_question}
use Rattle.dns_rules.specs.Probes.{NsProbe}
use Rattle.dns_rules.specs.Probes as probes
use Rattle.dns_trail.specs.Ended.{some_if}
use Rattle.dns_trail.specs.Trying.{zone_proof}

bogus_step : (b : Bool) (kind : ProofErrorKindValue)
    → some_if b proof.Bogus ≡ option_map zone_proof (if b then Some (Bogus kind) else None)
bogus_step true kind = refl
bogus_step false kind = refl

-- at the root it leaves Bogus
pub root_proof : (g : StepContext) (class : ℕ) (start name : Labels) (asks : List AskRef) → name ≡ []
    → some_if (is_empty asks) proof.Bogus ≡ option_map zone_proof (search_by g class start name asks)
unfolding search_by
root_proof g class start [] asks root = bogus_step (is_empty asks) _
root_proof g class start (label ∷ name) asks root = cc

-- without an ask it comes to nothing
pub unasked_proof : (g : StepContext) (class : ℕ) (start name : Labels) (asks : List AskRef) → name ≢ [] → asks ≡ []
    → None ≡ option_map zone_proof (search_by g class start name asks)
unfolding search_by
unasked_proof g class start [] asks named none = absurd (named refl)
unasked_proof g class start (label ∷ name) [] named none = refl
unasked_proof g class start (label ∷ name) (ask ∷ asks) named none = cc

-- nor does it where the ask isn't that for the name's NS records
pub other_proof : (g : StepContext) (class : ℕ) (start name : Labels) (asks : List AskRef) (ask : AskRef)
    (left : List AskRef) → name ≢ [] → asks ≡ ask ∷ left
    → is_plain_ask g.earlier g.depth (ns_question class name) ask ≡ false
    → None ≡ option_map zone_proof (search_by g class start name asks)
unfolding search_by
other_proof g class start [] asks ask left named is other = absurd (named refl)
other_proof g class start (label ∷ name) asks ask left named is other =
    sym (ap (λ b. option_map zone_proof (if b
    then search_after g class (label ∷ name) left (probe_by g.earlier (label ∷ name) ask) (search_by g class start name left)
    else None)) other)
    ∙ ap (λ xs. option_map zone_proof (search_by g class start (label ∷ name) xs)) (sym is)

-- else it goes by what the ask saw
pub seen_proof : (g : StepContext) (class : ℕ) (start name : Labels) (asks : List AskRef) (ask : AskRef)
    (left : List AskRef) (probe : NsProbe) → name ≢ []
    → asks ≡ ask ∷ left → is_plain_ask g.earlier g.depth (ns_question class name) ask ≡ true
    → probe_by g.earlier name ask ≡ probe
    → search_by g class start name asks ≡ search_after g class name left probe (search_by g class start (parent name) left)
unfolding search_by
seen_proof g class start [] asks ask left probe named is plain sees = absurd (named refl)
seen_proof g class start (label ∷ name) asks ask left probe named is plain sees =
    ap (λ xs. search_by g class start (label ∷ name) xs) is
    ∙ ap (λ b. if b then search_after g class (label ∷ name) left (probe_by g.earlier (label ∷ name) ask)
    (search_by g class start name left) else None) plain
    ∙ ap (λ s. search_after g class (label ∷ name) left s (search_by g class start name left)) sees

pub cut_proof : (g : StepContext) (class : ℕ) (start name : Labels) (asks : List AskRef) (ask : AskRef)
    (left : List AskRef) → name ≢ []
    → asks ≡ ask ∷ left → is_plain_ask g.earlier g.depth (ns_question class name) ask ≡ true
    → probe_by g.earlier name ask ≡ probes.Found
    → option_map zone_proof (zone_asked g class name left) ≡ option_map zone_proof (search_by g class start name asks)
cut_proof g class start name asks ask left named is plain sees =
    sym (ap (option_map zone_proof) (seen_proof g class start name asks ask left probes.Found named is plain sees))

pub onward_proof : (g : StepContext) (class : ℕ) (start name : Labels) (asks : List AskRef) (ask : AskRef)
    (left : List AskRef) → name ≢ []
    → asks ≡ ask ∷ left → is_plain_ask g.earlier g.depth (ns_question class name) ask ≡ true
    → probe_by g.earlier name ask ≡ probes.Absent
    → option_map zone_proof (search_by g class start (parent name) left) ≡ option_map zone_proof (search_by g class start name asks)
onward_proof g class start name asks ask left named is plain sees =
    sym (ap (option_map zone_proof) (seen_proof g class start name asks ask left probes.Absent named is plain sees))

pub unseen_proof : (g : StepContext) (class : ℕ) (start name : Labels) (asks : List AskRef) (ask : AskRef)
    (left : List AskRef) → name ≢ []
    → asks ≡ ask ∷ left → is_plain_ask g.earlier g.depth (ns_question class name) ask ≡ true
    → probe_by g.earlier name ask ≡ probes.Failed
    → some_if (is_empty left) proof.Bogus ≡ option_map zone_proof (search_by g class start name asks)
unseen_proof g class start name asks ask left named is plain sees =
    bogus_step (is_empty left) _
    ∙ sym (ap (option_map zone_proof) (seen_proof g class start name asks ask left probes.Failed named is plain sees))
