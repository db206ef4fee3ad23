-- Whether a DS covers a key, by its digest type.
use Rattle.std.proofs.Common.{◌≡◌, ℕ, Bool, true, false, ◌++◌, List, None, Some, refl, sym, ap, ◌∙◌}
use Rattle.std.specs.Prelude.{◌==◌, if◌then◌else◌, Option}
use Rattle.std.specs.Option.{option_map, option_map_or}
use Rattle.sha1.specs.Sha1.{sha1}
use Rattle.sha2.specs.Sha256.{sha256}
use Rattle.sha2.specs.Sha512.{sha384}
use Rattle.dns_model.specs.Names.{Labels, wire, folded}
use Rattle.dns_model.specs.Views.{DsValue}
use Rattle.dns_model.specs.Signing.{ds_digest}
use Rattle.dns_model.specs.Keys.{bytes_eq, covers_key}
use Rattle.dns_rdata.specs.declared.digest.DigestType.{DigestType}
use Rattle.dns_rdata.specs.declared.digest.DigestType.TheVariants.{Sha1, Sha256, Sha384}
use Rattle.dns_rdata.specs.Covers.{digest_type_of}

-- the digest of an owner and a key
abbrev pub digest_by : Labels → List ℕ → DigestType → List ℕ
digest_by owner key Sha1 = sha1 (wire (folded owner) ++ key)
digest_by owner key Sha256 = sha256 (wire (folded owner) ++ key)
digest_by owner key Sha384 = sha384 (wire (folded owner) ++ key)

mapped : {X Y : Type 0} (f : X → Y) (a b c : Bool) (x y z : X)
    → (if a then Some (f x) else if b then Some (f y) else if c then Some (f z) else None)
    ≡ option_map f (if a then Some x else if b then Some y else if c then Some z else None)
mapped f true b c x y z = refl
mapped f false true c x y z = refl
mapped f false false true x y z = refl
mapped f false false false x y z = refl

by_type : (n : ℕ) (owner : Labels) (key : List ℕ) → ds_digest n owner key ≡ option_map (digest_by owner key) (digest_type_of n)
unfolding ds_digest
by_type n owner key = mapped (digest_by owner key) (n == 1) (n == 2) (n == 4) Sha1 Sha256 Sha384

-- of a type that is supported
pub covers_by : (owner : Labels) (key : List ℕ) (ds : DsValue) (digest_type : DigestType) → digest_type_of ds.digest_type ≡ Some digest_type
    → bytes_eq (digest_by owner key digest_type) ds.digest ≡ covers_key owner key ds
covers_by owner key ds digest_type is =
    sym (ap (λ (o : Option (List ℕ)). option_map_or (λ expected. bytes_eq expected ds.digest) o false)
    (by_type ds.digest_type owner key ∙ ap (option_map (digest_by owner key)) is))

-- and of another
pub covers_none : (owner : Labels) (key : List ℕ) (ds : DsValue) → digest_type_of ds.digest_type ≡ None → false ≡ covers_key owner key ds
covers_none owner key ds is =
    sym (ap (λ (o : Option (List ℕ)). option_map_or (λ expected. bytes_eq expected ds.digest) o false)
    (by_type ds.digest_type owner key ∙ ap (option_map (digest_by owner key)) is))
