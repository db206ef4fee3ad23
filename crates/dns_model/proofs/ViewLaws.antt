-- A view reads an rdata exactly where the rdata has its type's shape.
use Rattle.std.specs.Prelude.{◌≡◌, ℕ, ◌-◌, Bool, true, false, not, ◌&&◌, ◌==◌, nat_le, nat_lt, List, [], ◌∷◌, drop, take, length, Option, None, Some, is_some, if◌then◌else◌, refl, option_map}
use Rattle.std.proofs.Common.{sym, ◌∙◌, ap, true≢false, arith}
use Rattle.std.proofs.lemmas.List.{length-drop}
use Rattle.dns_model.specs.Names.{Labels}
use Rattle.dns_model.specs.NameForm.{name_in, whole_name}
use Rattle.dns_model.specs.Shapes.{Octets, DomainName, CharacterString, TypeBitmap, Remainder, Part, Plain, Named, parts_in, shape_of, has_shape, is_bitmap, counted_in}
use Rattle.dns_model.specs.Views.{rrsig_in, dnskey_in, ds_in, nsec_in, nsec_from, nsec3_in, nsec3_from, nsec3_after_salt, soa_in, soa_numbers, ns_in, SoaValue, rrsig_of}
use Rattle.dns_model.proofs.ShapeSteps.{named_front, after_part, with_part, counted_front}
use Rattle.dns_model.specs.OptionSteps.{◌>>=◌}

-- the two tests of length say the same
short_or_long : (n k : ℕ) → nat_lt n k ≡ not (nat_le k n)
short_or_long n k = grind (arith)

pub with_part-keeps : (p : Part) (o : Option (List Part)) → is_some (with_part p o) ≡ is_some o
with_part-keeps p None = refl
with_part-keeps p (Some parts) = refl

-- bytes of a fixed number in front of the rest
front : {X : Type 0} (short long : Bool) (p : Part) (rest : List ℕ) (view : Option X) (more : List ℕ → Option (List Part))
    → short ≡ not long → is_some view ≡ is_some (more rest)
    → is_some (if short then None else view) ≡ is_some (after_part (if long then Some (p, rest) else None) more)
front true true p rest view more e h = absurd (true≢false e)
front true false p rest view more e h = refl
front false true p rest view more e h = h ∙ sym (with_part-keeps p (more rest))
front false false p rest view more e h = absurd (true≢false (sym e))

pub key_has_shape : (rdata : List ℕ) → is_some (dnskey_in rdata) ≡ has_shape 48 rdata
unfolding dnskey_in parts_in shape_of
key_has_shape rdata = front _ _ (Plain (take 4 rdata)) (drop 4 rdata) _ (parts_in (Remainder ∷ [])) (short_or_long (length rdata) 4) refl

pub ds_has_shape : (rdata : List ℕ) → is_some (ds_in rdata) ≡ has_shape 43 rdata
unfolding ds_in parts_in shape_of
ds_has_shape rdata = front _ _ (Plain (take 4 rdata)) (drop 4 rdata) _ (parts_in (Remainder ∷ [])) (short_or_long (length rdata) 4) refl

signed_by : (rdata : List ℕ) (n : Option (Labels × List ℕ))
    → is_some (option_map (λ signer. rrsig_of rdata signer.0 signer.1) n) ≡ is_some (after_part (named_front n) (parts_in (Remainder ∷ [])))
unfolding parts_in
signed_by rdata None = refl
signed_by rdata (Some (name, rest)) = refl

pub sig_has_shape : (rdata : List ℕ) → is_some (rrsig_in rdata) ≡ has_shape 46 rdata
unfolding rrsig_in parts_in shape_of
sig_has_shape rdata =
    front _ _ (Plain (take 18 rdata)) (drop 18 rdata) _ (parts_in (DomainName ∷ Remainder ∷ [])) (short_or_long (length rdata) 18)
    (signed_by rdata (name_in (drop 18 rdata)))

-- a bitmap at the end
tested : {X : Type 0} (b : Bool) (x : X) (p : Part)
    → is_some (if b then Some x else None) ≡ is_some (after_part (if b then Some (p, []) else None) (parts_in []))
unfolding parts_in
tested true x p = refl
tested false x p = refl

listed_after : (n : Option (Labels × List ℕ)) → is_some (nsec_from n) ≡ is_some (after_part (named_front n) (parts_in (TypeBitmap ∷ [])))
unfolding parts_in
listed_after None = refl
listed_after (Some (name, rest)) =
    tested (is_bitmap rest) (record { next = name; types = rest }) (Plain rest)
    ∙ sym (with_part-keeps (Named name) (parts_in (TypeBitmap ∷ []) rest))

pub nsec_has_shape : (rdata : List ℕ) → is_some (nsec_in rdata) ≡ has_shape 47 rdata
unfolding nsec_in parts_in shape_of
nsec_has_shape rdata = listed_after (name_in rdata)

hashed_after : (rdata salt : List ℕ) (n : Option (List ℕ × List ℕ))
    → is_some (nsec3_from rdata salt n) ≡ is_some (after_part (counted_front n) (parts_in (TypeBitmap ∷ [])))
unfolding parts_in
hashed_after rdata salt None = refl
hashed_after rdata salt (Some (next, types)) =
    tested (is_bitmap types) _ (Plain types) ∙ sym (with_part-keeps (Plain (length next ∷ next)) (parts_in (TypeBitmap ∷ []) types))

salted_after : (rdata : List ℕ) (n : Option (List ℕ × List ℕ))
    → is_some (nsec3_after_salt rdata n) ≡ is_some (after_part (counted_front n) (parts_in (CharacterString ∷ TypeBitmap ∷ [])))
unfolding parts_in
salted_after rdata None = refl
salted_after rdata (Some (salt, rest)) =
    hashed_after rdata salt (counted_in rest)
    ∙ sym (with_part-keeps (Plain (length salt ∷ salt)) (parts_in (CharacterString ∷ TypeBitmap ∷ []) rest))

pub nsec3_has_shape : (rdata : List ℕ) → is_some (nsec3_in rdata) ≡ has_shape 50 rdata
unfolding nsec3_in parts_in shape_of
nsec3_has_shape rdata =
    front _ _ (Plain (take 4 rdata)) (drop 4 rdata) _ (parts_in (CharacterString ∷ CharacterString ∷ TypeBitmap ∷ []))
    (short_or_long (length rdata) 4) (salted_after rdata (counted_in (drop 4 rdata)))

-- no field is left exactly where no byte is
ended : (rest : List ℕ) → (length rest == 0) ≡ is_some (parts_in [] rest)
unfolding parts_in
ended [] = refl
ended (byte ∷ rest) = grind (arith)

of_twenty : (n : ℕ) → (n == 20) ≡ (nat_le 20 n && (n - 20 == 0))
of_twenty n = grind (arith)

some_if : {X : Type 0} (b : Bool) (x : X) → is_some (if b then Some x else None) ≡ b
some_if true x = refl
some_if false x = refl

after_if : (b : Bool) (p : Part) (rest : List ℕ) (more : List ℕ → Option (List Part))
    → is_some (after_part (if b then Some (p, rest) else None) more) ≡ b && is_some (more rest)
after_if true p rest more = with_part-keeps p (more rest)
after_if false p rest more = refl

twenty_after : (mname rname : Labels) (rest : List ℕ) → is_some (soa_numbers mname rname rest) ≡ is_some (parts_in (Octets 20 ∷ []) rest)
unfolding parts_in
twenty_after mname rname rest =
    some_if (length rest == 20) _ ∙ of_twenty (length rest)
    ∙ ap (λ n. nat_le 20 (length rest) && (n == 0)) (sym (length-drop 20 rest))
    ∙ ap (λ b. nat_le 20 (length rest) && b) (ended (drop 20 rest))
    ∙ sym (after_if (nat_le 20 (length rest)) (Plain (take 20 rest)) (drop 20 rest) (parts_in []))

abbrev soa_after_mname : Labels → Option (Labels × List ℕ) → Option SoaValue
soa_after_mname mname rname = rname >>= λ n. soa_numbers mname n.0 n.1

abbrev soa_from : Option (Labels × List ℕ) → Option SoaValue
soa_from mname = mname >>= λ n. soa_after_mname n.0 (name_in n.1)

mailbox_after : (mname : Labels) (n : Option (Labels × List ℕ))
    → is_some (soa_after_mname mname n) ≡ is_some (after_part (named_front n) (parts_in (Octets 20 ∷ [])))
unfolding parts_in
mailbox_after mname None = refl
mailbox_after mname (Some (rname, rest)) = twenty_after mname rname rest
    ∙ sym (with_part-keeps (Named rname) (parts_in (Octets 20 ∷ []) rest))

master_after : (n : Option (Labels × List ℕ))
    → is_some (soa_from n) ≡ is_some (after_part (named_front n) (parts_in (DomainName ∷ Octets 20 ∷ [])))
unfolding parts_in
master_after None = refl
master_after (Some (mname, rest)) =
    mailbox_after mname (name_in rest) ∙ sym (with_part-keeps (Named mname) (parts_in (DomainName ∷ Octets 20 ∷ []) rest))

pub soa_has_shape : (rdata : List ℕ) → is_some (soa_in rdata) ≡ has_shape 6 rdata
unfolding soa_in parts_in shape_of
soa_has_shape rdata = master_after (name_in rdata)

target_after : (n : Option (Labels × List ℕ)) → is_some (whole_name n) ≡ is_some (after_part (named_front n) (parts_in []))
unfolding parts_in
target_after None = refl
target_after (Some (name, [])) = refl
target_after (Some (name, byte ∷ rest)) = refl

pub ns_has_shape : (rdata : List ℕ) → is_some (ns_in rdata) ≡ has_shape 2 rdata
unfolding ns_in parts_in shape_of
ns_has_shape rdata = target_after (name_in rdata)
