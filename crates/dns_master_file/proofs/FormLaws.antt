-- An rdata of any type that is written in its type's form is read as the same bytes.
use Rattle.std.proofs.Common.{◌≡◌, ℕ, true, false, ◌==◌, List, None, Some, refl, sym, ap, ◌∙◌, inl, inr}
use Rattle.std.proofs.lemmas.Bool.{cases_Bool, eqb-true}
use Rattle.dns_model.specs.Bytes.{is_bytes}
use Rattle.dns_presentation.specs.Forms.{Words, form_words}
use Rattle.dns_master_file.specs.Fields.{fields_of}
use Rattle.dns_master_file.specs.declared.field.Field.{Field}
use Rattle.dns_master_file.proofs.DenialLaws.{nsec3_law, nsec_law}
use Rattle.dns_master_file.proofs.SignatureLaws.{rrsig_law}
use Rattle.dns_master_file.proofs.TextTypeLaws.{a_law, aaaa_law, caa_law, txt_law}
use Rattle.dns_master_file.proofs.TypeLaws.{IsReadAs, dnskey_law, ds_law, mx_law, name_law, nsec3param_law, soa_law, srv_law, sshfp_law, tlsa_law}

-- a type's fields are known, and the words are read as the rdata by them
pub record HasForm (rtype : ℕ) (rdata : List ℕ) (words : Words) : Type 0 where
  pub fields : List Field
  pub known : fields_of rtype ≡ Some fields
  pub form : IsReadAs fields rdata words

abbrev HasLaw : List ℕ → Words → ℕ → Type 0
HasLaw rdata words rtype = form_words rtype rdata ≡ Some words → HasForm rtype rdata words

-- the law of one type, by its number
of_type : (rdata : List ℕ) (words : Words) (form : List Field) (rtype number : ℕ) → (rtype == number) ≡ true
    → fields_of number ≡ Some form → (form_words number rdata ≡ Some words → IsReadAs form rdata words)
    → HasLaw rdata words rtype
of_type rdata words form rtype number is table law e =
    let same = eqb-true rtype number is in
    record {
      fields = form;
      known = ap fields_of same ∙ table;
      form = law (ap (λ n. form_words n rdata) (sym same) ∙ e);
    }

-- a type that is this one, or one that is another
type_or : (rdata : List ℕ) (words : Words) (form : List Field) (rtype number : ℕ) → fields_of number ≡ Some form
    → (form_words number rdata ≡ Some words → IsReadAs form rdata words)
    → ((rtype == number) ≡ false → HasLaw rdata words rtype) → HasLaw rdata words rtype
type_or rdata words form rtype number table law others =
    elim (cases_Bool (rtype == number)) [
      | inl is ↦ of_type rdata words form rtype number is table law
      | inr isnt ↦ others isnt
    ]

-- each type that has a form
pub form_law : (rtype : ℕ) (rdata : List ℕ) (words : Words) → is_bytes rdata ≡ true → HasLaw rdata words rtype
unfolding form_words fields_of
form_law rtype rdata words h =
    type_or rdata words _ rtype 1 refl (a_law rdata words h) λ n1.
    type_or rdata words _ rtype 2 refl (name_law rdata words h) λ n2.
    type_or rdata words _ rtype 5 refl (name_law rdata words h) λ n5.
    type_or rdata words _ rtype 12 refl (name_law rdata words h) λ n12.
    type_or rdata words _ rtype 39 refl (name_law rdata words h) λ n39.
    type_or rdata words _ rtype 6 refl (soa_law rdata words h) λ n6.
    type_or rdata words _ rtype 15 refl (mx_law rdata words h) λ n15.
    type_or rdata words _ rtype 16 refl (txt_law rdata words h) λ n16.
    type_or rdata words _ rtype 28 refl (aaaa_law rdata words h) λ n28.
    type_or rdata words _ rtype 33 refl (srv_law rdata words h) λ n33.
    type_or rdata words _ rtype 43 refl (ds_law rdata words h) λ n43.
    type_or rdata words _ rtype 59 refl (ds_law rdata words h) λ n59.
    type_or rdata words _ rtype 44 refl (sshfp_law rdata words h) λ n44.
    type_or rdata words _ rtype 46 refl (rrsig_law rdata words h) λ n46.
    type_or rdata words _ rtype 47 refl (nsec_law rdata words h) λ n47.
    type_or rdata words _ rtype 48 refl (dnskey_law rdata words h) λ n48.
    type_or rdata words _ rtype 60 refl (dnskey_law rdata words h) λ n60.
    type_or rdata words _ rtype 50 refl (nsec3_law rdata words h) λ n50.
    type_or rdata words _ rtype 51 refl (nsec3param_law rdata words h) λ n51.
    type_or rdata words _ rtype 52 refl (tlsa_law rdata words h) λ n52.
    type_or rdata words _ rtype 53 refl (tlsa_law rdata words h) λ n53.
    type_or rdata words _ rtype 257 refl (caa_law rdata words h) λ n257.
    λ e.
    let none : None ≡ Some words =
    rw (
      n1,
      n2,
      n5,
      n12,
      n39,
      n6,
      n15,
      n16,
      n28,
      n33,
      n43,
      n59,
      n44,
      n46,
      n47,
      n48,
      n60,
      n50,
      n51,
      n52,
      n53,
      n257,
    ) at e in cc
