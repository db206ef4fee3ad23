-- Records and questions that were read are read again where they are written.
use Rattle.std.proofs.Common.{◌≡◌, ℕ, zero, suc, ◌+◌, ◌*◌, ◌/◌, ◌%◌, ◌^◌, ◌≤◌, ◌<◌, Bool, true, false, ◌&&◌, cond, List, [], ◌∷◌, ◌++◌, length, Option, None, Some, Result, Ok, Err, refl, sym, ap, ◌∙◌, subst, arith, length-append}
use Rattle.std.specs.Prelude.{nat_lt, ◌==◌, not, IfSome}
use Rattle.std.specs.List.{flat_map, AllByRecursion}
use Rattle.std.proofs.lemmas.Bool.Decides.{nat_tests}
use Rattle.std.proofs.lemmas.Nat.{pow_pos}
use Rattle.std.proofs.lemmas.Nat.Bits.{and_pow}
use Rattle.std.proofs.lemmas.List.{append-nil}
use Rattle.std.proofs.lemmas.List.Concat.{flat_map-cons}
use Rattle.dns_model.specs.Names.{Labels, wire, is_name}
use Rattle.dns_model.specs.Bytes.{u32_at, u16_bytes, u32_bytes, has_flag}
use Rattle.dns_model.specs.Types.{type_opt}
use Rattle.dns_model.specs.Records.{Rr, EdnsValue}
use Rattle.dns_model.specs.declared.proof.Proof.{Proof}
use Rattle.dns_model.specs.declared.proof.Proof.TheVariants.{Indeterminate}
use Rattle.dns_message.specs.declared.decode_error.DecodeError.{DecodeError}
use Rattle.dns_message.specs.declared.decode_error.DecodeKind.TheVariants.{Short, BadOpt}
use Rattle.dns_message.specs.declared.item.Item.{Item}
use Rattle.dns_message.specs.declared.item.Item.TheVariants as item
use Rattle.dns_message.specs.Reading.{fault, u16_field, u32_field}
use Rattle.dns_message.specs.NameAt.{name_at}
use Rattle.dns_message.specs.RdataAt.{rdata_at, opaque_at}
use Rattle.dns_message.specs.RecordAt.{record_at, edns_of, opt_at, is_root, item_at, Listed, with_item, allow_opt_after, section_at}
use Rattle.dns_message.specs.WrittenAs.{AreBytes, flag_bit, record_bytes, opt_ttl, opt_bytes, edns_bytes, edns_count}
use Rattle.dns_message.proofs.RecordReading.{bind_ok, is_kept, record_kept, with_front, section_start}
use Rattle.dns_message.proofs.NameWriting.{name_good, name_again, first_of_ok}
use Rattle.dns_message.proofs.RdataWriting.{IsRdataAgain, rdata_again}
use Rattle.dns_message.proofs.Standing.{Stands, stands_front, stands_back, stands_inside, stands_range, stands_u16, stands_u32}

-- a record that is read again
pub record IsRecordAgain (r : Rr) : Type 0 where
  pub name : is_name r.owner ≡ true
  pub other : (r.rtype == type_opt) ≡ false
  pub mark : r.proof ≡ Indeterminate
  pub rdata : IsRdataAgain r.rtype r.class r.rdata

same_kept : (a b : Rr) (m n : ℕ) → (let r : Result (Item × ℕ) DecodeError = Ok (item.Kept a, m) in r) ≡ Ok (item.Kept b, n) → a ≡ b
same_kept a b m n h = let e : item.Kept a ≡ item.Kept b = first_of_ok h in cc

record_good : (owner : Labels) (rtype : ℕ) (bytes : List ℕ) (pos : ℕ) (r : Rr) (next : ℕ) → is_name owner ≡ true
    → (rtype == type_opt) ≡ false
    → record_at owner rtype bytes pos ≡ Ok (item.Kept r, next) → IsRecordAgain r
unfolding record_at
record_good owner rtype bytes pos r next name other e =
    let a = bind_ok (u16_field bytes pos) _ (item.Kept r, next) e in
    let b = bind_ok (u32_field bytes a.0.1) _ (item.Kept r, next) a.2 in
    let c = bind_ok (u16_field bytes b.0.1) _ (item.Kept r, next) b.2 in
    let d = bind_ok (rdata_at rtype a.0.0 bytes c.0.0 c.0.1) _ (item.Kept r, next) c.2 in
    let made : Rr = record { owner = owner; rtype = rtype; class = a.0.0; ttl = b.0.0; rdata = d.0; proof = Indeterminate } in
    let same : made ≡ r = same_kept made r (c.0.1 + c.0.0) next d.2 in
    subst IsRecordAgain same (record { name = name; other = other; mark = refl; rdata = rdata_again rtype a.0.0 bytes c.0.0 c.0.1 d.0 d.1 })

-- an OPT that is read again
pub record IsOptAgain (e : EdnsValue) (code : ℕ) : Type 0 where
  pub version : e.version < 256
  pub flags : e.flags < 32768
  pub upper : code < 256

opt_not_kept : (bytes : List ℕ) (pos : ℕ) (x : Item × ℕ) → opt_at bytes pos ≡ Ok x → is_kept x.0 ≡ false
unfolding opt_at
opt_not_kept bytes pos x e =
    let a = bind_ok (u16_field bytes pos) _ x e in
    let b = bind_ok (u32_field bytes a.0.1) _ x a.2 in
    let c = bind_ok (u16_field bytes b.0.1) _ x b.2 in
    let d = bind_ok (opaque_at bytes c.0.0 c.0.1) _ x c.2 in
    let made : Item × ℕ = (item.Opt (edns_of a.0.0 b.0.0 d.0) (b.0.0 / 16777216), c.0.1 + c.0.0) in
    let same : made ≡ x = cc in
    ap (λ (y : Item × ℕ). is_kept y.0) (sym same)

item_cases : (opt allow_opt : Bool) (bytes : List ℕ) (pos : ℕ) (owner : Labels) (rtype at : ℕ) (r : Rr) (next : ℕ)
    → is_name owner ≡ true → (rtype == type_opt) ≡ opt
    → cond {A = Result (Item × ℕ) DecodeError} opt (cond allow_opt (opt_at bytes at) (Err (fault BadOpt pos)))
    (record_at owner rtype bytes at) ≡ Ok (item.Kept r, next) → IsRecordAgain r
item_cases false allow_opt bytes pos owner rtype at r next name other e = record_good owner rtype bytes at r next name other e
item_cases true false bytes pos owner rtype at r next name other e = absurd cc
item_cases true true bytes pos owner rtype at r next name other e = let no = opt_not_kept bytes at (item.Kept r, next) e in absurd cc

item_record : (allow_opt : Bool) (bytes : List ℕ) (pos : ℕ) (r : Rr) (next : ℕ)
    → item_at allow_opt bytes pos ≡ Ok (item.Kept r, next) → IsRecordAgain r
unfolding item_at
item_record allow_opt bytes pos r next e =
    let a = bind_ok (name_at bytes pos) _ (item.Kept r, next) e in
    let b = bind_ok (u16_field bytes a.0.1) _ (item.Kept r, next) a.2 in
    item_cases (b.0.0 == type_opt) (allow_opt && is_root a.0.0) bytes pos a.0.0 b.0.0 b.0.1 r next
    (name_good bytes pos a.0.0 a.0.1 a.1) refl b.2

u32_below_at : (short : Bool) (bytes : List ℕ) (pos : ℕ) (x : ℕ × ℕ) → AreBytes bytes
    → cond {A = Result (ℕ × ℕ) DecodeError} short (Err (fault Short pos)) (Ok (u32_at bytes pos, pos + 4)) ≡ Ok x → x.0 < 4294967296
u32_below_at true bytes pos x fits e = absurd cc
u32_below_at false bytes pos x fits e =
    let same : u32_at bytes pos ≡ x.0 = first_of_ok e in
    omega (arith, same, fits pos, fits (pos + 1), fits (pos + 2), fits (pos + 2 + 1))

u32_below : (bytes : List ℕ) (pos : ℕ) (x : ℕ × ℕ) → AreBytes bytes → u32_field bytes pos ≡ Ok x → x.0 < 4294967296
unfolding u32_field
u32_below bytes pos x fits e = u32_below_at (nat_lt (length bytes) (pos + 4)) bytes pos x fits e

same_opt : (a b : EdnsValue) (c d m n : ℕ) → (let r : Result (Item × ℕ) DecodeError = Ok (item.Opt a c, m) in r) ≡ Ok (item.Opt b d, n)
    → (a ≡ b) × (c ≡ d)
same_opt a b c d m n h = let e : item.Opt a c ≡ item.Opt b d = first_of_ok h in (cc, cc)

opt_good : (bytes : List ℕ) (pos : ℕ) (e : EdnsValue) (code next : ℕ) → AreBytes bytes
    → opt_at bytes pos ≡ Ok (item.Opt e code, next) → IsOptAgain e code
unfolding opt_at
opt_good bytes pos e code next fits h =
    let a = bind_ok (u16_field bytes pos) _ (item.Opt e code, next) h in
    let b = bind_ok (u32_field bytes a.0.1) _ (item.Opt e code, next) a.2 in
    let c = bind_ok (u16_field bytes b.0.1) _ (item.Opt e code, next) b.2 in
    let d = bind_ok (opaque_at bytes c.0.0 c.0.1) _ (item.Opt e code, next) c.2 in
    let same = same_opt (edns_of a.0.0 b.0.0 d.0) e (b.0.0 / 16777216) code (c.0.1 + c.0.0) next d.2 in
    let below = u32_below bytes a.0.1 b.0 fits b.1 in
    let made : IsOptAgain (edns_of a.0.0 b.0.0 d.0) (b.0.0 / 16777216) =
    record { version = omega arith; flags = omega arith; upper = omega (arith, below) } in
    subst (λ (x : EdnsValue). IsOptAgain x code) same.0 (subst (IsOptAgain (edns_of a.0.0 b.0.0 d.0)) same.1 made)

opt_cases : (opt allow_opt : Bool) (bytes : List ℕ) (pos : ℕ) (owner : Labels) (rtype at : ℕ) (e : EdnsValue) (code next : ℕ)
    → AreBytes bytes
    → cond {A = Result (Item × ℕ) DecodeError} opt (cond allow_opt (opt_at bytes at) (Err (fault BadOpt pos)))
    (record_at owner rtype bytes at) ≡ Ok (item.Opt e code, next) → IsOptAgain e code
opt_cases false allow_opt bytes pos owner rtype at e code next fits h = let no =
    record_kept owner rtype bytes at (item.Opt e code, next) h in absurd cc
opt_cases true false bytes pos owner rtype at e code next fits h = absurd cc
opt_cases true true bytes pos owner rtype at e code next fits h = opt_good bytes at e code next fits h

item_opt : (allow_opt : Bool) (bytes : List ℕ) (pos : ℕ) (e : EdnsValue) (code next : ℕ) → AreBytes bytes
    → item_at allow_opt bytes pos ≡ Ok (item.Opt e code, next) → IsOptAgain e code
unfolding item_at
item_opt allow_opt bytes pos e code next fits h =
    let a = bind_ok (name_at bytes pos) _ (item.Opt e code, next) h in
    let b = bind_ok (u16_field bytes a.0.1) _ (item.Opt e code, next) a.2 in
    opt_cases (b.0.0 == type_opt) (allow_opt && is_root a.0.0) bytes pos a.0.0 b.0.0 b.0.1 e code next fits b.2

-- ---- sections that were read

pub record IsSectionAgain (records : List Rr) (opt : Option (EdnsValue × ℕ)) : Type 0 where
  pub each : AllByRecursion IsRecordAgain records
  pub taken : IfSome opt (λ o. IsOptAgain o.0 o.1)

same_listed : (a b : Listed) → (let r : Result Listed DecodeError = Ok a in r) ≡ Ok b → a ≡ b
same_listed a b h = cc

section_more : (it : Item) (r : Result Listed DecodeError) (records : List Rr) (opt : Option (EdnsValue × ℕ)) (next : ℕ)
    → ((k : Rr) → it ≡ item.Kept k → IsRecordAgain k) → ((e : EdnsValue) (c : ℕ) → it ≡ item.Opt e c → IsOptAgain e c)
    → ((rs : List Rr) (o : Option (EdnsValue × ℕ)) (n : ℕ) → r ≡ Ok (rs, o, n) → IsSectionAgain rs o)
    → with_item it r ≡ Ok (records, opt, next) → IsSectionAgain records opt
section_more (item.Kept k) (Err e) records opt next one two more h = absurd cc
section_more (item.Opt e c) (Err d) records opt next one two more h = absurd cc
section_more (item.Kept k) (Ok x) records opt next one two more h =
    let rest = more x.0 x.1 x.2 refl in
    let a : k ∷ x.0 ≡ records = ap (λ (y : Listed). y.0) (same_listed _ _ h) in
    let b : x.1 ≡ opt = ap (λ (y : Listed). y.1) (same_listed _ _ h) in
    record {
      each = subst (AllByRecursion IsRecordAgain) a (one k refl, rest.each);
      taken = subst (λ (o : Option (EdnsValue × ℕ)). IfSome o (λ p. IsOptAgain p.0 p.1)) b rest.taken;
    }
section_more (item.Opt e c) (Ok x) records opt next one two more h =
    let rest = more x.0 x.1 x.2 refl in
    let a : x.0 ≡ records = ap (λ (y : Listed). y.0) (same_listed _ _ h) in
    let b : Some (e, c) ≡ opt = ap (λ (y : Listed). y.1) (same_listed _ _ h) in
    record {
      each = subst (AllByRecursion IsRecordAgain) a rest.each;
      taken = subst (λ (o : Option (EdnsValue × ℕ)). IfSome o (λ p. IsOptAgain p.0 p.1)) b (two e c refl);
    }

pub section_good : (count : ℕ) (allow_opt : Bool) (bytes : List ℕ) (pos : ℕ) (records : List Rr) (opt : Option (EdnsValue × ℕ)) (next : ℕ)
    → AreBytes bytes
    → section_at count allow_opt bytes pos ≡ Ok (records, opt, next) → IsSectionAgain records opt
unfolding section_at
section_good zero allow_opt bytes pos records opt next fits h =
    let same : ([], None, pos) ≡ (records, opt, next) = same_listed _ _ h in
    let a : [] ≡ records = ap (λ (y : Listed). y.0) same in
    let b : None ≡ opt = ap (λ (y : Listed). y.1) same in
    record {
      each = subst (AllByRecursion IsRecordAgain) a tt;
      taken = subst (λ (o : Option (EdnsValue × ℕ)). IfSome o (λ p. IsOptAgain p.0 p.1)) b tt;
    }
section_good (suc count) allow_opt bytes pos records opt next fits h =
    let a = bind_ok (item_at allow_opt bytes pos)
    (λ first. with_item first.0 (section_at count (allow_opt_after first.0 allow_opt) bytes first.1)) (records, opt, next) h in
    section_more a.0.0 (section_at count (allow_opt_after a.0.0 allow_opt) bytes a.0.1) records opt next
    (λ k e. item_record allow_opt bytes pos k a.0.1 (a.1 ∙ ap (λ (i : Item). Ok (i, a.0.1)) e))
    (λ e c f. item_opt allow_opt bytes pos e c a.0.1 fits (a.1 ∙ ap (λ (i : Item). Ok (i, a.0.1)) f))
    (λ rs o n e. section_good count (allow_opt_after a.0.0 allow_opt) bytes a.0.1 rs o n fits e)
    a.2

-- ---- what is written

-- a part stands at a place that is named otherwise
pub stands_at : (bytes : List ℕ) (a b : ℕ) (part : List ℕ) → a ≡ b → Stands bytes a part → Stands bytes b part
stands_at bytes a b part same s = subst (λ (k : ℕ). Stands bytes k part) same s

-- the parts of a record that stands
pub record RecordStands (bytes : List ℕ) (pos : ℕ) (owner : Labels) (rtype class ttl : ℕ) (rdata : List ℕ) : Type 0 where
  pub name_stands : Stands bytes pos (wire owner)
  pub rtype_stands : Stands bytes (pos + length (wire owner)) (u16_bytes rtype)
  pub class_stands : Stands bytes (pos + length (wire owner) + 2) (u16_bytes class)
  pub ttl_stands : Stands bytes (pos + length (wire owner) + 2 + 2) (u32_bytes ttl)
  pub size_stands : Stands bytes (pos + length (wire owner) + 2 + 2 + 4) (u16_bytes (length rdata))
  pub rdata_stands : Stands bytes (pos + length (wire owner) + 2 + 2 + 4 + 2) rdata

pub record_stands : (bytes : List ℕ) (pos : ℕ) (owner : Labels) (rtype class ttl : ℕ) (rdata : List ℕ)
    → Stands bytes pos (wire owner ++ u16_bytes rtype ++ u16_bytes class ++ u32_bytes ttl ++ u16_bytes (length rdata) ++ rdata)
    → RecordStands bytes pos owner rtype class ttl rdata
record_stands bytes pos owner rtype class ttl rdata s =
    let w : List ℕ = wire owner in
    let s5 = stands_front bytes pos (wire owner ++ u16_bytes rtype ++ u16_bytes class ++ u32_bytes ttl
    ++ u16_bytes (length rdata)) rdata s in
    let s4 = stands_front bytes pos (wire owner ++ u16_bytes rtype ++ u16_bytes class ++ u32_bytes ttl) (u16_bytes (length rdata)) s5 in
    let s3 = stands_front bytes pos (wire owner ++ u16_bytes rtype ++ u16_bytes class) (u32_bytes ttl) s4 in
    let s2 = stands_front bytes pos (wire owner ++ u16_bytes rtype) (u16_bytes class) s3 in
    let l2 : length (wire owner ++ u16_bytes rtype) ≡ length (wire owner) + 2 = length-append (wire owner) (u16_bytes rtype) in
    let l3 : length (wire owner ++ u16_bytes rtype ++ u16_bytes class) ≡ length (wire owner ++ u16_bytes rtype) + 2 =
    length-append (wire owner ++ u16_bytes rtype) (u16_bytes class) in
    let l4 : length (wire owner ++ u16_bytes rtype ++ u16_bytes class ++ u32_bytes ttl) ≡ length (wire owner ++ u16_bytes rtype
    ++ u16_bytes class) + 4 =
    length-append (wire owner ++ u16_bytes rtype ++ u16_bytes class) (u32_bytes ttl) in
    let l5 : length (wire owner ++ u16_bytes rtype ++ u16_bytes class ++ u32_bytes ttl ++ u16_bytes (length rdata))
    ≡ length (wire owner ++ u16_bytes rtype ++ u16_bytes class ++ u32_bytes ttl) + 2 =
    length-append (wire owner ++ u16_bytes rtype ++ u16_bytes class ++ u32_bytes ttl) (u16_bytes (length rdata)) in
    record {
      name_stands = stands_front bytes pos (wire owner) (u16_bytes rtype) s2;
      rtype_stands = stands_back bytes pos (wire owner) (u16_bytes rtype) s2;
      class_stands = stands_at bytes _ _ (u16_bytes class) (omega (arith, l2))
          (stands_back bytes pos (wire owner ++ u16_bytes rtype) (u16_bytes class) s3);
      ttl_stands = stands_at bytes _ _ (u32_bytes ttl) (omega (arith, l2, l3))
          (stands_back bytes pos (wire owner ++ u16_bytes rtype ++ u16_bytes class) (u32_bytes ttl) s4);
      size_stands = stands_at bytes _ _ (u16_bytes (length rdata)) (omega (arith, l2, l3, l4))
          (stands_back bytes pos (wire owner ++ u16_bytes rtype ++ u16_bytes class ++ u32_bytes ttl) (u16_bytes (length rdata)) s5);
      rdata_stands = stands_at bytes _ _ rdata (omega (arith, l2, l3, l4, l5))
          (stands_back bytes pos (wire owner ++ u16_bytes rtype ++ u16_bytes class ++ u32_bytes ttl ++ u16_bytes (length rdata)) rdata s);
    }

record_length : (owner : Labels) (rtype class ttl : ℕ) (rdata : List ℕ)
    → length (wire owner ++ u16_bytes rtype ++ u16_bytes class ++ u32_bytes ttl ++ u16_bytes (length rdata) ++ rdata)
    ≡ length (wire owner) + 2 + 2 + 4 + 2 + length rdata
record_length owner rtype class ttl rdata =
    omega (
      arith,
      length-append (wire owner) (u16_bytes rtype),
      length-append (wire owner ++ u16_bytes rtype) (u16_bytes class),
      length-append (wire owner ++ u16_bytes rtype ++ u16_bytes class) (u32_bytes ttl),
      length-append (wire owner ++ u16_bytes rtype ++ u16_bytes class ++ u32_bytes ttl) (u16_bytes (length rdata)),
      length-append (wire owner ++ u16_bytes rtype ++ u16_bytes class ++ u32_bytes ttl ++ u16_bytes (length rdata)) rdata,
    )

-- a record that is written is read
record_again : (r : Rr) (allow_opt : Bool) (bytes : List ℕ) (pos : ℕ) → IsRecordAgain r → Stands bytes pos (record_bytes r)
    → item_at allow_opt bytes pos ≡ Ok (item.Kept r, pos + length (record_bytes r))
unfolding item_at record_at
record_again r allow_opt bytes pos g s =
    let p = record_stands bytes pos r.owner r.rtype r.class r.ttl r.rdata s in
    let name = name_again r.owner bytes pos p.name_stands g.name in
    let rtype = stands_u16 bytes (pos + length (wire r.owner)) r.rtype p.rtype_stands in
    let class = stands_u16 bytes (pos + length (wire r.owner) + 2) r.class p.class_stands in
    let ttl = stands_u32 bytes (pos + length (wire r.owner) + 2 + 2) r.ttl p.ttl_stands in
    let size = stands_u16 bytes (pos + length (wire r.owner) + 2 + 2 + 4) (length r.rdata) p.size_stands in
    let rdata = g.rdata.again bytes (pos + length (wire r.owner) + 2 + 2 + 4 + 2) p.rdata_stands in
    let end : pos + length (wire r.owner) + 2 + 2 + 4 + 2 + length r.rdata ≡ pos + length (record_bytes r) =
    omega (arith, record_length r.owner r.rtype r.class r.ttl r.rdata) in
    rw (
      name,
      rtype,
      g.other,
      class,
      ttl,
      size,
      rdata,
      end,
    ) (ap (λ (m : Proof). Ok (item.Kept (record r { proof = m }), pos + length (record_bytes r))) (sym g.mark))

opaque_again : (bytes : List ℕ) (pos : ℕ) (part : List ℕ) → Stands bytes pos part → opaque_at bytes (length part) pos ≡ Ok part
unfolding opaque_at
opaque_again bytes pos part s =
    let inside = stands_inside bytes pos part s in
    let test : nat_lt (length bytes) (pos + length part) ≡ false = grind (arith, nat_tests, inside) in
    rw (test, stands_range bytes pos part s) refl

flag_where : (bit : ℕ) (flag : Bool) (p : ℕ) → bit ≡ flag_bit flag → 0 < p → not (bit * p == 0) ≡ flag
flag_where bit true p is some = grind (arith, nat_tests)
flag_where bit false p is some = grind (arith, nat_tests)

-- the flag at a place is set exactly where its bit is 1
pub do_flag : (flag : Bool) (n k : ℕ) → n / 2 ^ k % 2 ≡ flag_bit flag → has_flag n (2 ^ k) ≡ flag
do_flag flag n k is = ap (λ x. not (x == 0)) (and_pow n k) ∙ flag_where (n / 2 ^ k % 2) flag (2 ^ k) is (pow_pos k)

pub number_small : (flag : Bool) → flag_bit flag ≤ 1
number_small true = omega arith
number_small false = omega arith

-- the parts of an OPT's ttl
record IsTtl (ttl upper version bit flags : ℕ) : Type 0 where
  upper_is : ttl / 16777216 ≡ upper
  version_is : ttl / 65536 % 256 ≡ version
  bit_is : ttl / 32768 % 2 ≡ bit
  flags_is : ttl % 32768 ≡ flags

ttl_parts : (upper version bit flags : ℕ) → upper < 256 → version < 256 → bit ≤ 1 → flags < 32768
    → IsTtl (upper * 16777216 + version * 65536 + bit * 32768 + flags % 32768) upper version bit flags
ttl_parts upper version bit flags a b c d = record {
  upper_is = omega arith;
  version_is = omega arith;
  bit_is = omega arith;
  flags_is = omega arith;
}

edns_same : (code : ℕ) (e : EdnsValue) → IsOptAgain e (code / 16 % 256) → edns_of e.max_payload (opt_ttl code e) e.options ≡ e
edns_same code e g =
    let p = ttl_parts (code / 16 % 256) e.version (flag_bit e.dnssec_ok) e.flags g.upper g.version (number_small e.dnssec_ok) g.flags in
    let bit = do_flag e.dnssec_ok (opt_ttl code e) 15 p.bit_is in
    ap (λ (v : ℕ). record {
      max_payload = e.max_payload;
      version = v;
      dnssec_ok = has_flag (opt_ttl code e) 0x8000;
      flags = opt_ttl code e % 32768;
      options = e.options;
    }) p.version_is
    ∙ ap (λ (b : Bool). record {
      max_payload = e.max_payload;
      version = e.version;
      dnssec_ok = b;
      flags = opt_ttl code e % 32768;
      options = e.options;
    }) bit
    ∙ ap (λ (f : ℕ). record {
      max_payload = e.max_payload;
      version = e.version;
      dnssec_ok = e.dnssec_ok;
      flags = f;
      options = e.options;
    }) p.flags_is

opt_again : (code : ℕ) (e : EdnsValue) (bytes : List ℕ) (pos : ℕ) → IsOptAgain e (code / 16 % 256) → Stands bytes pos (opt_bytes code e)
    → item_at true bytes pos ≡ Ok (item.Opt e (code / 16 % 256), pos + length (opt_bytes code e))
unfolding item_at opt_at
opt_again code e bytes pos g s =
    let p = record_stands bytes pos [] type_opt e.max_payload (opt_ttl code e) e.options s in
    let name = name_again [] bytes pos p.name_stands refl in
    let rtype = stands_u16 bytes (pos + 1) type_opt p.rtype_stands in
    let payload = stands_u16 bytes (pos + 1 + 2) e.max_payload p.class_stands in
    let ttl = stands_u32 bytes (pos + 1 + 2 + 2) (opt_ttl code e) p.ttl_stands in
    let size = stands_u16 bytes (pos + 1 + 2 + 2 + 4) (length e.options) p.size_stands in
    let options = opaque_again bytes (pos + 1 + 2 + 2 + 4 + 2) e.options p.rdata_stands in
    let t = ttl_parts (code / 16 % 256) e.version (flag_bit e.dnssec_ok) e.flags g.upper g.version (number_small e.dnssec_ok) g.flags in
    let end : pos + 1 + 2 + 2 + 4 + 2 + length e.options ≡ pos + length (opt_bytes code e) =
    omega (arith, record_length [] type_opt e.max_payload (opt_ttl code e) e.options) in
    rw (name, rtype, payload, ttl, size, options, end)
    (ap (λ (x : EdnsValue). Ok (item.Opt x (opt_ttl code e / 16777216), pos + length (opt_bytes code e))) (edns_same code e g)
    ∙ ap (λ (u : ℕ). Ok (item.Opt e u, pos + length (opt_bytes code e))) t.upper_is)

-- ---- sections that are written

front_kept : (r : Rr) (rs : List Rr) (x : Result Listed DecodeError)
    → with_item (item.Kept r) (with_front rs None x) ≡ with_front (r ∷ rs) None x
front_kept r rs (Err e) = refl
front_kept r rs (Ok x) = refl

pub records_again : (rs : List Rr) (more : ℕ) (allow_opt : Bool) (bytes : List ℕ) (pos : ℕ) → AllByRecursion IsRecordAgain rs
    → Stands bytes pos (flat_map record_bytes rs)
    → section_at (length rs + more) allow_opt bytes pos
    ≡ with_front rs None (section_at more allow_opt bytes (pos + length (flat_map record_bytes rs)))
unfolding section_at
records_again [] more allow_opt bytes pos g s =
    let none : 0 + more ≡ more = omega arith in
    let here : pos ≡ pos + 0 = omega arith in
    ap (λ (k : ℕ). section_at k allow_opt bytes pos) none ∙ ap (λ (k : ℕ). section_at more allow_opt bytes k) here
    ∙ sym (section_start [] (section_at more allow_opt bytes (pos + 0)) refl)
records_again (r ∷ rs) more allow_opt bytes pos g s =
    let all : Stands bytes pos (record_bytes r ++ flat_map record_bytes rs) =
    subst (λ (x : List ℕ). Stands bytes pos x) (flat_map-cons record_bytes r rs) s in
    let first = record_again r allow_opt bytes pos g.0 (stands_front bytes pos (record_bytes r) (flat_map record_bytes rs) all) in
    let rest = records_again rs more allow_opt bytes (pos + length (record_bytes r)) g.1
    (stands_back bytes pos (record_bytes r) (flat_map record_bytes rs) all) in
    let count : length (r ∷ rs) + more ≡ suc (length rs + more) = omega arith in
    let end : pos + length (record_bytes r) + length (flat_map record_bytes rs) ≡ pos + length (flat_map record_bytes (r ∷ rs)) =
    omega (arith, ap length (flat_map-cons record_bytes r rs), length-append (record_bytes r) (flat_map record_bytes rs)) in
    ap (λ (k : ℕ). section_at k allow_opt bytes pos) count
    ∙ rw (first, rest) (front_kept r rs
    (section_at more allow_opt bytes (pos + length (record_bytes r) + length (flat_map record_bytes rs))))
    ∙ ap (λ (k : ℕ). with_front (r ∷ rs) None (section_at more allow_opt bytes k)) end

-- a section without an OPT
pub section_again : (rs : List Rr) (allow_opt : Bool) (bytes : List ℕ) (pos : ℕ) → AllByRecursion IsRecordAgain rs
    → Stands bytes pos (flat_map record_bytes rs)
    → section_at (length rs) allow_opt bytes pos ≡ Ok (rs, None, pos + length (flat_map record_bytes rs))
unfolding section_at
section_again rs allow_opt bytes pos g s =
    let count : length rs ≡ length rs + 0 = omega arith in
    ap (λ (k : ℕ). section_at k allow_opt bytes pos) count ∙ records_again rs 0 allow_opt bytes pos g s
    ∙ ap (λ (x : List Rr). Ok (x, None, pos + length (flat_map record_bytes rs))) (append-nil rs)

abbrev pub opt_with : ℕ → Option EdnsValue → Option (EdnsValue × ℕ)
opt_with upper None = None
opt_with upper (Some e) = Some (e, upper)

edns_again : (code : ℕ) (o : Option EdnsValue) (bytes : List ℕ) (pos : ℕ) → IfSome o (λ e. IsOptAgain e (code / 16 % 256))
    → Stands bytes pos (edns_bytes code o)
    → section_at (edns_count o) true bytes pos ≡ Ok ([], opt_with (code / 16 % 256) o, pos + length (edns_bytes code o))
unfolding section_at
edns_again code None bytes pos g s = let here : pos ≡ pos + 0 = omega arith in ap (λ (k : ℕ). Ok ([], None, k)) here
edns_again code (Some e) bytes pos g s = rw (opt_again code e bytes pos g s) refl

-- the additional section, its OPT last
pub additional_again : (code : ℕ) (rs : List Rr) (o : Option EdnsValue) (bytes : List ℕ) (pos : ℕ)
    → AllByRecursion IsRecordAgain rs → IfSome o (λ e. IsOptAgain e (code / 16 % 256))
    → Stands bytes pos (flat_map record_bytes rs) → Stands bytes (pos + length (flat_map record_bytes rs)) (edns_bytes code o)
    → section_at (length rs + edns_count o) true bytes pos ≡ Ok (
      rs,
      opt_with (code / 16 % 256) o,
      pos + length (flat_map record_bytes rs) + length (edns_bytes code o),
    )
additional_again code rs o bytes pos g h s t =
    records_again rs (edns_count o) true bytes pos g s
    ∙ ap (with_front rs None) (edns_again code o bytes (pos + length (flat_map record_bytes rs)) h t)
    ∙ ap (λ (x : List Rr). Ok (x, opt_with (code / 16 % 256) o, pos + length (flat_map record_bytes rs) + length (edns_bytes code o)))
    (append-nil rs)
