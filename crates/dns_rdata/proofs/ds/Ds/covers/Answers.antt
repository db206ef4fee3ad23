use Rattle.std.proofs.Common.{rules, ◌≡◌, None, Some, ◌∙◌}
use Rattle.dns_model.specs.Keys.{bytes_eq}
use Rattle.dns_rdata.specs.declared.digest.DigestType.TheVariants.{Sha1, Sha256, Sha384}
use Rattle.dns_rdata.specs.Covers.{digest_type_of}
use Rattle.dns_rdata.proofs.DigestLemmas.{digest_by, covers_by, covers_none}
use Rattle.dns_rdata.proofs.ds.Ds.covers.Goals as goal

pub returns-in_default : goal.returns-in_default
returns-in_default c =
    let is : digest_type_of c.args.self.now.digest_type ≡ None = search rules in
    covers_none c.args.owner.now c.args.key.now c.args.self.now is

pub returns-in-Sha1 : goal.returns-in-Sha1
returns-in-Sha1 c =
    let is : digest_type_of c.args.self.now.digest_type ≡ Some Sha1 = search rules in
    let same : c.eq.result ≡ bytes_eq (digest_by c.args.owner.now c.args.key.now Sha1) c.args.self.now.digest = search rules in
    same ∙ covers_by c.args.owner.now c.args.key.now c.args.self.now Sha1 is

pub returns-in-Sha256 : goal.returns-in-Sha256
returns-in-Sha256 c =
    let is : digest_type_of c.args.self.now.digest_type ≡ Some Sha256 = search rules in
    let same : c.eq-in-Sha256.result ≡ bytes_eq (digest_by c.args.owner.now c.args.key.now Sha256) c.args.self.now.digest = search rules in
    same ∙ covers_by c.args.owner.now c.args.key.now c.args.self.now Sha256 is

pub returns-in-Sha384 : goal.returns-in-Sha384
returns-in-Sha384 c =
    let is : digest_type_of c.args.self.now.digest_type ≡ Some Sha384 = search rules in
    let same : c.eq-in-Sha384.result ≡ bytes_eq (digest_by c.args.owner.now c.args.key.now Sha384) c.args.self.now.digest = search rules in
    same ∙ covers_by c.args.owner.now c.args.key.now c.args.self.now Sha384 is
