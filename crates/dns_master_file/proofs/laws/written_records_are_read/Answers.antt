use Rattle.std.proofs.Common.{◌≡◌, ◌≤◌, ◌<◌, length, true, sym, ap, ◌∙◌, arith}
use Rattle.std.specs.List.{list_all}
use Rattle.dns_model.specs.Bytes.{is_bytes}
use Rattle.dns_model.specs.Names.{Labels, is_name}
use Rattle.dns_model.specs.Records.{Rr}
use Rattle.dns_master_file.proofs.LineLaws.{line_back}
use Rattle.dns_master_file.proofs.laws.written_records_are_read.Goals as goal

pub returns : goal.returns
returns c =
    let view = c._record.view_is in
    let owner = sym (ap (λ (r : Rr). r.owner) view) ∙ sym c.borrowed.ensures in
    let good : is_name c.args._record.now.owner ≡ true = ap is_name owner ∙ c.copy-owner.ensures.name in
    let bytes : list_all is_bytes c.args._record.now.owner ≡ true =
    ap (λ (name : Labels). list_all is_bytes name) owner ∙ c.copy-owner.ensures.bytes in
    let octets = sym (ap (λ (r : Rr). r.rdata) view) ∙ sym c.as_slice.ensures.bytes in
    let below : is_bytes c.args._record.now.rdata ≡ true = ap is_bytes octets ∙ c.known_bytes-rdata.ensures.bytes in
    let size = ap length octets in
    let most = c.as_slice.ensures.short in
    let short : length c.args._record.now.rdata ≤ 65535 = omega (arith, size, most) in
    let ttl_is = ap (λ (r : Rr). r.ttl) view in
    let ttl_same = c.known_u32-ttl.ensures.same in
    let ttl_small = c.known_u32-ttl.ensures.small in
    let ttl : c.args._record.now.ttl < 4294967296 = omega (arith, ttl_is, ttl_same, ttl_small) in
    let class_is = ap (λ (r : Rr). r.class) view in
    let class_same = c.known_u16-class.ensures.same in
    let class_small = c.known_u16-class.ensures.small in
    let class : c.args._record.now.class ≤ 65535 = omega (arith, class_is, class_same, class_small) in
    let kind_is = ap (λ (r : Rr). r.rtype) view in
    let kind_same = c.known_u16-kind.ensures.same in
    let kind_small = c.known_u16-kind.ensures.small in
    let kind : c.args._record.now.rtype ≤ 65535 = omega (arith, kind_is, kind_same, kind_small) in
    line_back c.args._record.now good bytes ttl class kind below short
