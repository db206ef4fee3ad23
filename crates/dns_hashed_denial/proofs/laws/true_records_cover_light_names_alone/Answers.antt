use Rattle.dns_hashed_denial.proofs.TrueRecords.{covers_light_alone}
use Rattle.dns_hashed_denial.proofs.laws.true_records_cover_light_names_alone.Goals as goal

pub returns : goal.returns
returns c = covers_light_alone
