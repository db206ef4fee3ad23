use Rattle.std.proofs.Common.{[]}
use Rattle.dns_aggressive.specs.Flags.{IsStored}
use Rattle.dns_aggressive.specs.Lists.{kept_after}
use Rattle.dns_aggressive.specs.Taking.{taken}
use Rattle.dns_aggressive.proofs.Learned.{stored_after, stored_none}
use Rattle.dns_aggressive.proofs.Promises.{denial_holds}
use Rattle.dns_deny.specs.DenialLines.{store_of}
use Rattle.dns_deny.proofs.laws.denials_hold.Goals as goal

pub returns : goal.returns
returns c = λ answer moment question.
    let stored : IsStored (kept_after 65536 [] (taken answer moment)) =
    stored_after 65536 [] answer moment stored_none in
    denial_holds (store_of answer moment) question moment stored.plain
