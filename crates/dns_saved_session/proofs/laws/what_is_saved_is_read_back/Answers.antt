use Rattle.dns_saved_session.proofs.SavedLaw.{saved_is_read}
use Rattle.dns_saved_session.proofs.laws.what_is_saved_is_read_back.Goals as goal

pub returns : goal.returns
returns c = λ s fits. saved_is_read s fits
