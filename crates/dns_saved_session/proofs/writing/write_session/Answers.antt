use Rattle.std.proofs.Common.{◌++◌, ap, ◌∙◌}
use Rattle.dns_session.specs.Grammar.{session_of}
use Rattle.dns_saved_session.specs.SavedText.{saved_text}
use Rattle.dns_saved_session.proofs.SavedLaw.{saved_is_read}
use Rattle.dns_saved_session.proofs.writing.write_session.Goals as goal

pub returns-clause-reads : goal.returns-clause-reads
returns-clause-reads c =
    ap session_of (c.in_ok-push_saved.ensures.ok ∙ ap (λ t. t ++ saved_text c.args.saved.now) c.new-text.ensures.items)
    ∙ saved_is_read c.args.saved.now c.in_ok-push_saved.ensures.fits
