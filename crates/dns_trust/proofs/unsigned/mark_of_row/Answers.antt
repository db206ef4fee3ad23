use Rattle.std.proofs.Common.{◌≡◌, ◌⊎◌, inl, inr, sym, ◌∙◌}
use Rattle.dns_model.specs.declared.proof.Proof.TheVariants.{Insecure, Bogus}
use Rattle.dns_rules.specs.Delegations.{ZoneVerdict}
use Rattle.dns_rules.specs.Unsigned.{unsigned_mark}
use Rattle.dns_trust.specs.declared.zone_rows.ZoneRow.{ZoneRow}
use Rattle.dns_trust.specs.declared.zone_rows.ZoneRow.TheVariants.{Unanswered, Signed, Unsupported, ShownAbsent, NotShown}
use Rattle.dns_trust.specs.ZoneRows.{row_of}
use Rattle.dns_trust.proofs.ByRow.{row_mark}
use Rattle.dns_trust.proofs.unsigned.mark_of_row.Goals as goal

insecure_by : (row : ZoneRow) (verdict : ZoneVerdict) → (row ≡ Unsupported) ⊎ (row ≡ ShownAbsent) → row ≡ row_of verdict
    → Insecure ≡ (unsigned_mark verdict).mark
insecure_by row verdict (inl h) is = row_mark Unsupported verdict (sym h ∙ is)
insecure_by row verdict (inr h) is = row_mark ShownAbsent verdict (sym h ∙ is)

bogus_by : (row : ZoneRow) (verdict : ZoneVerdict) → (row ≡ Unanswered) ⊎ ((row ≡ Signed) ⊎ (row ≡ NotShown)) → row ≡ row_of verdict
    → Bogus ≡ (unsigned_mark verdict).mark
bogus_by row verdict (inl h) is = row_mark Unanswered verdict (sym h ∙ is)
bogus_by row verdict (inr (inl h)) is = row_mark Signed verdict (sym h ∙ is)
bogus_by row verdict (inr (inr h)) is = row_mark NotShown verdict (sym h ∙ is)

pub returns-in-Unsupported : goal.returns-in-Unsupported
returns-in-Unsupported c verdict is = insecure_by c.args.row verdict c.in-Unsupported.is is

pub returns-in-Unanswered : goal.returns-in-Unanswered
returns-in-Unanswered c verdict is = bogus_by c.args.row verdict c.in-Unanswered.is is
