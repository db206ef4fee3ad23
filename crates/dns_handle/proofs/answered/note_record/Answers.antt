use Rattle.std.proofs.Common.{subst, ap}
use Rattle.dns_model.specs.Names.{Labels}
use Rattle.dns_model.specs.Records.{Rr}
use Rattle.dns_handle.specs.AnswerIndex.{Noted}
use Rattle.dns_handle.specs.Responses.{type_any}
use Rattle.dns_handle.proofs.AnswerLemmas.{record_noted}
use Rattle.dns_handle.proofs.answered.note_record.Goals as goal

pub returns : goal.returns
returns c =
    let r : Rr = c.args.next.now in
    let owner = ap (λ (x : Rr). x.owner) c.next.view_is in
    let rtype = ap (λ (x : Rr). x.rtype) c.next.view_is in
    let ByOwner : Labels → Type 0 = λ o. Noted c.args.index.now c.note.new.index o c.next.inside.record_type.0 in
    let first = subst (λ t. Noted c.args.index.now c.note.new.index r.owner t) rtype (subst ByOwner owner c.in_ok-note.ensures) in
    let Any : Labels → Type 0 = λ o. Noted c.note.new.index c.note-2.new.index o type_any in
    record_noted c.args.index.now c.note.new.index c.note-2.new.index r first (subst Any owner c.in_ok-note-2.ensures)
