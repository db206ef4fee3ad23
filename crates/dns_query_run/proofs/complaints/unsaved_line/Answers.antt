use Rattle.std.proofs.Common.{◌∙◌, ◌++◌, ap}
use Rattle.std.proofs.lemmas.Result.{IfOk-weaker}
use Rattle.std.specs.Prelude.{codes}
use Rattle.dns_query_run.specs.Complaints.{complaint}
use Rattle.dns_query_run.proofs.complaints.unsaved_line.Goals as goal

pub returns : goal.returns
returns c =
    IfOk-weaker c.two_part_line.result _ _
    (λ v line. line ∙ ap (λ w. complaint (codes "the session isn't saved: " ++ w)) c.unsaved_words.ensures)
    c.two_part_line.ensures
