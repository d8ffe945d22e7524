use Rattle.std.proofs.Common.{ap, ◌∙◌}
use Rattle.posting_core.specs.Book.{verdict_in}
use Rattle.line_files.proofs.GapLines.{refused, not_applied}
use Rattle.line_files.proofs.gap_laws.gaps_change_nothing.Goals as goal

pub returns-clause-refused : goal.returns-clause-refused
returns-clause-refused c = λ B by free. refused B by free

pub returns-clause-unchanged : goal.returns-clause-unchanged
returns-clause-unchanged c = λ B e by free is judged.
    c.refused_changes_no_answer.ensures B e
    (not_applied e.verdict (judged ∙ (ap (verdict_in B) is ∙ refused B by free)))
