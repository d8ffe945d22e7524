use Rattle.line_files.proofs.Accounts.{accounted}
use Rattle.line_files.proofs.audits.laws.each_row_is_accounted_for.Goals as goal

pub returns : goal.returns
returns c = λ B rows i row answer at its. accounted B rows i row at answer its
