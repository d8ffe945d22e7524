use Rattle.line_files.proofs.ReadLines.{as_sent}
use Rattle.line_files.proofs.laws.sent_lines_are_read.Goals as goal

pub returns : goal.returns
returns c = λ S s n station m bytes known reads. as_sent S s n station m bytes known reads
