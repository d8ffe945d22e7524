use Rattle.std.proofs.Common.{refl}
use Rattle.line_files.proofs.progress.Progress.of.Goals as goal

pub returns-clause-exact : goal.returns-clause-exact
returns-clause-exact c = λ s them has.
    let last = c.run_of-last.ensures.last s them has in
    let signed = c.run_of-last.ensures.signed s them has in
    rw (c.least_above-resumes.ensures.least, last, signed) refl
