use Rattle.register_sql.proofs.Ascending.{never}
use Rattle.register_sql.proofs.mismatch.is_strange_term.Goals as goal

pub returns-in-Some : goal.returns-in-Some
returns-in-Some c =
    let e = c.in-Some.field-0 in
    never (λ p. p.0 (record { loan = e.0; day = e.1 }) c.in-Some.ensures.fits
    c.in-Some.ensures.read)
