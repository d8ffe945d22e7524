use Rattle.register_sql.proofs.Agrees.{found_spots, found_lines, found_terms}
use Rattle.register_sql.proofs.Postings.{if_ok}
use Rattle.register_sql.proofs.agree.compare_read.Goals as goal

pub returns-clause-told : goal.returns-clause-told
returns-clause-told c =
    if_ok c.are_rows-answer.result
    (λ same told d found. told d (found_spots c.in_ok-kept.kept.items c.args.spots.now d.spots
    c.in_ok-kept.ensures.read found.spots)
    (found_lines c.in_ok-kept_lines.kept_lines.entries c.args.lines.now d.lines
    c.in_ok-kept_lines.ensures.read found.lines)
    (found_terms c.in_ok-kept_terms.kept_terms.entries c.args.terms.now d.terms
    c.in_ok-kept_terms.ensures.read found.terms)) c.are_rows-answer.ensures.told
