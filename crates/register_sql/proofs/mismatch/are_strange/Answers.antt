use Rattle.std.proofs.Common.{ap, ◌∙◌, rules}
use Rattle.std.proofs.lemmas.Bool.Decides.{not_from_Decides}
use Rattle.register_store.specs.Plain.{held_lines, term_rows}
use Rattle.register_sql.proofs.Stranger.{strange_spots, strange_lines, strange_terms, spots_told}
use Rattle.register_sql.proofs.Stranger.{lines_told, all_told}
use Rattle.register_sql.proofs.mismatch.are_strange.Goals as goal

pub returns-then-has_strange_spot-clause-told : goal.returns-then-has_strange_spot-clause-told
returns-then-has_strange_spot-clause-told c =
    spots_told c.args.ledger.now.museum c.args.ledger.now.posted c.deref.result.now c.args.spots.now
    c.args.lines.now c.args.terms.now (c.deref.ensures.value ∙ c.in_ok-wanted_spots.ensures)
    (c.has_strange_spot.ensures.0 (search rules))

pub returns-then-has_strange_spot-clause-strange : goal.returns-then-has_strange_spot-clause-strange
returns-then-has_strange_spot-clause-strange c = λ _.
    strange_spots c.args.ledger.now.museum c.args.ledger.now.posted c.deref.result.now
    c.args.spots.now c.args.lines.now c.args.terms.now
    (c.deref.ensures.value ∙ c.in_ok-wanted_spots.ensures)
    (c.has_strange_spot.ensures.0 (search rules))

pub returns-then-has_strange_line-clause-told : goal.returns-then-has_strange_line-clause-told
returns-then-has_strange_line-clause-told c =
    lines_told c.args.ledger.now.museum c.args.ledger.now.posted c.deref-2.result.now
    c.args.spots.now c.args.lines.now c.args.terms.now
    (ap held_lines c.deref-2.ensures.value ∙ c.in_ok-wanted_lines.ensures)
    (c.has_strange_line.ensures.0 (search rules))

pub returns-then-has_strange_line-clause-strange : goal.returns-then-has_strange_line-clause-strange
returns-then-has_strange_line-clause-strange c = λ _.
    strange_lines c.args.ledger.now.museum c.args.ledger.now.posted c.deref-2.result.now
    c.args.spots.now c.args.lines.now c.args.terms.now
    (ap held_lines c.deref-2.ensures.value ∙ c.in_ok-wanted_lines.ensures)
    (c.has_strange_line.ensures.0 (search rules))

pub returns-clause-told : goal.returns-clause-told
returns-clause-told c =
    all_told c.args.ledger.now.museum c.args.ledger.now.posted c.deref.result.now
    c.deref-2.result.now c.deref-3.result.now c.args.spots.now c.args.lines.now c.args.terms.now
    c.has_strange_term.result
    (c.deref.ensures.value ∙ c.in_ok-wanted_spots.ensures)
    (ap held_lines c.deref-2.ensures.value ∙ c.in_ok-wanted_lines.ensures)
    (ap term_rows c.deref-3.ensures.value ∙ c.in_ok-wanted_terms.ensures)
    (not_from_Decides _ c.has_strange_spot.ensures (search rules))
    (not_from_Decides _ c.has_strange_line.ensures (search rules)) c.has_strange_term.ensures

pub returns-clause-strange : goal.returns-clause-strange
returns-clause-strange c = λ is.
    strange_terms c.args.ledger.now.museum c.args.ledger.now.posted c.deref-3.result.now
    c.args.spots.now c.args.lines.now c.args.terms.now
    (ap term_rows c.deref-3.ensures.value ∙ c.in_ok-wanted_terms.ensures)
    (c.has_strange_term.ensures.0 is)
