use Rattle.std.proofs.Common.{◌++◌}
use Rattle.page_core.specs.Pages.{lending, locations, posts}
use Rattle.page_core.proofs.Sections.{first_fails, later_fails, then_rest}
use Rattle.reports.proofs.WrittenSections.{writes_err}
use Rattle.page_core.proofs.page.write_page.Goals as goal

pub returns-in_err-write_locations : goal.returns-in_err-write_locations
returns-in_err-write_locations g c =
    let B = c.args.ledger.now in
    writes_err _ _ c.from_residual.result _ _ c.from_residual.ensures.1
    (first_fails _ _ (locations B c.args.on) (lending B c.args.on ++ posts B)
    c.in_err-write_locations.ensures)

pub returns-in_err-write_lending : goal.returns-in_err-write_lending
returns-in_err-write_lending g c =
    let B = c.args.ledger.now in
    writes_err _ _ c.from_residual-in_err-write_lending.result _ _
    c.from_residual-in_err-write_lending.ensures.1
    (later_fails _ _ _ (locations B c.args.on) (lending B c.args.on ++ posts B)
    c.in_ok-write_locations.ensures
    (first_fails _ _ (lending B c.args.on) (posts B) c.in_err-write_lending.ensures))

pub returns : goal.returns
returns g c =
    let B = c.args.ledger.now in
    then_rest _ _ _ c.write_posts.result (locations B c.args.on) (lending B c.args.on ++ posts B)
    c.in_ok-write_locations.ensures
    (then_rest _ _ _ c.write_posts.result (lending B c.args.on) (posts B)
    c.in_ok-write_lending.ensures
    c.write_posts.ensures)
