use Rattle.std.proofs.Common.{◌++◌}
use Rattle.page_core.specs.Pages.{histories, numbers, tree, unplaced}
use Rattle.page_core.proofs.Sections.{first_fails, later_fails, then_rest}
use Rattle.reports.proofs.WrittenSections.{writes_err}
use Rattle.page_core.proofs.page.write_locations.Goals as goal

pub returns-in_err-write_numbers : goal.returns-in_err-write_numbers
returns-in_err-write_numbers g c =
    let B = c.args.ledger.now in
    writes_err _ _ c.from_residual.result _ _ c.from_residual.ensures.1
    (first_fails _ _ (numbers B c.args.on.now) (tree B ++ (unplaced B ++ histories B))
    c.in_err-write_numbers.ensures)

pub returns-in_err-write_tree : goal.returns-in_err-write_tree
returns-in_err-write_tree g c =
    let B = c.args.ledger.now in
    writes_err _ _ c.from_residual-in_err-write_tree.result _ _
    c.from_residual-in_err-write_tree.ensures.1
    (later_fails _ _ _ (numbers B c.args.on.now) (tree B ++ (unplaced B ++ histories B))
    c.in_ok-write_numbers.ensures
    (first_fails _ _ (tree B) (unplaced B ++ histories B) c.in_err-write_tree.ensures))

pub returns-in_err-write_unplaced : goal.returns-in_err-write_unplaced
returns-in_err-write_unplaced g c =
    let B = c.args.ledger.now in
    writes_err _ _ c.from_residual-in_err-write_unplaced.result _ _
    c.from_residual-in_err-write_unplaced.ensures.1
    (later_fails _ _ _ (numbers B c.args.on.now) (tree B ++ (unplaced B ++ histories B))
    c.in_ok-write_numbers.ensures
    (later_fails _ _ _ (tree B) (unplaced B ++ histories B)
    c.in_ok-write_tree.ensures
    (first_fails _ _ (unplaced B) (histories B) c.in_err-write_unplaced.ensures)))

pub returns : goal.returns
returns g c =
    let B = c.args.ledger.now in
    then_rest _ _ _ c.write_histories.result (numbers B c.args.on.now)
    (tree B ++ (unplaced B ++ histories B))
    c.in_ok-write_numbers.ensures
    (then_rest _ _ _ c.write_histories.result (tree B) (unplaced B ++ histories B)
    c.in_ok-write_tree.ensures
    (then_rest _ _ _ c.write_histories.result (unplaced B) (histories B)
    c.in_ok-write_unplaced.ensures
    c.write_histories.ensures))
