use Rattle.std.proofs.Common.{All, List, subst, sym}
use Rattle.page_core.specs.declared.lines.Line.{Line}
use Rattle.page_core.specs.TreeRows.{IsLineIn}
use Rattle.page_core.proofs.TreeWithin.{tree_within}
use Rattle.page_core.proofs.tree.Tree.find.Goals as goal

pub invariant_of-result : goal.invariant_of-result
invariant_of-result c = record {
  within = subst (λ (lines : List Line). All (IsLineIn c.args.ledger.now.museum) lines)
      (sym c.in_ok-lines.ensures) (tree_within c.args.ledger.now);
  counted = c.in_ok-counts.ensures;
}
