use Rattle.std.proofs.Common.{refl, sym}
use Rattle.std.proofs.lemmas.List.{length-map}
use Rattle.posting_core.specs.declared.entry.NewLine.{NewLine}
use Rattle.posting_core.proofs.kept_loan.KeptLoan.new.Goals as goal

pub invariant_of-result : goal.invariant_of-result
invariant_of-result c =
    rw (
      c.in_ok-stages.ensures,
      c.in_ok-objects.ensures,
      length-map c.args.lines.now (λ (l : NewLine). l.stage),
    )
    (sym (length-map c.args.lines.now (λ (l : NewLine). l.object)))

pub returns : goal.returns
returns c = rw (c.place_no.ensures, c.in_ok-objects.ensures, c.in_ok-stages.ensures) refl
