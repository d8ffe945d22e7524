use Rattle.std.proofs.Common.{◌∙◌, ap, subst, sym}
use Rattle.std.specs.Prelude.{MatchResult}
use Rattle.table_core.specs.Tables.{Texts, IsTable, IsTableFault, texts_of}
use Rattle.table_core.specs.SheetLines.{coded_rows}
use Rattle.table_core.proofs.Uncoded.{rows_uncoded}
use Rattle.table_core.proofs.printed.sheet_lines.read_coded.Goals as goal

pub returns-then-is_empty : goal.returns-then-is_empty
returns-then-is_empty c =
    let options = c.args.options.now in
    let rows = texts_of c.args.rows.now in
    subst (λ (R : Texts).
    MatchResult c.read_table.result (IsTable options R) (IsTableFault options R))
    (sym (ap (λ ls. coded_rows ls rows) c.if-is_empty.ensures ∙ rows_uncoded rows))
    c.read_table.ensures.exact
