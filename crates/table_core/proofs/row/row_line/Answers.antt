use Rattle.std.proofs.Common.{ℕ, ◌∙◌, [], ◌∷◌, ap, sym}
use Rattle.posting_core.specs.declared.message.Message.{Message}
use Rattle.table_core.specs.declared.row.TableLine.{TableLine}
use Rattle.table_core.specs.Kinds.{kind_named}
use Rattle.table_core.specs.RowCells.{cells_of, order_of}
use Rattle.table_core.specs.TableRows.{row_number}
use Rattle.table_core.proofs.RowFaults.{one_line, right_values, some_kind}
use Rattle.table_core.proofs.row.row_line.Goals as goal

pub message_of-requires : goal.message_of-requires
message_of-requires c =
    let row = c.args.cells.now in
    right_values (order_of row) row.row (cells_of row) c.args.next _ c.requires
    (ap kind_named (sym c.text.ensures) ∙ sym c.in-Some.ensures)

pub unreachable-requires : goal.unreachable-requires
unreachable-requires c =
    let row = c.args.cells.now in
    some_kind (order_of row) row.row (cells_of row) c.args.next c.requires
    (ap kind_named (sym c.text.ensures) ∙ sym c.in-None.ensures)

pub returns : goal.returns
returns c =
    let row = c.args.cells.now in
    let message = c.in_ok-message-in-Some.message in
    ap (λ (n : ℕ). let line : TableLine =
    record { row = row.row; number = n; message = message } in line ∷ [])
    c.row_number-number.ensures
    ∙ ap (λ (m : Message). let line : TableLine =
    record { row = row.row; number = row_number (cells_of row) c.args.next; message = m } in
    line ∷ []) c.in_ok-message-in-Some.ensures
    ∙ sym (one_line (order_of row) row.row (cells_of row) c.args.next _ c.requires
    (ap kind_named (sym c.text.ensures) ∙ sym c.in-Some.ensures))
