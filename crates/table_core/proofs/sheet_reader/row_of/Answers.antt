use Rattle.std.proofs.Common.{Some, ap, arith, map, string_bytes, sym, ◌∙◌}
use Rattle.csv.specs.Records.{fields_of}
use Rattle.table_core.proofs.Rows.{fields_more}
use Rattle.table_core.proofs.sheet_reader.row_of.Goals as goal

pub loop-i-preserved : goal.loop-i-preserved
loop-i-preserved c =
    ap (map string_bytes) c.in_ok-push.ensures.items
    ∙ fields_more (fields_of c.args.read.now) c.loop-i.i c.loop-i.row.items c.in_ok-text.text
    (omega (arith, c.len-i-end.ensures, c.loop-i-test.true))
    (c.field.ensures ∙ ap Some (sym c.in_ok-text.ensures.ok)) c.loop-i.invariant
