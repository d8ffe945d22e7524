use Rattle.std.proofs.Common.{Some, ap, arith, map, string_bytes, sym, ◌∙◌}
use Rattle.nest_core.proofs.Outcomes.{match_err}
use Rattle.table_core.specs.LabelRows.{texts_of}
use Rattle.table_core.proofs.LabelReading.{fault_here, one_more, texts_at, texts_count}
use Rattle.table_core.proofs.labels.reader.read_rows.Goals as goal

pub loop-i-preserved : goal.loop-i-preserved
loop-i-preserved c =
    let rows = c.args.rows.now in
    let row = c.index-rows-i.result in
    let done = rw (c.as_slice.ensures.value) at c.in_ok-add_row.ensures.ok in
    one_more c.args.setup.now c.args.columns (texts_of rows) c.loop-i.labels c.loop-i.i
    (map string_bytes row.items) (omega (arith, texts_count rows, c.loop-i-test.true))
    (texts_at rows c.loop-i.i row (omega (arith, c.loop-i-test.true)) c.index-rows-i.is)
    c.loop-i.invariant c.add_row.new.labels done.0 done.1

pub returns-in_err-add_row : goal.returns-in_err-add_row
returns-in_err-add_row c =
    let rows = c.args.rows.now in
    let row = c.index-rows-i.result in
    let fails = rw (c.as_slice.ensures.value) at c.in_err-add_row.ensures.fault in
    match_err c.from_residual.result _ _ _ c.from_residual.ensures.1 (λ fault gives. λ other.
    fault_here c.args.setup.now c.args.columns (texts_of rows) c.loop-i.labels c.loop-i.i
    (map string_bytes row.items) (omega (arith, texts_count rows, c.loop-i-test.true))
    (texts_at rows c.loop-i.i row (omega (arith, c.loop-i-test.true)) c.index-rows-i.is)
    c.loop-i.invariant fault (fails (λ e. other (gives ∙ e)) ∙ ap Some (sym gives)))
