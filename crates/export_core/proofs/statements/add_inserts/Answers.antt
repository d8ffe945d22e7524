use Rattle.std.proofs.Common.{◌∙◌, ◌++◌, ap, arith, map, string_bytes, sym}
use Rattle.std.specs.List.{flat_map, range_with_len}
use Rattle.std.proofs.lemmas.List.{append_assoc}
use Rattle.reports.proofs.Ranges.{flat_more}
use Rattle.export_core.specs.Statements.{statement}
use Rattle.export_core.proofs.statements.add_inserts.Goals as goal

pub statement-requires : goal.statement-requires
statement-requires c =
    let count = c.div_ceil-n-end.ensures in omega (arith, count, c.loop-n-test.true)

pub loop-n-preserved : goal.loop-n-preserved
loop-n-preserved c =
    let f = statement c.args.table.now (map string_bytes c.args.rows.now) in
    let n = c.loop-n.n in
    let old = string_bytes c.args.script.now in
    let before = flat_map f (range_with_len 0 n) in
    c.in_ok-push_str.ensures.bytes
    ∙ (ap (λ t. string_bytes c.loop-n.script ++ t) (c.as_str.ensures.value ∙ c.in_ok-sql.ensures)
    ∙ (ap (λ t. t ++ f n) c.loop-n.invariant
    ∙ (append_assoc old before (f n) ∙ ap (λ t. old ++ t) (sym (flat_more f n)))))
