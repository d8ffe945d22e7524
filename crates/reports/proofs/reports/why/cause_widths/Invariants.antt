use Rattle.std.proofs.Common.{◌≡◌, length, map, take}
use Rattle.std.specs.List.{flat_map}
use Rattle.posting_core.specs.Past.{upto}
use Rattle.reports.specs.declared.form.Form.TheVariants as form
use Rattle.reports.specs.Aligned.{column_widths, row_texts, wider, width}
use Rattle.reports.specs.Causes.{cause_rows_at}
use Rattle.reports.proofs.EachRows.{each}
use Rattle.reports.proofs.reports.why.cause_widths.Given as goal

abbrev pub invariant-loop-i : goal.invariant-loop-i
invariant-loop-i l =
    (l.before ≡ upto l.ledger l.i)
    × (l.widths.items ≡ wider (map width (map (λ n. n.now) l.names))
    (column_widths (flat_map (map row_texts)
    (take l.i (each (cause_rows_at l.ledger form.Table l.asked) (length l.ledger.posted))))))
