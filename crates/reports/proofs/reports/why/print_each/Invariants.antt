use Rattle.std.proofs.Common.{◌≡◌, length, take}
use Rattle.std.specs.Io.KnownBytes.{Appends}
use Rattle.std.specs.List.{flat_map}
use Rattle.posting_core.specs.Past.{upto}
use Rattle.reports.specs.Causes.{cause_rows_at}
use Rattle.reports.specs.Columns.{names_in}
use Rattle.reports.specs.Forms.{lines_text}
use Rattle.reports.proofs.EachRows.{each}
use Rattle.reports.proofs.reports.why.print_each.Given as goal

abbrev pub invariant-loop-i : goal.invariant-loop-i
invariant-loop-i g l =
    (l.before ≡ upto l.ledger l.i)
    × Appends (g.W.Write.contents l.fn.out) (g.W.Write.contents l.out)
    (flat_map (lines_text l.form (names_in l.columns) l.columns.widths.items)
    (take l.i (each (cause_rows_at l.ledger l.form l.asked) (length l.ledger.posted))))
