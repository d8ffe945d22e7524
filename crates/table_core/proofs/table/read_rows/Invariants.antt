use Rattle.std.proofs.Common.{◌≡◌, ◌+◌, ◌++◌, drop}
use Rattle.table_core.specs.Tables.{texts_of}
use Rattle.table_core.specs.TableRows.{faults_from, lines_from}
use Rattle.table_core.proofs.table.read_rows.Given as goal

-- the lines and faults so far, and those to come
abbrev pub invariant-loop-i : goal.invariant-loop-i
invariant-loop-i l = record {
  lines : l.lines.items
      ++ lines_from l.options l.words (l.i + 2) l.next (texts_of (drop l.i l.rows))
      ≡ lines_from l.options l.words 2 l.options.first (texts_of l.rows);
  faults : l.faults.items
      ++ faults_from l.options l.words (l.i + 2) l.next (texts_of (drop l.i l.rows))
      ≡ faults_from l.options l.words 2 l.options.first (texts_of l.rows);
}
