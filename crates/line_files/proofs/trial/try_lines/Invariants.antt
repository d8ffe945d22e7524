use Rattle.std.proofs.Common.{◌≡◌, take}
use Rattle.std.specs.Prelude.{string_bytes}
use Rattle.line_files.specs.Notes.{note_lines, notes}
use Rattle.line_files.specs.Trials.{after_lines}
use Rattle.line_files.proofs.trial.try_lines.Given as goal

-- the record and the notes of the rows so far
abbrev pub invariant-loop-line : goal.invariant-loop-line
invariant-loop-line l = record {
  posted : l.ledger ≡ after_lines l.fn.ledger l.station (take l.line-index l.lines);
  text : string_bytes l.text
      ≡ note_lines l.prefix (notes l.fn.ledger l.station (take l.line-index l.lines));
}
