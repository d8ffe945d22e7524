use Rattle.std.proofs.Common.{◌≡◌, string_bytes, take}
use Rattle.table_core.specs.LineTexts.{EachReadsAs, lines_text}
use Rattle.table_core.proofs.printed.line_texts.lines_text.Given as goal

-- the lines so far
abbrev pub invariant-loop-line : goal.invariant-loop-line
invariant-loop-line l = record {
  text : string_bytes l.text ≡ lines_text l.station (take l.line-index l.lines);
  read_back : EachReadsAs l.station (take l.line-index l.lines);
}
