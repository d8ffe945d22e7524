use Rattle.std.proofs.Common.{[], arith, string_bytes}
use Rattle.table_core.specs.LineTexts.{ReadsAsItself, sent_text}
use Rattle.table_core.proofs.GrowingText.{all_more, grown}
use Rattle.table_core.proofs.printed.line_texts.lines_text.Goals as goal

pub loop-line-preserved : goal.loop-line-preserved
loop-line-preserved c =
    record {
      text = grown (sent_text c.args.station.now) c.args.lines.now c.loop-line.line-index
          c.line-item.result [] (string_bytes c.loop-line.text) _
          (omega (arith, c.loop-line-test.true, c.loop-line.auto.line-index-end)) c.line-item.is
          c.loop-line.invariant.text c.in_ok-add_line.ensures.text;
      read_back = all_more (ReadsAsItself c.args.station.now) c.args.lines.now
          c.loop-line.line-index c.line-item.result
          (omega (arith, c.loop-line-test.true, c.loop-line.auto.line-index-end)) c.line-item.is
          c.loop-line.invariant.read_back c.in_ok-add_line.ensures.read_back;
    }
