use Rattle.std.proofs.Common.{◌≡◌, ◌≤◌, false, List, string_capacity}
use Rattle.posting_core.specs.declared.entry.Entry.{Entry}
use Rattle.hub_core.specs.declared.hub.answer.Arrival.{Arrival}
use Rattle.hub_core.specs.declared.line.wording.TheConstants.{REPLY_ROOM}
use Rattle.hub_core.specs.StandsFor.{StandsFor}
use Rattle.hub_core.proofs.ReplayLemmas.{UnderWatch}
use Rattle.hub_core.proofs.stream.lines.answer_lines.Given as goal

abbrev pub invariant-loop-number : goal.invariant-loop-number
invariant-loop-number g l = record {
  up : l.hub.down ≡ false;
  museum : l.hub.book.museum ≡ l.fn.hub.book.museum;
  depth : l.hub.book.depth ≡ l.fn.hub.book.depth;
  count : g.S.Register.refusals l.hub.register ≡ g.S.Register.refusals l.fn.hub.register;
  room : REPLY_ROOM ≤ string_capacity l.text;
  reads : l.reads.left ≤ l.fn.reads.left;
  watched : (O : List Entry) (A : List Arrival) → StandsFor g.S.Register.holding l.fn.hub O A →
      UnderWatch l.fn.hub.book.museum l.fn.hub.book.depth O A (g.R.Read.remaining l.fn.input)
      (g.R.Read.remaining l.input) (g.W.Write.contents l.fn.output)
      (g.W.Write.contents l.output) g.S.Register.holding l.hub l.number
      (g.V.Watch.has_seen l.fn.watch) (g.V.Watch.has_seen l.watch);
}
