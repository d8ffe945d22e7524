use Rattle.std.proofs.Common.{◌≡◌, false, List}
use Rattle.posting_core.specs.declared.entry.Entry.{Entry}
use Rattle.hub_core.specs.declared.hub.answer.Arrival.{Arrival}
use Rattle.hub_core.specs.StandsFor.{StandsFor}
use Rattle.desk_core.specs.Logs.{log_of}
use Rattle.desk_core.proofs.SessionLemmas.{SoFar}
use Rattle.desk_core.proofs.session.run_desk.Given as goal

abbrev pub invariant-loop-number : goal.invariant-loop-number
invariant-loop-number g l = record {
  up : l.hub.down ≡ false;
  museum : l.hub.book.museum ≡ l.fn.hub.book.museum;
  depth : l.hub.book.depth ≡ l.fn.hub.book.depth;
  so_far : (O : List Entry) (A : List Arrival) → StandsFor g.S.Register.holding l.fn.hub O A →
      SoFar l.fn.hub.book.museum l.fn.hub.book.depth O A g.Q.Questions.asks l.fn.bench l.fn.desk
      (g.R.Read.remaining l.fn.input) (g.R.Read.remaining l.input)
      (g.W.Write.contents l.fn.output) (g.W.Write.contents l.output)
      (log_of g.L.Write.contents l.fn.log) (log_of g.L.Write.contents l.log)
      g.S.Register.holding l.hub l.desk l.number;
}
