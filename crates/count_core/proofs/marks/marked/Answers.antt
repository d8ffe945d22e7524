use Rattle.std.proofs.Common.{map, [], ◌∷◌, ◌++◌, sym, ap, ◌∙◌, arith}
use Rattle.std.proofs.lemmas.List.FromFn.{map-range_with_len_more}
use Rattle.std.specs.List.{range_with_len}
use Rattle.count_core.specs.declared.answer.CountAnswer.{CountAnswer}
use Rattle.count_core.specs.Counts.{answer_at}
use Rattle.count_core.proofs.RowMarks.{said_at, looked_length}
use Rattle.count_core.proofs.marks.marked.Goals as goal

pub looked_in-first-requires : goal.looked_in-first-requires
looked_in-first-requires c = omega (
  arith,
  c.loop-i-test.true,
  looked_length c.args.ledger.now c.args.rows.now c.args.looked.now c.requires,
)

pub loop-i-preserved : goal.loop-i-preserved
loop-i-preserved c =
    let inv = c.loop-i.invariant in
    let said = said_at c.args.ledger.now c.args.rows.now c.args.looked.now c.loop-i.i
    c.loop-i.flags.items c.looked_in-first.result inv.flags
    (omega (arith, c.loop-i-test.true)) c.requires c.looked_in-first.ensures in
    let u = c.marked_one-answer.ensures in
    record {
      done = c.in_ok-push.ensures.items ∙ (ap (λ xs. xs ++ c.marked_one-answer.result ∷ []) inv.done
          ∙ (ap (λ (a : CountAnswer). map (answer_at c.args.ledger.now c.args.rows.now)
          (range_with_len 0 c.loop-i.i) ++ a ∷ []) (u.answer ∙ said.0)
          ∙ sym (map-range_with_len_more (answer_at c.args.ledger.now c.args.rows.now) 0 c.loop-i.i
          c.loop-i.i (omega arith))));
      flags = rw u.flags said.1;
    }
