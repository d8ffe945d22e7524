use Rattle.std.proofs.Common.{◌≡◌, true, subst, rules, inl}
use Rattle.hub_core.specs.declared.hub.answer.Answer.{Answer}
use Rattle.hub_core.specs.Memory.{is_posted}
use Rattle.hub_core.proofs.StandLemmas.{stops_in}
use Rattle.hub_core.proofs.Written.{on_err}
use Rattle.hub_core.proofs.line.reply.scan_reply.Goals as goal

pub returns-in_err-add_answer-in-Ok-clause-served :
    goal.returns-in_err-add_answer-in-Ok-clause-served
returns-in_err-add_answer-in-Ok-clause-served g c = record {
  reply = search rules;
  fault = on_err c.from_residual.result (λ O A st. inl (1, (c.in-Ok.ensures.headline O A st).1));
  up = search rules;
  count = search rules;
  museum = c.arrive.ensures.museum;
  depth = c.arrive.ensures.depth;
}

pub returns-in-Err-clause-served : goal.returns-in-Err-clause-served
returns-in-Err-clause-served g c = record {
  reply = search rules;
  fault = λ O A st. stops_in g.S.Register.holding c.args.hub.now c.arrive.new.self O A
      c.args.arrival st c.in-Err.ensures.fault c.arrive.ensures.museum c.arrive.ensures.depth
      (c.in-Err.ensures.after_fault O A st);
  up = search rules;
  count = search rules;
  museum = c.arrive.ensures.museum;
  depth = c.arrive.ensures.depth;
}

pub returns-in_err-add_answer-in-Ok-clause-fails : goal.returns-in_err-add_answer-in-Ok-clause-fails
returns-in_err-add_answer-in-Ok-clause-fails g c = on_err c.from_residual.result (λ O A st.
    subst (λ (answer : Answer). is_posted answer ≡ true) (c.in-Ok.ensures.headline O A st).0
    (c.in_err-add_answer-in-Ok.ensures.fails c.requires.room))
