use Rattle.std.proofs.Common.{◌≡◌, ◌∙◌, None, Option, ℤ, ap, inl, subst}
use Rattle.desk_core.specs.declared.desk.Desk.{Desk}
use Rattle.desk_core.specs.declared.desk.Target.{Target}
use Rattle.desk_core.specs.Logs.{log_of}
use Rattle.desk_core.specs.Sessions.{AfterFault}
use Rattle.work_core.specs.Works.{new_desk}
use Rattle.work_core.proofs.desk.answer.Goals as goal

desk_is : (d : Desk) (day : Option ℤ) → d.target ≡ None → d.day ≡ day → d ≡ new_desk day
desk_is d day none same =
    ap (λ (t : Option Target). record { target = t; day = d.day }) none
    ∙ ap (λ (e : Option ℤ). record { target = None; day = e }) same

pub returns-in-Err-clause-left : goal.returns-in-Err-clause-left
returns-in-Err-clause-left g c = λ O A st.
    let hub = c.args.hub.now in
    let i = g.R.Read.remaining c.args.input.now in
    let i2 = g.R.Read.remaining c.run_desk.new.input in
    let o = g.W.Write.contents c.args.output.now in
    let o2 = g.W.Write.contents c.run_desk.new.output in
    let l = log_of g.L.Write.contents c.args.log.now in
    let l2 = log_of g.L.Write.contents c.run_desk.new.log in
    inl (
      c.in-Err.fault,
      c.from.ensures,
      subst (λ (d : Desk). AfterFault hub.book.museum hub.book.depth O A g.Q.Questions.asks
          c.args.bench.now d i i2 o o2 l l2 g.S.Register.holding c.run_desk.new.hub c.in-Err.fault)
          (desk_is c.new-desk.result c.args.day c.new-desk.ensures.target c.new-desk.ensures.day)
          (c.in-Err.ensures.stopped O A st),
    )
