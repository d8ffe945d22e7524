use Rattle.desk_core.proofs.TakeLemmas.{failed, takes_all}
use Rattle.desk_core.proofs.passing.answer_other.Goals as goal

pub returns-in_err-extend_from_slice : goal.returns-in_err-extend_from_slice
returns-in_err-extend_from_slice g c =
    let served = c.in_ok-answer_request.ensures.served in
    failed c.from_residual-in_err-extend_from_slice.result _
    c.from_residual-in_err-extend_from_slice.ensures.1 served.museum served.depth
    (λ O A st. takes_all g.S.Register.holding c.answer_request.new.hub O A _
    (served.reply O A st).1)
