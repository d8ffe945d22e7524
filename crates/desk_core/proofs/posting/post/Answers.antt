use Rattle.std.proofs.Common.{◌∷◌, ◌++◌, ◌∙◌, [], ℕ, List, ap, inr, subst, take}
use Rattle.std.specs.Io.KnownBytes.{Appends}
use Rattle.hub_core.specs.Points.{reply}
use Rattle.hub_core.specs.StandsFor.{StandsFor, TakesSome}
use Rattle.hub_core.proofs.StandLemmas.{stops_in}
use Rattle.hub_core.proofs.Written.{if_err}
use Rattle.posting_core.specs.Book.{Book}
use Rattle.desk_core.specs.declared.line_fault.LineFault.TheVariants.{Hub}
use Rattle.desk_core.specs.Logs.{log_of}
use Rattle.desk_core.proofs.LogLemmas.{own_logged, stops}
use Rattle.desk_core.proofs.posting.post.Goals as goal

pub returns-in_err-log_message-clause-stopped : goal.returns-in_err-log_message-clause-stopped
returns-in_err-log_message-clause-stopped g c =
    let hub = c.args.hub.now in
    let fault = c.in_err-log_message.field-0.0 in
    let museum = c.setup.ensures ∙ ap (λ (B : Book). B.museum) c.ledger.ensures in
    if_err c.from_residual.result _ fault c.from_residual.ensures.1
    (λ O A st.
    let part = c.in_err-log_message.ensures.fault in
    stops _ fault (record {
      k = part.0;
      logged = subst (λ (t : List ℕ). Appends (log_of g.L.Write.contents c.args.log.now)
          (log_of g.L.Write.contents c.log_message.new.log) (take part.0 t))
          (own_logged _ hub.book.museum hub.book.depth O A c.args.station c.args.message
          c.awaited-n.result museum (c.awaited-n.ensures.next O A st c.requires.known)) part.1;
      stands = st;
    }))

pub returns-in_err-answer-clause-stopped : goal.returns-in_err-answer-clause-stopped
returns-in_err-answer-clause-stopped g c =
    let hub = c.args.hub.now in
    let fault = c.in_err-answer.field-0.0 in
    let museum = c.setup.ensures ∙ ap (λ (B : Book). B.museum) c.ledger.ensures in
    if_err c.from_residual-in_err-answer.result _ (Hub fault)
    c.from_residual-in_err-answer.ensures.1
    (λ O A st.
    let n = c.awaited-n.ensures.next O A st c.requires.known in
    inr (record {
      logged = subst (λ (t : List ℕ). Appends (log_of g.L.Write.contents c.args.log.now)
          (log_of g.L.Write.contents c.log_message.new.log) t)
          (own_logged _ hub.book.museum hub.book.depth O A c.args.station c.args.message
          c.awaited-n.result museum n) c.in_ok-log_message.ensures.ok;
      stands = subst (λ k. TakesSome g.S.Register.holding c.arrive.new.self O A (record {
        station = c.args.station;
        n = k;
        message = c.args.message;
      } ∷ [])) n
          (stops_in g.S.Register.holding hub c.arrive.new.self O A _ st
          c.in_err-answer.ensures.fault c.arrive.ensures.museum c.arrive.ensures.depth
          (c.in_err-answer.ensures.after_fault O A st));
    }))

pub returns-clause-posted : goal.returns-clause-posted
returns-clause-posted g c =
    let hub = c.args.hub.now in
    let s = c.args.station in
    let m = c.args.message in
    let museum = c.setup.ensures ∙ ap (λ (B : Book). B.museum) c.ledger.ensures in
    λ O A st.
    let n = c.awaited-n.ensures.next O A st c.requires.known in
    let head = c.in_ok-answer.ensures.headline O A st in (
      n,
      head.0 ∙ ap
          (λ k. reply hub.book.museum hub.book.depth O A
          (record { station = s; n = k; message = m })) n,
      subst (λ k. StandsFor g.S.Register.holding c.arrive.new.self O
          (A ++ record { station = s; n = k; message = m } ∷ [])) n head.1,
      subst (λ (t : List ℕ). Appends (log_of g.L.Write.contents c.args.log.now)
          (log_of g.L.Write.contents c.log_message.new.log) t)
          (own_logged _ hub.book.museum hub.book.depth O A s m c.awaited-n.result museum n)
          c.in_ok-log_message.ensures.ok,
    )
