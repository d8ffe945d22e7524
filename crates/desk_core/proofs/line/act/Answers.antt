use Rattle.std.proofs.Common.{◌≡◌, ◌∙◌, ◌++◌, ℕ, List, ap, subst}
use Rattle.posting_core.specs.Book.{Book}
use Rattle.hub_core.specs.Requests.{line_in}
use Rattle.desk_core.specs.Answers.{IsAnswer, IsTold, passed_answer}
use Rattle.desk_core.specs.declared.said.Said.TheVariants as says
use Rattle.hub_core.specs.declared.hub.answer.Arrival.{Arrival}
use Rattle.posting_core.specs.declared.entry.Entry.{Entry}
use Rattle.desk_core.proofs.LogLemmas.{log_passed}
use Rattle.desk_core.proofs.TakeLemmas.{book_of, line_not_passed, line_passed}
use Rattle.desk_core.proofs.TakeLemmas.{line_quiet, none_sent, told_here}
use Rattle.desk_core.proofs.line.act.Goals as goal

pub returns-in_ok-tell-in_default : goal.returns-in_ok-tell-in_default
returns-in_ok-tell-in_default g c =
    let hub = c.args.hub.now in
    let bench = c.args.bench.now in
    line_quiet tt c.requires.up
    (λ O A st. (
      told_here hub.book.museum hub.book.depth O A g.Q.Questions.asks bench c.args.number
          c.args.line.now c.args.said _ c.in_default.not-Message c.in_default.not-Line
          (subst (λ (B : Book). IsAnswer g.Q.Questions.asks B bench c.args.line.now c.args.said
          c.tell.new.text.items) (c.ledger.ensures ∙ book_of g.S.Register.holding hub O A st)
          c.in_ok-tell-in_default.ensures),
      none_sent hub.book.museum hub.book.depth O A bench.station c.args.line.now c.args.said
          c.in_default.not-Message c.in_default.not-Line,
    ))

pub returns-in_ok-pass_on-in-Line : goal.returns-in_ok-pass_on-in-Line
returns-in_ok-pass_on-in-Line g c =
    let hub = c.args.hub.now in
    let bench = c.args.bench.now in
    let S = hub.book.museum in
    let depth = hub.book.depth in
    let text = c.pass_on.new.text.items in
    let Passed : List Entry → List Arrival → Type 0 =
    λ O A. text ≡ c.args.text.now.items ++ passed_answer S depth O A bench.station bench.has_bell
    c.args.number (line_in S c.args.line.now) in
    let Told : List Entry → List Arrival → Type 0 =
    λ O A. IsTold S depth O A g.Q.Questions.asks bench c.args.number c.args.line.now says.Line
    text in
    let answers : (O : List Entry) (A : List Arrival) → Passed O A → Told O A =
    λ O A told. told ∙ ap (λ (t : List ℕ). t ++ passed_answer S depth O A bench.station
    bench.has_bell c.args.number (line_in S c.args.line.now)) c.requires.empty in
    rw c.in-Line.is
    (line_passed {IsPassed = Passed} {IsAnswered = Told}
    (λ O A. log_passed S bench.station (line_in S c.args.line.now)) tt tt answers
    c.in_ok-pass_on-in-Line.ensures)

pub returns-in_err-pass_on-in-Line : goal.returns-in_err-pass_on-in-Line
returns-in_err-pass_on-in-Line g c =
    let hub = c.args.hub.now in
    rw c.in-Line.is
    (line_not_passed
    (λ O A. log_passed hub.book.museum c.args.bench.now.station
    (line_in hub.book.museum c.args.line.now)) _ c.from_residual.result
    c.from_residual.ensures.1 c.in_err-pass_on-in-Line.ensures)
