use Rattle.std.proofs.Common.{◌≡◌, ◌&&◌, ◌||◌, Bool, true, false, Option, None, List, if◌then◌else◌}
use Rattle.std.proofs.Common.{ap, sym, ◌∙◌, subst, refl}
use Rattle.std.proofs.lemmas.Bool.{false≢true}
use Rattle.nest_core.specs.declared.put.Put.{Put}
use Rattle.nest_core.specs.Museum.{Museum}
use Rattle.nest_core.proofs.Outcomes.{at_err}
use Rattle.posting_core.specs.declared.entry.Entry.{Entry}
use Rattle.posting_core.specs.declared.verdict.Verdict.{Verdict}
use Rattle.posting_core.specs.History.{put_in, takes_along}
use Rattle.posting_core.specs.VerdictNames.{is_applied}
use Rattle.posting_core.specs.Book.{has_lines, asks_lines, verdict_in}
use Rattle.posting_core.proofs.ledger.Ledger.plan.Goals as goal

-- the calls that need memory: for lines, or for the things that a put carries
asked : (a b c d : Bool) → (b && d) ≡ true → (a || (b && (c || d))) ≡ true
asked true b c d e = refl
asked false true true d e = refl
asked false true false d e = e
asked false false c d e = e

asked_lines : (a b c d : Bool) → (b && c) ≡ true → (a || (b && (c || d))) ≡ true
asked_lines true b c d e = refl
asked_lines false true true d e = refl
asked_lines false true false d e = absurd (false≢true e)
asked_lines false false c d e = e

taken : (S : Museum) (P : List Entry) (b : Bool) (put : Option Put)
    → takes_along S P (if b then put else None) ≡ true → (b && takes_along S P put) ≡ true
taken S P true put e = e
taken S P false put e = e

pub returns-in_err-verdict-clause-err : goal.returns-in_err-verdict-clause-err
returns-in_err-verdict-clause-err c =
    at_err c.from_residual.result _ (rw c.in_err-verdict.ensures.err refl)

pub returns-clause-ok : goal.returns-clause-ok
returns-clause-ok c =
    let judged = c.in_ok-verdict.ensures in
    rw (
      c.in_ok-lines.ensures.ok,
      c.in_ok-spots.ensures.ok,
      c.in_ok-carried.ensures.ok,
      judged.loan,
      judged.put,
      judged.verdict,
      c.entry_count-entry.ensures.count,
    ) refl

pub returns-in_err-carried-clause-err : goal.returns-in_err-carried-clause-err
returns-in_err-carried-clause-err c =
    let B = c.args.self.now in
    let m = c.args.message.now in
    let judged = c.in_ok-verdict.ensures in
    let put = judged.put ∙ ap (λ (v : Verdict). if is_applied v then put_in B.museum B.posted m else
    None) judged.verdict in
    at_err c.from_residual-in_err-carried.result _
    (asked (asks_lines B m) (is_applied (verdict_in B m)) (has_lines m)
    (takes_along B.museum B.posted (put_in B.museum B.posted m))
    (taken B.museum B.posted (is_applied (verdict_in B m)) (put_in B.museum B.posted m)
    (subst (λ (p : Option Put). takes_along B.museum B.posted p ≡ true) put
    c.in_err-carried.ensures.err)))

pub returns-in_err-spots-clause-err : goal.returns-in_err-spots-clause-err
returns-in_err-spots-clause-err c =
    let B = c.args.self.now in
    let m = c.args.message.now in
    at_err c.from_residual-in_err-spots.result _
    (asked (asks_lines B m) (is_applied (verdict_in B m)) (has_lines m)
    (takes_along B.museum B.posted (put_in B.museum B.posted m)) c.in_err-spots.ensures.err)

pub returns-in_err-lines-clause-err : goal.returns-in_err-lines-clause-err
returns-in_err-lines-clause-err c =
    let B = c.args.self.now in
    let m = c.args.message.now in
    at_err c.from_residual-in_err-lines.result _
    (asked_lines (asks_lines B m) (is_applied (verdict_in B m)) (has_lines m)
    (takes_along B.museum B.posted (put_in B.museum B.posted m))
    (subst (λ (v : Verdict). (is_applied v && has_lines m) ≡ true) c.in_ok-verdict.ensures.verdict
    c.in_err-lines.ensures.err))
