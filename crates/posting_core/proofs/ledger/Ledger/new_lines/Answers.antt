use Rattle.std.proofs.Common.{◌∙◌, ap, subst, sym, refl, All, ◌<◌, length}
use Rattle.nest_core.proofs.Outcomes.{at_err}
use Rattle.posting_core.specs.Book.{Book}
use Rattle.posting_core.specs.declared.message.Message.{Message}
use Rattle.posting_core.specs.History.{put_in, carried_with}
use Rattle.posting_core.proofs.Spotted.{carried_within}
use Rattle.posting_core.proofs.ledger.Ledger.new_lines.Goals as goal

pub returns-in-Agree-clause-ok : goal.returns-in-Agree-clause-ok
returns-in-Agree-clause-ok c =
    rw (c.in-Agree.is, ← ap (λ (B : Book). B.museum) c.self.view_is, ← c.as_slice.ensures.codes)
    c.awaited_lines.ensures

pub returns-in-Agree-clause-err : goal.returns-in-Agree-clause-err
returns-in-Agree-clause-err c = at_err c.awaited_lines.result _ (rw c.in-Agree.is refl)

pub lines_across-requires : goal.lines_across-requires
lines_across-requires c =
    let B = c.args.self.now in
    subst (All (λ y. y < length B.museum.things)) (sym c.requires.carried)
    (carried_within B.museum B.posted (put_in B.museum B.posted c.args.message.now))

pub lines_across-requires-in-Return : goal.lines_across-requires-in-Return
lines_across-requires-in-Return c =
    let B = c.args.self.now in
    subst (All (λ y. y < length B.museum.things)) (sym c.requires.carried)
    (carried_within B.museum B.posted (put_in B.museum B.posted c.args.message.now))

pub lines_across-requires-in-Receive : goal.lines_across-requires-in-Receive
lines_across-requires-in-Receive c =
    let B = c.args.self.now in
    subst (All (λ y. y < length B.museum.things)) (sym c.requires.carried)
    (carried_within B.museum B.posted (put_in B.museum B.posted c.args.message.now))

pub returns-in-Exit-clause-err : goal.returns-in-Exit-clause-err
returns-in-Exit-clause-err c = at_err c.lines_across.result _ (rw c.in-Exit.is refl)

pub returns-in-Return-clause-ok : goal.returns-in-Return-clause-ok
returns-in-Return-clause-ok c =
    let B = c.args.self.now in
    let carried = c.requires.carried
    ∙ ap (λ (m : Message). carried_with B.museum B.posted (put_in B.museum B.posted m))
    c.in-Return.is in
    rw (c.in-Return.is, ← carried) c.lines_across-in-Return.ensures

pub returns-in-Return-clause-err : goal.returns-in-Return-clause-err
returns-in-Return-clause-err c = at_err c.lines_across-in-Return.result _ (rw c.in-Return.is refl)

pub returns-in-Receive-clause-ok : goal.returns-in-Receive-clause-ok
returns-in-Receive-clause-ok c =
    let B = c.args.self.now in
    let carried = c.requires.carried
    ∙ ap (λ (m : Message). carried_with B.museum B.posted (put_in B.museum B.posted m))
    c.in-Receive.is in
    rw (c.in-Receive.is, ← carried) c.lines_across-in-Receive.ensures

pub returns-in-Receive-clause-err : goal.returns-in-Receive-clause-err
returns-in-Receive-clause-err c =
    at_err c.lines_across-in-Receive.result _ (rw c.in-Receive.is refl)
