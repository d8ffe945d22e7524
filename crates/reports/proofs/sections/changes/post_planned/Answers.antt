use Rattle.std.proofs.Common.{◌≡◌, ◌∙◌, ◌<◌, All, Some, ap, length, option_map, subst, sym}
use Rattle.posting_core.specs.Book.{Book, changes_of}
use Rattle.posting_core.specs.Past.{upto}
use Rattle.reports.proofs.EntrySpots.{spots_in_setup}
use Rattle.reports.proofs.sections.changes.post_planned.Goals as goal

pub returns-clause-changes : goal.returns-clause-changes
returns-clause-changes c =
    let L = c.args.ledger.now in
    let planned : c.in_ok-changes.changes
    ≡ changes_of (upto L c.args.i) c.entry_at.result.now.message =
    c.in_ok-changes.ensures.ok
    ∙ ap (λ (B : Book). changes_of B c.in_ok-message.message) c.requires.before
    ∙ ap (changes_of (upto L c.args.i)) (c.in_ok-message.ensures ∙ c.message.ensures) in
    ap (option_map (λ e. changes_of (upto L c.args.i) e.message)) c.entry_at.ensures
    ∙ ap Some (sym planned)

pub returns-clause-within : goal.returns-clause-within
returns-clause-within c =
    let L = c.args.ledger.now in
    let n = length L.museum.things in
    subst (λ changes. All (λ s. s.thing < n) changes.spots)
    (sym c.in_ok-changes.ensures.ok)
    (subst (λ (B : Book). All (λ s. s.thing < length B.museum.things)
    (changes_of c.args.so_far.now c.in_ok-message.message).spots) c.requires.before
    (spots_in_setup c.args.so_far.now c.in_ok-message.message))
