use Rattle.std.proofs.Common.{ℕ, ap, arith, ◌∙◌, ◌+◌, length, map, reverse, List, ◌∷◌, ◌++◌, []}
use Rattle.std.proofs.Common.{sym}
use Rattle.std.specs.Option.{option_to_list}
use Rattle.posting_core.specs.declared.entry.Changes.{Changes}
use Rattle.posting_core.specs.Agreements.{agreement_by}
use Rattle.posting_core.specs.Book.{Book}
use Rattle.std.proofs.lemmas.List.{reverse-append}
use Rattle.nest_core.proofs.Outcomes.{at_err}
use Rattle.posting_core.specs.declared.entry.Entry.{Entry}
use Rattle.posting_core.specs.declared.entry.Spot.{Spot}
use Rattle.posting_core.specs.Rows.{rows_after}
use Rattle.posting_core.proofs.Posted.{planned, planned_within, planned_put, planned_carried}
use Rattle.posting_core.proofs.Posted.{planned_agree, planned_loan, planned_station, kept_still}
use Rattle.posting_core.proofs.Posted.{kept_after}
use Rattle.posting_core.proofs.ledger.Ledger.apply.Goals as goal

pub push_all-requires-clause-within : goal.push_all-requires-clause-within
push_all-requires-clause-within c =
    let is = planned c.self.invariant c.self.view_is c.requires.follows c.requires.planned
    c.as_slice-carried.ensures c.as_slice-spots.ensures c.as_slice-lines.ensures in
    planned_within is _ c.reserve.ensures.rows

pub place-requires-clause-may : goal.place-requires-clause-may
place-requires-clause-may c =
    let is = planned c.self.invariant c.self.view_is c.requires.follows c.requires.planned
    c.as_slice-carried.ensures c.as_slice-spots.ensures c.as_slice-lines.ensures in
    planned_put is

pub place-requires-clause-carried : goal.place-requires-clause-carried
place-requires-clause-carried c =
    let is = planned c.self.invariant c.self.view_is c.requires.follows c.requires.planned
    c.as_slice-carried.ensures c.as_slice-spots.ensures c.as_slice-lines.ensures in
    planned_carried is

pub record-requires-clause-agree : goal.record-requires-clause-agree
record-requires-clause-agree c =
    planned_agree (planned c.self.invariant c.self.view_is c.requires.follows c.requires.planned
    c.as_slice-carried.ensures c.as_slice-spots.ensures c.as_slice-lines.ensures)

pub record-requires-clause-number : goal.record-requires-clause-number
record-requires-clause-number c =
    planned_loan (planned c.self.invariant c.self.view_is c.requires.follows c.requires.planned
    c.as_slice-carried.ensures c.as_slice-spots.ensures c.as_slice-lines.ensures)

pub invariant_of-self-2 : goal.invariant_of-self-2
invariant_of-self-2 c =
    let is = planned c.self.invariant c.self.view_is c.requires.follows c.requires.planned
    c.as_slice-carried.ensures c.as_slice-spots.ensures c.as_slice-lines.ensures in
    let pushed = c.push_reserved.ensures.items in
    kept_after is
    c.in_ok-place.ensures.stands c.in_ok-place.ensures.sized.0 c.in_ok-place.ensures.sized.1
    c.in_ok-place.ensures.sized.2
    (ap reverse (pushed ∙ ap (λ (es : List Entry). es ++ c.in_ok-posted.posted ∷ [])
    c.reserve-2.ensures.items ∙ ap (λ (e : Entry). c.self.inside.posted.items ++ e ∷ [])
    c.in_ok-posted.ensures) ∙ reverse-append c.self.inside.posted.items (c.args.entry.now ∷ []))
    (c.push_all.ensures ∙ ap (λ (rs : List (List Spot)). rows_after rs c.as_slice-spots.result.now)
    c.reserve.ensures.rows)
    c.in_ok-record.ensures.ok
    (c.note_agreement.ensures
    ∙ ap (λ (ns : List ℕ). ns ++ map (λ t. c.args.changes.now.entry)
    (option_to_list (agreement_by c.args.entry.now.verdict c.args.entry.now.message)))
    c.reserve-3.ensures.items
    ∙ ap (λ (n : ℕ). c.self.inside.agreed.items ++ map (λ t. n)
    (option_to_list (agreement_by c.args.entry.now.verdict c.args.entry.now.message)))
    (ap (λ (changes : Changes). changes.entry) c.requires.planned
    ∙ sym (ap (λ (B : Book). length B.posted + 1) c.self.view_is)))
    c.count_entry.ensures

pub count_entry-requires : goal.count_entry-requires
count_entry-requires c =
    let is = planned c.self.invariant c.self.view_is c.requires.follows c.requires.planned
    c.as_slice-carried.ensures c.as_slice-spots.ensures c.as_slice-lines.ensures in
    planned_station is

pub invariant_of-self-in_err-record : goal.invariant_of-self-in_err-record
invariant_of-self-in_err-record c =
    let is = planned c.self.invariant c.self.view_is c.requires.follows c.requires.planned
    c.as_slice-carried.ensures c.as_slice-spots.ensures c.as_slice-lines.ensures in
    kept_still is
    c.in_ok-place.ensures.stands c.in_ok-place.ensures.sized.0 c.in_ok-place.ensures.sized.1
    c.in_ok-place.ensures.sized.2
    c.in_err-record.ensures.err.1 (ap reverse c.reserve-2.ensures.items) c.reserve.ensures.rows
    c.in_err-record.ensures.err.0 c.reserve-3.ensures.items

pub invariant_of-self : goal.invariant_of-self
invariant_of-self c = rw c.reserve.ensures.rows c.self.invariant

pub returns-in_err-reserve-clause-err : goal.returns-in_err-reserve-clause-err
returns-in_err-reserve-clause-err c = at_err c.from_residual.result _ c.self.view_is

pub invariant_of-self-in_err-reserve-2 : goal.invariant_of-self-in_err-reserve-2
invariant_of-self-in_err-reserve-2 c =
    rw (c.reserve-2.ensures.items, c.reserve.ensures.rows) c.self.invariant

pub returns-in_err-reserve-2-clause-err : goal.returns-in_err-reserve-2-clause-err
returns-in_err-reserve-2-clause-err c =
    at_err c.from_residual-in_err-reserve-2.result _ (rw c.reserve-2.ensures.items c.self.view_is)

pub invariant_of-self-in_err-place : goal.invariant_of-self-in_err-place
invariant_of-self-in_err-place c =
    rw (
      c.in_err-place.ensures.unchanged,
      c.reserve-3.ensures.items,
      c.reserve-2.ensures.items,
      c.reserve.ensures.rows,
    )
    c.self.invariant

pub returns-in_err-place-clause-err : goal.returns-in_err-place-clause-err
returns-in_err-place-clause-err c =
    at_err c.from_residual-in_err-place.result _
    (rw (c.in_err-place.ensures.unchanged, c.reserve-2.ensures.items) c.self.view_is)

pub returns-in_err-record-clause-err : goal.returns-in_err-record-clause-err
returns-in_err-record-clause-err c =
    at_err c.from_residual-in_err-record.result _
    (rw (c.in_ok-place.ensures.sized.2, c.reserve-2.ensures.items) c.self.view_is)

pub push_all-requires-clause-room : goal.push_all-requires-clause-room
push_all-requires-clause-room c = c.in_ok-reserve.ensures.room

pub push_reserved-requires : goal.push_reserved-requires
push_reserved-requires c = omega (arith, c.in_ok-reserve-2.ensures.ok)
