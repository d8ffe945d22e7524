use Rattle.std.proofs.Common.{◌≡◌, ◌∙◌, ℕ, ◌+◌, [], Option, Some, ap, sym}
use Rattle.std.specs.Prelude.{List, option_map, reverse, slice_get}
use Rattle.std.proofs.lemmas.Result.{IfOk-weaker}
use Rattle.std.specs.List.{flat_map}
use Rattle.std.specs.Option.{option_map_or}
use Rattle.posting_core.specs.declared.entry.Changes.{Changes}
use Rattle.posting_core.specs.declared.entry.Entry.{Entry}
use Rattle.posting_core.specs.Book.{Book, changes_of}
use Rattle.posting_core.specs.Past.{upto}
use Rattle.reports.specs.EntryChanges.{changes_at}
use Rattle.page_core.specs.Histories.{history_text, rows_of, spot_row, spot_text}
use Rattle.page_core.specs.Pieces.{page_text}
use Rattle.page_core.proofs.Sections.{rows_within}
use Rattle.page_core.proofs.histories.history_row.Goals as goal

-- The rows of what an entry changed.
abbrev rows_text : Book → ℕ → Entry → Option Changes → List ℕ
rows_text B i e changes =
    option_map_or (λ c. flat_map (spot_text (upto B (i + 1)) e) c.spots) changes []

-- The rows of the entry at index i are those of what it changed.
rows_changed : (B : Book) (i : ℕ) (e : Entry) (changes : Changes)
    → slice_get (reverse B.posted) i ≡ Some e → changes_at B i ≡ Some changes
    → history_text B i ≡ flat_map (spot_text (upto B (i + 1)) e) changes.spots
rows_changed B i e changes at is =
    ap (λ o. page_text (option_map_or (rows_of B i) o [])) at
    ∙ (rows_within (spot_row (upto B (i + 1)) e) (changes_of (upto B i) e.message).spots
    ∙ (ap (λ o. rows_text B i e (option_map (λ x. changes_of (upto B i) x.message) o)) (sym at)
    ∙ ap (rows_text B i e) is))

pub returns-clause-rows : goal.returns-clause-rows
returns-clause-rows c =
    let L = c.args.ledger.now in
    let e = c.entry_at.result.now in
    let spots = c.as_slice.result.now in
    IfOk-weaker c.spots_row.result _ _
    (λ rows is. is
    ∙ (ap (λ (B : Book). flat_map (spot_text B e) spots) c.in_ok-changes.ensures.after
    ∙ (ap (flat_map (spot_text (upto L (c.args.i + 1)) e)) c.as_slice.ensures
    ∙ sym (rows_changed L c.args.i e c.in_ok-changes.changes c.entry_at.ensures
    c.in_ok-changes.ensures.changes)))) c.spots_row.ensures
