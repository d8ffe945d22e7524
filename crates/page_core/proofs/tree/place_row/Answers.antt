use Rattle.std.proofs.Common.{◌≡◌, ◌∷◌, [], ℕ, rules, string_bytes, subst}
use Rattle.std.specs.Prelude.{codes}
use Rattle.reports.specs.Texts.{place_text}
use Rattle.page_core.specs.Pieces.{page_text}
use Rattle.page_core.specs.Pieces.Piece.{markup, number, text}
use Rattle.page_core.proofs.PlaceCounts.{count_read, place_in_counts}
use Rattle.page_core.proofs.tree.place_row.Goals as goal

pub bounds-counts-place : goal.bounds-counts-place
bounds-counts-place c =
    place_in_counts c.args.ledger.now c.args.place c.args.counts.now c.requires.counts
    c.requires.place

pub returns : goal.returns
returns c =
    subst (λ (n : ℕ). string_bytes c.in_ok-format.field-0 ≡ page_text (
    markup (codes "<li><details><summary>")
    ∷ text (place_text c.args.ledger.now.museum c.args.place)
    ∷ markup (codes " <small>")
    ∷ number n
    ∷ markup (codes "</small></summary><ul>\n") ∷ []))
    (count_read c.args.ledger.now c.args.place c.args.counts.now c.requires.counts c.requires.place)
    (search rules)
