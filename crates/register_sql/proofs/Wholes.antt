-- The steps of a posting make the change that a register promises.
use Rattle.std.proofs.Common.{◌≡◌, List, [], ◌∷◌, ◌++◌, map, reverse, Option, Some, None, refl, sym}
use Rattle.std.proofs.Common.{ap, ◌∙◌, append_assoc}
use Rattle.std.specs.Option.{option_map_or}
use Rattle.std.proofs.lemmas.Grind.{reverse_onto}
use Rattle.std.proofs.lemmas.List.{map-append}
use Rattle.posting_core.specs.declared.entry.Changes.{Changes}
use Rattle.posting_core.specs.declared.entry.Entry.{Entry}
use Rattle.posting_core.specs.declared.entry.NewLine.{NewLine}
use Rattle.posting_core.specs.declared.entry.NewSpot.{NewSpot}
use Rattle.register_store.specs.StoredRows.{Content, PostingRow, SpotRow, TermRow, spot_row}
use Rattle.register_store.specs.StoredRows.{line_row, put, put_each, is_same_line, is_same_loan}
use Rattle.register_store.specs.StoredRows.{term_of, with_posted}
use Rattle.register_sql.specs.Posting.{with_each, with_posting, with_spot, with_line}
use Rattle.register_sql.specs.Posting.{with_some_term}

spots_are : (ss : List NewSpot) (c : Content)
    → with_each (λ s. with_spot (spot_row s)) ss c
    ≡ record c { spots = map spot_row (reverse ss) ++ c.spots }
spots_are [] c = refl
spots_are (s ∷ ss) c = spots_are ss (with_spot (spot_row s) c)
    ∙ ap (λ l. let d : Content = record c { spots = l } in d) (reverse_on s ss c.spots)
  where
    reverse_on : (s : NewSpot) (ss : List NewSpot) (rest : List SpotRow)
        → map spot_row (reverse ss) ++ spot_row s ∷ rest ≡ map spot_row (reverse (s ∷ ss)) ++ rest
    reverse_on s ss rest =
        sym (ap (λ l. l ++ rest) (ap (map spot_row) (reverse_onto ss s []) ∙ map-append spot_row
        (reverse ss) (s ∷ [])) ∙ append_assoc (map spot_row (reverse ss)) (spot_row s ∷ []) rest)

lines_are : (ls : List NewLine) (c : Content)
    → with_each (λ l. with_line (line_row l)) ls c
    ≡ record c { lines = put_each is_same_line (map line_row ls) c.lines }
lines_are [] c = refl
lines_are (l ∷ ls) c = lines_are ls (with_line (line_row l) c)

pub posted_is : (row : PostingRow) (e : Entry) (changes : Changes) (c : Content)
    → with_some_term (term_of e) (with_each (λ l. with_line (line_row l)) changes.lines
    (with_each (λ s. with_spot (spot_row s)) changes.spots (with_posting row c))) ≡ with_posted
    row e changes c
posted_is row e changes c =
    rw (
      spots_are changes.spots (with_posting row c),
      lines_are changes.lines (record c {
        postings = row ∷ c.postings;
        spots = map spot_row (reverse changes.spots) ++ c.spots;
      }),
    ) (terms (term_of e))
  where
    mid : Content
    mid = record c {
      postings = row ∷ c.postings;
      spots = map spot_row (reverse changes.spots)
          ++ c.spots;
      lines = put_each is_same_line (map line_row changes.lines) c.lines;
    }

    terms : (t : Option TermRow) → with_some_term t mid
        ≡ record mid { terms = option_map_or (λ t. put is_same_loan t c.terms) t c.terms }
    terms None = refl
    terms (Some t) = refl
