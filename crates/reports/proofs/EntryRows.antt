-- The rows of the entries, one entry after another.
use Rattle.std.specs.Prelude.{ℕ, ◌≡◌, ◌+◌, ◌<◌, ◌∷◌, ◌++◌, [], List, codes, length, take}
use Rattle.std.specs.Prelude.{option_map}
use Rattle.std.proofs.Common.{ap, append_assoc, append-nil, arith, get_or, sym, ◌∙◌}
use Rattle.std.proofs.lemmas.Grind.{flat_map-append}
use Rattle.std.proofs.lemmas.List.{length-take-le, take_more}
use Rattle.std.specs.Option.{option_to_list}
use Rattle.nest_core.specs.Museum.{Museum}
use Rattle.posting_core.specs.declared.entry.Entry.{Entry}
use Rattle.reports.specs.Lines.{lines}
use Rattle.reports.specs.NowKnown.{entry_row, new_code, now_known_rows}

abbrev pub rows_of_entry : Museum → Museum → ℕ → Entry → List (List ℕ)
rows_of_entry S T k e = option_to_list (option_map (entry_row S k e) (new_code S T k e))

one_more : (S T : Museum) (k j : ℕ) (entries : List Entry) (e : Entry) → k + length entries ≡ j
    → now_known_rows S T k (entries ++ e ∷ [])
    ≡ now_known_rows S T k entries ++ rows_of_entry S T j e
one_more S T k j [] e is =
    let same : k ≡ j = omega (arith, is) in
    append-nil (rows_of_entry S T k e) ∙ ap (λ n. rows_of_entry S T n e) same
one_more S T k j (x ∷ entries) e is =
    let rest : (k + 1) + length entries ≡ j = omega (arith, is) in
    ap (λ rows. rows_of_entry S T k x ++ rows) (one_more S T (k + 1) j entries e rest)
    ∙ sym (append_assoc (rows_of_entry S T k x) (now_known_rows S T (k + 1) entries)
    (rows_of_entry S T j e))

-- the text with the lines of entry i
pub text_more : (S T : Museum) (entries : List Entry) (i : ℕ) (e : Entry) (old new : List ℕ)
    → i < length entries → e ≡ get_or entries i e
    → old ≡ lines (codes "entry ") (now_known_rows S T 0 (take i entries))
    → new ≡ old ++ lines (codes "entry ") (rows_of_entry S T i e)
    → new ≡ lines (codes "entry ") (now_known_rows S T 0 (take (i + 1) entries))
text_more S T entries i e old new within at is more =
    let count : 0 + length (take i entries) ≡ i =
    omega (arith, within, length-take-le i entries (omega (arith, within))) in
    more ∙ (ap (λ t. t ++ lines (codes "entry ") (rows_of_entry S T i e)) is
    ∙ sym (ap (λ es. lines (codes "entry ") (now_known_rows S T 0 es))
    (take_more entries i e within ∙ ap (λ x. take i entries ++ x ∷ []) (sym at))
    ∙ (ap (lines (codes "entry ")) (one_more S T 0 i (take i entries) e count)
    ∙ flat_map-append (λ row. codes "entry " ++ row ++ 10 ∷ [])
    (now_known_rows S T 0 (take i entries)) (rows_of_entry S T i e))))
