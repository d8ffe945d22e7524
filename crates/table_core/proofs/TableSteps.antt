-- One more row of a table.
use Rattle.std.proofs.Common.{◌≡◌, ℕ, ◌+◌, ◌<◌, List, ◌∷◌, ◌++◌, length, get_or, drop, map, sym}
use Rattle.std.proofs.Common.{ap, ◌∙◌, arith, Vec}
use Rattle.std.specs.Prelude.{String, string_bytes}
use Rattle.std.specs.declared.alloc.Global.{Global}
use Rattle.std.proofs.lemmas.List.{at_drop_more}
use Rattle.table_core.specs.declared.options.TableOptions.{TableOptions}
use Rattle.table_core.specs.TableRows.{faults_from, lines_from, step_faults, step_lines}
use Rattle.table_core.specs.TableRows.{step_number}
use Rattle.table_core.specs.Tables.{texts_of}

abbrev Rows : Type 0
Rows = List (Vec (String Global) Global)

pub lines_step : (options : TableOptions) (words : List (List ℕ)) (next after i : ℕ) (rows : Rows)
    (row : Vec (String Global) Global) (fields : List (String Global)) → i < length rows
    → row ≡ get_or rows i row → fields ≡ row.items
    → after ≡ step_number options words next (map string_bytes fields)
    → lines_from options words (i + 2) next (texts_of (drop i rows))
    ≡ step_lines options words (i + 2) next (map string_bytes fields)
    ++ lines_from options words (i + 1 + 2) after (texts_of (drop (i + 1) rows))
lines_step options words next after i rows row fields below here same goes =
    at_drop_more (λ rs. lines_from options words (i + 2) next (texts_of rs)) rows i row below
    ∙ ap (λ (r : Vec (String Global) Global).
    lines_from options words (i + 2) next (texts_of (r ∷ drop (i + 1) rows))) (sym here)
    ∙ ap (λ (fs : List (String Global)).
    lines_from options words (i + 2) next (map string_bytes fs ∷ texts_of (drop (i + 1) rows)))
    (sym same)
    ∙ ap (λ n. step_lines options words (i + 2) next (map string_bytes fields)
    ++ lines_from options words (i + 2 + 1) n (texts_of (drop (i + 1) rows))) (sym goes)
    ∙ (let e : i + 2 + 1 ≡ i + 1 + 2 = omega arith in
    ap (λ n. step_lines options words (i + 2) next (map string_bytes fields)
    ++ lines_from options words n after (texts_of (drop (i + 1) rows))) e)

pub faults_step : (options : TableOptions) (words : List (List ℕ)) (next after i : ℕ) (rows : Rows)
    (row : Vec (String Global) Global) (fields : List (String Global)) → i < length rows
    → row ≡ get_or rows i row → fields ≡ row.items
    → after ≡ step_number options words next (map string_bytes fields)
    → faults_from options words (i + 2) next (texts_of (drop i rows))
    ≡ step_faults options words (i + 2) next (map string_bytes fields)
    ++ faults_from options words (i + 1 + 2) after (texts_of (drop (i + 1) rows))
faults_step options words next after i rows row fields below here same goes =
    at_drop_more (λ rs. faults_from options words (i + 2) next (texts_of rs)) rows i row below
    ∙ ap (λ (r : Vec (String Global) Global).
    faults_from options words (i + 2) next (texts_of (r ∷ drop (i + 1) rows))) (sym here)
    ∙ ap (λ (fs : List (String Global)).
    faults_from options words (i + 2) next (map string_bytes fs ∷ texts_of (drop (i + 1) rows)))
    (sym same)
    ∙ ap (λ n. step_faults options words (i + 2) next (map string_bytes fields)
    ++ faults_from options words (i + 2 + 1) n (texts_of (drop (i + 1) rows))) (sym goes)
    ∙ (let e : i + 2 + 1 ≡ i + 1 + 2 = omega arith in
    ap (λ n. step_faults options words (i + 2) next (map string_bytes fields)
    ++ faults_from options words n after (texts_of (drop (i + 1) rows))) e)
