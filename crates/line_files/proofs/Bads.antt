-- The bad lines and the count of one more line.
use Rattle.std.proofs.Common.{◌≡◌, ℕ, ◌+◌, ◌<◌, List, ◌∷◌, ◌++◌, length, get_or}
use Rattle.std.proofs.Common.{drop, sym, ap, ◌∙◌, append_assoc}
use Rattle.std.proofs.lemmas.List.{at_drop_more}
use Rattle.line_files.specs.declared.checking.BadLine.{BadLine}
use Rattle.line_files.specs.Checked.{bad_at, bad_from}

pub bads_more : (ls : List (List ℕ)) (i : ℕ) (line : List ℕ) (before after whole : List BadLine)
    → i < length ls → line ≡ get_or ls i line → after ≡ before ++ bad_at (i + 1) line
    → before ++ bad_from (i + 1) (drop i ls) ≡ whole
    → after ++ bad_from (i + 1 + 1) (drop (i + 1) ls) ≡ whole
bads_more ls i line before after whole below is by so_far =
    let more = bad_from (i + 1 + 1) (drop (i + 1) ls) in
    let step : bad_from (i + 1) (drop i ls) ≡ bad_at (i + 1) line ++ more =
    at_drop_more (bad_from (i + 1)) ls i line below
    ∙ ap (λ l. bad_from (i + 1) (l ∷ drop (i + 1) ls)) (sym is) in
    ap (λ bs. bs ++ more) by
    ∙ (append_assoc before (bad_at (i + 1) line) more
    ∙ (ap (λ bs. before ++ bs) (sym step) ∙ so_far))
