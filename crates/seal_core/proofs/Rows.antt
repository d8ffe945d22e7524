-- The rows of a file with one more line.
use Rattle.std.proofs.Common.{◌≡◌, ℕ, ◌+◌, ◌<◌, ◌≤◌, ◌++◌, ◌∷◌, ◌∙◌, Bor, List, [], ap, arith}
use Rattle.std.proofs.Common.{get_or, length, map, refl, subst, sym, take}
use Rattle.std.proofs.Math.ListN.{drop_of_length-le}
use Rattle.std.proofs.lemmas.List.{append-nil, length-map, length-take-le, map-append, take_more}
use Rattle.std.proofs.lemmas.List.{take-append-drop}
use Rattle.posting_core.specs.Book.{Book}
use Rattle.seal_core.specs.FileLines.{trimmed}
use Rattle.seal_core.specs.SealChecks.{AddsRow, AreChecked, IsChecked}
use Rattle.seal_core.specs.declared.seal_check.CheckedSeal.{CheckedSeal}

-- an empty line adds no row
passed : (B : Book) (n : ℕ) (lines : List (List ℕ)) (rows : List CheckedSeal)
    → AreChecked B n lines rows → AreChecked B n (lines ++ ([] ∷ [])) rows
passed B n [] [] checked = checked
passed B n [] (row ∷ rows) checked = absurd checked
passed B n ([] ∷ lines) rows checked = passed B (n + 1) lines rows checked
passed B n ((b ∷ line) ∷ lines) [] checked = absurd checked
passed B n ((b ∷ line) ∷ lines) (row ∷ rows) checked =
    (checked.0, passed B (n + 1) lines rows checked.1)

-- any other line adds its own
added : (B : Book) (n m : ℕ) (lines : List (List ℕ)) (rows : List CheckedSeal) (b : ℕ)
    (line : List ℕ) (row : CheckedSeal) → m ≡ n + length lines → IsChecked B m (b ∷ line) row
    → AreChecked B n lines rows
    → AreChecked B n (lines ++ ((b ∷ line) ∷ [])) (rows ++ (row ∷ []))
added B n m [] [] b line row at is checked =
    let same : m ≡ n = omega (arith, at) in
    (subst (λ k. IsChecked B k (b ∷ line) row) same is, tt)
added B n m [] (other ∷ rows) b line row at is checked = absurd checked
added B n m ([] ∷ lines) rows b line row at is checked =
    added B (n + 1) m lines rows b line row (omega (arith, at)) is checked
added B n m ((c ∷ more) ∷ lines) [] b line row at is checked = absurd checked
added B n m ((c ∷ more) ∷ lines) (other ∷ rows) b line row at is checked =
    (checked.0, added B (n + 1) m lines rows b line row (omega (arith, at)) is checked.1)

-- one more line
pub with_line : (B : Book) (n m : ℕ) (lines : List (List ℕ)) (line : List ℕ)
    (rows rows' : List CheckedSeal) → m ≡ n + length lines → AddsRow B m line rows rows'
    → AreChecked B n lines rows → AreChecked B n (lines ++ (line ∷ [])) rows'
with_line B n m lines [] rows rows' at same checked =
    subst (AreChecked B n (lines ++ ([] ∷ []))) (sym same) (passed B n lines rows checked)
with_line B n m lines (b ∷ line) rows rows' at one checked =
    subst (AreChecked B n (lines ++ ((b ∷ line) ∷ []))) (sym one.added)
    (added B n m lines rows b line one.row at one.is checked)

-- the lines of the first pieces of a file
abbrev pub lines_to : List (Bor (List ℕ)) → ℕ → List (List ℕ)
lines_to pieces i = map trimmed (map (λ piece. piece.now) (take i pieces))

pub row_after : (pieces : List (Bor (List ℕ))) (i : ℕ) → i < length pieces
    → i + 1 ≡ 1 + length (lines_to pieces i)
row_after pieces i below =
    let texts : List (List ℕ) = map (λ (piece : Bor (List ℕ)). piece.now) (take i pieces) in
    let outer = length-map texts trimmed in
    let inner = length-map (take i pieces) (λ (piece : Bor (List ℕ)). piece.now) in
    let taken = length-take-le i pieces (omega (arith, below)) in
    omega (arith, outer, inner, taken, below)

pub next_line : (pieces : List (Bor (List ℕ))) (i : ℕ) (d : Bor (List ℕ)) (line : List ℕ)
    → i < length pieces → line ≡ trimmed (get_or pieces i d).now
    → lines_to pieces i ++ (line ∷ []) ≡ lines_to pieces (i + 1)
next_line pieces i d line below is =
    let now : Bor (List ℕ) → List ℕ = λ piece. piece.now in
    ap (λ l. lines_to pieces i ++ (l ∷ [])) is
    ∙ sym (ap (map trimmed) (ap (map now) (take_more pieces i d below)
    ∙ map-append now (take i pieces) (get_or pieces i d ∷ []))
    ∙ map-append trimmed (map now (take i pieces)) ((get_or pieces i d).now ∷ []))

pub all_lines : (pieces : List (Bor (List ℕ))) (i : ℕ) → length pieces ≤ i
    → lines_to pieces i ≡ map trimmed (map (λ piece. piece.now) pieces)
all_lines pieces i past =
    ap (λ (them : List (Bor (List ℕ))). map trimmed (map (λ piece. piece.now) them))
    (sym (append-nil (take i pieces))
    ∙ (ap (λ more. take i pieces ++ more) (sym (drop_of_length-le pieces past))
    ∙ take-append-drop i pieces))

-- A line that is not empty, and its row.
pub with_row : (B : Book) (n : ℕ) (line : List ℕ) (rows rows' : List CheckedSeal)
    (row : CheckedSeal) → (line ≡ [] → ⊥) → IsChecked B n line row → rows' ≡ rows ++ row ∷ []
    → AddsRow B n line rows rows'
with_row B n [] rows rows' row some is added = absurd (some refl)
with_row B n (b ∷ line) rows rows' row some is added = record { row = row; is = is; added = added }
