-- Defines the result of checking a file of seals, and the printed text.
use Rattle.std.specs.Prelude.{ℕ, ◌≡◌, ◌+◌, ◌++◌, ◌↔◌, ◌∷◌, [], Bool, false, true, IsTrue}
use Rattle.std.specs.Prelude.{List, codes, decimal, flat_map, if◌then◌else◌}
use Rattle.std.specs.List.{list_all, list_any}
use Rattle.posting_core.specs.Book.{Book}
use Rattle.seal_core.specs.Readings.{IsFirstFault}
use Rattle.seal_core.specs.Seals.{Holds, seal_text}
use Rattle.seal_core.specs.declared.reading.LineFault.{LineFault}
use Rattle.seal_core.specs.declared.reading.LineFault.TheVariants.{BadDigits, BadNumber, NoMark}
use Rattle.seal_core.specs.declared.seal.Seal.{Seal}
use Rattle.seal_core.specs.FileLines.{file_lines}
use Rattle.seal_core.specs.declared.seal_check.CheckedSeal.{CheckedSeal}
use Rattle.seal_core.specs.declared.seal_check.CheckedSeal.TheVariants as checked

-- The line is the text of a seal of so many entries, which holds or not.
pub record IsCheckedSeal (B : Book) (line : List ℕ) (entries : ℕ) (holds : Bool) : Type 0 where
  pub seal : Seal
  pub read : seal_text seal ≡ line
  pub count : entries ≡ seal.entries
  pub right : IsTrue holds ↔ Holds B seal

-- The result of checking the line with this number.
abbrev pub IsChecked : Book → ℕ → List ℕ → CheckedSeal → Type 0
IsChecked B row line (checked.Seal entries holds) = IsCheckedSeal B line entries holds
IsChecked B row line (checked.Bad number fault) = (number ≡ row) × IsFirstFault line fault

-- The rows for these lines, the first with this number. An empty line has no row.
abbrev pub AreChecked : Book → ℕ → List (List ℕ) → List CheckedSeal → Type 0
AreChecked B n [] [] = Unit {0}
AreChecked B n [] (row ∷ rows) = ⊥
AreChecked B n ([] ∷ lines) rows = AreChecked B (n + 1) lines rows
AreChecked B n ((b ∷ line) ∷ lines) [] = ⊥
AreChecked B n ((b ∷ line) ∷ lines) (row ∷ rows) =
    IsChecked B n (b ∷ line) row × AreChecked B (n + 1) lines rows

-- One more line adds its row to these rows, or nothing if it is empty.
pub record AddsOne (B : Book) (n : ℕ) (line : List ℕ) (rows rows' : List CheckedSeal) : Type 0 where
  pub row : CheckedSeal
  pub is : IsChecked B n line row
  pub added : rows' ≡ rows ++ (row ∷ [])

abbrev pub AddsRow : Book → ℕ → List ℕ → List CheckedSeal → List CheckedSeal → Type 0
AddsRow B n [] rows rows' = rows' ≡ rows
AddsRow B n (b ∷ line) rows rows' = AddsOne B n (b ∷ line) rows rows'

abbrev pub fault_name : LineFault → List ℕ
fault_name NoMark = codes "NoMark"
fault_name BadNumber = codes "BadNumber"
fault_name BadDigits = codes "BadDigits"

-- 80000 holds, or 79000 broken.
abbrev pub seal_row : ℕ → Bool → List ℕ
seal_row entries holds =
    decimal entries ++ codes " " ++ (if holds then codes "holds" else codes "broken") ++ codes "\n"

-- line 3 bad NoMark
abbrev pub bad_row : ℕ → LineFault → List ℕ
bad_row row fault =
    codes "line " ++ decimal row ++ codes " bad " ++ fault_name fault ++ codes "\n"

abbrev pub row_text : CheckedSeal → List ℕ
row_text (checked.Seal entries holds) = seal_row entries holds
row_text (checked.Bad row fault) = bad_row row fault

abbrev pub holds_in : CheckedSeal → Bool
holds_in (checked.Seal entries holds) = holds
holds_in (checked.Bad row fault) = false

abbrev pub is_bad : CheckedSeal → Bool
is_bad (checked.Seal entries holds) = false
is_bad (checked.Bad row fault) = true

-- There is a row, and all rows are seals that hold.
abbrev pub are_fine : List CheckedSeal → Bool
are_fine [] = false
are_fine (row ∷ rows) = list_all holds_in (row ∷ rows)

-- The help on these rows. Empty if there is a row, and all are seals.
abbrev pub help_on : List CheckedSeal → List ℕ
help_on [] = codes "help: the file has no seal: put a line of 'pairsalder seal' into it\n"
help_on (row ∷ rows) =
    if list_any is_bad (row ∷ rows)
    then codes "help: a seal is a line such as 80000 sha256:1029.., with 64 digits in lower case\n"
    else []

-- The result of checking a file, and the printed text.
pub record Checks (B : Book) (bytes text : List ℕ) (fine : Bool) (help : List ℕ) : Type 0 where
  pub rows : List CheckedSeal
  pub checked : AreChecked B 1 (file_lines bytes) rows
  pub printed : text ≡ flat_map row_text rows
  pub is_fine : fine ≡ are_fine rows
  pub helped : help ≡ help_on rows
