-- The definitions computed on worked rows.
use Rattle.std.specs.Prelude.{ℕ, ◌≡◌, true, List, [], ◌∷◌, Some, None, codes, refl}
use Rattle.nest_core.specs.Museum.{Museum}
use Rattle.nest_core.specs.SetupRows.{Fields}
use Rattle.table_core.specs.Labels.{Label, code_for}
use Rattle.table_core.specs.LabelRows.{label_fault, labels_of}
use Rattle.table_core.specs.declared.labels.fault.LabelFault.TheVariants as fault

-- A shelf, a vase that belongs there, and a crate.
abbrev museum : Museum
museum = record {
  stations = codes "desk" ∷ [];
  places = (codes "S1", true) ∷ [];
  things = (codes "1987.12.1", Some 0) ∷ (codes "C1", None) ∷ [];
  growths = [];
}

abbrev pair : List ℕ → List ℕ → Fields
pair a b = a ∷ b ∷ []

-- Two labels below a heading with the columns the other way round, in capitals and with blanks.
abbrev rows : List Fields
rows =
    pair (codes "Code") (codes " LABEL")
    ∷ pair (codes "1987.12.1") (codes "87.12.1A ")
    ∷ pair [] []
    ∷ pair (codes "C1") (codes "0012")
    ∷ []

abbrev labels : List Label
labels =
    record { label = codes "87.12.1A"; code = codes "1987.12.1" }
    ∷ record { label = codes "0012"; code = codes "C1" }
    ∷ []

rows-labels : labels_of rows ≡ labels
rows-labels = refl

rows-right : label_fault museum rows ≡ None
rows-right = refl

-- A scan of a label stands for its code, with a blank before it or not.
scan : code_for labels (codes "0012") ≡ codes "C1"
scan = refl

scan-blank : code_for labels (codes " 87.12.1A") ≡ codes "1987.12.1"
scan-blank = refl

-- Any other text stands for itself: a code, and the start of a label.
scan-code : code_for labels (codes " S1") ≡ codes " S1"
scan-code = refl

scan-start : code_for labels (codes "87.12.1") ≡ codes "87.12.1"
scan-start = refl

-- The heading lacks a column, or has one twice.
abbrev heading : Fields
heading = pair (codes "label") (codes "code")

no_rows : label_fault museum [] ≡ Some fault.Heading
no_rows = refl

lacks_code : label_fault museum (pair (codes "label") (codes "barcode") ∷ []) ≡ Some fault.Heading
lacks_code = refl

label_twice : label_fault museum ((codes "Label" ∷ heading) ∷ []) ≡ Some fault.Heading
label_twice = refl

-- A label without a code, below a row that is skipped.
no_code : label_fault museum (heading ∷ [] ∷ (codes "0012" ∷ []) ∷ []) ≡ Some (fault.Fields 3)
no_code = refl

-- The same label twice, also for the same code.
twice : label_fault museum
    (heading ∷ pair (codes "0012") (codes "C1") ∷ pair (codes " 0012") (codes "C1") ∷ [])
    ≡ Some (fault.Repeated 3)
twice = refl

-- A label that is the code of something else, and one that is its own code.
hides : label_fault museum (heading ∷ pair (codes "S1") (codes "C1") ∷ [])
    ≡ Some (fault.IsCode 2)
hides = refl

own : label_fault museum (heading ∷ pair (codes "C1") (codes "C1") ∷ []) ≡ None
own = refl
