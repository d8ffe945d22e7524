-- All faults of a count list, by whether its bytes are UTF-8.
use Rattle.std.specs.Prelude.{ℕ, ◌≡◌, Bool, true, false, List, [], ◌∷◌, length, refl}
use Rattle.std.specs.Str.{is_utf8}
use Rattle.nest_core.specs.SetupRows.{rows_of}
use Rattle.count_core.specs.CountRows.{count_fault, counts_of}
use Rattle.count_core.specs.declared.count_fault.CountFault.{CountFault}
use Rattle.count_core.specs.declared.count_fault.CountFault.TheVariants.{NotCsv}
use Rattle.count_core.specs.CountChecks.{count_faults, row_count, row_faults}
use Rattle.count_core.specs.SetupChecks.{first_of}
use Rattle.count_core.proofs.CountProgress.{first_row}

pub no_text_rows : (bytes : List ℕ) → is_utf8 bytes ≡ false → 0 ≡ row_count bytes
no_text_rows bytes none = rw none refl

pub no_text_faults : (bytes : List ℕ) (faults : List CountFault) → is_utf8 bytes ≡ false
    → faults ≡ NotCsv ∷ [] → faults ≡ count_faults bytes
no_text_faults bytes faults none is = rw none is

pub text_rows : (bytes : List ℕ) → is_utf8 bytes ≡ true
    → length (counts_of (rows_of bytes)) ≡ row_count bytes
text_rows bytes text = rw text refl

pub text_faults : (bytes : List ℕ) → is_utf8 bytes ≡ true
    → row_faults [] (rows_of bytes) ≡ count_faults bytes
text_faults bytes text = rw text refl

by_text : (bytes : List ℕ) (t : Bool) → is_utf8 bytes ≡ t
    → first_of (count_faults bytes) ≡ count_fault bytes
by_text bytes false none = rw none refl
by_text bytes true text = rw text (first_row [] (rows_of bytes))

pub first_is : (bytes : List ℕ) → first_of (count_faults bytes) ≡ count_fault bytes
first_is bytes = by_text bytes (is_utf8 bytes) refl
