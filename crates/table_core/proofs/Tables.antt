-- The first fault of a table, by its parts.
use Rattle.std.specs.Prelude.{◌≡◌, ℕ, ◌==◌, Bool, not, List, length, Option, Some, None}
use Rattle.std.specs.Prelude.{MatchResult, Result, Ok, Err, if◌then◌else◌}
use Rattle.std.specs.Str.{is_utf8}
use Rattle.std.proofs.Common.{ap, ◌∙◌}
use Rattle.table_core.specs.Sheets.{has_two, heading_of, is_utf16, sheet_fault}
use Rattle.table_core.specs.declared.sheet_fault.SheetFault.{SheetFault}
use Rattle.table_core.specs.declared.sheet_fault.SheetFault.TheVariants as fault

abbrev pub by_parts : Bool → Bool → Bool → Bool → Option SheetFault
by_parts wide text empty two =
    if wide then Some fault.Utf16
    else (if not text then Some fault.NotUtf8
    else (if empty then Some fault.Empty
    else (if two then Some fault.TwoSeparators else None)))

pub table : (bytes : List ℕ) (wide text empty two : Bool) → is_utf16 bytes ≡ wide
    → is_utf8 bytes ≡ text → (length (heading_of bytes) == 0) ≡ empty → has_two bytes ≡ two
    → sheet_fault bytes ≡ by_parts wide text empty two
table bytes wide text empty two w t e d =
    ap (λ b. by_parts b (is_utf8 bytes) (length (heading_of bytes) == 0) (has_two bytes)) w
    ∙ ap (λ b. by_parts wide b (length (heading_of bytes) == 0) (has_two bytes)) t
    ∙ ap (λ b. by_parts wide text b (has_two bytes)) e
    ∙ ap (by_parts wide text empty) d

pub both : {A E : Type 0} (r : Result A E) (P P' : A → Type 0) (Q Q' : E → Type 0)
    → MatchResult r P Q → ((a : A) → P a → P' a) → ((e : E) → Q e → Q' e) → MatchResult r P' Q'
both (Ok a) P P' Q Q' h f g = f a h
both (Err e) P P' Q Q' h f g = g e h
