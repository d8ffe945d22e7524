-- The first fault of a setup, by its parts.
use Rattle.std.specs.Prelude.{◌≡◌, ◌==◌, ℕ, Bool, true, false, List, [], length, Option, Some, None}
use Rattle.std.specs.Prelude.{IsUtf8, refl, if◌then◌else◌}
use Rattle.std.specs.Option.{option_or}
use Rattle.std.specs.Str.{is_utf8}
use Rattle.std.proofs.Common.{arith, ap, sym, ◌∙◌}
use Rattle.std.proofs.lemmas.Bool.{false_from_ne_true}
use Rattle.std.proofs.lemmas.Bool.Decides.{nat_tests}
use Rattle.std.proofs.lemmas.Str.{IsUtf8-from_is_utf8, is_utf8-from_IsUtf8}
use Rattle.nest_core.specs.Museum.{Museum}
use Rattle.nest_core.specs.SetupRows.{first_fault, museum_of, rows_of, setup_fault, station_fault}
use Rattle.nest_core.specs.declared.setup_fault.SetupFault.{SetupFault}
use Rattle.nest_core.specs.declared.setup_fault.SetupFault.TheVariants.{NoStation, NotCsv}

-- the table, by whether each of its rows holds
table : (t u : Bool) (o q : Option SetupFault) (last : Option SetupFault) → t ≡ u → o ≡ q
    → (if t then option_or o last else Some NotCsv) ≡ (if u then option_or q last else Some NotCsv)
table t u o q last e f =
    ap (λ b. if b then option_or o last else Some NotCsv) e
    ∙ ap (λ g. if u then option_or g last else Some NotCsv) f

pub no_text : (bytes : List ℕ) → ¬ (IsUtf8 bytes) → is_utf8 bytes ≡ false
no_text bytes h = false_from_ne_true (is_utf8 bytes) (λ e. h (IsUtf8-from_is_utf8 bytes e))

pub is_text : (bytes : List ℕ) → IsUtf8 bytes → is_utf8 bytes ≡ true
is_text bytes h = is_utf8-from_IsUtf8 bytes h

pub never_both : (bytes : List ℕ) → IsUtf8 bytes → is_utf8 bytes ≡ false → ⊥
never_both bytes h e = let both : true ≡ false = sym (is_text bytes h) ∙ e in cc

pub not_csv : (bytes : List ℕ) → is_utf8 bytes ≡ false → setup_fault bytes ≡ Some NotCsv
not_csv bytes e = table (is_utf8 bytes) false (first_fault [] (rows_of bytes)) _
    (station_fault (museum_of (rows_of bytes))) e refl

pub row_first : (bytes : List ℕ) (f : SetupFault) → is_utf8 bytes ≡ true
    → first_fault [] (rows_of bytes) ≡ Some f → setup_fault bytes ≡ Some f
row_first bytes f e some = table (is_utf8 bytes) true (first_fault [] (rows_of bytes)) (Some f)
    (station_fault (museum_of (rows_of bytes))) e some

no_rows : (n m : ℕ) → n ≡ m → (n ≡ 0 → ⊥) → (m == 0) ≡ false
no_rows n m e some = grind (arith, nat_tests)

zero_rows : (n m : ℕ) → n ≡ m → n ≡ 0 → (m == 0) ≡ true
zero_rows n m e none = grind (arith, nat_tests)

-- the number of stations, counted in the setup that was read
pub no_station : (bytes : List ℕ) (S : Museum) (n : ℕ) → is_utf8 bytes ≡ true
    → first_fault [] (rows_of bytes) ≡ None → S ≡ museum_of (rows_of bytes)
    → n ≡ length S.stations → n ≡ 0
    → setup_fault bytes ≡ Some NoStation
no_station bytes S n e none is counted zero =
    table (is_utf8 bytes) true (first_fault [] (rows_of bytes)) None
    (station_fault (museum_of (rows_of bytes))) e none
    ∙ ap (λ b. if b then Some NoStation else None)
    (zero_rows n _ (counted ∙ ap (λ T. length T.stations) is) zero)

pub no_fault : (bytes : List ℕ) (S : Museum) (n : ℕ) → is_utf8 bytes ≡ true
    → first_fault [] (rows_of bytes) ≡ None → S ≡ museum_of (rows_of bytes) → n ≡ length S.stations
    → (n ≡ 0 → ⊥)
    → setup_fault bytes ≡ None
no_fault bytes S n e none is counted some =
    table (is_utf8 bytes) true (first_fault [] (rows_of bytes)) None
    (station_fault (museum_of (rows_of bytes))) e none
    ∙ ap (λ b. if b then Some NoStation else None)
    (no_rows n _ (counted ∙ ap (λ T. length T.stations) is) some)
