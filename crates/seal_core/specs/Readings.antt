-- Defines when a line is the text of a seal, and the first fault of a line that is not.
use Rattle.std.specs.Prelude.{ℕ, ◌≡◌, ◌<◌, ◌-◌, ◌^◌, Bool, true, false, List, codes, decimal}
use Rattle.std.specs.Prelude.{length, nat_eq, take, drop}
use Rattle.std.specs.List.{starts_with}
use Rattle.hex.specs.Hex.{IsBytes, encode_lower}
use Rattle.seal_core.specs.declared.seal.Seal.{Seal}
use Rattle.seal_core.specs.declared.reading.LineFault.{LineFault}
use Rattle.seal_core.specs.declared.reading.LineFault.TheVariants.{NoMark, BadNumber, BadDigits}

-- The text between the number and the digits.
abbrev pub mark : List ℕ
mark = codes " sha256:"

-- The last 72 bytes of a line, which are the mark and the digits. The number is before them.
abbrev pub after_number : List ℕ → List ℕ
after_number line = drop (length line - 72) line

abbrev pub number_part : List ℕ → List ℕ
number_part line = take (length line - 72) line

abbrev pub digits_part : List ℕ → List ℕ
digits_part line = drop 8 (after_number line)

abbrev pub has_mark : List ℕ → Bool
has_mark line = starts_with nat_eq (after_number line) mark

-- The text is the only decimal text of a number of entries.
pub record SpellsCount (text : List ℕ) : Type 0 where
  pub number : ℕ
  pub small : number < 2 ^ 32
  pub spelled : text ≡ decimal number

-- The text is the only hexadecimal text of a head, in lower case.
pub record SpellsHead (text : List ℕ) : Type 0 where
  pub bytes : List ℕ
  pub few : length bytes ≡ 32
  pub are_bytes : IsBytes bytes
  pub spelled : text ≡ encode_lower bytes

-- The seal has a number of entries and a head, as every seal that a program holds does.
pub record IsSeal (seal : Seal) : Type 0 where
  pub small : seal.entries < 2 ^ 32
  pub few : length seal.head ≡ 32
  pub are_bytes : IsBytes seal.head

-- It is the first fault of the line.
abbrev pub IsFirstFault : List ℕ → LineFault → Type 0
IsFirstFault line NoMark = has_mark line ≡ false
IsFirstFault line BadNumber = (has_mark line ≡ true) × ¬ SpellsCount (number_part line)
IsFirstFault line BadDigits =
    (has_mark line ≡ true) × SpellsCount (number_part line) × ¬ SpellsHead (digits_part line)
