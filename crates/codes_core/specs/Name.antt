-- Defines names as people write them: of people who authorise a loan, or sign a station off.
use Rattle.std.specs.Prelude.{ℕ, ◌≡◌, ◌<◌, ◌≤◌, ◌==◌, ◌&&◌, not, nat_le, Bool, List, length, IsUtf8}
use Rattle.std.specs.Prelude.{IsTrue}
use Rattle.std.specs.List.{list_all}
use Rattle.codes_core.specs.declared.TheConstants.{LONGEST_NAME}
use Rattle.codes_core.specs.declared.fault.NameFault.{NameFault}
use Rattle.codes_core.specs.declared.fault.NameFault.TheVariants.{Empty, BadShape, NoMemory}

-- Not a control byte: 32 or above, and not 127.
abbrev pub is_name_byte : ℕ → Bool
is_name_byte b = nat_le 32 b && not (b == 127)

-- UTF-8 of 1 to 60 bytes (`LONGEST_NAME`), none of them a control byte.
pub record IsName (text : List ℕ) : Type 0 where
  pub utf8 : IsUtf8 text
  pub some : 0 < length text
  pub few : length text ≤ LONGEST_NAME
  pub plain : IsTrue (list_all is_name_byte text)

-- The cause of each fault. NoMemory can come only for a text that is a name.
abbrev pub IsNameFault : NameFault → List ℕ → Type 0
IsNameFault Empty text = length text ≡ 0
IsNameFault BadShape text = (0 < length text) × ¬ (IsName text)
IsNameFault NoMemory text = IsName text
