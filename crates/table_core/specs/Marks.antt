-- Defines the byte order mark, and what skipping it takes off a reader.
use Rattle.std.specs.Prelude.{ℕ, ◌≡◌, ◌<◌, ◌∷◌, [], List, Option, take}
use Rattle.std.specs.Io.KnownBytes.{Consumes}
use Rattle.csv.specs.Reading.{strip_bom}

-- The byte order mark: U+FEFF in UTF-8.
abbrev pub mark : List ℕ
mark = 0xEF ∷ 0xBB ∷ 0xBF ∷ []

-- Only first bytes of a mark were taken. They are given back, unless they are a whole mark.
pub record TakesOfMark (old new : Option (List ℕ)) (back : List ℕ) : Type 0 where
  pub count : ℕ
  pub taken : Consumes old new (take count mark)
  pub given_back : back ≡ strip_bom (take count mark)

-- Only first bytes of a mark were taken, and not all three.
pub record TakesPart (old new : Option (List ℕ)) : Type 0 where
  pub count : ℕ
  pub part : count < 3
  pub taken : Consumes old new (take count mark)
