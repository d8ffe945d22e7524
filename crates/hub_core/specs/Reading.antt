-- Defines how one read takes bytes of the input. `old` and `new` are the bytes left before and
-- after it.
use Rattle.std.specs.Prelude.{ℕ, ◌≡◌, ◌≢◌, ◌∷◌, ◌++◌, Bool, true, false, List, [], Option, OnSome}
use Rattle.std.specs.Prelude.{take}
use Rattle.std.specs.Io.KnownBytes.{Consumes, IsAtEnd}
use Rattle.hub_core.specs.declared.line.bytes.End.{End}
use Rattle.hub_core.specs.declared.line.bytes.End.TheVariants.{Feed, Input, Open}

-- The bytes have no line feed.
abbrev pub HasNoFeed : List ℕ → Type 0
HasNoFeed [] = Unit {0}
HasNoFeed (b ∷ bytes) = (b ≢ 10) × HasNoFeed bytes

abbrev pub feed_if : Bool → List ℕ
feed_if true = 10 ∷ []
feed_if false = []

abbrev pub is_feed : End → Bool
is_feed Feed = true
is_feed Input = false
is_feed Open = false

-- Bytes of one line were taken, and its line feed if the line ended there. Only the first `most`
-- bytes of the line are kept: that is enough to see that it is too long.
pub record TakesPiece (old new : Option (List ℕ)) (most : ℕ) (held held_new : List ℕ)
    (end : End) : Type 0 where
  pub bytes : List ℕ
  pub taken : Consumes old new (bytes ++ feed_if (is_feed end))
  pub one : HasNoFeed bytes
  pub kept : (line : List ℕ) → held ≡ take most line → held_new ≡ take most (line ++ bytes)
  pub last : end ≡ Input → OnSome old (IsAtEnd new)

-- One line was taken, up to its line feed or the end of the input, and its first `most` bytes are
-- kept.
pub record TakesLine (old new : Option (List ℕ)) (most : ℕ) (held : List ℕ)
    (fed : Bool) : Type 0 where
  pub bytes : List ℕ
  pub taken : Consumes old new (bytes ++ feed_if fed)
  pub one : HasNoFeed bytes
  pub kept : held ≡ take most bytes
  pub last : fed ≡ false → OnSome old (IsAtEnd new)

-- The start of one line was taken.
abbrev pub TakesStart : Option (List ℕ) → Option (List ℕ) → Type 0
TakesStart old new = (bytes : List ℕ) × Consumes old new bytes × HasNoFeed bytes
