-- Defines rules in an order: the first of several rows whose condition holds.
use Rattle.std.specs.Prelude.{Bool, List, [], ◌∷◌, if◌then◌else◌}

-- A row of a table: a result, and whether its condition holds.
pub record Row (A : Type 0) : Type 0 where
  pub says : A
  pub holds : Bool

infixl 10 ◌if◌
-- The result a, if the condition b holds.
abbrev pub ◌if◌ : {A : Type 0} → A → Bool → Row A
a if b = record { says = a; holds = b }

-- The result of the first row that holds, or `other` if none does.
abbrev pub first_or : {A : Type 0} → A → List (Row A) → A
first_or other [] = other
first_or other (row ∷ rows) = if row.holds then row.says else first_or other rows
