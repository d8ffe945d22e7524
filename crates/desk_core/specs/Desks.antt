-- Defines what a line changes at a desk, and which of several rejections counts.
use Rattle.std.specs.Prelude.{List, [], ◌∷◌, Option, None, Some}
use Rattle.desk_core.specs.declared.desk.Desk.{Desk}
use Rattle.desk_core.specs.declared.said.Rejection.{Rejection}
use Rattle.desk_core.specs.declared.said.Said.{Said}
use Rattle.desk_core.specs.declared.said.Said.TheVariants as says

-- A new target or a new day stays for the next lines. Nothing else changes the desk.
abbrev pub desk_after : Desk → Said → Desk
desk_after d (says.Target target) = record { target = target; day = d.day }
desk_after d (says.Day day) = record { target = d.target; day = Some day }
desk_after d _ = d

-- The first rejection, if there is one.
abbrev pub first_rejection : List (Option Rejection) → Option Rejection
first_rejection [] = None
first_rejection (None ∷ found) = first_rejection found
first_rejection (Some rejection ∷ found) = Some rejection

-- What is said, if nothing is against it.
abbrev pub unless : Option Rejection → Said → Said
unless None said = said
unless (Some rejection) said = says.Rejected rejection
