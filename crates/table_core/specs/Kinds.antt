-- Defines the kinds of messages: their names, and the columns of each, in the order in which they
-- are checked. A row's cells in other columns are not part of its message.
use Rattle.std.specs.Prelude.{ℕ, List, [], ◌∷◌, Option, Some, None, codes, if◌then◌else◌}
use Rattle.std.specs.Str.{bytes_eq}
use Rattle.table_core.specs.declared.column.Column.{Column}
use Rattle.table_core.specs.declared.column.Column.TheVariants.{Thing, Container, Place, Day, Loan}
use Rattle.table_core.specs.declared.column.Column.TheVariants.{Partner, Objects, First, Last, By}
use Rattle.table_core.specs.declared.kind.Kind.{Kind}
use Rattle.table_core.specs.declared.kind.Kind.TheVariants.{Move, Pack, Agree, Authorise, Exit}
use Rattle.table_core.specs.declared.kind.Kind.TheVariants.{Return, Receive, SignOff, Extend}

-- The kind of this name, in small letters.
abbrev pub kind_named : List ℕ → Option Kind
kind_named name =
    if bytes_eq name (codes "move") then Some Move
    else (if bytes_eq name (codes "pack") then Some Pack
    else (if bytes_eq name (codes "agree") then Some Agree
    else (if bytes_eq name (codes "authorise") then Some Authorise
    else (if bytes_eq name (codes "exit") then Some Exit
    else (if bytes_eq name (codes "return") then Some Return
    else (if bytes_eq name (codes "receive") then Some Receive
    else (if bytes_eq name (codes "signoff") then Some SignOff
    else (if bytes_eq name (codes "extend") then Some Extend else None))))))))

abbrev pub kind_columns : Kind → List Column
kind_columns Move = Thing ∷ Place ∷ Day ∷ []
kind_columns Pack = Thing ∷ Container ∷ Day ∷ []
kind_columns Agree = Loan ∷ Partner ∷ Objects ∷ First ∷ Last ∷ []
kind_columns Authorise = Loan ∷ By ∷ []
kind_columns Exit = Thing ∷ Loan ∷ Day ∷ []
kind_columns Return = Thing ∷ Loan ∷ Place ∷ Day ∷ []
kind_columns Receive = Thing ∷ Loan ∷ Place ∷ Day ∷ []
kind_columns SignOff = By ∷ []
kind_columns Extend = Loan ∷ Last ∷ []
