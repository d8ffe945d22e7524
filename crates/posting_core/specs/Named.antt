-- Defines the name of a message's kind, and what the message names by code: a thing, a container, a
-- place, a loan.
use Rattle.std.specs.Prelude.{ℕ, List, [], ◌∷◌, Option, Some, None, codes}
use Rattle.posting_core.specs.declared.message.Message.{Message}
use Rattle.posting_core.specs.declared.message.Message.TheVariants.{Move, Pack, Agree, Authorise}
use Rattle.posting_core.specs.declared.message.Message.TheVariants.{Exit, Return, Receive, SignOff}
use Rattle.posting_core.specs.declared.message.Message.TheVariants.{Extend}

-- The thing that the message puts, or the objects that its loan lists.
abbrev pub things_named : Message → List (List ℕ)
things_named (Move day x p) = x ∷ []
things_named (Pack day x c) = x ∷ []
things_named (Agree first last loan partner objects) = objects
things_named (Authorise name loan) = []
things_named (Exit day x loan) = x ∷ []
things_named (Return day x loan p) = x ∷ []
things_named (Receive day x loan p) = x ∷ []
things_named (SignOff name) = []
things_named (Extend last loan) = []

-- The thing that the message puts.
abbrev pub thing_named : Message → Option (List ℕ)
thing_named (Move day x p) = Some x
thing_named (Pack day x c) = Some x
thing_named (Exit day x loan) = Some x
thing_named (Return day x loan p) = Some x
thing_named (Receive day x loan p) = Some x
thing_named _ = None

-- The container that the message puts it into.
abbrev pub container_named : Message → Option (List ℕ)
container_named (Pack day x c) = Some c
container_named _ = None

-- The place that the message puts it at, or the place of the loan's partner.
abbrev pub place_named : Message → Option (List ℕ)
place_named (Move day x p) = Some p
place_named (Agree first last loan partner objects) = Some partner
place_named (Return day x loan p) = Some p
place_named (Receive day x loan p) = Some p
place_named _ = None

-- The loan.
abbrev pub loan_named : Message → Option (List ℕ)
loan_named (Agree first last loan partner objects) = Some loan
loan_named (Authorise name loan) = Some loan
loan_named (Exit day x loan) = Some loan
loan_named (Return day x loan p) = Some loan
loan_named (Receive day x loan p) = Some loan
loan_named (Extend last loan) = Some loan
loan_named _ = None

-- The name of its kind, as in the message's text.
abbrev pub kind_name : Message → List ℕ
kind_name (Move day x p) = codes "move"
kind_name (Pack day x c) = codes "pack"
kind_name (Agree first last loan partner objects) = codes "agree"
kind_name (Authorise name loan) = codes "authorise"
kind_name (Exit day x loan) = codes "exit"
kind_name (Return day x loan p) = codes "return"
kind_name (Receive day x loan p) = codes "receive"
kind_name (SignOff name) = codes "signoff"
kind_name (Extend last loan) = codes "extend"
