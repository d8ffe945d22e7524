-- Defines the numbers and the names of verdicts. A store keeps the number; replies and reports
-- print the name.
use Rattle.std.specs.Prelude.{ℕ, Bool, true, false, List, codes}
use Rattle.posting_core.specs.declared.verdict.Verdict.{Verdict}
use Rattle.posting_core.specs.declared.verdict.Verdict.TheVariants.{Applied, UnknownThing}
use Rattle.posting_core.specs.declared.verdict.Verdict.TheVariants.{UnknownPlace, ElsewherePlace}
use Rattle.posting_core.specs.declared.verdict.Verdict.TheVariants.{UnknownContainer, UnknownLoan}
use Rattle.posting_core.specs.declared.verdict.Verdict.TheVariants.{LoanKnown, InsidePartner}
use Rattle.posting_core.specs.declared.verdict.Verdict.TheVariants.{NoObjects, NotObject, Repeated}
use Rattle.posting_core.specs.declared.verdict.Verdict.TheVariants.{WrongOwner, BadTerm}
use Rattle.posting_core.specs.declared.verdict.Verdict.TheVariants.{AlreadyAuthorised}
use Rattle.posting_core.specs.declared.verdict.Verdict.TheVariants.{NotAuthorised, WrongDirection}
use Rattle.posting_core.specs.declared.verdict.Verdict.TheVariants.{NotHere, ContainerNotHere}
use Rattle.posting_core.specs.declared.verdict.Verdict.TheVariants.{Cycle, TooDeep, NotWithPartner}
use Rattle.posting_core.specs.declared.verdict.Verdict.TheVariants.{AlreadyHere, NotListed}
use Rattle.posting_core.specs.declared.verdict.Verdict.TheVariants.{WrongStage, TermOver, NotLater}

-- The message takes effect. Any other verdict is the reason why it changes nothing.
abbrev pub is_applied : Verdict → Bool
is_applied Applied = true
is_applied _ = false

-- A store keeps these numbers, so that a verdict's number never changes.
abbrev pub verdict_number : Verdict → ℕ
verdict_number Applied = 0
verdict_number UnknownThing = 1
verdict_number UnknownPlace = 2
verdict_number ElsewherePlace = 3
verdict_number UnknownContainer = 4
verdict_number UnknownLoan = 5
verdict_number LoanKnown = 6
verdict_number InsidePartner = 7
verdict_number NoObjects = 8
verdict_number NotObject = 9
verdict_number Repeated = 10
verdict_number WrongOwner = 11
verdict_number BadTerm = 12
verdict_number AlreadyAuthorised = 13
verdict_number NotAuthorised = 14
verdict_number WrongDirection = 15
verdict_number NotHere = 16
verdict_number ContainerNotHere = 17
verdict_number Cycle = 18
verdict_number TooDeep = 19
verdict_number NotWithPartner = 20
verdict_number AlreadyHere = 21
verdict_number NotListed = 22
verdict_number WrongStage = 23
verdict_number TermOver = 24
verdict_number NotLater = 25

abbrev pub verdict_name : Verdict → List ℕ
verdict_name Applied = codes "Applied"
verdict_name UnknownThing = codes "UnknownThing"
verdict_name UnknownPlace = codes "UnknownPlace"
verdict_name ElsewherePlace = codes "ElsewherePlace"
verdict_name UnknownContainer = codes "UnknownContainer"
verdict_name UnknownLoan = codes "UnknownLoan"
verdict_name LoanKnown = codes "LoanKnown"
verdict_name InsidePartner = codes "InsidePartner"
verdict_name NoObjects = codes "NoObjects"
verdict_name NotObject = codes "NotObject"
verdict_name Repeated = codes "Repeated"
verdict_name WrongOwner = codes "WrongOwner"
verdict_name BadTerm = codes "BadTerm"
verdict_name AlreadyAuthorised = codes "AlreadyAuthorised"
verdict_name NotAuthorised = codes "NotAuthorised"
verdict_name WrongDirection = codes "WrongDirection"
verdict_name NotHere = codes "NotHere"
verdict_name ContainerNotHere = codes "ContainerNotHere"
verdict_name Cycle = codes "Cycle"
verdict_name TooDeep = codes "TooDeep"
verdict_name NotWithPartner = codes "NotWithPartner"
verdict_name AlreadyHere = codes "AlreadyHere"
verdict_name NotListed = codes "NotListed"
verdict_name WrongStage = codes "WrongStage"
verdict_name TermOver = codes "TermOver"
verdict_name NotLater = codes "NotLater"
