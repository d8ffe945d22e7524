-- Defines what made a message's verdict true: which thing, place or loan that it names, or which
-- object that crosses with its thing. Of several, it is the first: in the order of the loan's list,
-- or, of the objects that cross, in the order of the setup.
use Rattle.std.specs.Prelude.{ℕ, ◌&&◌, Bool, false, true, not, List, [], ◌∷◌, Option, Some, None}
use Rattle.std.specs.Prelude.{option_map, if◌then◌else◌}
use Rattle.std.specs.List.{find, list_any}
use Rattle.std.specs.Option.{option_and_then, option_map_or}
use Rattle.std.specs.Str.{bytes_eq}
use Rattle.nest_core.specs.Museum.{Museum, find_thing, is_container, thing_code_of}
use Rattle.posting_core.specs.declared.message.Message.{Message}
use Rattle.posting_core.specs.declared.stage.LineStage.{LineStage}
use Rattle.posting_core.specs.declared.verdict.Verdict.{Verdict}
use Rattle.posting_core.specs.declared.verdict.Verdict.TheVariants.{Applied, UnknownThing}
use Rattle.posting_core.specs.declared.verdict.Verdict.TheVariants.{UnknownPlace, ElsewherePlace}
use Rattle.posting_core.specs.declared.verdict.Verdict.TheVariants.{UnknownContainer, UnknownLoan}
use Rattle.posting_core.specs.declared.verdict.Verdict.TheVariants.{LoanKnown, InsidePartner}
use Rattle.posting_core.specs.declared.verdict.Verdict.TheVariants.{NoObjects, NotObject, Repeated}
use Rattle.posting_core.specs.declared.verdict.Verdict.TheVariants.{WrongOwner, BadTerm}
use Rattle.posting_core.specs.declared.verdict.Verdict.TheVariants.{AlreadyAuthorised}
use Rattle.posting_core.specs.declared.verdict.Verdict.TheVariants.{NotAuthorised, WrongDirection}
use Rattle.posting_core.specs.declared.verdict.Verdict.TheVariants.{NotHere, ContainerNotHere}
use Rattle.posting_core.specs.declared.verdict.Verdict.TheVariants.{Cycle, TooDeep, NotWithPartner}
use Rattle.posting_core.specs.declared.verdict.Verdict.TheVariants.{AlreadyHere, NotListed}
use Rattle.posting_core.specs.declared.verdict.Verdict.TheVariants.{WrongStage, TermOver, NotLater}
use Rattle.posting_core.specs.Book.{Book, line_in}
use Rattle.posting_core.specs.History.{carried_at}
use Rattle.posting_core.specs.Loans.{crossing_in}
use Rattle.posting_core.specs.Verdicts.{is_container_code, is_known_at, is_of_wrong_owner}
use Rattle.posting_core.specs.Verdicts.{stage_eq}
use Rattle.posting_core.specs.declared.culprit.Culprit.{Culprit}
use Rattle.posting_core.specs.declared.culprit.Culprit.TheVariants.{Thing, Place, Loan}
use Rattle.posting_core.specs.Named.{container_named, loan_named, place_named, thing_named}
use Rattle.posting_core.specs.Named.{things_named}

abbrev pub a_thing : Option (List ℕ) → Option Culprit
a_thing code = option_map Thing code

abbrev pub a_place : Option (List ℕ) → Option Culprit
a_place code = option_map Place code

abbrev pub a_loan : Option (List ℕ) → Option Culprit
a_loan code = option_map Loan code

-- The thing wasn't listed yet after the record's last entry.
abbrev pub is_unknown : Book → List ℕ → Bool
is_unknown B x = not (is_known_at B.museum B.posted x)

-- The first code that comes again later in the list.
abbrev pub first_repeated : List (List ℕ) → Option (List ℕ)
first_repeated [] = None
first_repeated (x ∷ xs) = if list_any (bytes_eq x) xs then Some x else first_repeated xs

-- The first object that the loan may not list, because of its owner.
abbrev pub first_of_wrong_owner : Message → Option (List ℕ)
first_of_wrong_owner m =
    option_and_then (λ loan. find (is_of_wrong_owner loan) (things_named m)) (loan_named m)

-- The stage is the wanted one. If none is wanted, any stage will do.
abbrev pub is_wanted : Option LineStage → LineStage → Bool
is_wanted None s = true
is_wanted (Some wanted) s = stage_eq wanted s

-- The thing is an object, and the loan has no line for it, or not at the wanted stage.
abbrev pub is_off : Book → List ℕ → Option LineStage → ℕ → Bool
is_off B loan wanted o =
    not (is_container B.museum o)
    && not (option_map_or (is_wanted wanted) (line_in B loan o) false)

-- The first of these objects among what crosses with the thing of this code.
abbrev pub first_off : Book → List ℕ → List ℕ → Option LineStage → Option (List ℕ)
first_off B code loan wanted =
    option_and_then
    (λ x. option_and_then (thing_code_of B.museum)
    (find (is_off B loan wanted) (carried_at B.museum B.posted x)))
    (find_thing B.museum code)

-- No stage if any will do.
abbrev pub wanted_if : Bool → LineStage → Option LineStage
wanted_if any_stage wanted = if any_stage then None else Some wanted

-- The first object that crosses without a line of the loan, or, unless any stage will do, without
-- one at the stage that the crossing needs.
abbrev pub first_crossing_off : Book → Message → Bool → Option (List ℕ)
first_crossing_off B m any_stage =
    option_and_then (λ c. first_off B c.thing c.loan (wanted_if any_stage c.wanted))
    (crossing_in m)

-- What made this verdict on a message true, in the record before it. Nothing, if it is applied.
abbrev pub culprit : Book → Message → Verdict → Option Culprit
culprit B m Applied = None
culprit B m UnknownThing = a_thing (find (is_unknown B) (things_named m))
culprit B m UnknownPlace = a_place (place_named m)
culprit B m ElsewherePlace = a_place (place_named m)
culprit B m UnknownContainer = a_thing (container_named m)
culprit B m UnknownLoan = a_loan (loan_named m)
culprit B m LoanKnown = a_loan (loan_named m)
culprit B m InsidePartner = a_place (place_named m)
culprit B m NoObjects = a_loan (loan_named m)
culprit B m NotObject = a_thing (find is_container_code (things_named m))
culprit B m Repeated = a_thing (first_repeated (things_named m))
culprit B m WrongOwner = a_thing (first_of_wrong_owner m)
culprit B m BadTerm = a_loan (loan_named m)
culprit B m AlreadyAuthorised = a_loan (loan_named m)
culprit B m NotAuthorised = a_loan (loan_named m)
culprit B m WrongDirection = a_loan (loan_named m)
culprit B m NotHere = a_thing (thing_named m)
culprit B m ContainerNotHere = a_thing (container_named m)
culprit B m Cycle = a_thing (thing_named m)
culprit B m TooDeep = a_thing (thing_named m)
culprit B m NotWithPartner = a_thing (thing_named m)
culprit B m AlreadyHere = a_thing (thing_named m)
culprit B m NotListed = a_thing (first_crossing_off B m true)
culprit B m WrongStage = a_thing (first_crossing_off B m false)
culprit B m TermOver = a_loan (loan_named m)
culprit B m NotLater = a_loan (loan_named m)
