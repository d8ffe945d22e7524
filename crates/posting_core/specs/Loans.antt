-- Defines how far loans have come, by looking back through the posted entries: the stage of each
-- object's line, and each loan's state. Each object of a loan has a loan line, called a line here.
use Rattle.std.specs.Prelude.{ℕ, ◌&&◌, Bool, true, false, not, List, [], ◌∷◌, Option, Some, None}
use Rattle.std.specs.Prelude.{map, filter, if◌then◌else◌}
use Rattle.std.specs.List.{list_any, list_all}
use Rattle.std.specs.Option.{option_map, option_map_or, option_and_then}
use Rattle.std.specs.Str.{bytes_eq}
use Rattle.codes_core.specs.Loan.{is_out}
use Rattle.nest_core.specs.Museum.{Museum, is_container}
use Rattle.nest_core.specs.Puts.{is_among}
use Rattle.posting_core.specs.declared.message.Message.{Message}
use Rattle.posting_core.specs.declared.message.Message.TheVariants.{Exit, Return, Receive}
use Rattle.posting_core.specs.declared.entry.Entry.{Entry}
use Rattle.posting_core.specs.declared.stage.LineStage.{LineStage}
use Rattle.posting_core.specs.declared.stage.LineStage.TheVariants.{Awaiting, Away, Back, Here}
use Rattle.posting_core.specs.declared.stage.LineStage.TheVariants.{GivenBack}
use Rattle.posting_core.specs.declared.stage.LoanState.{LoanState}
use Rattle.posting_core.specs.declared.stage.LoanState.TheVariants.{Draft, Authorised, Running}
use Rattle.posting_core.specs.declared.stage.LoanState.TheVariants.{Closed}
use Rattle.posting_core.specs.Messages.{thing_no}
use Rattle.posting_core.specs.Agreements.{Agreement, agreement, is_authorised}
use Rattle.posting_core.specs.VerdictNames.{is_applied}
use Rattle.posting_core.specs.History.{carried_at}

-- A thing that leaves or arrives under a loan: the stage that the lines of its objects must have,
-- and the stage that they then get.
pub record Crossing : Type 0 where
  pub thing : List ℕ
  pub loan : List ℕ
  pub wanted : LineStage
  pub stage : LineStage

-- Under a loan out, an exit takes awaited objects away. Under a loan in, it gives back objects that
-- are here.
abbrev pub wanted_by_exit : List ℕ → LineStage
wanted_by_exit loan = if is_out loan then Awaiting else Here

abbrev pub exit_stage : List ℕ → LineStage
exit_stage loan = if is_out loan then Away else GivenBack

abbrev pub exit_of : List ℕ → List ℕ → Crossing
exit_of x loan =
    record { thing = x; loan = loan; wanted = wanted_by_exit loan; stage = exit_stage loan }

-- A return brings back objects that a loan out took away.
abbrev pub return_of : List ℕ → List ℕ → Crossing
return_of x loan = record { thing = x; loan = loan; wanted = Away; stage = Back }

-- A receipt takes in an awaited object of a loan in.
abbrev pub receive_of : List ℕ → List ℕ → Crossing
receive_of x loan = record { thing = x; loan = loan; wanted = Awaiting; stage = Here }

-- The crossing of a message, if its kind has one.
abbrev pub crossing_in : Message → Option Crossing
crossing_in (Exit day x loan) = Some (exit_of x loan)
crossing_in (Return day x loan p) = Some (return_of x loan)
crossing_in (Receive day x loan p) = Some (receive_of x loan)
crossing_in _ = None

-- The objects that cross with thing x: everything in it, and x itself, but no containers.
abbrev pub objects_with : Museum → List Entry → ℕ → List ℕ
objects_with S P x = filter (λ o. not (is_container S o)) (carried_at S P x)

-- The objects that cross with the thing of this code.
abbrev pub objects_in : Museum → List Entry → List ℕ → List ℕ
objects_in S P code = objects_with S P (thing_no S code)

-- The stage that an object's line gets from a message after P, if it crosses under this loan.
abbrev pub stage_by : Museum → List Entry → Message → List ℕ → ℕ → Option LineStage
stage_by S P m loan o = option_and_then
    (λ x. if bytes_eq x.loan loan && is_among o (objects_in S P x.thing) then Some x.stage
    else None)
    (crossing_in m)

-- The stage of an object's line under a loan: that of the last applied crossing of this loan with
-- the object in it. Before any crossing, Awaiting.
abbrev pub stage : Museum → List Entry → List ℕ → ℕ → LineStage
stage S [] loan o = Awaiting
stage S (e ∷ P) loan o =
    option_map_or (λ s. s) (if is_applied e.verdict then stage_by S P e.message loan o else None)
    (stage S P loan o)

-- The numbers of an agreement's objects, in its order.
abbrev pub objects_of : Museum → Agreement → List ℕ
objects_of S t = map (thing_no S) t.objects

-- The numbers of a loan's objects, in the order of its agreement. Empty if the loan isn't agreed.
abbrev pub objects : Museum → List Entry → List ℕ → List ℕ
objects S P loan = option_map_or (objects_of S) (agreement P loan) []

-- The stage of an object's line. None if the loan doesn't list the object.
abbrev pub line : Museum → List Entry → List ℕ → ℕ → Option LineStage
line S P loan o = if is_among o (objects S P loan) then Some (stage S P loan o) else None

-- The object is back with its owner, so that nothing more is owed.
abbrev pub is_done : LineStage → Bool
is_done Awaiting = false
is_done Away = false
is_done Back = true
is_done Here = false
is_done GivenBack = true

abbrev pub is_awaiting : LineStage → Bool
is_awaiting Awaiting = true
is_awaiting Away = false
is_awaiting Back = false
is_awaiting Here = false
is_awaiting GivenBack = false

-- The state of a loan by the stages of its lines: Draft until it is authorised; Closed once all
-- lines are done; Running once any line is no longer awaited; otherwise Authorised.
abbrev pub state_by : Bool → List LineStage → LoanState
state_by authorised stages =
    if not authorised then Draft
    else (if list_all is_done stages then Closed
    else (if list_any (λ s. not (is_awaiting s)) stages then Running
    else Authorised))

-- The state of a loan. None if it isn't agreed.
abbrev pub loan_state : Museum → List Entry → List ℕ → Option LoanState
loan_state S P loan =
    option_map (λ t. state_by (is_authorised P loan) (map (stage S P loan) (objects_of S t)))
    (agreement P loan)
