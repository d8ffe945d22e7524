-- Defines the verdict on a message after the entries P. Each kind of message has a table of
-- refusals with their causes, and the first row whose cause holds is the verdict.
use Rattle.std.specs.Prelude.{ℕ, ℤ, ◌&&◌, ◌||◌, Bool, true, false, not, List, [], ◌∷◌, length}
use Rattle.std.specs.Prelude.{Option, Some, None, if◌then◌else◌, is_some, int_lt, int_le}
use Rattle.std.specs.List.{list_any}
use Rattle.std.specs.Option.{option_map_or}
use Rattle.std.specs.Str.{bytes_eq}
use Rattle.codes_core.specs.Loan.{is_out}
use Rattle.codes_core.specs.Thing.{thing_kind}
use Rattle.nest_core.specs.declared.put.Target.TheVariants.{Within}
use Rattle.nest_core.specs.Museum.{Museum, find_thing, find_place, find_thing_at, find_place_at}
use Rattle.nest_core.specs.Museum.{is_inside, is_elsewhere, is_borrowed, is_container}
use Rattle.nest_core.specs.Museum.{is_own_kind, is_borrowed_kind, is_container_kind}
use Rattle.nest_core.specs.InOrder.{Row, ◌if◌, first_or}
use Rattle.nest_core.specs.Puts.{last, is_among}
use Rattle.nest_core.specs.Nest.{put_at, is_too_deep, is_same_place}
use Rattle.posting_core.specs.declared.message.Message.{Message}
use Rattle.posting_core.specs.declared.message.Message.TheVariants.{Move, Pack, Agree, Authorise}
use Rattle.posting_core.specs.declared.message.Message.TheVariants.{Exit, Return, Receive, SignOff}
use Rattle.posting_core.specs.declared.message.Message.TheVariants.{Extend}
use Rattle.posting_core.specs.declared.verdict.Verdict.{Verdict}
use Rattle.posting_core.specs.declared.verdict.Verdict.TheVariants.{Applied, UnknownThing}
use Rattle.posting_core.specs.declared.verdict.Verdict.TheVariants.{UnknownPlace, ElsewherePlace}
use Rattle.posting_core.specs.declared.verdict.Verdict.TheVariants.{UnknownContainer, UnknownLoan}
use Rattle.posting_core.specs.declared.verdict.Verdict.TheVariants.{LoanKnown, InsidePartner}
use Rattle.posting_core.specs.declared.verdict.Verdict.TheVariants.{NoObjects, NotObject, Repeated}
use Rattle.posting_core.specs.declared.verdict.Verdict.TheVariants.{WrongOwner, BadTerm}
use Rattle.posting_core.specs.declared.verdict.Verdict.TheVariants.{AlreadyAuthorised}
use Rattle.posting_core.specs.declared.verdict.Verdict.TheVariants.{NotAuthorised, WrongDirection}
use Rattle.posting_core.specs.declared.verdict.Verdict.TheVariants.{NotHere, ContainerNotHere}
use Rattle.posting_core.specs.declared.verdict.Verdict.TheVariants.{Cycle, TooDeep, NotWithPartner}
use Rattle.posting_core.specs.declared.verdict.Verdict.TheVariants.{AlreadyHere, NotListed}
use Rattle.posting_core.specs.declared.verdict.Verdict.TheVariants.{WrongStage, TermOver, NotLater}
use Rattle.posting_core.specs.declared.entry.Entry.{Entry}
use Rattle.posting_core.specs.Messages.{thing_no, place_no}
use Rattle.posting_core.specs.declared.stage.LineStage.{LineStage}
use Rattle.posting_core.specs.declared.stage.LineStage.TheVariants.{Awaiting, Away, Back, Here}
use Rattle.posting_core.specs.declared.stage.LineStage.TheVariants.{GivenBack}
use Rattle.posting_core.specs.Agreements.{agreement, is_agreed, is_authorised, last_day}
use Rattle.posting_core.specs.History.{puts, chain_at, place_at}
use Rattle.posting_core.specs.Loans.{Crossing, exit_of, return_of, receive_of, objects_in, line}

-- The refusal of the first row whose cause holds. If none holds, the message is applied.
abbrev pub first_of : List (Row Verdict) → Verdict
first_of rows = first_or Applied rows

-- The setup lists the thing.
abbrev pub is_known : Museum → List ℕ → Bool
is_known S x = is_some (find_thing S x)

-- The setup lists the place.
abbrev pub is_known_place : Museum → List ℕ → Bool
is_known_place S p = is_some (find_place S p)

-- The thing was listed when the message after P was posted.
abbrev pub is_known_at : Museum → List Entry → List ℕ → Bool
is_known_at S P x = is_some (find_thing_at S (length P) x)

-- The place was listed then.
abbrev pub is_known_place_at : Museum → List Entry → List ℕ → Bool
is_known_place_at S P p = is_some (find_place_at S (length P) p)

-- Thing x with this place is not in the museum: the place is elsewhere, or a borrowed object has
-- not arrived yet.
abbrev pub is_away : Museum → ℕ → Option ℕ → Bool
is_away S x (Some p) = is_elsewhere S p
is_away S x None = is_borrowed S x

-- The same of the thing with code x, at its place after P.
abbrev pub is_not_here : Museum → List Entry → List ℕ → Bool
is_not_here S P x = is_away S (thing_no S x) (place_at S P (thing_no S x))

-- A Move of thing x to place p.
abbrev pub move_rows : Museum → List Entry → List ℕ → List ℕ → List (Row Verdict)
move_rows S P x p =
    (UnknownThing if not (is_known_at S P x))
    ∷ (UnknownPlace if not (is_known_place_at S P p))
    ∷ (ElsewherePlace if is_elsewhere S (place_no S p))
    ∷ (NotHere if is_not_here S P x)
    ∷ []

-- It was listed then, and it is a container.
abbrev pub is_known_container : Museum → List Entry → List ℕ → Bool
is_known_container S P c = option_map_or (is_container S) (find_thing_at S (length P) c) false

-- The thing's place is inside the museum. A thing without a place is neither inside nor elsewhere:
-- so an own object that was never placed can be moved, but not lent, and a crate that was never
-- placed can be moved, but not packed into.
abbrev pub stands_inside : Museum → List Entry → List ℕ → Bool
stands_inside S P x = option_map_or (is_inside S) (place_at S P (thing_no S x)) false

-- x is the container itself, or one of the containers above it.
abbrev pub is_cycle : Museum → List Entry → List ℕ → List ℕ → Bool
is_cycle S P x c = is_among (thing_no S x) (thing_no S c ∷ chain_at S P (thing_no S c))

-- With x in the container, some thing would have more containers above it than the depth limit.
abbrev pub is_deep_with : Museum → ℕ → List Entry → List ℕ → List ℕ → Bool
is_deep_with S depth P x c =
    is_too_deep (put_at (last (puts S P)) (thing_no S x) (Within (thing_no S c)))
    (length S.things) depth

-- A Pack of thing x into container c.
abbrev pub pack_rows : Museum → ℕ → List Entry → List ℕ → List ℕ → List (Row Verdict)
pack_rows S depth P x c =
    (UnknownThing if not (is_known_at S P x))
    ∷ (UnknownContainer if not (is_known_container S P c))
    ∷ (NotHere if is_not_here S P x)
    ∷ (ContainerNotHere if not (stands_inside S P c))
    ∷ (Cycle if is_cycle S P x c)
    ∷ (TooDeep if is_deep_with S depth P x c)
    ∷ []

-- The code is a container's, by its first letter, whether or not the setup has it.
abbrev pub is_container_code : List ℕ → Bool
is_container_code x = is_container_kind (thing_kind x)

-- A loan out can't list a borrowed object, and a loan in can't list an own one.
abbrev pub is_of_wrong_owner : List ℕ → List ℕ → Bool
is_of_wrong_owner loan x =
    if is_out loan then is_borrowed_kind (thing_kind x) else is_own_kind (thing_kind x)

-- A code occurs twice.
abbrev pub repeats : List (List ℕ) → Bool
repeats [] = false
repeats (x ∷ xs) = list_any (bytes_eq x) xs || repeats xs

abbrev pub is_empty : List (List ℕ) → Bool
is_empty [] = true
is_empty (x ∷ xs) = false

-- An Agree of a loan: the partner's place, the objects, the first day and the last.
abbrev pub agree_rows : Museum → List Entry → List ℕ → List ℕ → List (List ℕ) → ℤ → ℤ
    → List (Row Verdict)
agree_rows S P loan partner objects first last =
    (UnknownThing if list_any (λ x. not (is_known_at S P x)) objects)
    ∷ (UnknownPlace if not (is_known_place_at S P partner))
    ∷ (LoanKnown if is_agreed P loan)
    ∷ (InsidePartner if is_inside S (place_no S partner))
    ∷ (NoObjects if is_empty objects)
    ∷ (NotObject if list_any is_container_code objects)
    ∷ (Repeated if repeats objects)
    ∷ (WrongOwner if list_any (is_of_wrong_owner loan) objects)
    ∷ (BadTerm if int_lt last first)
    ∷ []

-- An Authorise of a loan.
abbrev pub authorise_rows : List Entry → List ℕ → List (Row Verdict)
authorise_rows P loan =
    (UnknownLoan if not (is_agreed P loan))
    ∷ (AlreadyAuthorised if is_authorised P loan)
    ∷ []

abbrev pub stage_eq : LineStage → LineStage → Bool
stage_eq Awaiting Awaiting = true
stage_eq Away Away = true
stage_eq Back Back = true
stage_eq Here Here = true
stage_eq GivenBack GivenBack = true
stage_eq _ _ = false

-- The loan lists the object.
abbrev pub is_listed : Museum → List Entry → List ℕ → ℕ → Bool
is_listed S P loan o = is_some (line S P loan o)

-- The loan lists the object, at this stage.
abbrev pub is_at_stage : Museum → List Entry → List ℕ → LineStage → ℕ → Bool
is_at_stage S P loan wanted o = option_map_or (stage_eq wanted) (line S P loan o) false

-- The loan doesn't list one of these objects. `lines` has the stage of each line.
abbrev pub any_unlisted : (ℕ → Option LineStage) → List ℕ → Bool
any_unlisted lines objects = list_any (λ o. not (is_some (lines o))) objects

-- One of these objects has no line at this stage.
abbrev pub any_not_at : (ℕ → Option LineStage) → LineStage → List ℕ → Bool
any_not_at lines wanted objects =
    list_any (λ o. not (option_map_or (stage_eq wanted) (lines o) false)) objects

-- The last rows of each crossing: those of its objects' lines, and of the loan's last day. `late`
-- is false for a crossing that may be late: a return, and an exit under a loan in.
abbrev pub line_rows : (ℕ → Option LineStage) → LineStage → List ℕ → Bool → List (Row Verdict)
line_rows lines wanted objects late =
    (NotListed if any_unlisted lines objects)
    ∷ (WrongStage if any_not_at lines wanted objects)
    ∷ (TermOver if late)
    ∷ []

-- The verdict is one of those rows, or Applied. For a crossing it is known only after looking at
-- the lines.
abbrev pub hangs_on_lines : Verdict → Bool
hangs_on_lines Applied = true
hangs_on_lines NotListed = true
hangs_on_lines WrongStage = true
hangs_on_lines TermOver = true
hangs_on_lines _ = false

-- The loan doesn't list one of the objects that cross.
abbrev pub carries_unlisted : Museum → List Entry → Crossing → Bool
carries_unlisted S P c = any_unlisted (line S P c.loan) (objects_in S P c.thing)

-- One of the objects that cross has no line at the stage that the crossing needs.
abbrev pub carries_wrong_stage : Museum → List Entry → Crossing → Bool
carries_wrong_stage S P c = any_not_at (line S P c.loan) c.wanted (objects_in S P c.thing)

-- The day is after the loan's last day. The last day itself is in time.
abbrev pub is_over : List Entry → List ℕ → ℤ → Bool
is_over P loan day = option_map_or (λ last. int_lt last day) (last_day P loan) false

-- An Exit of thing x under a loan. NotHere is stricter than for a Move: the thing must have a place
-- inside. Under a loan in, a container can't leave (NotObject), and giving back is never late (no
-- TermOver).
abbrev pub exit_rows : Museum → List Entry → List ℕ → List ℕ → ℤ → List (Row Verdict)
exit_rows S P x loan day =
    (UnknownThing if not (is_known_at S P x))
    ∷ (UnknownLoan if not (is_agreed P loan))
    ∷ (NotObject if not (is_out loan) && is_container_code x)
    ∷ (NotAuthorised if not (is_authorised P loan))
    ∷ (NotHere if not (stands_inside S P x))
    ∷ (NotListed if carries_unlisted S P (exit_of x loan))
    ∷ (WrongStage if carries_wrong_stage S P (exit_of x loan))
    ∷ (TermOver if is_out loan && is_over P loan day)
    ∷ []

-- The thing's place is that of the loan's partner.
abbrev pub is_with_partner : Museum → List Entry → List ℕ → List ℕ → Bool
is_with_partner S P x loan =
    option_map_or (λ t. is_same_place (place_at S P (thing_no S x)) (Some (place_no S t.partner)))
    (agreement P loan) false

-- A Return of thing x under a loan to place p. It is never late.
abbrev pub return_rows : Museum → List Entry → List ℕ → List ℕ → List ℕ → List (Row Verdict)
return_rows S P x loan p =
    (UnknownThing if not (is_known_at S P x))
    ∷ (UnknownPlace if not (is_known_place_at S P p))
    ∷ (ElsewherePlace if is_elsewhere S (place_no S p))
    ∷ (UnknownLoan if not (is_agreed P loan))
    ∷ (NotAuthorised if not (is_authorised P loan))
    ∷ (WrongDirection if not (is_out loan))
    ∷ (NotWithPartner if not (is_with_partner S P x loan))
    ∷ (NotListed if carries_unlisted S P (return_of x loan))
    ∷ (WrongStage if carries_wrong_stage S P (return_of x loan))
    ∷ []

-- A Receive of thing x under a loan at place p.
abbrev pub receive_rows : Museum → List Entry → List ℕ → List ℕ → List ℕ → ℤ → List (Row Verdict)
receive_rows S P x loan p day =
    (UnknownThing if not (is_known_at S P x))
    ∷ (UnknownPlace if not (is_known_place_at S P p))
    ∷ (ElsewherePlace if is_elsewhere S (place_no S p))
    ∷ (UnknownLoan if not (is_agreed P loan))
    ∷ (NotObject if is_container_code x)
    ∷ (NotAuthorised if not (is_authorised P loan))
    ∷ (WrongDirection if is_out loan)
    ∷ (AlreadyHere if stands_inside S P x)
    ∷ (NotListed if carries_unlisted S P (receive_of x loan))
    ∷ (WrongStage if carries_wrong_stage S P (receive_of x loan))
    ∷ (TermOver if is_over P loan day)
    ∷ []

-- The new last day is not after the present one.
abbrev pub is_no_later : List Entry → List ℕ → ℤ → Bool
is_no_later P loan day = option_map_or (λ last. int_le day last) (last_day P loan) false

-- An Extend of a loan to a new last day.
abbrev pub extend_rows : List Entry → List ℕ → ℤ → List (Row Verdict)
extend_rows P loan day =
    (UnknownLoan if not (is_agreed P loan))
    ∷ (NotAuthorised if not (is_authorised P loan))
    ∷ (NotLater if is_no_later P loan day)
    ∷ []

-- The verdict on a message, under a depth limit. A sign-off is always applied.
abbrev pub verdict : Museum → ℕ → List Entry → Message → Verdict
verdict S depth P (Move day x p) = first_of (move_rows S P x p)
verdict S depth P (Pack day x c) = first_of (pack_rows S depth P x c)
verdict S depth P (Agree first last loan partner objects) =
    first_of (agree_rows S P loan partner objects first last)
verdict S depth P (Authorise name loan) = first_of (authorise_rows P loan)
verdict S depth P (Exit day x loan) = first_of (exit_rows S P x loan day)
verdict S depth P (Return day x loan p) = first_of (return_rows S P x loan p)
verdict S depth P (Receive day x loan p) = first_of (receive_rows S P x loan p day)
verdict S depth P (SignOff name) = Applied
verdict S depth P (Extend last loan) = first_of (extend_rows P loan last)
