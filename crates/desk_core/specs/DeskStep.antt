-- Defines what a line says at a desk, and the desk after it.
use Rattle.std.specs.Prelude.{ℕ, ◌==◌, ◌&&◌, ◌||◌, ◌∷◌, [], Bool, false, List, Option, None, Some}
use Rattle.std.specs.Prelude.{codes, if◌then◌else◌, length, nat_eq}
use Rattle.std.specs.List.{list_all, starts_with}
use Rattle.std.specs.Option.{option_map_or}
use Rattle.std.specs.Str.{bytes_eq, is_utf8}
use Rattle.codes_core.specs.Day.{day_number}
use Rattle.nest_core.specs.Museum.{Museum}
use Rattle.desk_core.specs.declared.desk.Desk.{Desk}
use Rattle.desk_core.specs.declared.desk.Target.{Target}
use Rattle.desk_core.specs.declared.desk.Target.TheVariants as target
use Rattle.desk_core.specs.declared.said.Rejection.{Rejection}
use Rattle.desk_core.specs.declared.said.Rejection.TheVariants.{Ambiguous, NotUnderstood}
use Rattle.desk_core.specs.declared.said.Said.{Said}
use Rattle.desk_core.specs.declared.said.Said.TheVariants as says
use Rattle.desk_core.specs.declared.verb.Verb.{Verb}
use Rattle.desk_core.specs.declared.verb.Verb.TheVariants.{Agree, Ask, Authorise, Back, Clear}
use Rattle.desk_core.specs.declared.verb.Verb.TheVariants.{Day, Extend, Help, In, Into, Out}
use Rattle.desk_core.specs.declared.verb.Verb.TheVariants.{SignOff, To, Where}
use Rattle.desk_core.specs.Codes.{as_place, container_rejection, day_rejection, is_place}
use Rattle.desk_core.specs.Codes.{is_thing, lists_place, lists_thing, loan_rejection}
use Rattle.desk_core.specs.Codes.{place_rejection, thing_rejection}
use Rattle.desk_core.specs.Desks.{desk_after, first_rejection, unless}
use Rattle.desk_core.specs.Messages.{agreed, authorised, extended, scanned, signed_off}
use Rattle.desk_core.specs.LineTexts.{after, after_word, first_word, trimmed, word, words}
use Rattle.desk_core.specs.Verbs.{find_verb, takes_memory, verb_word}

abbrev pub aims : Target → Said
aims target = says.Target (Some target)

-- The setup lists the code as a place and as a container. It needs `to` or `into`.
unfoldable pub is_ambiguous : Museum → List ℕ → Bool
is_ambiguous S code = lists_thing S code && lists_place S code

-- A code alone is a place's, if the setup lists it as one. The code of a place that isn't listed
-- can also be that of a container, and is then taken for it.
unfoldable pub means_place : Museum → List ℕ → Bool
means_place S code =
    if is_thing code then lists_place S code
    else is_place code || lists_place S (as_place code)

-- A code alone.
unfoldable pub code_said : Museum → Bool → Desk → List ℕ → Said
code_said S forced d code =
    if is_ambiguous S code then says.Rejected Ambiguous
    else if means_place S code
    then unless (place_rejection S forced code) (aims (target.Place code))
    else unless (thing_rejection S forced code) (scanned d code)

-- Why the words aren't LOAN PLACE.
unfoldable pub crossing_rejection : Museum → Bool → List ℕ → Option Rejection
crossing_rejection S forced rest =
    first_rejection (loan_rejection (word 0 rest) ∷ place_rejection S forced (after 1 rest) ∷ [])

abbrev pub cleared : List ℕ → Said
cleared rest = if length rest == 0 then says.Target None else says.Rejected NotUnderstood

-- The report of this name, with the words of the rest.
unfoldable pub report_said : List ℕ → List ℕ → Said
report_said name rest =
    if list_all is_utf8 (words rest) then says.Report (name ∷ words rest)
    else says.Rejected NotUnderstood

-- A line that begins with a verb, by the rest of the line.
abbrev pub verb_said : Museum → Bool → Verb → List ℕ → Said
verb_said S forced To rest = unless (place_rejection S forced rest) (aims (target.Place rest))
verb_said S forced Into rest =
    unless (container_rejection S forced rest) (aims (target.Container rest))
verb_said S forced Out rest = unless (loan_rejection rest) (aims (target.Out rest))
verb_said S forced Back rest =
    unless (crossing_rejection S forced rest) (aims (target.Back (word 0 rest) (after 1 rest)))
verb_said S forced In rest =
    unless (crossing_rejection S forced rest) (aims (target.In (word 0 rest) (after 1 rest)))
verb_said S forced Clear rest = cleared rest
verb_said S forced Day rest = unless (day_rejection rest) (says.Day (day_number rest))
verb_said S forced Agree rest = agreed S forced rest
verb_said S forced Authorise rest = authorised rest
verb_said S forced Extend rest = extended rest
verb_said S forced SignOff rest = signed_off rest
verb_said S forced Help rest = says.Help
verb_said S forced Ask rest = report_said (verb_word Where) rest
verb_said S forced verb rest = report_said (verb_word verb) rest

-- A line of words, with its verb if it begins with one.
abbrev pub words_said : Museum → Bool → Desk → Option Verb → List ℕ → Said
words_said S forced d None text = code_said S forced d text
words_said S forced d (Some verb) text = verb_said S forced verb (after_word text)

-- Nothing, or a remark.
abbrev pub is_remark : List ℕ → Bool
is_remark text = (length text == 0) || starts_with nat_eq text (codes "#")

-- What a line says that isn't JSON, without the mark of a forced one.
unfoldable pub text_said : Museum → Bool → Desk → List ℕ → Said
text_said S forced d text =
    if is_remark text then says.Nothing
    else words_said S forced d (find_verb (first_word text)) text

-- A line that begins with the mark `!` is done even if a code isn't in the setup.
abbrev pub is_forced : List ℕ → Bool
is_forced line = bytes_eq (first_word (trimmed line)) (codes "!")

-- The line without that mark.
abbrev pub command : List ℕ → List ℕ
command line = if is_forced line then after_word (trimmed line) else trimmed line

-- The verb that the line begins with.
abbrev pub verb_of : List ℕ → Option Verb
verb_of line = find_verb (first_word (command line))

-- What a line says. A JSON line begins with a brace.
abbrev pub said : Museum → Desk → List ℕ → Said
said S d line =
    if starts_with nat_eq (trimmed line) (codes "{") then says.Line
    else text_said S (is_forced line) d (command line)

-- A line at a desk: the desk after it, and what it says.
abbrev pub desk_step : Museum → Desk → List ℕ → Desk × Said
desk_step S d line = (desk_after d (said S d line), said S d line)

-- The line's verb takes memory. No other line can run out of it.
abbrev pub may_fail : List ℕ → Bool
may_fail line = option_map_or takes_memory (verb_of line) false
