-- Defines the report on why entries got their verdicts. An example of the plain line is above each
-- row.
use Rattle.std.specs.Prelude.{◌∷◌, ◌++◌, ◌+◌, [], ℕ, ℤ, List, None, Option, Some, codes, length}
use Rattle.std.specs.Prelude.{map}
use Rattle.std.specs.Prelude.{if◌then◌else◌, option_map, reverse, slice_get}
use Rattle.std.specs.Prelude.{Bool, false, not, true, unwrap_or}
use Rattle.std.specs.List.{flat_map, range_with_len}
use Rattle.std.specs.Option.{option_and_then, option_map_or, option_to_list}
use Rattle.std.specs.Str.{bytes_eq}
use Rattle.codes_core.specs.Loan.{is_out}
use Rattle.codes_core.specs.Thing.{thing_kind}
use Rattle.codes_core.specs.declared.thing.ThingKind.{ThingKind}
use Rattle.nest_core.specs.Museum.{Museum, find_thing, is_borrowed_kind}
use Rattle.posting_core.specs.declared.entry.Entry.{Entry}
use Rattle.posting_core.specs.declared.message.Message.{Message}
use Rattle.posting_core.specs.declared.message.Message.TheVariants.{Exit, Move, Pack, Receive}
use Rattle.posting_core.specs.declared.message.Message.TheVariants.{Return}
use Rattle.posting_core.specs.declared.verdict.Verdict.{Verdict}
use Rattle.posting_core.specs.declared.verdict.Verdict.TheVariants.{Applied, UnknownThing}
use Rattle.posting_core.specs.declared.verdict.Verdict.TheVariants.{UnknownPlace, ElsewherePlace}
use Rattle.posting_core.specs.declared.verdict.Verdict.TheVariants.{UnknownContainer, UnknownLoan}
use Rattle.posting_core.specs.declared.verdict.Verdict.TheVariants.{LoanKnown, InsidePartner}
use Rattle.posting_core.specs.declared.verdict.Verdict.TheVariants.{NoObjects, NotObject, Repeated}
use Rattle.posting_core.specs.declared.verdict.Verdict.TheVariants.{WrongOwner, BadTerm}
use Rattle.posting_core.specs.declared.verdict.Verdict.TheVariants.{AlreadyAuthorised}
use Rattle.posting_core.specs.declared.verdict.Verdict.TheVariants.{NotAuthorised, WrongDirection}
use Rattle.posting_core.specs.declared.verdict.Verdict.TheVariants.{NotHere, ContainerNotHere}
use Rattle.posting_core.specs.declared.verdict.Verdict.TheVariants.{Cycle, TooDeep, NotWithPartner}
use Rattle.posting_core.specs.declared.verdict.Verdict.TheVariants.{AlreadyHere, NotListed}
use Rattle.posting_core.specs.declared.verdict.Verdict.TheVariants.{WrongStage, TermOver, NotLater}
use Rattle.posting_core.specs.Agreements.{agreement}
use Rattle.posting_core.specs.Book.{Book, last_day_in, line_in, place_in}
use Rattle.posting_core.specs.Loans.{crossing_in}
use Rattle.posting_core.specs.VerdictNames.{is_applied, verdict_name}
use Rattle.posting_core.specs.Past.{upto}
use Rattle.posting_core.specs.declared.culprit.Culprit.{Culprit}
use Rattle.posting_core.specs.declared.culprit.Culprit.TheVariants as culprit
use Rattle.posting_core.specs.Culprits.{culprit}
use Rattle.posting_core.specs.Named.{container_named, kind_name, loan_named, place_named}
use Rattle.posting_core.specs.Named.{thing_named}
use Rattle.reports.specs.declared.form.Form.{Form}
use Rattle.reports.specs.declared.question.EntryFilter.{EntryFilter}
use Rattle.reports.specs.Forms.{by_form}
use Rattle.reports.specs.Cells.{Cell, day_if, joined_words, nothing, number, text}
use Rattle.reports.specs.Cells.{text_if}
use Rattle.reports.specs.EntryFilters.{is_wanted_at}
use Rattle.reports.specs.Loans.{stage_word}
use Rattle.reports.specs.Texts.{place_text_if, station_text}

-- What a verdict says of its culprit, up to the details. Of an applied message, it says it of the
-- thing that the message puts.
abbrev pub phrase : Verdict → List ℕ
phrase Applied = codes "went to"
phrase UnknownThing = codes "was not in the setup"
phrase UnknownPlace = codes "was not in the setup"
phrase ElsewherePlace = codes "is outside the museum"
phrase UnknownContainer = codes "was not a container in the setup"
phrase UnknownLoan = codes "is not agreed"
phrase LoanKnown = codes "is already agreed"
phrase InsidePartner = codes "is inside the museum"
phrase NoObjects = codes "lists no objects"
phrase NotObject = codes "is a container"
phrase Repeated = codes "is listed twice"
phrase WrongOwner = codes "belongs to"
phrase BadTerm = codes "ends before it begins"
phrase AlreadyAuthorised = codes "is already authorised"
phrase NotAuthorised = codes "is not authorised"
phrase WrongDirection = codes "is"
phrase NotHere = codes "is at"
phrase ContainerNotHere = codes "is at"
phrase Cycle = codes "would be inside itself"
phrase TooDeep = codes "would be too deep in"
phrase NotWithPartner = codes "is at"
phrase AlreadyHere = codes "is at"
phrase NotListed = codes "is not on"
phrase WrongStage = codes "is"
phrase TermOver = codes "ended on"
phrase NotLater = codes "ends on"

-- The code of a culprit.
abbrev pub code_of : Culprit → List ℕ
code_of (culprit.Thing code) = code
code_of (culprit.Place code) = code
code_of (culprit.Loan code) = code

-- The location of a thing.
abbrev pub location_of : Book → Culprit → Option (List ℕ)
location_of B (culprit.Thing code) =
    place_text_if B.museum (option_and_then (place_in B) (find_thing B.museum code))
location_of B _ = None

-- The owner of a thing of this kind.
abbrev pub owner_word : ThingKind → List ℕ
owner_word kind = if is_borrowed_kind kind then codes "a lender" else codes "the museum"

abbrev pub owner_of : Culprit → Option (List ℕ)
owner_of (culprit.Thing code) = Some (owner_word (thing_kind code))
owner_of _ = None

-- The direction of a loan, which goes out or comes in.
abbrev pub direction_word : Bool → List ℕ
direction_word out = if out then codes "a loan out" else codes "a loan in"

abbrev pub direction_of : Culprit → Option (List ℕ)
direction_of (culprit.Loan code) = Some (direction_word (is_out code))
direction_of _ = None

-- The last day of a loan.
abbrev pub last_day_of : Book → Culprit → Option ℤ
last_day_of B (culprit.Loan code) = last_day_in B code
last_day_of B _ = None

-- The stage of a thing's loan line.
abbrev pub stage_on : Book → List ℕ → Culprit → Option (List ℕ)
stage_on B loan (culprit.Thing code) =
    option_map stage_word (option_and_then (line_in B loan) (find_thing B.museum code))
stage_on B loan _ = None

-- The same under the message's loan.
abbrev pub stage_under : Book → Message → Culprit → Option (List ℕ)
stage_under B m c = option_and_then (λ loan. stage_on B loan c) (loan_named m)

-- Where an applied message puts its thing: at its place, into its container, or at the place of the
-- loan's partner.
abbrev pub destination : Book → Message → Option (List ℕ)
destination B (Move day x p) = Some p
destination B (Pack day x c) = Some c
destination B (Exit day x loan) = option_map (λ t. t.partner) (agreement B.posted loan)
destination B (Return day x loan p) = Some p
destination B (Receive day x loan p) = Some p
destination B _ = None

-- The place, or that there is none.
abbrev pub or_no_place : Option (List ℕ) → Cell
or_no_place p = text (unwrap_or p (codes "no place"))

-- The details that follow the phrase on a culprit.
abbrev pub details : Book → Message → Verdict → Culprit → List Cell
details B m Applied c = text_if (destination B m) ∷ []
details B m WrongOwner c = text_if (owner_of c) ∷ []
details B m WrongDirection c = text_if (direction_of c) ∷ []
details B m NotHere c = or_no_place (location_of B c) ∷ []
details B m ContainerNotHere c = or_no_place (location_of B c) ∷ []
details B m TooDeep c = text_if (container_named m) ∷ []
details B m NotWithPartner c = or_no_place (location_of B c) ∷ []
details B m AlreadyHere c = or_no_place (location_of B c) ∷ []
details B m NotListed c = text_if (loan_named m) ∷ []
details B m WrongStage c =
    text_if (stage_under B m c) ∷ text (codes "on") ∷ text_if (loan_named m) ∷ []
details B m TermOver c = day_if (last_day_of B c) ∷ []
details B m NotLater c = day_if (last_day_of B c) ∷ []
details B m _ c = []

-- The thing that crosses under a loan.
abbrev pub thing_crossing : Message → Option (List ℕ)
thing_crossing m = option_map (λ c. c.thing) (crossing_in m)

-- The container that a thing crosses in, if it isn't what crosses.
abbrev pub inside : Culprit → Option (List ℕ) → List Cell
inside (culprit.Thing code) (Some x) =
    if bytes_eq code x then [] else (text (codes "in") ∷ text x ∷ [])
inside _ _ = []

-- What the sentence is about: the culprit, or the thing that an applied message puts.
abbrev pub subject : Book → Message → Verdict → Option Culprit
subject B m v =
    if is_applied v then option_map culprit.Thing (thing_named m) else culprit B m v

-- 1987.12.3 in C2 is not on LO2024.2
abbrev pub sentence_on : Book → Message → Verdict → Culprit → List Cell
sentence_on B m v c =
    text (code_of c)
    ∷ (inside c (thing_crossing m) ++ (text (phrase v) ∷ details B m v c))

-- The sentence on a verdict, in words. Empty for an applied message that puts nothing.
abbrev pub sentence : Book → Message → Verdict → List Cell
sentence B m v = option_map_or (sentence_on B m v) (subject B m v) []

-- The verdict's name, with a colon before a sentence.
abbrev pub verdict_word : Verdict → Bool → List ℕ
verdict_word v has_sentence =
    verdict_name v ++ (if has_sentence then codes ":" else codes "")

abbrev pub is_empty : List Cell → Bool
is_empty [] = true
is_empty (word ∷ words) = false

-- The sentence as one text.
abbrev pub cause_cell : List Cell → Cell
cause_cell [] = nothing
cause_cell (word ∷ words) = text (joined_words (word ∷ words))

-- The words before the sentence: 23 PACK 11 exit C2 LO2024.2 NotListed:
abbrev pub entry_words : Museum → ℕ → Entry → Bool → List Cell
entry_words S n e has_sentence =
    number n ∷ text (station_text S e.station) ∷ number e.n
    ∷ text (kind_name e.message)
    ∷ text_if (thing_named e.message)
    ∷ text_if (container_named e.message)
    ∷ text_if (loan_named e.message)
    ∷ text_if (place_named e.message)
    ∷ text (verdict_word e.verdict has_sentence) ∷ []

-- 23 PACK 11 exit C2 LO2024.2 NotListed: 1987.12.3 in C2 is not on LO2024.2
abbrev pub cause_words : Book → ℕ → Entry → List Cell
cause_words B n e =
    let words = sentence B e.message e.verdict in
    entry_words B.museum n e (not (is_empty words)) ++ words

abbrev pub cause_values : Book → ℕ → Entry → List Cell
cause_values B n e =
    number n ∷ text (station_text B.museum e.station) ∷ number e.n
    ∷ text (kind_name e.message)
    ∷ text (verdict_name e.verdict)
    ∷ text_if (option_map code_of (culprit B e.message e.verdict))
    ∷ cause_cell (sentence B e.message e.verdict) ∷ []

-- The row of entry n, judged on the record before it.
abbrev pub cause_row : Book → Form → ℕ → Entry → List Cell
cause_row B form n e = by_form form (cause_words B n e) (cause_values B n e)

-- The row of the entry at index i, from 0, if the list has it.
abbrev pub cause_rows_at : Book → Form → EntryFilter → ℕ → List (List Cell)
cause_rows_at B form f i =
    if is_wanted_at B f i then
    map (cause_row (upto B i) form (i + 1)) (option_to_list (slice_get (reverse B.posted) i))
    else []

-- Why the entries that the list has got their verdicts.
abbrev pub cause_rows : Book → Form → EntryFilter → List (List Cell)
cause_rows B form f =
    flat_map (cause_rows_at B form f) (range_with_len 0 (length B.posted))
