-- Defines the answers to lines. S is the setup, `depth` the depth limit, O the entries posted at
-- the start, A the arrivals so far, and s the desk's own station.
use Rattle.std.specs.Prelude.{ℕ, ◌≡◌, ◌-◌, ◌++◌, ◌∷◌, ◌&&◌, [], Bool, false, List, Option}
use Rattle.std.specs.Prelude.{None, Some, Result, Err, Ok, codes, if◌then◌else◌, length, nat_eq}
use Rattle.std.specs.Prelude.{not, take}
use Rattle.std.specs.List.{ends_with}
use Rattle.nest_core.specs.Museum.{Museum}
use Rattle.posting_core.specs.Book.{Book, verdict_in}
use Rattle.posting_core.specs.VerdictNames.{is_applied}
use Rattle.posting_core.specs.declared.entry.Entry.{Entry}
use Rattle.posting_core.specs.declared.message.Message.{Message}
use Rattle.posting_core.specs.declared.verdict.Verdict.{Verdict}
use Rattle.register_store.specs.declared.fault.ReadFault.{ReadFault}
use Rattle.posting_core.specs.Named.{thing_named}
use Rattle.reports.specs.Causes.{sentence}
use Rattle.reports.specs.Cells.{joined_words}
use Rattle.reports.specs.Reports.{report_text}
use Rattle.reports.specs.declared.form.Form.TheVariants.{Plain}
use Rattle.reports.specs.declared.question.Question.{Question}
use Rattle.hub_core.specs.declared.hub.answer.Answer.{Answer}
use Rattle.hub_core.specs.declared.hub.answer.Answer.TheVariants.{Held, Posted, Refused}
use Rattle.hub_core.specs.declared.hub.answer.Arrival.{Arrival}
use Rattle.hub_core.specs.declared.line.request.Line.{Line}
use Rattle.hub_core.specs.LineText.{arrival_reply, fault_text, request_reply}
use Rattle.hub_core.specs.Points.{reply}
use Rattle.hub_core.specs.Replies.{bad_line}
use Rattle.hub_core.specs.Requests.{line_in}
use Rattle.desk_core.specs.declared.said.Rejection.TheVariants.{NotUnderstood}
use Rattle.desk_core.specs.declared.said.Said.{Said}
use Rattle.desk_core.specs.declared.said.Said.TheVariants as says
use Rattle.desk_core.specs.declared.bench.Bench.{Bench}
use Rattle.desk_core.specs.Sent.{book, is_own, own_arrival}
use Rattle.desk_core.specs.Texts.{day_line, line_end, rejection_line, target_line, where_words}

-- The line without its line feed.
abbrev pub without_feed : List ℕ → List ℕ
without_feed line = if ends_with nat_eq line (10 ∷ []) then take (length line - 1) line else line

-- The message is posted and applied.
abbrev pub is_done : Answer → Verdict → Bool
is_done (Posted first last) verdict = is_applied verdict
is_done Held verdict = false
is_done (Refused refusal) verdict = false

-- Where the thing of an applied message is now. Empty if it puts nothing.
abbrev pub placed_words : Book → Option (List ℕ) → List ℕ
placed_words B None = []
placed_words B (Some thing) = where_words B thing

-- What an answer adds to the reply: where the thing is now, or why the message was refused.
abbrev pub detail_words : Book → Verdict → Option (List ℕ) → List ℕ → List ℕ
detail_words B verdict thing cause =
    if is_applied verdict then placed_words B thing else cause

abbrev pub after_colon : List ℕ → List ℕ
after_colon [] = []
after_colon (b ∷ words) = codes ": " ++ b ∷ words

-- The same for a message with this answer. One that isn't posted has its reply alone.
abbrev pub answer_detail : Answer → List ℕ → List ℕ
answer_detail (Posted first last) words = after_colon words
answer_detail Held words = []
answer_detail (Refused refusal) words = []

-- The answer to a message, judged on record B, with this reply and the record after it.
abbrev pub answer_line : Bool → Book → Message → Answer → List ℕ → Book → List ℕ
answer_line has_bell B m answer text after =
    let verdict = verdict_in B m in
    without_feed text
    ++ (answer_detail answer (detail_words after verdict (thing_named m)
    (joined_words (sentence B m verdict)))
    ++ line_end (has_bell && not (is_done answer verdict)))

-- The answer to a message of the desk: PACK 4 posted 4 Applied: 1987.12.1 at PACK in C1
abbrev pub message_answer : Museum → ℕ → List Entry → List Arrival → ℕ → Bool → Message → List ℕ
message_answer S depth O A s has_bell m =
    let r = own_arrival S depth O A s m in
    answer_line has_bell (book S depth O A) m (reply S depth O A r) (arrival_reply S depth O A r)
    (book S depth O (A ++ r ∷ []))

-- The answer to a JSON line of the desk's own station.
abbrev pub own_line_words : Bool → List ℕ
own_line_words has_bell =
    codes "lines of this station are typed here, not passed on: not sent" ++ line_end has_bell

-- The answer to JSON line `number`: as in a replay, if its station is another.
abbrev pub passed_answer : Museum → ℕ → List Entry → List Arrival → ℕ → Bool → ℕ
    → Result Line ReadFault → List ℕ
passed_answer S depth O A s has_bell number (Ok line) =
    if is_own s line.station then own_line_words has_bell
    else request_reply S depth O A number line.station line.request
passed_answer S depth O A s has_bell number (Err fault) = bad_line number (fault_text fault)

-- The text of a report, or that it has no row.
abbrev pub or_nothing : List ℕ → List ℕ
or_nothing [] = codes "nothing\n"
or_nothing (b ∷ text) = b ∷ text

-- Which question the words of a report ask. None if they ask none.
abbrev pub Asks : Type 1
Asks = List (List ℕ) → Option Question → Type 0

-- The report, in plain form. Words that ask no question aren't understood.
abbrev pub question_answer : Bool → Book → List ℕ → Option Question → List ℕ
question_answer has_bell B line None = rejection_line has_bell NotUnderstood line
question_answer has_bell B line (Some question) = or_nothing (report_text Plain B question)

-- The text is the report that the words ask for.
abbrev pub IsReport : Asks → Bool → Book → List ℕ → List (List ℕ) → List ℕ → Type 0
IsReport asks has_bell B line words text = (asked : Option Question)
    × (asks words asked × (text ≡ question_answer has_bell B line asked))

-- The text answers a line that sends nothing, on record B.
abbrev pub IsAnswer : Asks → Book → Bench → List ℕ → Said → List ℕ → Type 0
IsAnswer asks B bench line says.Help text = text ≡ bench.help.now
IsAnswer asks B bench line (says.Target target) text = text ≡ target_line B target
IsAnswer asks B bench line (says.Day day) text = text ≡ day_line day
IsAnswer asks B bench line (says.Report words) text =
    IsReport asks bench.has_bell B line words text
IsAnswer asks B bench line (says.Rejected rejection) text =
    text ≡ rejection_line bench.has_bell rejection line
IsAnswer asks B bench line _ text = text ≡ []

-- The text answers line `number`, which says this, after the arrivals A.
abbrev pub IsTold : Museum → ℕ → List Entry → List Arrival → Asks → Bench → ℕ → List ℕ → Said
    → List ℕ → Type 0
IsTold S depth O A asks bench number line (says.Message m) text =
    text ≡ message_answer S depth O A bench.station bench.has_bell m
IsTold S depth O A asks bench number line says.Line text =
    text ≡ passed_answer S depth O A bench.station bench.has_bell number (line_in S line)
IsTold S depth O A asks bench number line said text =
    IsAnswer asks (book S depth O A) bench line said text
