-- Defines the outcomes of lines, which a replay counts for `--progress` and `--strict`. Each line
-- that has a reply is Answered first, and then has its own outcomes.
use Rattle.std.specs.Prelude.{ℕ, ◌≡◌, ◌-◌, true, List, [], ◌∷◌, ◌++◌, drop, map, reverse, Option}
use Rattle.std.specs.Prelude.{Some, None, Result, Ok, Err, IfOk, if◌then◌else◌}
use Rattle.nest_core.specs.Museum.{Museum}
use Rattle.posting_core.specs.declared.entry.Entry.{Entry}
use Rattle.register_store.specs.declared.fault.ReadFault.{ReadFault}
use Rattle.register_store.specs.Holdings.{Holding}
use Rattle.hub_core.specs.declared.hub.answer.Arrival.{Arrival}
use Rattle.hub_core.specs.declared.hub.answer.Answer.{Answer}
use Rattle.hub_core.specs.declared.hub.answer.Answer.TheVariants as answer
use Rattle.hub_core.specs.declared.hub.answer.HubFault.{HubFault}
use Rattle.hub_core.specs.declared.line.reply.Reply.{Reply}
use Rattle.hub_core.specs.declared.line.reply.Reply.TheVariants as says
use Rattle.hub_core.specs.declared.line.request.Line.{Line}
use Rattle.hub_core.specs.declared.line.request.Request.{Request}
use Rattle.hub_core.specs.declared.line.request.Request.TheVariants.{Scan, Ask}
use Rattle.hub_core.specs.declared.outcome.Outcome.{Outcome}
use Rattle.hub_core.specs.declared.outcome.Outcome.TheVariants as outcome
use Rattle.hub_core.specs.Lines.{is_empty, lines}
use Rattle.hub_core.specs.Requests.{line_in}
use Rattle.hub_core.specs.LineText.{is_too_long, line_arrivals}
use Rattle.hub_core.specs.Points.{posted, reply}
use Rattle.hub_core.specs.StandsFor.{State, StandsFor}
use Rattle.hub_core.specs.Replayed.{Answered}

-- The verdicts of the entries from number `first` on. P has the newest first.
abbrev pub posted_outcomes : ℕ → List Entry → List Outcome
posted_outcomes first P = map (λ e. outcome.Posted e.verdict) (drop (first - 1) (reverse P))

-- The outcomes of a message with this answer, once the entries P are posted.
abbrev pub answer_outcomes : List Entry → Answer → List Outcome
answer_outcomes P (answer.Refused refusal) = outcome.Refused refusal ∷ []
answer_outcomes P answer.Held = outcome.Held ∷ []
answer_outcomes P (answer.Posted first last) = posted_outcomes first P

-- The outcomes of a line with this reply.
abbrev pub reply_outcomes : List Entry → Reply → List Outcome
reply_outcomes P says.Empty = []
reply_outcomes P says.Bad = outcome.Answered ∷ outcome.Bad ∷ []
reply_outcomes P says.UnknownStation = outcome.Answered ∷ outcome.UnknownStation ∷ []
reply_outcomes P (says.Answered given) = outcome.Answered ∷ answer_outcomes P given
reply_outcomes P says.Asked = outcome.Answered ∷ outcome.Asked ∷ []

-- The outcomes of one more arrival after A.
abbrev pub arrival_outcomes : Museum → ℕ → List Entry → List Arrival → Arrival → List Outcome
arrival_outcomes S depth O A r =
    outcome.Answered ∷ answer_outcomes (posted S depth O (A ++ r ∷ [])) (reply S depth O A r)

-- The outcomes of a request of station s after A.
abbrev pub station_outcomes : Museum → ℕ → List Entry → List Arrival → ℕ → Request → List Outcome
station_outcomes S depth O A s (Scan n message) =
    arrival_outcomes S depth O A (record { station = s; n = n; message = message })
station_outcomes S depth O A s (Ask code) = outcome.Answered ∷ outcome.Asked ∷ []

-- The outcomes of a line without a fault.
abbrev pub request_outcomes : Museum → ℕ → List Entry → List Arrival → Option ℕ → Request
    → List Outcome
request_outcomes S depth O A None request = outcome.Answered ∷ outcome.UnknownStation ∷ []
request_outcomes S depth O A (Some s) request = station_outcomes S depth O A s request

abbrev pub read_outcomes : Museum → ℕ → List Entry → List Arrival → Result Line ReadFault
    → List Outcome
read_outcomes S depth O A (Ok line) = request_outcomes S depth O A line.station line.request
read_outcomes S depth O A (Err fault) = outcome.Answered ∷ outcome.Bad ∷ []

-- The outcomes of a line after A. An empty line has none.
abbrev pub line_outcomes : Museum → ℕ → List Entry → List Arrival → List ℕ → List Outcome
line_outcomes S depth O A line =
    if is_empty line then []
    else (if is_too_long line then outcome.Answered ∷ outcome.Bad ∷ []
    else read_outcomes S depth O A (line_in S line))

-- The outcomes of lines, each after the arrivals of the lines before it.
abbrev pub all_outcomes : Museum → ℕ → List Entry → List Arrival → List (List ℕ) → List Outcome
all_outcomes S depth O A [] = []
all_outcomes S depth O A (line ∷ rest) =
    line_outcomes S depth O A line ++ all_outcomes S depth O (A ++ line_arrivals S line) rest

-- The outcomes of the lines of the bytes, from the posted list O, after A.
abbrev pub outcomes : Museum → ℕ → List Entry → List Arrival → List ℕ → List Outcome
outcomes S depth O A bytes = all_outcomes S depth O A (lines bytes)

-- For every list of arrivals that the hub stood for, the reply has the outcomes `came`. P is posted
-- by then.
abbrev pub HasOutcomes : {R : Type 0} → (R → Holding) → State R → List Entry
    → (List Entry → List Arrival → List Outcome) → Result Reply HubFault → Type 0
HasOutcomes holding old P came result =
    IfOk result (λ said. (O : List Entry) (A : List Arrival) → StandsFor holding old O A
    → reply_outcomes P said ≡ came O A)

-- All lines that were read are answered, and the watch has seen their outcomes after those it had
-- seen.
pub record Watched {Q : Type 0} (S : Museum) (depth : ℕ) (O : List Entry) (A : List Arrival)
    (i i' o o' : Option (List ℕ)) (holding : Q → Holding) (hub : State Q)
    (had_seen has_seen : List Outcome → Type 0) : Type 0 where
  pub all : Answered S depth O A i i' o o' holding hub true
  pub seen : (before : List Outcome) → had_seen before
      → has_seen (before ++ outcomes S depth O A all.bytes)
