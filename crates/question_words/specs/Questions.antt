-- Defines the question that the words of a report ask, and the first of their values that is not in
-- its form.
use Rattle.std.specs.Prelude.{◌≡◌, ℕ, Bool, List, Option, Some, None, IsTrue, is_some}
use Rattle.std.specs.Prelude.{false, if◌then◌else◌, option_map, string_bytes, unwrap_or}
use Rattle.std.specs.Borrow.{Bor}
use Rattle.std.specs.Option.{option_and_then, option_or}
use Rattle.codes_core.specs.Day.{day_number}
use Rattle.clap.specs.Words.{Text}
use Rattle.command_words.specs.Words.{text_of}
use Rattle.command_words.specs.declared.command.Asked.{Asked}
use Rattle.command_words.specs.declared.command.Asked.TheVariants as asked
use Rattle.command_words.specs.declared.command.Entries.{Entries}
use Rattle.command_words.specs.declared.command.Format.{Format}
use Rattle.command_words.specs.declared.command.Format.TheVariants as format
use Rattle.reports.specs.declared.form.Form.{Form}
use Rattle.reports.specs.declared.form.Form.TheVariants as form
use Rattle.reports.specs.declared.question.EntryFilter.{EntryFilter}
use Rattle.reports.specs.declared.question.LoanFilter.{LoanFilter}
use Rattle.reports.specs.declared.question.Question.{Question}
use Rattle.reports.specs.declared.question.Question.TheVariants as is
use Rattle.question_words.specs.Values.{faulty_day, faulty_loan, faulty_number, faulty_place}
use Rattle.question_words.specs.Values.{faulty_thing, number_in}
use Rattle.question_words.specs.declared.fault.ValueFault.{ValueFault}
use Rattle.question_words.specs.declared.fault.WantedFault.{WantedFault}
use Rattle.question_words.specs.declared.fault.WantedFault.TheVariants.{NoMemory, Value}
use Rattle.question_words.specs.declared.wanted.Wanted.{Wanted}
use Rattle.question_words.specs.declared.wanted.Wanted.TheVariants as wants

-- The form of a report.
abbrev pub form_of : Format → Form
form_of format.Lines = form.Plain
form_of format.Csv = form.Csv
form_of format.Json = form.Json
form_of format.Table = form.Table

-- The question where a thing has been.
abbrev pub history_of : List ℕ → Bool → Question
history_of code long = if long then is.LongHistory code else is.History code

-- Only the entry of this number.
abbrev pub one_entry : ℕ → EntryFilter
one_entry n = record {
  from = n;
  to = Some n;
  station = None;
  thing = None;
  loan = None;
  refused = false;
}

-- The loans on --on and by --by, and with --open only those that aren't closed.
abbrev pub loans_asked : Option (Bor Text) → Option (Bor Text) → Bool → LoanFilter
loans_asked on by only = record {
  on = option_map (λ t. day_number t.now) on;
  by = option_map (λ t. day_number t.now) by;
  «open» = only;
}

-- The list has the entries that the words ask for. Without --from it starts at entry 1.
pub record AreAsked (entries : Entries) (filter : EntryFilter) : Type 0 where
  pub from : filter.from ≡ unwrap_or (option_map (λ t. number_in t.now) entries.from) 1
  pub to : filter.to ≡ option_map (λ t. number_in t.now) entries.to
  pub station : option_map string_bytes filter.station ≡ text_of entries.station
  pub thing : filter.thing ≡ text_of entries.thing
  pub loan : filter.loan ≡ text_of entries.loan
  pub refused : filter.refused ≡ entries.refused

abbrev pub IsPosted : Entries → Question → Type 0
IsPosted entries (is.Posted filter) = AreAsked entries filter
IsPosted entries _ = ⊥

-- The words ask this question. `count` asks none: it needs a count list.
abbrev pub IsAsked : Asked → Question → Type 0
IsAsked (asked.Count list sealed) question = ⊥
IsAsked (asked.Overdue on) question = question ≡ is.Overdue (day_number on.now)
IsAsked asked.Away question = question ≡ is.Away
IsAsked (asked.History code long) question = question ≡ history_of code.now long
IsAsked asked.Stations question = question ≡ is.Stations
IsAsked (asked.Where code) question = question ≡ is.Where code.now
IsAsked (asked.Contents code) question = question ≡ is.Contents code.now
IsAsked (asked.Loan code) question = question ≡ is.Loan code.now
IsAsked (asked.At code) question = question ≡ is.At code.now
IsAsked (asked.Posted entries) question = IsPosted entries question
IsAsked (asked.Loans on by only) question = question ≡ is.Loans (loans_asked on by only)
IsAsked (asked.Dues by) question = question ≡ is.Dues (day_number by.now)
IsAsked (asked.Why entry) question = question ≡ is.Why (one_entry (number_in entry.now))

-- The words want this: the answer to a question, or the comparison of a count list.
abbrev pub IsWanted : Asked → Wanted → Type 0
IsWanted words (wants.Answer question) = IsAsked words question
IsWanted words (wants.Count list sealed) = words ≡ asked.Count list sealed

-- The first fault of --on and --by.
abbrev pub faulty_days : Option (Bor Text) → Option (Bor Text) → Option ValueFault
faulty_days on by = option_or (option_and_then faulty_day on) (option_and_then faulty_day by)

-- The first fault of --from, --to, --thing and --loan. Any text can be a station's name.
abbrev pub faulty_entries : Entries → Option ValueFault
faulty_entries entries =
    option_or (option_and_then faulty_number entries.from)
    (option_or (option_and_then faulty_number entries.to)
    (option_or (option_and_then faulty_thing entries.thing)
    (option_and_then faulty_loan entries.loan)))

-- The first value that is not in its form. None if each is.
abbrev pub faulty : Asked → Option ValueFault
faulty (asked.Count list sealed) = None
faulty (asked.Overdue on) = faulty_day on
faulty asked.Away = None
faulty (asked.History code long) = faulty_thing code
faulty asked.Stations = None
faulty (asked.Where code) = faulty_thing code
faulty (asked.Contents code) = faulty_thing code
faulty (asked.Loan code) = faulty_loan code
faulty (asked.At code) = faulty_place code
faulty (asked.Posted entries) = faulty_entries entries
faulty (asked.Loans on by only) = faulty_days on by
faulty (asked.Dues by) = faulty_day by
faulty (asked.Why entry) = faulty_number entry

-- The words name a station, whose text needs memory.
abbrev pub names_station : Asked → Bool
names_station (asked.Posted entries) = is_some entries.station
names_station _ = false

-- NoMemory comes only if a station is named and no value is faulty.
abbrev pub IsEntriesFault : Entries → WantedFault → Type 0
IsEntriesFault entries (Value fault) = faulty_entries entries ≡ Some fault
IsEntriesFault entries NoMemory =
    IsTrue (is_some entries.station) × (faulty_entries entries ≡ None)

-- The words have this fault, and NoMemory only if they name a station and no value is faulty.
abbrev pub IsFault : Asked → WantedFault → Type 0
IsFault words (Value fault) = faulty words ≡ Some fault
IsFault words NoMemory = IsTrue (names_station words) × (faulty words ≡ None)
