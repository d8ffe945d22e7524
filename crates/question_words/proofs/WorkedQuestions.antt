-- The questions of reports, and their faults, computed on worked words.
use Rattle.std.specs.Prelude.{◌≡◌, ℤ, Bool, Option, None, Some, codes, false, refl, true}
use Rattle.std.specs.Borrow.{Bor}
use Rattle.clap.specs.Words.{Text}
use Rattle.codes_core.specs.Day.{day_number}
use Rattle.codes_core.specs.declared.fault.CodeFault.TheVariants.{BadNumber, BadShape}
use Rattle.codes_core.specs.declared.fault.CodeFault.TheVariants.{NoSuchDay}
use Rattle.command_words.specs.declared.command.Asked.TheVariants as asked
use Rattle.command_words.specs.declared.command.Entries.{Entries}
use Rattle.reports.specs.declared.question.EntryFilter.{EntryFilter}
use Rattle.reports.specs.declared.question.Question.TheVariants as is
use Rattle.question_words.specs.Desk.{IsDeskQuestion}
use Rattle.question_words.specs.Questions.{IsAsked, faulty}
use Rattle.question_words.specs.Questions.{names_station, one_entry}
use Rattle.question_words.specs.Values.{faulty_number, is_number, number_in}
use Rattle.question_words.specs.declared.fault.ValueFault.TheVariants as faults

abbrev word : Text → Bor Text
word t = record { ref_ptr = (0, 0); now = t }

-- numbers
pub seventeen : number_in (codes "17") ≡ 17
seventeen = refl

pub plus_seventeen : number_in (codes "+17") ≡ 17
plus_seventeen = refl

pub last_number : is_number (codes "18446744073709551615") ≡ true
last_number = refl

pub too_large : is_number (codes "18446744073709551616") ≡ false
too_large = refl

pub no_digits : is_number (codes "+") ≡ false
no_digits = refl

pub no_letters : faulty_number (word (codes "17a")) ≡ Some (faults.Number (word (codes "17a")))
no_letters = refl

-- overdue --on 2024-06-01, and dues --by the same
abbrev june : ℤ
june = day_number (codes "2024-06-01")

pub overdue : IsAsked (asked.Overdue (word (codes "2024-06-01"))) (is.Overdue june)
overdue = refl

pub dues : IsAsked (asked.Dues (word (codes "2024-06-01"))) (is.Dues june)
dues = refl

pub no_day : faulty (asked.Overdue (word (codes "2023-02-29")))
    ≡ Some (faults.Day NoSuchDay (word (codes "2023-02-29")))
no_day = refl

-- history C17, and with --long
pub history : IsAsked (asked.History (word (codes "C17")) false) (is.History (codes "C17"))
history = refl

pub long_history : IsAsked (asked.History (word (codes "C17")) true)
    (is.LongHistory (codes "C17"))
long_history = refl

pub no_thing : faulty (asked.Where (word (codes "C0")))
    ≡ Some (faults.Thing BadNumber (word (codes "C0")))
no_thing = refl

-- a loan's code is no place's
pub no_place : faulty (asked.At (word (codes "LO2024.1")))
    ≡ Some (faults.Place BadShape (word (codes "LO2024.1")))
no_place = refl

-- loans --by 2024-06-01 --open
pub loans : IsAsked (asked.Loans None (Some (word (codes "2024-06-01"))) true)
    (is.Loans (record { on = None; by = Some june; «open» = true }))
loans = refl

-- the first of two faulty days is the one after --on
pub first_day : faulty (asked.Loans (Some (word (codes "May"))) (Some (word (codes ""))) false)
    ≡ Some (faults.Day BadShape (word (codes "May")))
first_day = refl

-- why 17
pub why : IsAsked (asked.Why (word (codes "17"))) (is.Why (one_entry 17))
why = refl

-- posted --refused, and posted --from 17 --to 1x --thing C0 --station REG
abbrev entries : Option Text → Option Text → Option Text → Option Text → Bool → Entries
entries from to station thing refused = record {
  from = given from;
  to = given to;
  station = given station;
  thing = given thing;
  loan = None;
  refused = refused;
}
  where
    given : Option Text → Option (Bor Text)
    given None = None
    given (Some t) = Some (word t)

abbrev all_refused : EntryFilter
all_refused =
    record { from = 1; to = None; station = None; thing = None; loan = None; refused = true }

pub refused : IsAsked (asked.Posted (entries None None None None true)) (is.Posted all_refused)
refused =
    record { from = refl; to = refl; station = refl; thing = refl; loan = refl; refused = refl }

pub first_of_two : faulty
    (asked.Posted (entries (Some (codes "17")) (Some (codes "1x")) None (Some (codes "C0")) false))
    ≡ Some (faults.Number (word (codes "1x")))
first_of_two = refl

-- only the text of a station needs memory
pub station_grows : names_station
    (asked.Posted (entries None None (Some (codes "REG")) None false)) ≡ true
station_grows = refl

pub day_needs_none : names_station (asked.Overdue (word (codes "2024-06-01"))) ≡ false
day_needs_none = refl

-- at a desk: a count list and a faulty day ask nothing
pub no_count : IsDeskQuestion (asked.Count (word (codes "list.csv")) true) None
no_count = refl

pub no_question : IsDeskQuestion (asked.Overdue (word (codes "May"))) None
no_question = refl
