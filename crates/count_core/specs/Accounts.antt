-- Defines overdue loans and complete counts as the laws of `count_core` state them.
use Rattle.std.specs.Prelude.{ℕ, ℤ, ◌≡◌, ◌⊎◌, true, List, Contains, Option, Some, slice_get, int_lt}
use Rattle.std.specs.Option.{option_and_then}
use Rattle.nest_core.specs.Museum.{place_code_of}
use Rattle.posting_core.specs.declared.stage.LineStage.TheVariants.{Away, Here}
use Rattle.posting_core.specs.Book.{Book, loans_in, last_day_in, line_in}
use Rattle.count_core.specs.declared.count_row.CountRow.{CountRow}
use Rattle.count_core.specs.declared.answer.CountAnswer.{CountAnswer}
use Rattle.count_core.specs.Counts.{answers, mentioned, named, names}
use Rattle.count_core.specs.Reports.{in_place}

-- An agreed loan whose last day is before the day, with an object that is away or here under it.
pub record IsOverdue (B : Book) (day : ℤ) (loan : List ℕ) : Type 0 where
  pub agreed : Contains (loans_in B) loan
  pub last : ℤ
  pub last_day : last_day_in B loan ≡ Some last
  pub passed : int_lt last day ≡ true
  pub object : ℕ
  pub owed : (line_in B loan object ≡ Some Away) ⊎ (line_in B loan object ≡ Some Here)

-- The thing that row i names.
abbrev pub named_by_row : Book → List CountRow → ℕ → Option ℕ
named_by_row B rows i = option_and_then (named B.museum) (slice_get rows i)

-- The answer to row i.
abbrev pub answer_of_row : Book → List CountRow → ℕ → Option CountAnswer
answer_of_row B rows i = slice_get (answers B rows) i

-- The rows name everything in the places that they mention.
abbrev pub CountsAll : Book → List CountRow → Type 0
CountsAll B rows =
    (q x : ℕ) (code : List ℕ) → Contains (mentioned B.museum rows) q
    → place_code_of B.museum q ≡ Some code → Contains (in_place B code) x
    → names B.museum rows x ≡ true
