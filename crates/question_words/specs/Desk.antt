-- Defines the question that the words of a report ask at a desk.
use Rattle.std.specs.Prelude.{◌≡◌, ◌||◌, Bool, List, Option, Some, None, IsTrue, is_some}
use Rattle.clap.specs.Words.{Text}
use Rattle.command_words.specs.Desk.{IsAskedBy, desk_line, is_count}
use Rattle.command_words.specs.declared.command.Asked.{Asked}
use Rattle.reports.specs.declared.question.Question.{Question}
use Rattle.question_words.specs.Questions.{IsAsked, faulty}

-- Whether no question is asked: a value is not in its form, or a count list is wanted.
abbrev pub asks_nothing : Asked → Bool
asks_nothing words = is_some (faulty words) || is_count words

-- The question of these words at a desk. None if they ask nothing.
abbrev pub IsDeskQuestion : Asked → Option Question → Type 0
IsDeskQuestion words (Some question) = (faulty words ≡ None) × IsAsked words question
IsDeskQuestion words None = IsTrue (asks_nothing words)

abbrev pub IsQuestionOf : Option Asked → Option Question → Type 0
IsQuestionOf None question = question ≡ None
IsQuestionOf (Some words) question = IsDeskQuestion words question

-- The words that are typed at a desk ask this question. None if they are a usage error, choose no
-- report that a desk prints, or ask nothing.
pub record DeskAsks (words : List Text) (question : Option Question) : Type 0 where
  pub report : Option Asked
  pub chosen : IsAskedBy (desk_line words) report
  pub asked : IsQuestionOf report question
