-- Defines the words that a line can begin with.
use Rattle.std.specs.Prelude.{ℕ, ◌∷◌, [], Bool, false, true, List, Option, codes}
use Rattle.std.specs.List.{find}
use Rattle.std.specs.Str.{bytes_eq}
use Rattle.desk_core.specs.declared.verb.Verb.{Verb}
use Rattle.desk_core.specs.declared.verb.Verb.TheVariants.{Agree, Ask, At, Authorise, Away, Back}
use Rattle.desk_core.specs.declared.verb.Verb.TheVariants.{Clear, Contents, Day, Dues, Extend}
use Rattle.desk_core.specs.declared.verb.Verb.TheVariants.{Help, History, In, Into, Loan, Loans}
use Rattle.desk_core.specs.declared.verb.Verb.TheVariants.{Out, Overdue, Posted, SignOff, Stations}
use Rattle.desk_core.specs.declared.verb.Verb.TheVariants.{To, Where, Why}

abbrev pub verb_word : Verb → List ℕ
verb_word To = codes "to"
verb_word Into = codes "into"
verb_word Out = codes "out"
verb_word Back = codes "back"
verb_word In = codes "in"
verb_word Clear = codes "."
verb_word Day = codes "day"
verb_word Agree = codes "agree"
verb_word Authorise = codes "authorise"
verb_word Extend = codes "extend"
verb_word SignOff = codes "signoff"
verb_word Help = codes "help"
verb_word Ask = codes "?"
verb_word Where = codes "where"
verb_word History = codes "history"
verb_word Contents = codes "contents"
verb_word At = codes "at"
verb_word Loan = codes "loan"
verb_word Loans = codes "loans"
verb_word Overdue = codes "overdue"
verb_word Dues = codes "dues"
verb_word Away = codes "away"
verb_word Stations = codes "stations"
verb_word Posted = codes "posted"
verb_word Why = codes "why"

abbrev pub verbs : List Verb
verbs =
    To ∷ Into ∷ Out ∷ Back ∷ In ∷ Clear ∷ Day ∷ Agree ∷ Authorise ∷ Extend ∷ SignOff ∷ Help ∷ Ask
    ∷ Where ∷ History ∷ Contents ∷ At ∷ Loan ∷ Loans ∷ Overdue ∷ Dues ∷ Away ∷ Stations ∷ Posted
    ∷ Why ∷ []

-- The verb of this word.
unfoldable pub find_verb : List ℕ → Option Verb
find_verb word = find (λ verb. bytes_eq (verb_word verb) word) verbs

-- The line has a name, the objects of a loan or the words of a report.
abbrev pub takes_memory : Verb → Bool
takes_memory To = false
takes_memory Into = false
takes_memory Out = false
takes_memory Back = false
takes_memory In = false
takes_memory Clear = false
takes_memory Day = false
takes_memory Extend = false
takes_memory Help = false
takes_memory _ = true
