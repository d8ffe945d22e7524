-- Defines the names of each report's columns, in their order.
use Rattle.std.specs.Prelude.{◌∷◌, [], ℕ, List, codes}
use Rattle.reports.specs.declared.question.Question.{Question}
use Rattle.reports.specs.declared.question.Question.TheVariants.{Count, Overdue, Away, History}
use Rattle.reports.specs.declared.question.Question.TheVariants.{Stations, Where, Contents, Loan}
use Rattle.reports.specs.declared.question.Question.TheVariants.{At, Posted, Loans, Dues, Why}
use Rattle.reports.specs.declared.question.Question.TheVariants.{LongHistory}

abbrev pub names : Question → List (List ℕ)
names (Count rows sealed) =
    codes "row" ∷ codes "place" ∷ codes "thing" ∷ codes "answer" ∷ codes "on_record" ∷ []
names (Overdue day) = codes "loan" ∷ codes "last" ∷ []
names Away = codes "object" ∷ codes "place" ∷ codes "normal" ∷ []
names (History code) = codes "entry" ∷ codes "day" ∷ codes "place" ∷ []
names (LongHistory code) =
    codes "entry" ∷ codes "day" ∷ codes "place" ∷ codes "containers"
    ∷ codes "loan" ∷ codes "station" ∷ codes "n" ∷ codes "kind" ∷ []
names Stations = codes "station" ∷ codes "next" ∷ codes "signed_off" ∷ []
names (Where code) = codes "thing" ∷ codes "state" ∷ codes "place" ∷ codes "containers" ∷ []
names (Contents code) = codes "thing" ∷ codes "state" ∷ codes "containers" ∷ []
names (Loan code) =
    codes "loan" ∷ codes "state" ∷ codes "partner" ∷ codes "first" ∷ codes "last"
    ∷ codes "object" ∷ codes "stage" ∷ []
names (At place) = codes "thing" ∷ codes "place" ∷ []
names (Posted filter) =
    codes "entry" ∷ codes "station" ∷ codes "n" ∷ codes "verdict" ∷ codes "message" ∷ []
names (Loans filter) =
    codes "loan" ∷ codes "state" ∷ codes "partner" ∷ codes "first" ∷ codes "last"
    ∷ codes "objects" ∷ codes "awaiting" ∷ codes "out" ∷ codes "back" ∷ codes "on"
    ∷ codes "days_left" ∷ codes "authorised_by" ∷ []
names (Dues day) =
    codes "loan" ∷ codes "object" ∷ codes "last" ∷ codes "stage" ∷ codes "partner" ∷ []
names (Why filter) =
    codes "entry" ∷ codes "station" ∷ codes "n" ∷ codes "kind" ∷ codes "verdict"
    ∷ codes "culprit" ∷ codes "cause" ∷ []
