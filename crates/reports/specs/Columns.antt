-- The columns of a report, as its clauses see them.
use Rattle.std.specs.Prelude.{ℕ, List, map}
use Rattle.reports.specs.declared.columns.Columns.{Columns}

abbrev pub names_in : Columns → List (List ℕ)
names_in columns = map (λ name. name.now) columns.names.now
