-- Defines values as SQL.
use Rattle.std.specs.Prelude.{ℕ, ◌∷◌, ◌++◌, [], ◌==◌, List, codes, decimal, if◌then◌else◌}
use Rattle.std.specs.List.{flat_map}
use Rattle.reports.specs.Cells.{Cell, flag, json, nothing, number, plain_text, text, texts}

-- A byte of an SQL string. A quote is doubled.
abbrev pub doubled_byte : ℕ → List ℕ
doubled_byte b = if b == 39 then codes "''" else b ∷ []

abbrev pub doubled : List ℕ → List ℕ
doubled t = flat_map doubled_byte t

-- A text as an SQL string.
abbrev pub quoted : List ℕ → List ℕ
quoted t = codes "'" ++ (doubled t ++ codes "'")

-- A value as SQL: no value is NULL, and all but numbers are texts.
abbrev pub literal : Cell → List ℕ
literal nothing = codes "NULL"
literal (number n) = decimal n
literal (flag b) = quoted (plain_text (flag b))
literal (text t) = quoted t
literal (texts ts) = quoted (plain_text (texts ts))
literal (json t) = quoted t
