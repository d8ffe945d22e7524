-- The definitions, computed on rows.
use Rattle.std.specs.Prelude.{◌≡◌, ◌∷◌, [], None, Some, codes, refl}
use Rattle.posting_core.specs.declared.stage.LineStage.TheVariants.{Awaiting, Back, Here}
use Rattle.reports.specs.Cells.{nothing, text}
use Rattle.export_core.specs.Entries.{entry_column}
use Rattle.export_core.specs.Literals.{literal}
use Rattle.export_core.specs.Loans.{lent_text}
use Rattle.export_core.specs.Setups.{inside}
use Rattle.export_core.specs.Statements.{insert, inserts, row}

-- a quote in a text is doubled, and no value is NULL
name_with_a_quote : literal (text (codes "O'Hara's case")) ≡ codes "'O''Hara''s case'"
name_with_a_quote = refl

no_value : literal nothing ≡ codes "NULL"
no_value = refl

-- a shelf is in its room, a building in nothing
shelf : inside (codes "S1-A-3") ≡ text (codes "S1-A")
shelf = refl

building : inside (codes "S1") ≡ nothing
building = refl

place : row (text (codes "S1-A") ∷ inside (codes "S1-A") ∷ []) ≡ codes "('S1-A','S1')"
place = refl

-- two rows in one statement; no statement for no rows
two_rows : insert (codes "place") (codes "('S1',NULL)" ∷ codes "('S1-A','S1')" ∷ [])
    ≡ codes "INSERT INTO place VALUES\n('S1',NULL),\n('S1-A','S1');\n"
two_rows = refl

no_rows : inserts (codes "loan") [] ≡ []
no_rows = refl

one_statement : inserts (codes "place") (codes "('S1',NULL)" ∷ [])
    ≡ codes "INSERT INTO place VALUES\n('S1',NULL);\n"
one_statement = refl

lent : lent_text (codes "LO2024.1") (codes "2001.4.1")
    ≡ codes "UPDATE thing SET loan='LO2024.1' WHERE code='2001.4.1';\n"
lent = refl

-- an agreement is no crossing; an arrival and a return are
agreed : entry_column Awaiting ≡ None
agreed = refl

arrived : entry_column Here ≡ Some (codes "out_entry")
arrived = refl

returned : entry_column Back ≡ Some (codes "back_entry")
returned = refl
