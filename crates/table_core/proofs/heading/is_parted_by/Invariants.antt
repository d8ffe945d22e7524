use Rattle.std.proofs.Common.{◌≡◌, drop, false}
use Rattle.table_core.specs.Sheets.{is_parted_by}
use Rattle.table_core.proofs.heading.is_parted_by.Given as goal

-- the bytes before this one don't part the text
abbrev pub invariant-loop-i : goal.invariant-loop-i
invariant-loop-i l =
    is_parted_by l.separator false l.text ≡ is_parted_by l.separator l.quoted (drop l.i l.text)
