use Rattle.std.proofs.Common.{◌≡◌, map, take}
use Rattle.desk_core.specs.Codes.{cased}
use Rattle.desk_core.proofs.casing.write_cased.Given as goal

-- as far as the loop has come, the text is the word in that case
abbrev pub invariant-loop-i : goal.invariant-loop-i
invariant-loop-i l = take l.i l.text ≡ map (cased l.upper) (take l.i l.word)
