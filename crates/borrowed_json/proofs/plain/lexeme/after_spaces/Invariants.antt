use denote.Shadow.{shadow}
use denote.Text.{Utf8}
use Rattle.std.proofs.Common.{◌≡◌, ◌≤◌, length}
use Rattle.json.specs.Lex.{between, lex}
use Rattle.borrowed_json.specs.Plain.{IsPlain}
use Rattle.borrowed_json.proofs.plain.lexeme.after_spaces.Given as goal

abbrev pub invariant-loop-rest : goal.invariant-loop-rest
invariant-loop-rest l =
    (lex between l.left ≡ lex between l.text) × (IsPlain l.text → IsPlain l.left)
    × (length l.left ≤ length l.text) × shadow (Utf8 l.left)

abbrev pub decreases-loop-rest : goal.decreases-loop-rest
decreases-loop-rest l = length l.left
