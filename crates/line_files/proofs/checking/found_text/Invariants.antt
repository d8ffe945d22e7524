use Rattle.std.proofs.Common.{◌≡◌, flat_map, string_bytes, take}
use Rattle.line_files.specs.Checked.{bad_text}
use Rattle.line_files.proofs.checking.found_text.Given as goal

abbrev pub invariant-loop-one : goal.invariant-loop-one
invariant-loop-one l = string_bytes l.text ≡ flat_map bad_text (take l.one-index l.bad)
