use Rattle.std.proofs.Common.{◌≡◌, string_bytes, take}
use Rattle.std.specs.List.{flat_map}
use Rattle.export_core.specs.Entries.{line_text}
use Rattle.export_core.proofs.changes.line_texts.Given as goal

abbrev pub invariant-loop-i : goal.invariant-loop-i
invariant-loop-i l =
    string_bytes l.texts ≡ flat_map (line_text l.setup l.entry) (take l.i l.lines)
